-- What a disk reads after a write, whatever it answered.
use Rattle.std.proofs.Common.{◌≡◌, inl, inr, ℕ, ◌+◌, ◌-◌, ◌<◌, min, List, ◌++◌, length, get_or, take, drop, Option, Some, None, Result, Ok, Err, refl, sym, ◌∙◌, ap, subst, arith, length-append, length-take, length-drop}
use Rattle.std.proofs.Math.ListN.{get_or-append}
use Rattle.std.proofs.lemmas.List.{get_or-take, get_or-drop, get_or-append_right}
use Rattle.std.specs.Option.{option_map}
use Rattle.std.specs.Map.{update}
use Rattle.std.specs.Str.{bytes_eq}
use Rattle.disk_trait.specs.Change.{Directory, Step, wrote, tried, spoiled, settled, overlaid}
use Rattle.disk_trait.specs.Crash.{Event, did, Takes, Torn}
use Rattle.disk_trait.specs.Story.{Story, reads, happened, WhereTold}
use Rattle.disk_trait.specs.Calls.{Acts, Spoils, NoEvent}
use Rattle.disk_trait.specs.Carried.{StepsTo, Wrote, Turns}
use Rattle.disk_trait.proofs.Paths.{update-here, update-off}
use Rattle.disk_trait.proofs.Follows.{wrote_nothing}

-- bytes written over others are one outcome of a torn write
overlay_torn : (at : ℕ) (bytes old : List ℕ) → Torn at (length bytes) old (overlaid at bytes old)
overlay_torn at bytes old =
    let front = take at old ++ bytes in
    let tail = drop (at + length bytes) old in
    let sizes : length (front ++ tail) ≡ min at (length old) + length bytes + (length old - (at + length bytes)) =
    omega (arith, length-append front tail, length-append (take at old) bytes, length-take at old, length-drop (at + length bytes) old) in
    record {
      no_shorter = omega (arith, sizes);
      no_longer = omega (arith, sizes);
      below = λ i in_old lt.
          let in_take : i < length (take at old) = omega (arith, length-take at old, in_old, lt) in
          let in_front : i < length front = omega (arith, length-append (take at old) bytes, in_take) in
          get_or-append front tail 0 i in_front ∙ get_or-append (take at old) bytes 0 i in_take ∙ get_or-take at old i 0 lt;
      above = λ i in_old le.
          let front_size : length front ≡ at + length bytes = omega (arith, length-append (take at old) bytes, length-take at old, in_old, le) in
          let back : at + length bytes + (i - (at + length bytes)) ≡ i = omega (arith, le) in
          get_or-append_right front tail (at + length bytes) i 0 front_size le ∙ get_or-drop (at + length bytes) old (i - (at + length bytes)) 0 ∙ ap (λ (k : ℕ). get_or old k 0) back;
    }

-- a file at one path that took a step
module _ (path : List ℕ) (step : Step) (change : List ℕ → List ℕ) where
  stepped_to : (x : Option (List ℕ)) → ((old : List ℕ) → x ≡ Some old → Takes step old (change old)) → StepsTo step x (option_map change x)
  stepped_to None takes = tt
  stepped_to (Some old) takes = takes old refl

  changed : (d e : Directory) → ((q : List ℕ) → e q ≡ update bytes_eq d path (option_map change (d path)) q) → ((old : List ℕ) → d path ≡ Some old → Takes step old (change old)) → Wrote path step d e
  changed d e is takes = record {
    off = λ q apart. is q ∙ update-off d path (option_map change (d path)) q apart;
    at = subst (λ (x : Option (List ℕ)). StepsTo step (d path) x) (sym (is path ∙ update-here d path (option_map change (d path)))) (stepped_to (d path) takes);
  }

-- the same bytes, or others that such a crash might have left
module _ (path : List ℕ) (step : Step) where
  pub turns_same : (s : Option Story) → Turns s s (Wrote path step)
  turns_same None = tt
  turns_same (Some s) = wrote_nothing path step (reads s)

  turns_tried : (s : Option Story) (moment : ℕ) → Turns s (happened moment (did (tried path step)) s) (Wrote path step)
  turns_tried None moment = tt
  turns_tried (Some s) moment = wrote_nothing path step (reads s)

  turns_spoiled : (s : Option Story) (moment : ℕ) (bytes : List ℕ) → WhereTold s (λ d. (old : List ℕ) × (d path ≡ Some old) × Takes step old bytes) → Turns s (happened moment (did (spoiled path step bytes)) s) (Wrote path step)
  turns_spoiled None moment bytes there = tt
  turns_spoiled (Some s) moment bytes there =
      changed path step (λ _. bytes) (reads s) _ (λ q. refl)
      (λ old is. let same : Some there.0 ≡ Some old = sym there.1 ∙ is in let one : there.0 ≡ old = cc in subst (λ (l : List ℕ). Takes step l bytes) one there.2)

  turns_failed : (old new : Option Story) (moment : ℕ) (event : Event) → Spoils old path step event → new ≡ happened moment event old → Turns old new (Wrote path step)
  turns_failed old new moment event (inl is) new_is = subst (λ (t : Option Story). Turns old t (Wrote path step)) (sym (new_is ∙ ap (λ (e : Event). happened moment e old) is)) (turns_tried old moment)
  turns_failed old new moment event (inr so) new_is = subst (λ (t : Option Story). Turns old t (Wrote path step)) (sym (new_is ∙ ap (λ (e : Event). happened moment e old) so.2)) (turns_spoiled old moment so.0 so.1)

turns_wrote : (s : Option Story) (moment : ℕ) (path : List ℕ) (at : ℕ) (bytes : List ℕ) → Turns s (happened moment (did (wrote path at bytes)) s) (Wrote path (inl (at, length bytes)))
turns_wrote None moment path at bytes = tt
turns_wrote (Some s) moment path at bytes = changed path (inl (at, length bytes)) (overlaid at bytes) (reads s) _ (λ q. refl) (λ old is. overlay_torn at bytes old)

-- one write
pub write_turns : {T E : Type 0} (before : ℕ) (old new : Option Story) (result : Result T E) (path : List ℕ) (at : ℕ) (bytes : List ℕ)
    → Acts before old new result (wrote path at bytes) (Spoils old path (inl (at, length bytes))) → Turns old new (Wrote path (inl (at, length bytes)))
write_turns before old new (Ok v) path at bytes acts = subst (λ (t : Option Story). Turns old t (Wrote path (inl (at, length bytes)))) (sym acts.ok) (turns_wrote old (before + 1) path at bytes)
write_turns before old new (Err e) path at bytes acts = elim acts.err [
  | inl is ↦ subst (λ (t : Option Story). Turns old t (Wrote path (inl (at, length bytes)))) (sym is) (turns_same path (inl (at, length bytes)) old)
  | inr it ↦ turns_failed path (inl (at, length bytes)) old new (before + 1) it.0 it.2 it.3
]

sync_reads : (P : Directory → Directory → Type 0) (old mid : Option Story) (moment : ℕ) (path : List ℕ) → Turns old mid P → Turns old (happened moment (did (settled path)) mid) P
sync_reads P None None moment path turns = tt
sync_reads P None (Some m) moment path turns = absurd turns
sync_reads P (Some o) None moment path turns = absurd turns
sync_reads P (Some o) (Some m) moment path turns = turns

-- a sync after it changes nothing of that
pub sync_turns : {T E : Type 0} (P : Directory → Directory → Type 0) (before : ℕ) (old mid new : Option Story) (result : Result T E) (path : List ℕ) → Acts before mid new result (settled path) NoEvent → Turns old mid P → Turns old new P
sync_turns P before old mid new (Ok v) path acts turns = subst (λ (t : Option Story). Turns old t P) (sym acts.ok) (sync_reads P old mid (before + 1) path turns)
sync_turns P before old mid new (Err e) path acts turns = elim acts.err [
  | inl is ↦ subst (λ (t : Option Story). Turns old t P) (sym is) turns
  | inr it ↦ absurd it.2
]
