-- What a disk in memory reads may lie on it.
use Rattle.std.proofs.Common.{◌≡◌, ◌⊎◌, inl, inr, ℕ, ◌+◌, ◌-◌, ◌<◌, ◌≤◌, min, max, Bool, true, false, List, [], ◌∷◌, ◌++◌, map, reverse, length, get_or, take, drop, Option, Some, None, refl, sym, ◌∙◌, ap, subst, arith, length-append, length-take, length-drop}
use Rattle.std.specs.Option.{option_map, unwrap_or}
use Rattle.std.specs.Str.{bytes_eq}
use Rattle.std.specs.Map.{update}
use Rattle.std.proofs.lemmas.Bool.{cases_lt}
use Rattle.std.proofs.Math.ListN.{get_or-append}
use Rattle.std.proofs.lemmas.List.{reverse-append, get_or-take, get_or-drop, get_or-append_right, take_all}
use Rattle.disk_trait.specs.Change.{Directory, Step, Files, Loose, clean, stepped, Change, made, removed, moved, wrote, cut, tried, spoiled, settled, overlaid, relinked}
use Rattle.disk_trait.specs.Crash.{Torn, CutShort, Takes, Reaches, MayLeave, Events, Event, did, failed, state, last_event, IsSound}
use Rattle.disk_trait.specs.Story.{IsSoundStory}
use Rattle.disk_trait.proofs.Paths.{update-here, update-off, by_path}
use Rattle.disk_memory.specs.Record.{change_of, event_when, event_of, events_of, story_when}
use Rattle.disk_memory.specs.declared.record.Entry.{Entry}
use Rattle.disk_memory.specs.declared.record.Did.{Did}
use Rattle.disk_memory.specs.declared.record.Did.TheVariants.{Made, Removed, Moved, Wrote, Cut, TriedWrite, TriedCut, Settled}

-- an overlay is one outcome of a torn write
pub overlay_torn : (at : ℕ) (bytes old : List ℕ) → Torn at (length bytes) old (overlaid at bytes old)
overlay_torn at bytes old =
    let tail = drop (at + length bytes) old in
    let front = take at old ++ bytes in
    let size : length (overlaid at bytes old) ≡ min at (length old) + length bytes + (length old - (at + length bytes)) =
    omega (arith, length-append front tail, length-append (take at old) bytes, length-take at old, length-drop (at + length bytes) old) in
    record {
      no_shorter = omega (arith, size);
      no_longer = omega (arith, size);
      below = λ i in_old lt.
          let in_take : i < length (take at old) = omega (arith, length-take at old, in_old, lt) in
          let in_front : i < length front = omega (arith, length-append (take at old) bytes, in_take) in
          get_or-append front tail 0 i in_front ∙ get_or-append (take at old) bytes 0 i in_take ∙ get_or-take at old i 0 lt;
      above = λ i in_old le.
          let front_size : length front ≡ at + length bytes = omega (arith, length-append (take at old) bytes, length-take at old, in_old, le) in
          let back : at + length bytes + (i - (at + length bytes)) ≡ i = omega (arith, le) in
          get_or-append_right front tail (at + length bytes) i 0 front_size le ∙ get_or-drop (at + length bytes) old (i - (at + length bytes)) 0 ∙ ap (λ (k : ℕ). get_or old k 0) back;
    }

-- so is a cut
pub take_cut : (size : ℕ) (old : List ℕ) → CutShort size old (take size old)
take_cut size old = record {
  no_shorter = omega (arith, length-take size old);
  front = elim (cases_lt size (length old)) [
    | inl lt ↦ let k : size ≡ length (take size old) = omega (arith, length-take size old, lt) in ap (λ (n : ℕ). take n old) k
    | inr ge ↦ take_all size old ge ∙ sym (take_all (length (take size old)) old (omega (arith, length-take size old, ge)))
  ];
}

-- calls as a record keeps them
abbrev IsPlain : Event → Type 0
IsPlain (did (spoiled path step bytes)) = ⊥
IsPlain (did change) = Unit {0}
IsPlain (failed change true) = ⊥
IsPlain (failed change false) = Unit {0}

abbrev ArePlain : Events → Type 0
ArePlain [] = Unit {0}
ArePlain (event ∷ events) = IsPlain event.1 × ArePlain events

plain_when : (fails : Bool) (call : Did) → IsPlain (event_when fails (change_of call))
plain_when true call = tt
plain_when false (Made path) = tt
plain_when false (Removed path) = tt
plain_when false (Moved from to) = tt
plain_when false (Wrote path at bytes) = tt
plain_when false (Cut path size) = tt
plain_when false (TriedWrite path at size) = tt
plain_when false (TriedCut path size) = tt
plain_when false (Settled path) = tt

plain_append : (xs ys : Events) → ArePlain xs → ArePlain ys → ArePlain (xs ++ ys)
plain_append [] ys px py = py
plain_append (x ∷ xs) ys px py = (px.0, plain_append xs ys px.1 py)

are_plain : (entries : List Entry) → ArePlain (events_of entries)
are_plain [] = tt
are_plain (entry ∷ entries) = subst ArePlain (sym (reverse-append (event_of entry ∷ []) (map event_of entries))) (plain_append (events_of entries) (event_of entry ∷ []) (are_plain entries) (plain_when entry.undecided entry.call, tt))

pub linked_stands : (x : Option Loose) (y : Option (List ℕ)) → MayLeave x y → MayLeave (Some (unwrap_or x (clean []))) (Some (unwrap_or y []))
linked_stands None None may = refl
linked_stands None (Some b) may = absurd may
linked_stands (Some file) None may = absurd may
linked_stands (Some file) (Some b) may = may

pub stepped_stands : (step : Step) (f : List ℕ → List ℕ) → ((b : List ℕ) → Takes step b (f b)) → (x : Option Loose) (y : Option (List ℕ)) → MayLeave x y → MayLeave (option_map (stepped step) x) (option_map f y)
stepped_stands step f takes None None may = tt
stepped_stands step f takes None (Some b) may = absurd may
stepped_stands step f takes (Some file) None may = absurd may
stepped_stands step f takes (Some file) (Some b) may = (b, may, takes b)

pub clean_stands : (y : Option (List ℕ)) → MayLeave (option_map clean y) y
clean_stands None = tt
clean_stands (Some b) = refl

abbrev pub Stands : Files → Directory → Type 0
Stands files reads = (path : List ℕ) → MayLeave (files path) (reads path)

pub updated_stands : (files : Files) (reads : Directory) (path : List ℕ) (x : Option Loose) (y : Option (List ℕ)) → Stands files reads → MayLeave x y → Stands (update bytes_eq files path x) (update bytes_eq reads path y)
updated_stands files reads path x y stands may =
    by_path path (λ q. MayLeave (update bytes_eq files path x q) (update bytes_eq reads path y q))
    (subst (λ (a : Option Loose). MayLeave a (update bytes_eq reads path y path)) (sym (update-here files path x)) (subst (λ (b : Option (List ℕ)). MayLeave x b) (sym (update-here reads path y)) may))
    (λ q apart. subst (λ (a : Option Loose). MayLeave a (update bytes_eq reads path y q)) (sym (update-off files path x q apart)) (subst (λ (b : Option (List ℕ)). MayLeave (files q) b) (sym (update-off reads path y q apart)) (stands q)))

pub moved_stands : (files : Files) (reads : Directory) (from to : List ℕ) → Stands files reads → (x : Option Loose) (y : Option (List ℕ)) → MayLeave x y → Stands (relinked x from to files) (relinked y from to reads)
moved_stands files reads from to stands None None may = stands
moved_stands files reads from to stands None (Some b) may = absurd may
moved_stands files reads from to stands (Some file) None may = absurd may
moved_stands files reads from to stands (Some file) (Some b) may =
    updated_stands (update bytes_eq files from None) (update bytes_eq reads from None) to (Some file) (Some b) (updated_stands files reads from None None stands tt) may

-- a step may be lost
pub takes_nothing : (step : Step) (bytes : List ℕ) → Takes step bytes bytes
takes_nothing (inl range) bytes = record { no_shorter = omega arith; no_longer = omega arith; below = λ i in_old lt. refl; above = λ i in_old le. refl }
takes_nothing (inr size) bytes = record { no_shorter = omega arith; front = sym (take_all (length bytes) bytes (omega arith)) }

step_lost : (step : Step) (x : Option Loose) (y : Option (List ℕ)) → MayLeave x y → MayLeave (option_map (stepped step) x) y
step_lost step None y may = may
step_lost step (Some file) None may = absurd may
step_lost step (Some file) (Some b) may = (b, may, takes_nothing step b)

-- a step of which nothing is left
pub tried_stands : (files : Files) (reads : Directory) (path : List ℕ) (step : Step) → Stands files reads → Stands (update bytes_eq files path (option_map (stepped step) (files path))) reads
tried_stands files reads path step stands =
    by_path path (λ q. MayLeave (update bytes_eq files path (option_map (stepped step) (files path)) q) (reads q))
    (subst (λ (x : Option Loose). MayLeave x (reads path)) (sym (update-here files path (option_map (stepped step) (files path)))) (step_lost step (files path) (reads path) (stands path)))
    (λ q apart. subst (λ (x : Option Loose). MayLeave x (reads q)) (sym (update-off files path (option_map (stepped step) (files path)) q apart)) (stands q))

pub all_stand : (start : Directory) (events : Events) → ArePlain events → Stands (state start events).files (state start events).reads
all_stand start [] plain = λ path. clean_stands (start path)
all_stand start ((moment, did (made path)) ∷ events) plain = let so = all_stand start events plain.1 in updated_stands _ _ path _ _ so (linked_stands _ _ (so path))
all_stand start ((moment, did (removed path)) ∷ events) plain = updated_stands _ _ path None None (all_stand start events plain.1) tt
all_stand start ((moment, did (moved from to)) ∷ events) plain = let so = all_stand start events plain.1 in moved_stands _ _ from to so _ _ (so from)
all_stand start ((moment, did (wrote path at bytes)) ∷ events) plain = let so = all_stand start events plain.1 in updated_stands _ _ path _ _ so (stepped_stands (inl (at, length bytes)) (overlaid at bytes) (overlay_torn at bytes) _ _ (so path))
all_stand start ((moment, did (cut path size)) ∷ events) plain = let so = all_stand start events plain.1 in updated_stands _ _ path _ _ so (stepped_stands (inr size) (take size) (take_cut size) _ _ (so path))
all_stand start ((moment, did (tried path step)) ∷ events) plain = tried_stands _ _ path step (all_stand start events plain.1)
all_stand start ((moment, did (spoiled path step bytes)) ∷ events) plain = absurd plain.0
all_stand start ((moment, did (settled path)) ∷ events) plain =
    let so = all_stand start events plain.1 in
    by_path path (λ q. MayLeave (update bytes_eq (state start events).files path (option_map clean ((state start events).reads path)) q) ((state start events).reads q))
    (subst (λ (a : Option Loose). MayLeave a ((state start events).reads path)) (sym (update-here (state start events).files path (option_map clean ((state start events).reads path)))) (clean_stands ((state start events).reads path)))
    (λ q apart. subst (λ (a : Option Loose). MayLeave a ((state start events).reads q)) (sym (update-off (state start events).files path (option_map clean ((state start events).reads path)) q apart)) (so q))
all_stand start ((moment, failed change true) ∷ events) plain = absurd plain.0
all_stand start ((moment, failed change false) ∷ events) plain = all_stand start events plain.1

pub sound_when : (keep : Bool) (start : Directory) (entries : List Entry) (now : ℕ) → last_event (events_of entries) ≤ now → IsSoundStory (story_when keep start (events_of entries)) now
sound_when true start entries now current = record { current = current; stands = all_stand start (events_of entries) (are_plain entries) }
sound_when false start entries now current = tt
