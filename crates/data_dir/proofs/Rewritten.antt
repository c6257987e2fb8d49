-- What a file that is written anew leaves.
use Rattle.std.proofs.Common.{◌≡◌, inl, inr, ℕ, ◌+◌, ◌≤◌, true, false, List, [], ◌++◌, length, take, drop, Option, Some, None, Result, Ok, Err, is_some, refl, sym, ◌∙◌, ap, subst, arith}
use Rattle.std.specs.Str.{bytes_eq}
use Rattle.std.specs.Map.{update}
use Rattle.std.specs.Option.{option_map}
use Rattle.std.proofs.lemmas.List.{append-nil, drop-take}
use Rattle.disk_trait.specs.Change.{Directory, Step, wrote, cut, tried, spoiled, overlaid, reads_after}
use Rattle.disk_trait.specs.Crash.{Event, did}
use Rattle.disk_trait.specs.Story.{Story, reads, happened, WhereTold, Images}
use Rattle.disk_trait.specs.Calls.{Acts, Spoils, IsThere, HasRoom}
use Rattle.disk_trait.specs.Carried.{Turns, StepsTo, Wrote, Carries, Comes, IsSettled}
use Rattle.disk_trait.proofs.Paths.{update-here, update-off}
use Rattle.disk_trait.proofs.Acts.{weaken, then_by, cuts}
use Rattle.data_dir.specs.Files.{Rewrites, MayRewrite, IsAgreed}

there_as : (step : Step) (x y : Option (List ℕ)) → StepsTo step x y → is_some y ≡ is_some x
there_as step None None it = refl
there_as step None (Some b) it = absurd it
there_as step (Some a) None it = absurd it
there_as step (Some a) (Some b) it = refl

pub turns_then : (P Q R : Directory → Directory → Type 0) → ((c d e : Directory) → P c d → Q d e → R c e) → (s t u : Option Story) → Turns s t P → Turns t u Q → Turns s u R
turns_then P Q R join None None None one two = tt
turns_then P Q R join None None (Some u) one two = absurd two
turns_then P Q R join None (Some t) u one two = absurd one
turns_then P Q R join (Some s) None u one two = absurd one
turns_then P Q R join (Some s) (Some t) None one two = absurd two
turns_then P Q R join (Some s) (Some t) (Some u) one two = join (reads s) (reads t) (reads u) one two

some_map : (f : List ℕ → List ℕ) (x : Option (List ℕ)) → is_some (option_map f x) ≡ is_some x
some_map f None = refl
some_map f (Some b) = refl

module _ (path : List ℕ) where
  may_same : (d : Directory) → MayRewrite path d d
  may_same d = record { off = λ q apart. refl; there = refl }

  may_trans : (c d e : Directory) → MayRewrite path c d → MayRewrite path d e → MayRewrite path c e
  may_trans c d e one two = record { off = λ q apart. two.off q apart ∙ one.off q apart; there = two.there ∙ one.there }

  may_wrote : (step : Step) (d e : Directory) → Wrote path step d e → MayRewrite path d e
  may_wrote step d e it = record { off = it.off; there = there_as step (d path) (e path) it.at }

  may_map : (f : List ℕ → List ℕ) (d : Directory) → MayRewrite path d (update bytes_eq d path (option_map f (d path)))
  may_map f d = record {
    off = λ q apart. update-off d path (option_map f (d path)) q apart;
    there = ap is_some (update-here d path (option_map f (d path))) ∙ some_map f (d path);
  }

  turns_same : (s : Option Story) → Turns s s (MayRewrite path)
  turns_same None = tt
  turns_same (Some s) = may_same (reads s)

  turns_cut : (s : Option Story) (moment size : ℕ) → Turns s (happened moment (did (cut path size)) s) (MayRewrite path)
  turns_cut None moment size = tt
  turns_cut (Some s) moment size = may_map (take size) (reads s)

  turns_tried : (s : Option Story) (moment : ℕ) (step : Step) → Turns s (happened moment (did (tried path step)) s) (MayRewrite path)
  turns_tried None moment step = tt
  turns_tried (Some s) moment step = may_same (reads s)

  turns_spoiled : (s : Option Story) (moment : ℕ) (step : Step) (bytes : List ℕ) → Turns s (happened moment (did (spoiled path step bytes)) s) (MayRewrite path)
  turns_spoiled None moment step bytes = tt
  turns_spoiled (Some s) moment step bytes = may_map (λ _. bytes) (reads s)

  -- what the disk reads after a cut, whatever it answered
  pub cut_turns : {T E : Type 0} (before : ℕ) (old new : Option Story) (result : Result T E) (size : ℕ) → Acts before old new result (cut path size) (Spoils old path (inr size)) → Turns old new (MayRewrite path)
  cut_turns before old new (Ok v) size acts = subst (λ (t : Option Story). Turns old t (MayRewrite path)) (sym acts.ok) (turns_cut old (before + 1) size)
  cut_turns before old new (Err e) size acts = elim acts.err [
    | inl is ↦ subst (λ (t : Option Story). Turns old t (MayRewrite path)) (sym is) (turns_same old)
    | inr it ↦ elim it.2 [
      | inl is ↦ subst (λ (t : Option Story). Turns old t (MayRewrite path)) (sym (it.3 ∙ ap (λ (v : Event). happened (before + 1) v old) is)) (turns_tried old (before + 1) (inr size))
      | inr so ↦ subst (λ (t : Option Story). Turns old t (MayRewrite path)) (sym (it.3 ∙ ap (λ (v : Event). happened (before + 1) v old) so.2)) (turns_spoiled old (before + 1) (inr size) so.0)
    ]
  ]

  pub cut_carries : {T E : Type 0} (before now : ℕ) (old new : Option Story) (result : Result T E) (size : ℕ) → Acts before old new result (cut path size) (Spoils old path (inr size)) → before ≤ now → Carries (MayRewrite path) before now old new
  cut_carries before now old new result size acts le = weaken (Wrote path (inr size)) (MayRewrite path) before now old new (λ d e from it. may_wrote (inr size) d e it) (cuts before now old new result path size acts le)

  -- a cut, and then a write
  pub may_turns : (step : Step) (s t u : Option Story) → Turns s t (MayRewrite path) → Turns t u (Wrote path step) → Turns s u (MayRewrite path)
  may_turns step s t u one two = turns_then (MayRewrite path) (Wrote path step) (MayRewrite path) (λ c d e may it. may_trans c d e may (may_wrote step d e it)) s t u one two

  pub may_carry : (step : Step) (before mid now : ℕ) (s t u : Option Story) → Carries (MayRewrite path) before mid s t → Carries (Wrote path step) mid now t u → Carries (MayRewrite path) before now s u
  may_carry step before mid now s t u one two =
      then_by (MayRewrite path) (Wrote path step) (MayRewrite path) before mid now s t u (λ d e from it. it) (λ c d e from may mid it. may_trans c d e may (may_wrote step d e it)) one two

  there_still : (d e : Directory) → MayRewrite path d e → IsThere path d → IsThere path e
  there_still d e may it = found (e path) refl (may.there ∙ ap is_some it.1)
    where
      found : (x : Option (List ℕ)) → e path ≡ x → is_some (e path) ≡ true → IsThere path e
      found None is some = let no_file : false ≡ true = sym (ap is_some is) ∙ some in absurd (cc)
      found (Some b) is some = (b, is)

  pub room_still : (s t : Option Story) → Turns s t (MayRewrite path) → WhereTold s (IsThere path) → WhereTold t (HasRoom path 0)
  room_still None None turns there = tt
  room_still None (Some t) turns there = absurd turns
  room_still (Some s) None turns there = absurd turns
  room_still (Some s) (Some t) turns there = let it = there_still (reads s) (reads t) turns there in (it.0, it.1, omega arith)

  cut_then : (bytes : List ℕ) (x : Option (List ℕ)) → option_map (overlaid 0 bytes) (option_map (take (length bytes)) x) ≡ option_map (λ _. bytes) x
  cut_then bytes None = refl
  cut_then bytes (Some b) = ap Some (ap (λ (l : List ℕ). bytes ++ l) (none_behind (length bytes) b) ∙ append-nil bytes)
    where
      none_behind : (n : ℕ) (b : List ℕ) → drop (0 + n) (take n b) ≡ []
      none_behind n b =
          let front : 0 + n ≡ n = omega arith in
          let back : n ≡ n + 0 = omega arith in
          ap (λ (k : ℕ). drop k (take n b)) front ∙ ap (λ (k : ℕ). drop n (take k b)) back ∙ drop-take n 0 b

  -- the file that they leave
  pub cut_and_written : (bytes : List ℕ) (s t u : Option Story) → Turns s t (λ d e. (q : List ℕ) → e q ≡ reads_after (cut path (length bytes)) d q) → Turns t u (λ d e. (q : List ℕ) → e q ≡ reads_after (wrote path 0 bytes) d q) → Turns s u (Rewrites path bytes)
  cut_and_written bytes s t u one two =
      turns_then (λ d e. (q : List ℕ) → e q ≡ reads_after (cut path (length bytes)) d q) (λ d e. (q : List ℕ) → e q ≡ reads_after (wrote path 0 bytes) d q) (Rewrites path bytes)
      (λ c d e was is. record {
        off = λ q apart. is q ∙ update-off d path (option_map (overlaid 0 bytes) (d path)) q apart ∙ was q ∙ update-off c path (option_map (take (length bytes)) (c path)) q apart;
        file = is path ∙ update-here d path (option_map (overlaid 0 bytes) (d path)) ∙ ap (option_map (overlaid 0 bytes)) (was path ∙ update-here c path (option_map (take (length bytes)) (c path))) ∙ cut_then bytes (c path);
      }) s t u one two

  -- ---- if it is there

  pub is_absent : (s : Option Story) → WhereTold s (λ d. None ≡ option_map length (d path)) → WhereTold s (λ d. d path ≡ None)
  is_absent None it = tt
  is_absent (Some s) it = absent (reads s path) it
    where
      absent : (x : Option (List ℕ)) → None ≡ option_map length x → x ≡ None
      absent None it = refl
      absent (Some b) it = absurd (cc)

  pub is_present : (s : Option Story) (n : ℕ) → WhereTold s (λ d. Some n ≡ option_map length (d path)) → WhereTold s (IsThere path)
  is_present None n it = tt
  is_present (Some s) n it = present (reads s path) refl it
    where
      present : (x : Option (List ℕ)) → reads s path ≡ x → Some n ≡ option_map length (reads s path) → IsThere path (reads s)
      present None is it = let no_file : Some n ≡ None = it ∙ ap (option_map length) is in absurd (cc)
      present (Some b) is it = (b, is)

  kept : (bytes : List ℕ) (d : Directory) → d path ≡ None → Rewrites path bytes d d
  kept bytes d none = record { off = λ q apart. refl; file = none ∙ sym (ap (option_map (λ _. bytes)) none) }

  pub absent_reads : (bytes : List ℕ) (s : Option Story) → WhereTold s (λ d. d path ≡ None) → Turns s s (Rewrites path bytes)
  absent_reads bytes None it = tt
  absent_reads bytes (Some s) it = kept bytes (reads s) it

  none_of : (x v : Option (List ℕ)) → v ≡ None → is_some x ≡ is_some v → x ≡ None
  none_of None v is same = refl
  none_of (Some b) v is same = let no_file : true ≡ false = same ∙ ap is_some is in absurd (cc)

  pub absent_images : (bytes : List ℕ) (s : Option Story) → WhereTold s (λ d. d path ≡ None) → IsAgreed path s → (image : Directory) → Images s image → Comes (Rewrites path bytes) s image
  absent_images bytes None it agreed image now = absurd now
  absent_images bytes (Some s) it agreed image now = (image, now, kept bytes image (none_of (image path) (reads s path) it (agreed image now)))

  pub same_turns : (s : Option Story) → Turns s s (MayRewrite path)
  same_turns s = turns_same s

  -- a synced file is left as it reads
  pub rewritten_images : (bytes : List ℕ) (before now : ℕ) (s t : Option Story) → WhereTold s (IsThere path) → Turns s t (Rewrites path bytes) → IsSettled path t → Carries (MayRewrite path) before now s t
      → IsAgreed path s → (image : Directory) → Images t image → Comes (Rewrites path bytes) s image
  rewritten_images bytes before now s t there turns fixed carries agreed image it =
      let from = carries.images image it in
      (from.0, from.1, record { off = from.2.off; file = has s t there turns fixed image it ∙ sym (was s there agreed from.0 from.1) })
    where
      has : (s t : Option Story) → WhereTold s (IsThere path) → Turns s t (Rewrites path bytes) → IsSettled path t → (image : Directory) → Images t image → image path ≡ Some bytes
      has None None there turns fixed image it = absurd it
      has None (Some t) there turns fixed image it = absurd turns
      has (Some s) None there turns fixed image it = absurd turns
      has (Some s) (Some t) there turns fixed image it = fixed image it ∙ turns.file ∙ ap (option_map (λ _. bytes)) there.1

      some_of : (x : Option (List ℕ)) → is_some x ≡ true → option_map (λ _. bytes) x ≡ Some bytes
      some_of None some = let no_file : false ≡ true = some in absurd (cc)
      some_of (Some b) some = refl

      was : (s : Option Story) → WhereTold s (IsThere path) → IsAgreed path s → (from : Directory) → Images s from → option_map (λ _. bytes) (from path) ≡ Some bytes
      was None there agreed from it = absurd it
      was (Some s) there agreed from it = some_of (from path) (agreed from it ∙ ap is_some there.1)
