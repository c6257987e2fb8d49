-- What a history keeps through a crash.
use Rattle.std.proofs.Common.{◌≡◌, inl, inr, ⊎_elim, ℕ, ◌+◌, ◌≤◌, Option, sym, ◌∙◌, subst, arith}
use Rattle.std.proofs.lemmas.Bool.{cases_lt}
use Rattle.disk_trait.specs.Change.{Directory}
use Rattle.disk_trait.specs.Story.{Story, Since, Images, IsSoundStory}
use Rattle.disk_trait.specs.Carried.{Leaves}
use Rattle.disk_trait.proofs.Acts.{now_only}
use Rattle.row_batch.specs.Rows.{Rows}
use Rattle.dict_store_laws.specs.Recovers.{Meaning, Holds, HoldsEither, Recovers, RecoversEither}
use Rattle.dict_store_laws.specs.Safe.{IsPrefix, Safe, IsStamped, Grows}
use Rattle.dict_store_laws.proofs.Leaving.{leaves_weaker}

module _ {C : Type 0} (meaning : Meaning C) where
  -- ## One directory

  pub recovers : (rows : Rows) (catalog : C) (image : Directory) → meaning.stands rows catalog → Holds rows (meaning.files catalog) image → Recovers meaning image catalog
  recovers rows catalog image stands holds = inr (record { rows = rows; stands = stands; holds = holds })

  pub leaves_one : (before now : ℕ) (s t : Option Story) (rows : Rows) (catalog : C) → meaning.stands rows catalog → Leaves before now s t (Holds rows (meaning.files catalog)) → Leaves before now s t (λ image. Recovers meaning image catalog)
  leaves_one before now s t rows catalog stands it = leaves_weaker (Holds rows (meaning.files catalog)) (λ image. Recovers meaning image catalog) before now s t (λ image holds. recovers rows catalog image stands holds) it

  pub leaves_either : (before now : ℕ) (s t : Option Story) (rows later : Rows) (catalog next : C) → meaning.stands rows catalog → meaning.stands later next
      → Leaves before now s t (HoldsEither rows (meaning.files catalog) later (meaning.files next)) → Leaves before now s t (RecoversEither meaning catalog next)
  leaves_either before now s t rows later catalog next stands stands_next it =
      leaves_weaker (HoldsEither rows (meaning.files catalog) later (meaning.files next)) (RecoversEither meaning catalog next) before now s t
      (λ image holds. ⊎_elim (λ h. inl (recovers rows catalog image stands h)) (λ h. inr (recovers later next image stands_next h)) holds) it

  -- ## Prefixes

  longer : (after later : ℕ → C) (low n m : ℕ) (image : Directory) → n ≤ m → ((k : ℕ) → k ≤ n → later k ≡ after k) → IsPrefix meaning after low n image → IsPrefix meaning later low m image
  longer after later low n m image le same it = record { k = it.k; from = it.from; to = omega (arith, it.to, le); recovers = subst (λ (c : C). Recovers meaning image c) (sym (same it.k it.to)) it.recovers }

  lower : (after : ℕ → C) (low other n : ℕ) (image : Directory) → other ≤ low → IsPrefix meaning after low n image → IsPrefix meaning after other n image
  lower after low other n image le it = record { k = it.k; from = omega (arith, it.from, le); to = it.to; recovers = it.recovers }

  at : (later : ℕ → C) (k low high : ℕ) (catalog : C) (image : Directory) → low ≤ k → k ≤ high → later k ≡ catalog → Recovers meaning image catalog → IsPrefix meaning later low high image
  at later k low high catalog image from to is it = record { k = k; from = from; to = to; recovers = subst (λ (c : C). Recovers meaning image c) (sym is) it }

  -- ## Histories

  pub safe_on : (before now begun : ℕ) (s t : Option Story) (after later : ℕ → C) (n m : ℕ) (stamp marked : ℕ → Option ℕ)
      → begun ≤ before → IsStamped n stamp before → IsSoundStory t now → Leaves before now s t (IsPrefix meaning later n m) → Grows meaning t now after later n m stamp marked
      → Safe meaning s begun after n stamp → Safe meaning t begun later m marked
  safe_on before now begun s t after later n m stamp marked le stamped sound leaves grows safe = record {
    prefix = λ image it. ⊎_elim
        (λ was. longer after later 0 n m image grows.longer grows.same (safe.prefix image was))
        (λ is. lower later n 0 m image (omega arith) is)
        (leaves.each begun image le it);
    acknowledged = λ i u lt is image it. ⊎_elim
        (λ old. let mark = sym (grows.marks i old) ∙ is in ⊎_elim
        (λ was. longer after later (i + 1) n m image grows.longer grows.same (safe.acknowledged i u old mark image was))
        (λ p. lower later n (i + 1) m image (omega (arith, old)) p)
        (leaves.each u image (stamped i u old mark) it))
        (λ ge. let new = grows.new i u ge lt is in new.1 image (now_only t now sound image (subst (λ (v : ℕ). Since t v image) new.0 it)))
        (cases_lt i n);
  }

  -- the beginning
  pub safe_start : (s : Option Story) (now : ℕ) (base : C) (stamp : ℕ → Option ℕ) → IsSoundStory s now → ((image : Directory) → Images s image → Recovers meaning image base) → Safe meaning s now (λ k. base) 0 stamp
  safe_start s now base stamp sound each = record {
    prefix = λ image it. record { k = 0; from = omega arith; to = omega arith; recovers = each image (now_only s now sound image it) };
    acknowledged = λ i t lt is image it. absurd (omega (arith, lt));
  }

  -- what a step without a change leaves
  pub prefix_of_step : (before now : ℕ) (s t : Option Story) (later : ℕ → C) (n m : ℕ) (catalog : C) → n ≤ m → later n ≡ catalog → Leaves before now s t (λ image. Recovers meaning image catalog) → Leaves before now s t (IsPrefix meaning later n m)
  prefix_of_step before now s t later n m catalog le is it =
      leaves_weaker (λ image. Recovers meaning image catalog) (IsPrefix meaning later n m) before now s t (λ image r. at later n n m catalog image (omega arith) le is r) it

  -- and what a commit does
  pub prefix_of_commit : (before now : ℕ) (s t : Option Story) (later : ℕ → C) (n : ℕ) (catalog next : C) → later n ≡ catalog → later (n + 1) ≡ next → Leaves before now s t (RecoversEither meaning catalog next)
      → Leaves before now s t (IsPrefix meaning later n (n + 1))
  prefix_of_commit before now s t later n catalog next one two it =
      leaves_weaker (RecoversEither meaning catalog next) (IsPrefix meaning later n (n + 1)) before now s t
      (λ image r. ⊎_elim (λ x. at later n n (n + 1) catalog image (omega arith) (omega arith) one x) (λ x. at later (n + 1) n (n + 1) next image (omega arith) (omega arith) two x) r) it

  -- an entry that each crash now has may be acknowledged
  pub has_prefix : (s : Option Story) (later : ℕ → C) (n : ℕ) (catalog : C) → later n ≡ catalog → ((image : Directory) → Images s image → Recovers meaning image catalog) → (image : Directory) → Images s image → IsPrefix meaning later n n image
  has_prefix s later n catalog is each image it = at later n n n catalog image (omega arith) (omega arith) is (each image it)
