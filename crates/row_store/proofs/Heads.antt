-- The head of a file, as it is read.
use Rattle.std.proofs.Common.{◌≡◌, ℕ, ◌-◌, ◌≤◌, List, [], length, take, drop, min, Option, Some, None, Result, Ok, Err, sym, ap, subst, ◌∙◌, arith, inl, inr}
use Rattle.std.specs.Option.{unwrap_or}
use Rattle.std.proofs.lemmas.Bool.{cases_lt}
use Rattle.std.proofs.lemmas.List.{take_all}
use Rattle.disk_trait.specs.Story.{Story, WhereTold, reads}
use Rattle.disk_trait.specs.Calls.{Reads}
use Rattle.row_store.specs.declared.outcome.RowsRefused.{RowsRefused}
use Rattle.row_store.specs.declared.outcome.RowsRefused.TheVariants.{Fault, NoForm, Version, Memory}
use Rattle.row_store.specs.Header.{head_of}
use Rattle.row_store.specs.Opening.{IsJudged, IsCheckOf}

as_check : (r : Result (Unit {0}) RowsRefused) (bytes : List ℕ) → IsJudged r bytes → IsCheckOf r bytes
as_check (Ok done) bytes h = h
as_check (Err (Fault count)) bytes h = tt
as_check (Err NoForm) bytes h = h
as_check (Err (Version number)) bytes h = h
as_check (Err Memory) bytes h = h

taken : (bytes : List ℕ) (n : ℕ) → n ≡ min 65 (length bytes - 0) → take n (drop 0 bytes) ≡ take 65 bytes
taken bytes n is =
    elim (cases_lt (length bytes) 65) [
      | inl lt ↦ let k : length bytes ≤ n = omega arith in take_all n bytes k ∙ sym (take_all 65 bytes (omega arith))
      | inr le ↦ let k : n ≡ 65 = omega arith in ap (λ (m : ℕ). take m bytes) k
    ]

pub checked : (story : Option Story) (path : List ℕ) (r : Result (Unit {0}) RowsRefused) (old new front : List ℕ) (n : ℕ) → length old ≡ 65 → WhereTold story (λ d. Reads (unwrap_or (d path) []) 0 old new n) → front ≡ take n new → IsJudged r front → WhereTold story (λ d. IsCheckOf r (head_of (d path)))
checked None path r old new front n len told is judged = tt
checked (Some s) path r old new front n len told is judged =
    let bytes = unwrap_or (reads s path) [] in
    let count : n ≡ min 65 (length bytes - 0) = told.count ∙ ap (λ (m : ℕ). min m (length bytes - 0)) len in
    as_check r (take 65 bytes) (subst (IsJudged r) (is ∙ told.taken ∙ taken bytes n count) judged)
