-- Fields read as they were written, so bytes determine the fields.
use Rattle.std.proofs.Common.{◌≡◌, ℕ, suc, ◌+◌, ◌<◌, ◌^◌, true, false, cond, not, ◌&&◌, List, [], ◌∷◌, ◌++◌, map, length, take, drop, Option, Some, None, refl, sym, ap, ◌∙◌, append_assoc, length-append, arith}
use Rattle.std.specs.Prelude.{position, nat_eq}
use Rattle.std.specs.List.{list_all, prefix_len, AllByRecursion}
use Rattle.std.specs.Int.{w16, w32, w64}
use Rattle.std.proofs.lemmas.List.{take_at, drop_at, append-nil}
use Rattle.std.proofs.lemmas.List.Concat.{flat_map-cons}
use Rattle.std.proofs.lemmas.Bool.{lt-ltb}
use Rattle.std.proofs.lemmas.Nat.{be_bytes_8, from_be_bytes-to_be_bytes_8}
use Rattle.row_batch.proofs.Fields.{IsWide, wide16, wide32, number_again, string_again}
use Rattle.row_fields.specs.declared.fields.Field.{Field}
use Rattle.row_fields.specs.declared.fields.Field.TheVariants.{Byte, Short, Long, Huge, Text, Ended, Maybe}
use Rattle.row_fields.specs.Fields.{kind_of, field_bytes, fields_bytes, maybe_bytes, Fits, FitsMaybe, is_no_zero}
use Rattle.row_fields.specs.Reading.{ended_at, maybe_at, field_at, fields_at, all_at}

-- ## Each field

wide64 : IsWide w64 (2 ^ 64)
wide64 = record {
  len = λ n. refl;
  back = λ bytes len fits. be_bytes_8 bytes _ len fits refl;
  again = λ n lt. from_be_bytes-to_be_bytes_8 n lt;
  below = λ bytes fits. omega (arith, fits 0, fits 1, fits 2, fits 3, fits 4, fits 5, fits 6, fits 7);
}

-- the first zero stands behind the text
zero_at : (text rest : List ℕ) → list_all is_no_zero text ≡ true → prefix_len (λ c. not (nat_eq 0 c)) (text ++ 0 ∷ rest) ≡ length text
zero_at [] rest e = refl
zero_at (c ∷ text) rest e =
    elim (nat_eq 0 c) as (λ b. (not b && list_all is_no_zero text) ≡ true → cond (not b) (1 + prefix_len (λ c. not (nat_eq 0 c)) (text ++ 0 ∷ rest)) 0 ≡ suc (length text)) [
      | true ↦ λ h. absurd cc
      | false ↦ λ h. let more = zero_at text rest h in omega arith
    ] e

ended_again : (text rest : List ℕ) → list_all is_no_zero text ≡ true → ended_at ((text ++ 0 ∷ []) ++ rest) ≡ Some (text, rest)
unfolding ended_at
ended_again text rest e =
    let regrouped : (text ++ 0 ∷ []) ++ rest ≡ text ++ 0 ∷ rest = append_assoc text (0 ∷ []) rest in
    let long : length text < length (text ++ 0 ∷ rest) = omega (arith, length-append text (0 ∷ rest)) in
    let at : position (nat_eq 0) (text ++ 0 ∷ rest) ≡ Some (length text) = rw (zero_at text rest e, lt-ltb _ _ long) refl in
    let front : take (length text) (text ++ 0 ∷ rest) ≡ text = take_at text (0 ∷ rest) (length text) refl in
    let behind : drop (length text + 1) (text ++ 0 ∷ rest) ≡ rest = ap (drop (length text + 1)) (sym regrouped) ∙ drop_at (text ++ 0 ∷ []) rest (length text + 1) (length-append text (0 ∷ [])) in
    ap ended_at regrouped ∙ rw (at, front, behind) refl

maybe_again : (text : Option (List ℕ)) (rest : List ℕ) → FitsMaybe text → maybe_at (maybe_bytes text ++ rest) ≡ Some (text, rest)
unfolding maybe_at
maybe_again None rest fits = refl
maybe_again (Some text) rest fits = rw (string_again w32 (2 ^ 32) wide32 text rest fits) refl

field_again : (field : Field) (rest : List ℕ) → Fits field → field_at (kind_of field) (field_bytes field ++ rest) ≡ Some (field, rest)
unfolding field_at field_bytes
field_again (Byte number) rest fits = refl
field_again (Short number) rest fits = rw (number_again w16 (2 ^ 16) wide16 number rest fits) refl
field_again (Long number) rest fits = rw (number_again w32 (2 ^ 32) wide32 number rest fits) refl
field_again (Huge number) rest fits = rw (number_again w64 (2 ^ 64) wide64 number rest fits) refl
field_again (Text text) rest fits = rw (string_again w16 (2 ^ 16) wide16 text rest fits) refl
field_again (Ended text) rest fits = rw (ended_again text rest fits) refl
field_again (Maybe text) rest fits = rw (maybe_again text rest fits) refl

-- ## Lists of fields

pub fields_again : (fields : List Field) (rest : List ℕ) → AllByRecursion Fits fields → fields_at (map kind_of fields) (fields_bytes fields ++ rest) ≡ Some (fields, rest)
unfolding fields_at
fields_again [] rest fits = refl
fields_again (f ∷ fs) rest fits =
    let regrouped : fields_bytes (f ∷ fs) ++ rest ≡ field_bytes f ++ (fields_bytes fs ++ rest) = ap (λ (t : List ℕ). t ++ rest) (flat_map-cons field_bytes f fs) ∙ append_assoc (field_bytes f) (fields_bytes fs) rest in
    ap (fields_at (map kind_of (f ∷ fs))) regrouped ∙ rw (field_again f (fields_bytes fs ++ rest) fits.0, fields_again fs rest fits.1) refl

pub all_again : (fields : List Field) → AllByRecursion Fits fields → all_at (map kind_of fields) (fields_bytes fields) ≡ Some fields
unfolding all_at
all_again fields fits =
    let read : fields_at (map kind_of fields) (fields_bytes fields) ≡ Some (fields, []) = ap (fields_at (map kind_of fields)) (sym (append-nil (fields_bytes fields))) ∙ fields_again fields [] fits in
    rw read refl

some_is : {A : Type 0} (x y : A) → ◌≡◌ {A = Option A} (Some x) (Some y) → x ≡ y
some_is x y e = cc

-- fields of the same kinds that begin the same bytes are the same, and so is what stands behind them
pub same_fields : (fields others : List Field) (rest more : List ℕ) → map kind_of fields ≡ map kind_of others → AllByRecursion Fits fields → AllByRecursion Fits others → fields_bytes fields ++ rest ≡ fields_bytes others ++ more
    → (fields ≡ others) × (rest ≡ more)
same_fields fields others rest more kinds fit fit_too e =
    let both : ◌≡◌ {A = Option (List Field × List ℕ)} (Some (fields, rest)) (Some (others, more)) =
    sym (fields_again fields rest fit) ∙ ap (fields_at (map kind_of fields)) e ∙ ap (λ k. fields_at k (fields_bytes others ++ more)) kinds ∙ fields_again others more fit_too in
    let pair : ◌≡◌ {A = List Field × List ℕ} (fields, rest) (others, more) = some_is (fields, rest) (others, more) both in
    (ap (λ (x : List Field × List ℕ). x.0) pair, ap (λ (x : List Field × List ℕ). x.1) pair)

-- and with nothing behind them
pub same_all : (fields others : List Field) → map kind_of fields ≡ map kind_of others → AllByRecursion Fits fields → AllByRecursion Fits others → fields_bytes fields ≡ fields_bytes others → fields ≡ others
same_all fields others kinds fit fit_too e = (same_fields fields others [] [] kinds fit fit_too (append-nil (fields_bytes fields) ∙ e ∙ sym (append-nil (fields_bytes others)))).0
