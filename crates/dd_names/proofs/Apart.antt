-- Paths of different owners differ: a name has no slash, so the first slash of a path ends its schema.
use Rattle.std.proofs.Common.{◌≡◌, ℕ, ◌<◌, ◌^◌, ◌&&◌, true, false, List, [], ◌∷◌, ◌++◌, length, refl, sym, ◌∙◌, ap, arith, append_assoc}
use Rattle.std.specs.Prelude.{codes}
use Rattle.std.specs.List.{list_all}
use Rattle.std.specs.Fmt.{decimal}
use Rattle.std.proofs.lemmas.List.{append_cancel_left, append_cancel_right}
use Rattle.std.proofs.lemmas.Fmt.{decimal_injective}
use Rattle.dd_names.specs.Names.{is_name_byte, IsName}
use Rattle.dd_names.specs.Paths.{IsObjName, path, temporary_path}
use Rattle.dd_names.specs.declared.object_name.ObjName.{ObjName}

slash : is_name_byte 47 ≡ true → ⊥
slash good = cc

hash : is_name_byte 35 ≡ true → ⊥
hash good = cc

first_good : (b : ℕ) (bs : List ℕ) → (is_name_byte b && list_all is_name_byte bs) ≡ true → is_name_byte b ≡ true
first_good b bs = elim (is_name_byte b) as (λ v. (v && list_all is_name_byte bs) ≡ true → v ≡ true) [
  | true ↦ λ good. refl
  | false ↦ λ none. absurd (cc)
]

rest_good : (b : ℕ) (bs : List ℕ) → (is_name_byte b && list_all is_name_byte bs) ≡ true → list_all is_name_byte bs ≡ true
rest_good b bs = elim (is_name_byte b) as (λ v. (v && list_all is_name_byte bs) ≡ true → list_all is_name_byte bs ≡ true) [
  | true ↦ λ good. good
  | false ↦ λ none. absurd (cc)
]

pub split : (s t x y : List ℕ) → list_all is_name_byte s ≡ true → list_all is_name_byte t ≡ true → s ++ (47 ∷ x) ≡ t ++ (47 ∷ y) → (s ≡ t) × (x ≡ y)
split [] [] x y good fine same = (refl, cc)
split [] (b ∷ t) x y good fine same =
    let e : 47 ≡ b = cc in absurd (slash (ap is_name_byte e ∙ first_good b t fine))
split (a ∷ s) [] x y good fine same =
    let e : 47 ≡ a = cc in absurd (slash (ap is_name_byte e ∙ first_good a s good))
split (a ∷ s) (b ∷ t) x y good fine same =
    let e : a ≡ b = cc in
    let more : s ++ (47 ∷ x) ≡ t ++ (47 ∷ y) = cc in
    let parts : (s ≡ t) × (x ≡ y) = split s t x y (rest_good a s good) (rest_good b t fine) more in
    (cc, parts.1)

-- a path from its first slash on
path_parts : (s n : List ℕ) → s ++ codes "/" ++ n ++ codes ".ibd" ≡ s ++ (47 ∷ (n ++ codes ".ibd"))
path_parts s n = simp append_assoc

temporary_parts : (s d : List ℕ) → s ++ codes "/#sql-ib" ++ d ++ codes ".ibd" ≡ s ++ (47 ∷ (codes "#sql-ib" ++ d ++ codes ".ibd"))
temporary_parts s d = simp append_assoc

-- what begins as a name does begins with no number sign
no_hash : (n x y : List ℕ) → 0 < length n → list_all is_name_byte n ≡ true → n ++ x ≡ 35 ∷ y → ⊥
no_hash [] x y some good same = omega arith
no_hash (b ∷ n) x y some good same =
    let e : 35 ≡ b = cc in hash (ap is_name_byte e ∙ first_good b n good)

abbrev object : List ℕ → List ℕ → ObjName
object s n = record { schema = s; name = n }

pub objects : (a b : ObjName) → IsObjName a → IsObjName b → path a ≡ path b → a ≡ b
objects a b left right same =
    let parts = split a.schema b.schema (a.name ++ codes ".ibd") (b.name ++ codes ".ibd") left.schema.each right.schema.each
    (sym (path_parts a.schema a.name) ∙ same ∙ path_parts b.schema b.name) in
    let schemas : a.schema ≡ b.schema = parts.0 in
    let names : a.name ≡ b.name = append_cancel_right a.name b.name (codes ".ibd") parts.1 in
    ap (λ s. object s a.name) schemas ∙ ap (λ n. object b.schema n) names

pub not_temporary : (a : ObjName) (schema : List ℕ) (space : ℕ) → IsObjName a → IsName schema → path a ≡ temporary_path schema space → ⊥
not_temporary a schema space left right same =
    let parts = split a.schema schema (a.name ++ codes ".ibd") (codes "#sql-ib" ++ decimal space ++ codes ".ibd") left.schema.each right.each
    (sym (path_parts a.schema a.name) ∙ same ∙ temporary_parts schema (decimal space)) in
    no_hash a.name (codes ".ibd") (codes "sql-ib" ++ decimal space ++ codes ".ibd") left.name.some left.name.each parts.1

pub not_hashed : (a : ObjName) (y : List ℕ) → IsObjName a → path a ≡ 35 ∷ y → ⊥
not_hashed a y left same =
    no_hash a.schema (47 ∷ (a.name ++ codes ".ibd")) y left.schema.some left.schema.each (sym (path_parts a.schema a.name) ∙ same)

pub temporary : (s t : List ℕ) (m n : ℕ) → IsName s → IsName t → m < 2 ^ 32 → n < 2 ^ 32 → temporary_path s m ≡ temporary_path t n → (s ≡ t) × (m ≡ n)
temporary s t m n left right small little same =
    let parts = split s t (codes "#sql-ib" ++ decimal m ++ codes ".ibd") (codes "#sql-ib" ++ decimal n ++ codes ".ibd") left.each right.each
    (sym (temporary_parts s (decimal m)) ∙ same ∙ temporary_parts t (decimal n)) in
    let front = append_cancel_right (codes "#sql-ib" ++ decimal m) (codes "#sql-ib" ++ decimal n) (codes ".ibd") parts.1 in
    let numbers = append_cancel_left (codes "#sql-ib") (decimal m) (decimal n) front in
    (parts.0, decimal_injective m n (omega arith) (omega arith) numbers)
