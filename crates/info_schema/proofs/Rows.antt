-- Rows that are pushed one after another, each by its place.
use Rattle.std.proofs.Common.{◌≡◌, ℕ, ◌+◌, ◌<◌, ◌≤◌, List, [], ◌∷◌, ◌++◌, length, drop, sym, ap, ◌∙◌, get_or, append_assoc}
use Rattle.std.proofs.lemmas.List.{append-nil, drop_more, drop_all}
use Rattle.sql_types.specs.declared.listing.Cell.{Cell}
use Rattle.info_schema.specs.Tables.{rows_from}

-- with the rows so far, those that are left come to the whole
abbrev pub IsWhole : {A : Type 0} → (ℕ → A → List Cell) → List A → ℕ → List (List Cell) → List (List Cell) → Type 0
IsWhole row xs place rows before = rows ++ rows_from row place (drop place xs) ≡ before ++ rows_from row 0 xs

pub row_pushed : {A : Type 0} (row : ℕ → A → List Cell) (xs : List A) (place : ℕ) (x : A) (made : List Cell) (rows after before : List (List Cell)) → place < length xs → x ≡ get_or xs place x
    → made ≡ row place x → after ≡ rows ++ made ∷ [] → IsWhole row xs place rows before → IsWhole row xs (place + 1) after before
row_pushed row xs place x made rows after before lt is so pushed whole =
    ap (λ all. all ++ rows_from row (place + 1) (drop (place + 1) xs)) (pushed ∙ ap (λ one. rows ++ one ∷ []) so)
    ∙ append_assoc rows (row place x ∷ []) (rows_from row (place + 1) (drop (place + 1) xs))
    ∙ ap (λ rest. rows ++ rows_from row place rest) (sym (drop_more xs place x lt ∙ ap (λ y. y ∷ drop (place + 1) xs) (sym is)))
    ∙ whole

pub rows_end : {A : Type 0} (row : ℕ → A → List Cell) (xs : List A) (place : ℕ) (rows before : List (List Cell)) → length xs ≤ place
    → IsWhole row xs place rows before → rows ≡ before ++ rows_from row 0 xs
rows_end row xs place rows before le whole = sym (append-nil rows) ∙ ap (λ rest. rows ++ rows_from row place rest) (sym (drop_all place xs le)) ∙ whole
