-- The first rows that are left to a scan, picked one after the other.
use Rattle.std.proofs.Common.{◌≡◌, ℕ, ◌+◌, ◌<◌, ◌≤◌, true, false, cond, List, [], ◌∷◌, ◌++◌, length, get_or, take, drop, Ok, Err, refl, sym, ap, subst, ◌∙◌, arith, length-append}
use Rattle.std.specs.Prelude.{Result, IfErr}
use Rattle.std.proofs.lemmas.List.{take_all, take_more, take-append-drop, take-append-le}
use Rattle.std.proofs.lemmas.List.Elements.{filter-append}
use Rattle.row_store.specs.Entries.{Entries}
use Rattle.row_store.specs.Place.{ScanValue, is_left, entries_left}

pub enough : (scan : ScanValue) (rows piece : Entries) (i : ℕ) → piece ≡ entries_left scan (take i rows) → length piece ≡ 64 → piece ≡ take 64 (entries_left scan rows)
enough scan rows piece i picked len =
    let front = entries_left scan (take i rows) in
    let whole : entries_left scan rows ≡ front ++ entries_left scan (drop i rows) =
    ap (entries_left scan) (sym (take-append-drop i rows)) ∙ filter-append (λ e. is_left scan e.0) (take i rows) (drop i rows) in
    let long : length front ≡ 64 = sym (ap length picked) ∙ len in
    picked ∙ sym (take_all 64 front (omega arith)) ∙ sym (take-append-le 64 front (entries_left scan (drop i rows)) (omega arith)) ∙ ap (take 64) (sym whole)

pub all_picked : (scan : ScanValue) (rows piece : Entries) (i : ℕ) → piece ≡ entries_left scan (take i rows) → length rows ≤ i → length piece ≤ 64 → piece ≡ take 64 (entries_left scan rows)
all_picked scan rows piece i picked done short =
    let all : piece ≡ entries_left scan rows = picked ∙ ap (entries_left scan) (take_all i rows done) in
    all ∙ sym (take_all 64 (entries_left scan rows) (subst (λ (l : Entries). length l ≤ 64) all short))

at_most_one : (scan : ScanValue) (row : List ℕ × List ℕ) → length (entries_left scan (row ∷ [])) ≤ 1
at_most_one scan row = elim (is_left scan row.0) as (λ b. length (cond b (row ∷ []) []) ≤ 1) [ true ↦ omega arith | false ↦ omega arith ]

pub picked_more : (scan : ScanValue) (rows old new : Entries) (i : ℕ) (row : List ℕ × List ℕ) → i < length rows → row ≡ get_or rows i row → old ≡ entries_left scan (take i rows) → new ≡ old ++ entries_left scan (row ∷ [])
    → new ≡ entries_left scan (take (i + 1) rows)
picked_more scan rows old new i row lt item picked is =
    is ∙ ap (λ (l : Entries). l ++ entries_left scan (row ∷ [])) picked
    ∙ sym (ap (entries_left scan) (take_more rows i row lt ∙ ap (λ (r : List ℕ × List ℕ). take i rows ++ r ∷ []) (sym item)) ∙ filter-append (λ e. is_left scan e.0) (take i rows) (row ∷ []))

pub one_longer : (scan : ScanValue) (old new : Entries) (row : List ℕ × List ℕ) → new ≡ old ++ entries_left scan (row ∷ []) → length new ≤ length old + 1
one_longer scan old new row is =
    let sum : length new ≡ length old + length (entries_left scan (row ∷ [])) = ap length is ∙ length-append old (entries_left scan (row ∷ [])) in
    omega (arith, sum, at_most_one scan row)

-- a row that is left stands among those that are
pub left_at : (scan : ScanValue) (rows : Entries) (i : ℕ) (row : List ℕ × List ℕ) → i < length rows → row ≡ get_or rows i row → is_left scan row.0 ≡ true → 0 < length (entries_left scan rows)
left_at scan rows i row lt item left =
    let front = entries_left scan (take i rows) in
    let back = entries_left scan (drop (i + 1) rows) in
    let more : entries_left scan (take (i + 1) rows) ≡ front ++ entries_left scan (row ∷ []) = sym (picked_more scan rows front (front ++ entries_left scan (row ∷ [])) i row lt item refl refl) in
    let one : entries_left scan (row ∷ []) ≡ row ∷ [] = rw left refl in
    let whole : entries_left scan rows ≡ entries_left scan (take (i + 1) rows) ++ back =
    ap (entries_left scan) (sym (take-append-drop (i + 1) rows)) ∙ filter-append (λ e. is_left scan e.0) (take (i + 1) rows) (drop (i + 1) rows) in
    let all : entries_left scan rows ≡ (front ++ row ∷ []) ++ back = whole ∙ ap (λ (l : Entries). l ++ back) (more ∙ ap (λ (l : Entries). front ++ l) one) in
    let sum : length (entries_left scan rows) ≡ length (front ++ row ∷ []) + length back = ap length all ∙ length-append (front ++ row ∷ []) back in
    let part : length (front ++ row ∷ []) ≡ length front + 1 = length-append front (row ∷ []) in
    omega (arith, sum, part)

-- what holds holds of a fault too
pub if_err : {T E : Type 0} (r : Result T E) (P : Type 0) → P → IfErr r (λ _. P)
if_err (Ok v) P h = tt
if_err (Err e) P h = h
