-- The columns of a key, as the table spells them.
use Rattle.std.specs.Prelude.{◌≡◌, ℕ, ◌+◌, ◌==◌, Bool, true, false, ◌&&◌, ◌||◌, nat_le, nat_lt, List, [], ◌∷◌, ◌++◌, length, Option, Some, None, if◌then◌else◌, refl}
use Rattle.std.specs.List.{list_any, list_all, find}
use Rattle.std.specs.Str.{bytes_eq}
use Rattle.std.proofs.Common.{sym, ◌∙◌, ap, subst, arith}
use Rattle.std.proofs.lemmas.Bool.{true≢false, and_parts, and_from, or_left, or_right, false_from_ne_true, cond-true, cond-false}
use Rattle.std.proofs.lemmas.Bool.Decides.{nat_tests}
use Rattle.std.proofs.lemmas.List.{append-nil, append_assoc, length_push}
use Rattle.dd_names.specs.Names.{same}
use Rattle.dd_definitions.specs.Columns.{is_same_column, is_column, are_key_columns}
use Rattle.dd_definitions.specs.Distinct.{are_distinct}
use Rattle.dd_definitions.specs.declared.columns.ColumnDef.{ColumnDef}
use Rattle.dd_catalog.specs.Kinds.{column_named}
use Rattle.dd_catalog.specs.Walks.{fine, run, over}
use Rattle.dd_catalog.specs.WalkLaws.{Look}
use Rattle.dd_catalog.specs.Asked.{fine_is, bind_fine, over_keeps}
use Rattle.rules_elements.specs.Keys.{spelled_column, one_more, key_columns}
use Rattle.rules_refusals.specs.Refusals.{dup_fieldname}
use Rattle.rules_create.proofs.Lists.{all_push, any_weaker, none_stronger, distinct_parts, distinct_push}
use Rattle.rules_create.proofs.Names.{bytes_are, bytes_same, bytes_turned, same_where_equal, done_unless}

-- ## Each is spelled as the table spells it, and none twice

pub record AreSpelled (columns : List ColumnDef) (names : List (List ℕ)) : Type 0 where
  pub distinct : are_distinct bytes_eq names ≡ true
  pub spelled : list_all (is_column columns) names ≡ true

-- what is found is in the list
found_in_list : {X : Type 0} (p q : X → Bool) (xs : List X) (x : X) → find p xs ≡ Some x → q x ≡ true → list_any q xs ≡ true
found_in_list p q [] x found passes = cc
found_in_list p q (y ∷ ys) x found passes = on (p y) found (λ later. found_in_list p q ys x later passes)
  where
    on : (b : Bool) → (if b then Some y else find p ys) ≡ Some x → (find p ys ≡ Some x → list_any q ys ≡ true) → (q y || list_any q ys) ≡ true
    on true here rest = let e : y ≡ x = cc in or_left (q y) (list_any q ys) (ap q e ∙ passes)
    on false later rest = or_right (q y) (list_any q ys) (rest later)

column_found : (columns : List ColumnDef) (name : List ℕ) (column : ColumnDef) → column_named columns name ≡ Some column → is_column columns column.name ≡ true
unfolding is_column
column_found columns name column found =
    found_in_list (λ (c : ColumnDef). same c.name name) (λ (c : ColumnDef). bytes_eq c.name column.name) columns column found (bytes_same column.name column.name refl)

record IsNew (columns : List ColumnDef) (before : List (List ℕ)) (name : List ℕ) : Type 0 where
  spelled : is_column columns name ≡ true
  apart : list_any (bytes_eq name) before ≡ false

new_column : (look : Look) (columns : List ColumnDef) (before : List (List ℕ)) (name : List ℕ) (found : Option ColumnDef) (spelled : List ℕ) → column_named columns name ≡ found
    → run look (spelled_column before name found) ≡ fine spelled → IsNew columns before spelled
new_column look columns before name None spelled found is = cc
new_column look columns before name (Some column) spelled found is =
    let (apart, same_name) = done_unless look (list_any (bytes_eq column.name) before) (dup_fieldname name) column.name spelled is in
    subst (IsNew columns before) same_name (record { spelled = column_found columns name column found; apart = apart })

one_spelled : (look : Look) (columns : List ColumnDef) (before : List (List ℕ)) (name : List ℕ) (next : List (List ℕ)) → AreSpelled columns before → run look (one_more columns before name) ≡ fine next → AreSpelled columns next
unfolding one_more
one_spelled look columns before name next so_far is =
    let (spelled, found, last) = bind_fine look (spelled_column before name (column_named columns name)) _ next is in
    let new : IsNew columns before spelled = new_column look columns before name (column_named columns name) spelled refl found in
    let apart = none_stronger (bytes_eq spelled) (λ x. bytes_eq x spelled) (λ x e. bytes_turned spelled x ∙ e) before new.apart in
    subst (AreSpelled columns) (fine_is last) (record { distinct = distinct_push bytes_eq before spelled so_far.distinct apart; spelled = all_push (is_column columns) before spelled so_far.spelled new.spelled })

pub columns_spelled : (look : Look) (columns : List ColumnDef) (names made : List (List ℕ)) → run look (key_columns columns names) ≡ fine made → AreSpelled columns made
columns_spelled look columns names made is = over_keeps (AreSpelled columns) look (one_more columns) (one_spelled look columns) [] names made (record { distinct = refl; spelled = refl }) is

-- ## As many as are written

one_longer : (look : Look) (columns : List ColumnDef) (before : List (List ℕ)) (name : List ℕ) (next : List (List ℕ)) → run look (one_more columns before name) ≡ fine next → length next ≡ length before + 1
unfolding one_more
one_longer look columns before name next is =
    let (spelled, found, last) = bind_fine look (spelled_column before name (column_named columns name)) _ next is in
    ap length (sym (fine_is last)) ∙ length_push before spelled

over_counted : (look : Look) (columns : List ColumnDef) (before names made : List (List ℕ)) → run look (over (one_more columns) before names) ≡ fine made → length made ≡ length before + length names
over_counted look columns before [] made is = let same_length : length made ≡ length before = ap length (sym (fine_is is)) in omega arith
over_counted look columns before (name ∷ names) made is =
    let (next, one, rest) = bind_fine look (one_more columns before name) _ made is in
    let longer : length next ≡ length before + 1 = one_longer look columns before name next one in
    let all : length made ≡ length next + length names = over_counted look columns next names made rest in
    omega arith

pub columns_counted : (look : Look) (columns : List ColumnDef) (names made : List (List ℕ)) → run look (key_columns columns names) ≡ fine made → length made ≡ length names
columns_counted look columns names made is = let all : length made ≡ length {A = List ℕ} [] + length names = over_counted look columns [] names made is in omega arith

one_to_16 : (n : ℕ) → (n == 0) ≡ false → nat_lt 16 n ≡ false → (nat_le 1 n && nat_le n 16) ≡ true
one_to_16 n some few = grind (arith, nat_tests)

pub key_columns_formed : (look : Look) (columns : List ColumnDef) (names made : List (List ℕ)) → (length names == 0) ≡ false → nat_lt 16 (length names) ≡ false → run look (key_columns columns names) ≡ fine made → are_key_columns columns made ≡ true
unfolding are_key_columns
key_columns_formed look columns names made some few is =
    let all : AreSpelled columns made = columns_spelled look columns names made is in
    let counted : (nat_le 1 (length made) && nat_le (length made) 16) ≡ true = subst (λ n. (nat_le 1 n && nat_le n 16) ≡ true) (sym (columns_counted look columns names made is)) (one_to_16 (length names) some few) in
    and_from (nat_le 1 (length made) && nat_le (length made) 16 && are_distinct bytes_eq made) (list_all (is_column columns) made) (and_from (nat_le 1 (length made) && nat_le (length made) 16) (are_distinct bytes_eq made) counted all.distinct) all.spelled

-- ## Names that are spelled so stay

-- a column that is spelled so is the one that is found
spelled_found : (columns : List ColumnDef) (name : List ℕ) → are_distinct is_same_column columns ≡ true → is_column columns name ≡ true → (column : ColumnDef) × (column_named columns name ≡ Some column) × (column.name ≡ name)
unfolding is_column
spelled_found [] name distinct is = cc
spelled_found (c ∷ cs) name distinct is = on (bytes_eq c.name name) refl is (λ later. spelled_found cs name (distinct_parts is_same_column c cs distinct).1 later)
  where
    apart : list_any (is_same_column c) cs ≡ false
    apart = (distinct_parts is_same_column c cs distinct).0

    other : list_any (λ (d : ColumnDef). bytes_eq d.name name) cs ≡ true → same c.name name ≡ false
    other later = false_from_ne_true (same c.name name) (λ alike.
        true≢false (sym (any_weaker (λ (d : ColumnDef). bytes_eq d.name name) (is_same_column c) (λ d e. ap (same c.name) (bytes_are d.name name e) ∙ alike) cs later) ∙ apart))

    on : (b : Bool) → bytes_eq c.name name ≡ b → (b || list_any (λ (d : ColumnDef). bytes_eq d.name name) cs) ≡ true
        → (list_any (λ (d : ColumnDef). bytes_eq d.name name) cs ≡ true → (column : ColumnDef) × (column_named cs name ≡ Some column) × (column.name ≡ name))
        → (column : ColumnDef) × (column_named (c ∷ cs) name ≡ Some column) × (column.name ≡ name)
    on true e is rest = (c, cond-true (same c.name name) (Some c) (column_named cs name) (same_where_equal c.name name (bytes_are c.name name e)), bytes_are c.name name e)
    on false e is rest =
        let (column, found, named) = rest is in
        (column, cond-false (same c.name name) (Some c) (column_named cs name) (other is) ∙ found, named)

one_stays : (look : Look) (columns : List ColumnDef) (before : List (List ℕ)) (name : List ℕ) (next : List (List ℕ)) → are_distinct is_same_column columns ≡ true → is_column columns name ≡ true
    → run look (one_more columns before name) ≡ fine next → before ++ name ∷ [] ≡ next
unfolding one_more
one_stays look columns before name next distinct spelled is =
    let (column, found, named) = spelled_found columns name distinct spelled in
    let (made, one, last) = bind_fine look (spelled_column before name (column_named columns name)) _ next is in
    let again : run look (spelled_column before name (Some column)) ≡ fine made = subst (λ f. run look (spelled_column before name f) ≡ fine made) found one in
    let (_, same_name) = done_unless look (list_any (bytes_eq column.name) before) (dup_fieldname name) column.name made again in
    ap (λ (n : List ℕ). before ++ n ∷ []) (sym named ∙ same_name) ∙ fine_is last

over_stays : (look : Look) (columns : List ColumnDef) (before names made : List (List ℕ)) → are_distinct is_same_column columns ≡ true → list_all (is_column columns) names ≡ true
    → run look (over (one_more columns) before names) ≡ fine made → before ++ names ≡ made
over_stays look columns before [] made distinct spelled is = append-nil before ∙ fine_is is
over_stays look columns before (name ∷ names) made distinct spelled is =
    let (here, later) = and_parts (is_column columns name) (list_all (is_column columns) names) spelled in
    let (next, one, rest) = bind_fine look (one_more columns before name) _ made is in
    sym (append_assoc before (name ∷ []) names) ∙ ap (λ (b : List (List ℕ)). b ++ names) (one_stays look columns before name next distinct here one) ∙ over_stays look columns next names made distinct later rest

pub columns_stay : (look : Look) (columns : List ColumnDef) (names made : List (List ℕ)) → are_distinct is_same_column columns ≡ true → list_all (is_column columns) names ≡ true → run look (key_columns columns names) ≡ fine made → names ≡ made
columns_stay look columns names made distinct spelled is = over_stays look columns [] names made distinct spelled is
