-- Columns of a key that are spelled as the table spells them.
use Rattle.std.specs.Prelude.{◌≡◌, ℕ, Bool, true, false, ◌&&◌, ◌||◌, List, [], ◌∷◌, ◌++◌, Some, refl}
use Rattle.std.specs.List.{list_any, list_all}
use Rattle.std.specs.Str.{bytes_eq}
use Rattle.std.proofs.Common.{sym, ◌∙◌, ap, subst}
use Rattle.std.proofs.lemmas.Bool.{true≢false, and_parts, or_parts, or_from, false_from_ne_true, cond-true, cond-false}
use Rattle.std.proofs.lemmas.List.{append-nil, append_assoc}
use Rattle.dd_names.specs.Names.{same}
use Rattle.dd_errors.specs.Errors.{ErrorValue}
use Rattle.dd_definitions.specs.Columns.{is_same_column, is_column}
use Rattle.dd_definitions.specs.Distinct.{are_distinct}
use Rattle.dd_definitions.specs.declared.columns.ColumnDef.{ColumnDef}
use Rattle.dd_catalog.specs.Kinds.{column_named}
use Rattle.dd_catalog.specs.Walks.{Walk, done, refuse, over}
use Rattle.rules_elements.specs.Keys.{spelled_column, one_more, key_columns}
use Rattle.rules_refusals.specs.Refusals.{dup_fieldname}
use Rattle.rules_create.proofs.Lists.{any_weaker, none_stronger, distinct_parts}
use Rattle.rules_create.proofs.Names.{bytes_are, bytes_turned, same_turned, same_where_equal}
use Rattle.show_read_back.proofs.Lists.{apart_before}
use Rattle.show_read_back.proofs.Steps.{goes}

-- ## The column that is found

abbrev is_spelled : List ℕ → ColumnDef → Bool
is_spelled name c = bytes_eq c.name name

-- a column of the table is the one that is found
pub record IsFound (columns : List ColumnDef) (name : List ℕ) : Type 0 where
  pub column : ColumnDef
  pub found : column_named columns name ≡ Some column
  pub named : column.name ≡ name

-- where a later column is spelled so, this one isn't like it
other_name : (c : ColumnDef) (cs : List ColumnDef) (name : List ℕ) → list_any (is_same_column c) cs ≡ false → list_any (is_spelled name) cs ≡ true → same c.name name ≡ false
other_name c cs name apart later = false_from_ne_true (same c.name name) (λ alike.
    true≢false (sym (any_weaker (is_spelled name) (is_same_column c) (λ d e. ap (same c.name) (bytes_are d.name name e) ∙ alike) cs later) ∙ apart))

pub find_column : (columns : List ColumnDef) (name : List ℕ) → are_distinct is_same_column columns ≡ true → list_any (is_spelled name) columns ≡ true → IsFound columns name
find_column [] name distinct is = absurd cc
find_column (c ∷ cs) name distinct is = on (bytes_eq c.name name) refl is (λ later. find_column cs name (distinct_parts is_same_column c cs distinct).1 later)
  where
    apart : list_any (is_same_column c) cs ≡ false
    apart = (distinct_parts is_same_column c cs distinct).0

    on : (b : Bool) → bytes_eq c.name name ≡ b → (b || list_any (is_spelled name) cs) ≡ true → (list_any (is_spelled name) cs ≡ true → IsFound cs name) → IsFound (c ∷ cs) name
    on true e is rest = record {
      column = c;
      found = cond-true (same c.name name) (Some c) (column_named cs name) (same_where_equal c.name name (bytes_are c.name name e));
      named = bytes_are c.name name e;
    }
    on false e is rest =
        let later = rest is in
        record {
          column = later.column;
          found = cond-false (same c.name name) (Some c) (column_named cs name) (other_name c cs name apart is) ∙ later.found;
          named = later.named;
        }

-- ## Names of columns

spelled_again : (before : List (List ℕ)) (name : List ℕ) (column : ColumnDef) → column.name ≡ name → list_any (bytes_eq name) before ≡ false → spelled_column before name (Some column) ≡ done name
spelled_again before name column named apart =
    let made : List ℕ → Walk ErrorValue (List ℕ) = λ x. done x in
    cond-false (list_any (bytes_eq column.name) before) (refuse (dup_fieldname name)) (done column.name) (ap (λ (n : List ℕ). list_any (bytes_eq n) before) named ∙ apart) ∙ ap made named

one_again : (columns : List ColumnDef) (before : List (List ℕ)) (name : List ℕ) → are_distinct is_same_column columns ≡ true → is_column columns name ≡ true → list_any (bytes_eq name) before ≡ false
    → one_more columns before name ≡ done (before ++ name ∷ [])
unfolding one_more is_column
one_again columns before name distinct is apart =
    let found = find_column columns name distinct is in
    goes (spelled_column before name (column_named columns name)) _ name (ap (spelled_column before name) found.found ∙ spelled_again before name found.column found.named apart)

not_before : (before : List (List ℕ)) (name : List ℕ) (names : List (List ℕ)) → are_distinct bytes_eq (before ++ name ∷ names) ≡ true → list_any (bytes_eq name) before ≡ false
not_before before name names distinct =
    none_stronger (λ (n : List ℕ). bytes_eq n name) (bytes_eq name) (λ n is. bytes_turned n name ∙ is) before (apart_before bytes_eq before name names distinct)

names_from : (columns : List ColumnDef) (before names : List (List ℕ)) → are_distinct is_same_column columns ≡ true → are_distinct bytes_eq (before ++ names) ≡ true → list_all (is_column columns) names ≡ true
    → over {E = ErrorValue} (one_more columns) before names ≡ done (before ++ names)
names_from columns before [] distinct apart is = let made : List (List ℕ) → Walk ErrorValue (List (List ℕ)) = λ xs. done xs in ap made (sym (append-nil before))
names_from columns before (name ∷ names) distinct apart is =
    let (here, later) = and_parts (is_column columns name) (list_all (is_column columns) names) is in
    let same_list = append_assoc before (name ∷ []) names in
    let rest = names_from columns (before ++ name ∷ []) names distinct (subst (λ (xs : List (List ℕ)). are_distinct bytes_eq xs ≡ true) (sym same_list) apart) later in
    goes (one_more columns before name) _ (before ++ name ∷ []) (one_again columns before name distinct here (not_before before name names apart))
    ∙ subst (λ (xs : List (List ℕ)). over {E = ErrorValue} (one_more columns) (before ++ name ∷ []) names ≡ done xs) same_list rest

pub names_again : (columns : List ColumnDef) (names : List (List ℕ)) → are_distinct is_same_column columns ≡ true → are_distinct bytes_eq names ≡ true → list_all (is_column columns) names ≡ true → key_columns columns names ≡ done names
names_again columns names distinct apart is = names_from columns [] names distinct apart is

-- ## Columns that are never NULL

abbrev is_null_named : List ℕ → ColumnDef → Bool
is_null_named name c = same c.name name && c.nullable

-- where the column of that name isn't NULL, no column with the name in any case is
pub never_null_named : (columns : List ColumnDef) (name : List ℕ) → are_distinct is_same_column columns ≡ true → list_any (is_spelled name) columns ≡ true
    → list_any (λ (c : ColumnDef). bytes_eq c.name name && c.nullable) columns ≡ false → list_any (is_null_named name) columns ≡ false
never_null_named [] name distinct is never = absurd cc
never_null_named (c ∷ cs) name distinct is never = on (bytes_eq c.name name) refl is (λ later. never_null_named cs name parts.1 later nulls.1)
  where
    parts : (list_any (is_same_column c) cs ≡ false) × (are_distinct is_same_column cs ≡ true)
    parts = distinct_parts is_same_column c cs distinct

    nulls : ((bytes_eq c.name name && c.nullable) ≡ false) × (list_any (λ (d : ColumnDef). bytes_eq d.name name && d.nullable) cs ≡ false)
    nulls = or_parts (bytes_eq c.name name && c.nullable) (list_any (λ (d : ColumnDef). bytes_eq d.name name && d.nullable) cs) never

    first_is : (a b : Bool) → a ≡ false → (a && b) ≡ false
    first_is true b e = absurd cc
    first_is false b e = refl

    second_is : (a b : Bool) → b ≡ false → (a && b) ≡ false
    second_is true b e = e
    second_is false b e = refl

    on : (b : Bool) → bytes_eq c.name name ≡ b → (b || list_any (is_spelled name) cs) ≡ true → (list_any (is_spelled name) cs ≡ true → list_any (is_null_named name) cs ≡ false) → list_any (is_null_named name) (c ∷ cs) ≡ false
    on true e is rest =
        let null : c.nullable ≡ false = ap (λ (b : Bool). b && c.nullable) (sym e) ∙ nulls.0 in
        let alike : (d : ColumnDef) → is_null_named name d ≡ true → is_same_column c d ≡ true =
        λ d h. ap (λ (n : List ℕ). same n d.name) (bytes_are c.name name e) ∙ same_turned name d.name ∙ (and_parts (same d.name name) d.nullable h).0 in
        or_from (is_null_named name c) (list_any (is_null_named name) cs) (second_is (same c.name name) c.nullable null) (none_stronger (is_same_column c) (is_null_named name) alike cs parts.0)
    on false e is rest =
        or_from (is_null_named name c) (list_any (is_null_named name) cs) (first_is (same c.name name) c.nullable (other_name c cs name parts.0 is)) (rest is)
