-- A table and its children as the actions find them in a valid catalog.
use Rattle.std.specs.Prelude.{◌≡◌, ◌⊎◌, ℕ, true, false, ◌&&◌, ◌||◌, not, nat_lt, List, [], ◌∷◌, ◌++◌, length, Option, Some, None, refl}
use Rattle.std.specs.List.{list_any, list_all, AllByRecursion, flat_map}
use Rattle.std.specs.FinMap as finite_map
use Rattle.std.specs.Str.{bytes_eq}
use Rattle.std.proofs.Common.{sym, ◌∙◌, ap, subst, inl, inr}
use Rattle.std.proofs.lemmas.Bool.{true≢false, and_parts, and_from, or_cases, or_left, or_right, not_from_false, not-true, cond_both, cases_Bool}
use Rattle.std.proofs.lemmas.List.{append-nil, append_assoc}
use Rattle.dd_names.specs.Names.{fold}
use Rattle.dd_names.specs.declared.object_name.ObjName.{ObjName}
use Rattle.dd_names.specs.declared.object_name.ObjectKey.TheVariants as keys
use Rattle.dd_definitions.specs.ForeignKeys.{has_index_on}
use Rattle.dd_definitions.specs.declared.foreign_keys.ForeignKeyDef.{ForeignKeyDef}
use Rattle.dd_definitions.specs.declared.parts.TableParts.{TableParts}
use Rattle.dd_catalog.proofs.ObjectNames.{same_object}
use Rattle.dd_catalog.specs.Asked.{fine_is, bind_fine}
use Rattle.dd_catalog.specs.Catalog.{Catalog, Placed, Table, View, all_of, children_among, has_constraint, is_same_object, object_seen, owner_among, refers_to}
use Rattle.dd_catalog.specs.Sights.{Sight}
use Rattle.dd_catalog.specs.Valid.{are_columns_paired, is_parent_fit, IsValid}
use Rattle.dd_catalog.specs.Walks.{fine, run, refuse_if, over}
use Rattle.rules_elements.specs.ForeignKeys.{is_owned_elsewhere}
use Rattle.rules_refusals.specs.Refusals.{beyond_limit}
use Rattle.rules_create.proofs.Lists.{each_in}
use Rattle.rules_create.proofs.Names.{bytes_same}
use Rattle.rules_alter.specs.Statements.{child_of, child_seen, children_of, one_child}
use Rattle.rules_alter.specs.declared.states.Child.{Child}
use Rattle.rules_alter_keys_laws.specs.Grounds.{is_unowned, has_parent_index, is_grounded}
use Rattle.rules_alter_keys_laws.specs.Led.{is_led, are_led}
use Rattle.rules_valid.proofs.Objects.{child_in, entry_in}
use Rattle.rules_valid.proofs.RenamedLists.{IsIn, in_front, in_back, in_either}
use Rattle.rules_valid.proofs.RenamedNames.{not_same, is_same}
use Rattle.rules_valid.proofs.RenamedPlaces.{lists_entries}
use Rattle.rules_valid.proofs.RenamedSeen.{IsFound, IsNone, find_owner}

-- ## The children

abbrev pub seen_at : Catalog → ObjName → Sight
seen_at cat name = object_seen (finite_map.get cat.objects name)

abbrev pub children_at : Catalog → List ObjName → List Child
children_at cat names = flat_map (λ name. child_seen name (seen_at cat name)) names

over_is : (cat : Catalog) (before : List Child) (names : List ObjName) (end : List Child) → run (all_of cat) (over one_child before names) ≡ fine end → before ++ children_at cat names ≡ end
unfolding one_child
over_is cat before [] end is = append-nil before ∙ fine_is is
over_is cat before (name ∷ names) end is =
    let (next, one, rest) = bind_fine (all_of cat) (one_child before name) (λ state. over one_child state names) end is in
    let next_is : before ++ child_seen name (seen_at cat name) ≡ next = fine_is one in
    sym (append_assoc before (child_seen name (seen_at cat name)) (children_at cat names)) ∙ ap (λ (front : List Child). front ++ children_at cat names) next_is ∙ over_is cat next names end rest

pub children_are : (cat : Catalog) (table : ObjName) (children : List Child) → run (all_of cat) (children_of table) ≡ fine children → children_at cat (children_among table (finite_map.entries cat.objects)) ≡ children
unfolding children_of
children_are cat table children is =
    let names : List ObjName = children_among table (finite_map.entries cat.objects) in
    let (_, few, last) = bind_fine (all_of cat) (refuse_if (nat_lt 4096 (length names)) (beyond_limit "4096")) (λ _. over one_child [] names) children is in
    over_is cat [] (children_among table (finite_map.entries cat.objects)) children last

-- a child as it stands in the catalog
pub record IsStart (cat : Catalog) (table : ObjName) (child : Child) : Type 0 where
  pub was : finite_map.get cat.objects child.name ≡ Some (Table child.space child.parts)
  pub fresh : child.is_changed ≡ false
  pub other : child.name ≡ table → ⊥

none_is_parent : (table : ObjName) (es : List (ObjName × Placed)) → list_all (λ (name : ObjName). not (is_same_object name table)) (children_among table es) ≡ true
none_is_parent table [] = refl
none_is_parent table (e ∷ es) = cond_both (refers_to table e.1 && not (is_same_object e.0 table)) (e.0 ∷ children_among table es) (children_among table es) (λ (names : List ObjName). list_all (λ (name : ObjName). not (is_same_object name table)) names ≡ true)
    (λ both. and_from (not (is_same_object e.0 table)) (list_all (λ (name : ObjName). not (is_same_object name table)) (children_among table es)) (and_parts (refers_to table e.1) (not (is_same_object e.0 table)) both).1 (none_is_parent table es))
    (λ _. none_is_parent table es)

one_start : (cat : Catalog) (table name : ObjName) (child : Child) (known : Option Placed) → finite_map.get cat.objects name ≡ known → (name ≡ table → ⊥) → IsIn child (child_seen name (object_seen known)) → IsStart cat table child
one_start cat table name child None there apart is = absurd is
one_start cat table name child (Some (Table space parts)) there apart (inl here) = subst (IsStart cat table) (sym here) (record { was = there; fresh = refl; other = apart })
one_start cat table name child (Some (Table space parts)) there apart (inr none) = absurd none
one_start cat table name child (Some (View parts)) there apart is = absurd is

all_start : (cat : Catalog) (table : ObjName) (names : List ObjName) (child : Child) → list_all (λ (name : ObjName). not (is_same_object name table)) names ≡ true → IsIn child (children_at cat names) → IsStart cat table child
all_start cat table [] child all is = absurd is
all_start cat table (name ∷ names) child all is =
    let (here, later) = and_parts (not (is_same_object name table)) (list_all (λ (n : ObjName). not (is_same_object n table)) names) all in
    elim (in_either child (child_seen name (seen_at cat name)) (children_at cat names) is) [
      | inl first ↦ one_start cat table name child (finite_map.get cat.objects name) refl (λ e. true≢false (sym (is_same name table e) ∙ not-true (is_same_object name table) here)) first
      | inr rest ↦ all_start cat table names child later rest
    ]

pub each_starts : (cat : Catalog) (table : ObjName) (child : Child) → IsIn child (children_at cat (children_among table (finite_map.entries cat.objects))) → IsStart cat table child
each_starts cat table child is = all_start cat table (children_among table (finite_map.entries cat.objects)) child (none_is_parent table (finite_map.entries cat.objects)) is

seen_there : (cat : Catalog) (name : ObjName) (space : ℕ) (parts : TableParts) → finite_map.get cat.objects name ≡ Some (Table space parts) → IsIn (child_of name space parts) (child_seen name (seen_at cat name))
seen_there cat name space parts there = subst (λ (known : Option Placed). IsIn (child_of name space parts) (child_seen name (object_seen known))) (sym there) (inl refl)

named_there : (cat : Catalog) (name : ObjName) (space : ℕ) (parts : TableParts) (names : List ObjName) → finite_map.get cat.objects name ≡ Some (Table space parts) → list_any (is_same_object name) names ≡ true → IsIn (child_of name space parts) (children_at cat names)
named_there cat name space parts [] there any = cc
named_there cat name space parts (n ∷ names) there any = elim (or_cases (is_same_object name n) (list_any (is_same_object name) names) any) [
  | inl here ↦ in_front (child_of name space parts) (child_seen n (seen_at cat n)) (children_at cat names)
      (subst (λ (o : ObjName). IsIn (child_of name space parts) (child_seen o (seen_at cat o))) (same_object name n here) (seen_there cat name space parts there))
  | inr later ↦ in_back (child_of name space parts) (child_seen n (seen_at cat n)) (children_at cat names) (named_there cat name space parts names there later)
]

-- a table that refers to this one is among the children
pub referring_there : (cat : Catalog) (table name : ObjName) (space : ℕ) (parts : TableParts) → finite_map.get cat.objects name ≡ Some (Table space parts) → refers_to table (Table space parts) ≡ true → (name ≡ table → ⊥)
    → IsIn (child_of name space parts) (children_at cat (children_among table (finite_map.entries cat.objects)))
referring_there cat table name space parts there refers apart =
    named_there cat name space parts (children_among table (finite_map.entries cat.objects)) there
    (child_in table name (Table space parts) (finite_map.entries cat.objects) (entry_in cat name (Table space parts) (record { is = there }))
    (and_from (refers_to table (Table space parts)) (not (is_same_object name table)) refers (not_from_false (is_same_object name table) (not_same name table apart))))

-- ## Foreign keys

-- a fit foreign key on the table has its index there
fit_led : (cat : Catalog) (table : ObjName) (space : ℕ) (parts others : TableParts) (key : ForeignKeyDef) → finite_map.get cat.objects table ≡ Some (Table space parts) → is_parent_fit others key (finite_map.get cat.objects key.parent) ≡ true → is_led table parts.indexes key ≡ true
fit_led cat table space parts others key there fit = elim (cases_Bool (is_same_object key.parent table)) [
  | inl same ↦
      let known : finite_map.get cat.objects key.parent ≡ Some (Table space parts) = ap (finite_map.get cat.objects) (same_object key.parent table same) ∙ there in
      or_right (not (is_same_object key.parent table)) (has_index_on parts.indexes key.parent_columns) (and_parts (has_index_on parts.indexes key.parent_columns) (are_columns_paired others parts key) (sym (ap (is_parent_fit others key) known) ∙ fit)).0
  | inr apart ↦ or_left (not (is_same_object key.parent table)) (has_index_on parts.indexes key.parent_columns) (not_from_false (is_same_object key.parent table) apart)
]

pub all_led : (cat : Catalog) (table : ObjName) (space : ℕ) (parts others : TableParts) (keys_of : List ForeignKeyDef) → finite_map.get cat.objects table ≡ Some (Table space parts)
    → list_all (λ (key : ForeignKeyDef). is_parent_fit others key (finite_map.get cat.objects key.parent)) keys_of ≡ true → are_led table parts.indexes keys_of ≡ true
all_led cat table space parts others [] there fits = refl
all_led cat table space parts others (key ∷ rest) there fits =
    let (here, later) = and_parts (is_parent_fit others key (finite_map.get cat.objects key.parent)) (list_all (λ (k : ForeignKeyDef). is_parent_fit others k (finite_map.get cat.objects k.parent)) rest) fits in
    and_from (is_led table parts.indexes key) (are_led table parts.indexes rest) (fit_led cat table space parts others key there here) (all_led cat table space parts others rest there later)

fit_has : (parts : TableParts) (key : ForeignKeyDef) (known : Option Placed) → is_parent_fit parts key known ≡ true → has_parent_index key (Some (object_seen known)) ≡ true
fit_has parts key None fit = cc
fit_has parts key (Some (Table space parent)) fit = (and_parts (has_index_on parent.indexes key.parent_columns) (are_columns_paired parts parent key) fit).0
fit_has parts key (Some (View parent)) fit = cc

-- the table's constraint is seen as its own
own_unowned : (cat : Catalog) → IsValid cat → (table : ObjName) (placed : Placed) (folded : List ℕ) → finite_map.get cat.objects table ≡ Some placed → has_constraint folded placed ≡ true → is_owned_elsewhere table (owner_among table.schema folded (finite_map.entries cat.objects)) ≡ false
own_unowned cat valid table placed folded there has = on (find_owner table.schema folded (finite_map.entries cat.objects))
  where
    on : IsFound table.schema folded (finite_map.entries cat.objects) ⊎ IsNone table.schema folded (finite_map.entries cat.objects) → is_owned_elsewhere table (owner_among table.schema folded (finite_map.entries cat.objects)) ≡ false
    on (inl found) =
        let held : finite_map.get cat.objects found.owner ≡ Some found.placed = (lists_entries cat.objects).holds found.owner found.placed found.there in
        let one : found.owner ≡ table = valid.constraints_distinct found.owner table found.placed placed folded (record { is = held }) (record { is = there }) found.schema_is found.has has in
        ap (is_owned_elsewhere table) found.seen ∙ ap not (is_same found.owner table one)
    on (inr none) = ap (is_owned_elsewhere table) none.0

pub all_grounded : (cat : Catalog) → IsValid cat → (table : ObjName) (space : ℕ) (parts : TableParts) (keys_of : List ForeignKeyDef) → finite_map.get cat.objects table ≡ Some (Table space parts)
    → list_all (λ (key : ForeignKeyDef). is_parent_fit parts key (finite_map.get cat.objects key.parent)) keys_of ≡ true → list_all (λ (key : ForeignKeyDef). has_constraint (fold key.name) (Table space parts)) keys_of ≡ true
    → list_all (is_grounded (all_of cat) table) keys_of ≡ true
all_grounded cat valid table space parts [] there fits named = refl
all_grounded cat valid table space parts (key ∷ rest) there fits named =
    let (fit, others) = and_parts (is_parent_fit parts key (finite_map.get cat.objects key.parent)) (list_all (λ (k : ForeignKeyDef). is_parent_fit parts k (finite_map.get cat.objects k.parent)) rest) fits in
    let (has, more) = and_parts (has_constraint (fold key.name) (Table space parts)) (list_all (λ (k : ForeignKeyDef). has_constraint (fold k.name) (Table space parts)) rest) named in
    and_from (is_grounded (all_of cat) table key) (list_all (is_grounded (all_of cat) table) rest)
    (and_from (is_unowned table (all_of cat (keys.Constraint table.schema (fold key.name)))) (is_same_object key.parent table || has_parent_index key (all_of cat (keys.Object key.parent)))
    (not_from_false (is_owned_elsewhere table (owner_among table.schema (fold key.name) (finite_map.entries cat.objects))) (own_unowned cat valid table (Table space parts) (fold key.name) there has))
    (or_right (is_same_object key.parent table) (has_parent_index key (all_of cat (keys.Object key.parent))) (fit_has parts key (finite_map.get cat.objects key.parent) fit)))
    (all_grounded cat valid table space parts rest there others more)

pub each_named : (keys_of : List ForeignKeyDef) → list_all (λ (key : ForeignKeyDef). list_any (λ (k : ForeignKeyDef). bytes_eq (fold k.name) (fold key.name)) keys_of) keys_of ≡ true
each_named keys_of = each_in (λ (a b : ForeignKeyDef). bytes_eq (fold b.name) (fold a.name)) (λ a. bytes_same (fold a.name) (fold a.name) refl) keys_of

pub children_led : (cat : Catalog) → IsValid cat → (table : ObjName) (space : ℕ) (parts : TableParts) (children : List Child) → finite_map.get cat.objects table ≡ Some (Table space parts) → ((child : Child) → IsIn child children → IsStart cat table child)
    → AllByRecursion (λ (child : Child). are_led table parts.indexes child.parts.foreign_keys ≡ true) children
children_led cat valid table space parts [] there starts = tt
children_led cat valid table space parts (child ∷ children) there starts =
    let start : IsStart cat table child = starts child (inl refl) in
    (all_led cat table space parts child.parts child.parts.foreign_keys there (valid.parents_fit child.name child.space child.parts (record { is = start.was })), children_led cat valid table space parts children there (λ c is. starts c (inr is)))
