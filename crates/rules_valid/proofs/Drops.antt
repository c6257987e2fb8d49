-- DROP TABLE and DROP DATABASE.
use Rattle.std.specs.Prelude.{◌≡◌, ℕ, Bool, true, false, cond, not, nat_lt, List, [], ◌∷◌, map, filter, length, Option, Some, None, if◌then◌else◌, refl}
use Rattle.std.specs.List.{list_any, find}
use Rattle.std.specs.FinMap as finite_map
use Rattle.std.specs.Str.{bytes_eq}
use Rattle.std.proofs.Common.{sym, ◌∙◌, ap, subst, inl, inr}
use Rattle.std.proofs.lemmas.Bool.{true≢false, and_parts, or_from, or_left, or_right, or_cases, and_from, false_from_ne_true}
use Rattle.dd_names.specs.declared.object_name.ObjName.{ObjName}
use Rattle.dd_errors.specs.Errors.{ErrorValue}
use Rattle.sql_types.specs.declared.words.ObjRef.{ObjRef}
use Rattle.dd_definitions.specs.declared.parts.TableParts.{TableParts}
use Rattle.sql_ast.specs.declared.session.SessionState.{SessionState}
use Rattle.dd_catalog.specs.Catalog.{Catalog, Placed, Table, is_same_object, refers_to, names_among, children_among, object_seen, schema_seen, all_of}
use Rattle.dd_catalog.specs.Valid.{Has, IsValid}
use Rattle.dd_catalog.specs.Walks.{Walk, done, fine, run, refuse_if, refuse_some, every, picked}
use Rattle.dd_catalog.specs.WalkLaws.{Look}
use Rattle.dd_catalog.specs.Asked.{fine_is, bind_fine}
use Rattle.dd_catalog.proofs.ObjectNames.{same_object}
use Rattle.rules_outcome.specs.Choices.{Choice, applied, catalog_behind}
use Rattle.rules_refusals.specs.Refusals.{beyond_limit, db_drop_exists}
use Rattle.rules_named.specs.Named.{object_in, is_nothing, all_named, unless}
use Rattle.rules_schema.specs.Drops.{is_table, refuse_for, no_child_stays, gone, is_among, first_twice, twice_refused, is_there, is_left_out, unknown_refused, tables_gone, drop_table}
use Rattle.rules_schema.specs.Schemas.{is_in, may_go, all_gone, schema_gone, drop_database}
use Rattle.rules_create.proofs.Names.{bytes_are}
use Rattle.rules_valid.specs.Keeps.{KeepsValid}
use Rattle.rules_valid.proofs.Gone.{IsWithout, without_valid, removed, get_removed}
use Rattle.rules_valid.proofs.Objects.{IsIn, any_in, entry_in, name_in, child_goes}
use Rattle.rules_valid.proofs.Readings.{unless_valid}
use Rattle.rules_valid.proofs.Schemas.{contains_without}

-- ## Checks of each item

-- where every item passes, so does each that is in the list
every_fine : {A : Type 0} (look : Look) (check : A → Walk ErrorValue (Unit {0})) (xs : List A) (x : A) → run look (every check xs) ≡ fine tt → IsIn x xs → run look (check x) ≡ fine tt
every_fine look check [] x is there = absurd there
every_fine {A = A} look check (y ∷ ys) x is there =
    let (first, here, rest) = bind_fine look (check y) _ tt is in
    on here (every_fine look check ys x rest) there
  where
    on : run look (check y) ≡ fine tt → (IsIn x ys → run look (check x) ≡ fine tt) → IsIn x (y ∷ ys) → run look (check x) ≡ fine tt
    on here rest (inl same) = subst (λ (z : A). run look (check z) ≡ fine tt) same here
    on here rest (inr later) = rest later

no_child : (cat : Catalog) (table : ObjName) (child : Option ObjName) → run (all_of cat) (refuse_for table child) ≡ fine tt → child ≡ None
unfolding refuse_for
no_child cat table None is = refl
no_child cat table (Some child) is = cc

none_stays : (cat : Catalog) (goes : ObjName → Bool) (table : ObjName) → run (all_of cat) (no_child_stays goes table) ≡ fine tt → find (λ child. not (goes child)) (children_among table (finite_map.entries cat.objects)) ≡ None
unfolding no_child_stays
none_stays cat goes table is = no_child cat table (find (λ child. not (goes child)) (children_among table (finite_map.entries cat.objects))) is

-- ## DROP TABLE

abbrev without_tables : List ObjName → Catalog → Catalog
without_tables tables cat = record { schemas = cat.schemas; objects = removed tables cat.objects }

applied_tables : (space : ℕ) (tables : List ObjName) (cat : Catalog) → applied space (map gone tables) cat ≡ without_tables tables cat
applied_tables space [] cat = refl
applied_tables space (table ∷ tables) cat = applied_tables space tables (record { schemas = cat.schemas; objects = finite_map.remove cat.objects table })

behind_tables : (space : ℕ) (session : SessionState) (tables : List ObjName) (cat : Catalog) → catalog_behind space (tables_gone session tables) cat ≡ without_tables tables cat
behind_tables space session [] cat = refl
behind_tables space session (table ∷ tables) cat = applied_tables space (table ∷ tables) cat

tables_without : (cat : Catalog) (tables : List ObjName) → IsValid cat → run (all_of cat) (every (no_child_stays (is_among tables)) tables) ≡ fine tt → IsWithout cat (is_among tables) (without_tables tables cat)
tables_without cat tables valid all = record {
  objects = λ q. get_removed tables cat.objects q;
  closed = λ parent space parts child placed going there has refers.
      child_goes cat (is_among tables) parent (none_stays cat (is_among tables) parent (every_fine (all_of cat) (no_child_stays (is_among tables)) tables parent all (any_in is_same_object same_object parent tables going))) going child placed has refers;
  schemas = λ name there. there;
  kept = λ name placed has stays. valid.schemas_there name placed has;
}

pub drop_table_keeps : (session : SessionState) (if_exists : Bool) (refs : List ObjRef) → KeepsValid (drop_table session if_exists refs)
unfolding drop_table
drop_table_keeps session if_exists refs = record {
  keeps = λ cat space choice valid new is.
      let (objects, named, after_names) = bind_fine (all_of cat) (all_named session.current refs) _ choice is in
      let (_, few, after_few) = bind_fine (all_of cat) (refuse_if (nat_lt 65536 (length objects)) (beyond_limit "65536")) _ choice after_names in
      let (_, once, after_once) = bind_fine (all_of cat) (refuse_some (twice_refused (first_twice [] objects))) _ choice after_few in
      let (tables, found, after_found) = bind_fine (all_of cat) (picked is_there objects) _ choice after_once in
      let (_, known, after_known) = bind_fine (all_of cat) (refuse_some (if if_exists then None else unknown_refused (filter (is_left_out tables) objects))) _ choice after_found in
      let (_, all, last) = bind_fine (all_of cat) (every (no_child_stays (is_among tables)) tables) _ choice after_known in
      subst (λ c. IsValid (catalog_behind space c cat)) (fine_is last)
      (subst IsValid (sym (behind_tables space session tables cat)) (without_valid cat (is_among tables) (without_tables tables cat) valid (tables_without cat tables valid all)));
}

-- ## DROP DATABASE

abbrev all_in : List ℕ → List (List ℕ) → List ObjName
all_in schema names = map (λ name. object_in schema name) names

abbrev without_all : List ℕ → List (List ℕ) → Catalog → Catalog
without_all schema names cat = record { schemas = finite_map.remove cat.schemas schema; objects = removed (all_in schema names) cat.objects }

applied_all : (space : ℕ) (schema : List ℕ) (names : List (List ℕ)) (cat : Catalog) → applied space (all_gone schema names) cat ≡ without_all schema names cat
applied_all space schema [] cat = refl
applied_all space schema (name ∷ names) cat = applied_all space schema names (record { schemas = cat.schemas; objects = finite_map.remove cat.objects (object_in schema name) })

-- an object of another schema is none of these
none_elsewhere : (schema : List ℕ) (names : List (List ℕ)) (q : ObjName) → bytes_eq q.schema schema ≡ false → is_among (all_in schema names) q ≡ false
none_elsewhere schema [] q apart = refl
none_elsewhere schema (name ∷ names) q apart =
    or_from (is_same_object q (object_in schema name)) (is_among (all_in schema names) q)
    (false_from_ne_true (is_same_object q (object_in schema name)) (λ same. true≢false (sym (and_parts (bytes_eq q.schema schema) (bytes_eq q.name name) same).0 ∙ apart)))
    (none_elsewhere schema names q apart)

-- an object of the schema is one of these where its name is
some_here : (schema : List ℕ) (names : List (List ℕ)) (q : ObjName) → bytes_eq q.schema schema ≡ true → list_any (bytes_eq q.name) names ≡ true → is_among (all_in schema names) q ≡ true
some_here schema [] q own there = cc
some_here schema (name ∷ names) q own there =
    elim (or_cases (bytes_eq q.name name) (list_any (bytes_eq q.name) names) there) [
      | inl here ↦ or_left (is_same_object q (object_in schema name)) (is_among (all_in schema names) q) (and_from (bytes_eq q.schema schema) (bytes_eq q.name name) own here)
      | inr later ↦ or_right (is_same_object q (object_in schema name)) (is_among (all_in schema names) q) (some_here schema names q own later)
    ]

abbrev names_of : List ℕ → Catalog → List (List ℕ)
names_of schema cat = names_among schema (finite_map.entries cat.objects)

nothing_either : (b : Bool) → ◌≡◌ {A = Option Placed} (cond b None None) None
nothing_either true = refl
nothing_either false = refl

-- behind the removals no object of the schema stands, and each other one
objects_left : (cat : Catalog) (schema : List ℕ) (q : ObjName) → finite_map.get (removed (all_in schema (names_of schema cat)) cat.objects) q ≡ cond (is_in schema q) None (finite_map.get cat.objects q)
objects_left cat schema q = get_removed (all_in schema (names_of schema cat)) cat.objects q ∙ on (is_in schema q) refl (finite_map.get cat.objects q) refl
  where
    on : (b : Bool) → is_in schema q ≡ b → (found : Option Placed) → finite_map.get cat.objects q ≡ found → cond (is_among (all_in schema (names_of schema cat)) q) None found ≡ cond b None found
    on true own None is = nothing_either (is_among (all_in schema (names_of schema cat)) q)
    on true own (Some p) is = ap (λ b. cond b None (Some p)) (some_here schema (names_of schema cat) q own (name_in schema q p (finite_map.entries cat.objects) (entry_in cat q p (record { is = is })) own))
    on false apart found is = ap (λ b. cond b None found) (none_elsewhere schema (names_of schema cat) q apart)

table_may_go : (cat : Catalog) (schema name : List ℕ) (space : ℕ) (parts : TableParts) → run (all_of cat) (may_go schema name) ≡ fine tt → Has cat (object_in schema name) (Table space parts)
    → find (λ child. not (is_in schema child)) (children_among (object_in schema name) (finite_map.entries cat.objects)) ≡ None
unfolding may_go
table_may_go cat schema name space parts is has =
    none_stays cat (is_in schema) (object_in schema name)
    (ap (λ found. run (all_of cat) (if is_table (object_seen found) then no_child_stays (is_in schema) (object_in schema name) else done tt)) (sym has.is) ∙ is)

schema_without : (cat : Catalog) (schema : List ℕ) → IsValid cat → run (all_of cat) (every (may_go schema) (names_of schema cat)) ≡ fine tt → IsWithout cat (is_in schema) (without_all schema (names_of schema cat) cat)
schema_without cat schema valid all = record {
  objects = objects_left cat schema;
  closed = closed;
  schemas = λ name there. still name (bytes_eq name schema) (sym (contains_without cat.schemas schema name) ∙ there);
  kept = λ name placed has stays. contains_without cat.schemas schema name.schema ∙ ap (λ b. cond b false (finite_map.contains_key cat.schemas name.schema)) stays ∙ valid.schemas_there name placed has;
}
  where
    still : (name : List ℕ) (b : Bool) → cond b false (finite_map.contains_key cat.schemas name) ≡ true → finite_map.contains_key cat.schemas name ≡ true
    still name true is = cc
    still name false is = is

    closed : (parent : ObjName) (space : ℕ) (parts : TableParts) (child : ObjName) (placed : Placed) → is_in schema parent ≡ true → Has cat parent (Table space parts) → Has cat child placed → refers_to parent placed ≡ true → is_in schema child ≡ true
    closed parent space parts child placed going there has refers =
        let own : parent.schema ≡ schema = bytes_are parent.schema schema going in
        let same : parent ≡ object_in schema parent.name = λ i. record { schema = own i; name = parent.name } in
        let named : IsIn parent.name (names_of schema cat) = any_in bytes_eq bytes_are parent.name (names_of schema cat) (name_in schema parent (Table space parts) (finite_map.entries cat.objects) (entry_in cat parent (Table space parts) there) going) in
        let none = table_may_go cat schema parent.name space parts (every_fine (all_of cat) (may_go schema) (names_of schema cat) parent.name all named) (subst (λ p. Has cat p (Table space parts)) same there) in
        child_goes cat (is_in schema) parent (subst (λ p. find (λ c. not (is_in schema c)) (children_among p (finite_map.entries cat.objects)) ≡ None) (sym same) none) going child placed has refers

gone_keeps : (session : SessionState) (name : List ℕ) (cat : Catalog) (space : ℕ) (choice : Choice) → IsValid cat → run (all_of cat) (schema_gone session name) ≡ fine choice → IsValid (catalog_behind space choice cat)
unfolding schema_gone
gone_keeps session name cat space choice valid is =
    let (_, few, after_few) = bind_fine (all_of cat) (refuse_if (nat_lt 65536 (length (names_of name cat))) (beyond_limit "65536")) _ choice is in
    let (_, all, last) = bind_fine (all_of cat) (every (may_go name) (names_of name cat)) _ choice after_few in
    subst (λ c. IsValid (catalog_behind space c cat)) (fine_is last)
    (subst IsValid (sym (applied_all space name (names_of name cat) cat)) (without_valid cat (is_in name) (without_all name (names_of name cat) cat) valid (schema_without cat name valid all)))

pub drop_database_keeps : (session : SessionState) (if_exists : Bool) (name : List ℕ) → KeepsValid (drop_database session if_exists name)
unfolding drop_database
drop_database_keeps session if_exists name = record {
  keeps = λ cat space choice valid new is.
      on cat space choice valid (is_nothing (schema_seen (finite_map.contains_key cat.schemas name))) is;
}
  where
    on : (cat : Catalog) (space : ℕ) (choice : Choice) → IsValid cat → (b : Bool) → run (all_of cat) (if b then unless if_exists (db_drop_exists name) else schema_gone session name) ≡ fine choice → IsValid (catalog_behind space choice cat)
    on cat space choice valid true is = unless_valid (all_of cat) if_exists (db_drop_exists name) cat space choice valid is
    on cat space choice valid false is = gone_keeps session name cat space choice valid is
