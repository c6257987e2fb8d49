-- A check that adds rows for each item adds those of all.
use Rattle.std.specs.Prelude.{◌≡◌, ℕ, List, [], ◌∷◌, ◌++◌, flat_map, refl}
use Rattle.std.proofs.Common.{sym, ap, ◌∙◌, append_assoc}
use Rattle.std.proofs.lemmas.List.{append-nil}
use Rattle.dd_names.specs.declared.object_name.ObjectKey.TheVariants as keys
use Rattle.dd_errors.specs.Errors.{ErrorValue}
use Rattle.sql_types.specs.declared.listing.Cell.{Cell}
use Rattle.dd_catalog.specs.Catalog.{Catalog, sight_of, all_of}
use Rattle.dd_catalog.specs.WalkLaws.{Look, go_on, run_bind}
use Rattle.dd_catalog.specs.Walks.{Walk, Found, done, fine, run, over}
use Rattle.rules_outcome.specs.Choices.{Lists}
use Rattle.rules_schema.specs.Listings.{names_seen}
use Rattle.info_schema.specs.declared.tables.InfoTable.{InfoTable}
use Rattle.info_schema.specs.Listings.{with_object, with_schema, listed, objects_listing}
use Rattle.info_schema_laws.specs.Whole.{object_rows, schema_rows, all_rows}

abbrev Rows : Type 0
Rows = List (List Cell)

rows_found : Rows → Found ErrorValue Rows
rows_found rows = fine rows

over_adds : {A : Type 0} (look : Look) (check : Rows → A → Walk ErrorValue Rows) (made : A → Rows)
    → ((rows : Rows) (x : A) → run look (check rows x) ≡ fine (rows ++ made x))
    → (rows : Rows) (xs : List A) → run look (over check rows xs) ≡ fine (rows ++ flat_map made xs)
over_adds look check made each_adds rows [] = ap (λ (all : Rows). fine all) (sym (append-nil rows))
over_adds look check made each_adds rows (x ∷ xs) =
    run_bind look (check rows x) (λ next. over check next xs)
    ∙ ap (λ found. go_on found (λ next. run look (over check next xs))) (each_adds rows x)
    ∙ over_adds look check made each_adds (rows ++ made x) xs
    ∙ ap (λ (all : Rows). fine all) (append_assoc rows (made x) (flat_map made xs))

object_adds : (cat : Catalog) (table : InfoTable) (schema : List ℕ) (rows : Rows) (name : List ℕ) → run (all_of cat) (with_object table schema rows name) ≡ fine (rows ++ object_rows cat table schema name)
unfolding with_object
object_adds cat info schema rows name = refl

schema_adds : (cat : Catalog) (table : InfoTable) (rows : Rows) (schema : List ℕ) → run (all_of cat) (with_schema table rows schema) ≡ fine (rows ++ schema_rows cat table schema)
unfolding with_schema
schema_adds cat info rows schema = over_adds (all_of cat) (with_object info schema) (object_rows cat info schema) (object_adds cat info schema) rows (names_seen (sight_of cat (keys.Objects schema)))

pub whole : (cat : Catalog) (table : InfoTable) → run (all_of cat) (objects_listing table) ≡ fine (Lists (listed table (all_rows cat table)))
unfolding objects_listing
whole cat table =
    run_bind (all_of cat) (over (with_schema table) [] (names_seen (sight_of cat keys.Schemas))) (λ rows. done (Lists (listed table rows)))
    ∙ ap (λ found. go_on found (λ rows. fine (Lists (listed table rows)))) (over_adds (all_of cat) (with_schema table) (schema_rows cat table) (schema_adds cat table) [] (names_seen (sight_of cat keys.Schemas)))
