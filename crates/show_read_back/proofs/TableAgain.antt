-- A table of a valid catalog, made again from what its text says.
use Rattle.std.specs.Prelude.{◌≡◌, ℕ, Bool, true, false, ◌&&◌, not, nat_le, nat_lt, List, [], map, length, Option, Some, None, refl}
use Rattle.std.specs.List.{list_all, count_by}
use Rattle.std.specs.Option.{is_none}
use Rattle.std.proofs.Common.{◌∙◌, ap, inl, inr}
use Rattle.std.proofs.lemmas.Bool.{and_parts, and_from, or_cases, or_left, or_right}
use Rattle.dd_names.specs.declared.object_name.ObjName.{ObjName}
use Rattle.dd_names.specs.declared.object_name.ObjectKey.TheVariants as keys
use Rattle.dd_errors.specs.Errors.{ErrorValue}
use Rattle.sql_types.specs.declared.words.ColumnWords.{ColumnWords}
use Rattle.sql_types.specs.declared.words.KeyWords.{KeyWords}
use Rattle.sql_types.specs.declared.words.FkWords.{FkWords}
use Rattle.dd_definitions.specs.Columns.{is_same_column, are_columns_named, is_typed, are_columns_formed}
use Rattle.dd_definitions.specs.Distinct.{are_distinct}
use Rattle.dd_definitions.specs.Indexes.{is_secondary, is_same_index, is_primary_first, is_integer, is_index_formed, are_few_indexes, are_ranked_from, are_indexes_formed, leads_index, is_auto_formed, are_few_autos, are_autos_formed}
use Rattle.dd_definitions.specs.ForeignKeys.{is_same_constraint, is_foreign_key_formed, are_in_order, are_foreign_keys_formed}
use Rattle.dd_definitions.specs.WellFormed.{is_well_formed}
use Rattle.dd_definitions.specs.declared.columns.ColumnDef.{ColumnDef}
use Rattle.dd_definitions.specs.declared.indexes.IndexDef.{IndexDef}
use Rattle.dd_definitions.specs.declared.parts.TableParts.{TableParts}
use Rattle.sql_ast.specs.declared.session.SessionState.{SessionState}
use Rattle.dd_catalog.specs.Sights.{Nothing, SchemaThere}
use Rattle.dd_catalog.specs.Walks.{Walk, done, ◌>>=◌, Found, fine, run, look_at, refuse_if, over}
use Rattle.dd_catalog.specs.WalkLaws.{Look, run_fine}
use Rattle.rules_refusals.specs.Refusals as refusals
use Rattle.rules_named.specs.Named.{object_in, resolved, schema_there, one_named}
use Rattle.rules_create.specs.Tables.{all_columns, one_key, one_foreign_key, by_class, is_auto_led, are_autos_led, within_limits, of_columns, table_of, table_made, create_table}
use Rattle.rules_create.proofs.Lists.{all_weaker}
use Rattle.show_text_laws.specs.Said.{column_said, index_said, foreign_key_said, elements_said, table_named}
use Rattle.show_read_back.proofs.ByRank.{by_class_stays}
use Rattle.show_read_back.proofs.ColumnsAgain.{not_over, columns_again}
use Rattle.show_read_back.proofs.Elements.{columns_are, all_keys_are, foreign_keys_are}
use Rattle.show_read_back.proofs.ForeignKeysAgain.{EachStands, foreign_keys_again}
use Rattle.show_read_back.proofs.KeysAgain.{keys_again}
use Rattle.show_read_back.proofs.Parents.{so_far}
use Rattle.show_read_back.proofs.Steps.{passes, run_then, run_seen}

-- ## What a table that fits together has

record AreColumns (columns : List ColumnDef) : Type 0 where
  some : nat_le 1 (length columns) ≡ true
  few : nat_le (length columns) 1017 ≡ true
  distinct : are_distinct is_same_column columns ≡ true
  typed : list_all is_typed columns ≡ true

column_parts : (columns : List ColumnDef) → are_columns_formed columns ≡ true → AreColumns columns
unfolding are_columns_formed are_columns_named
column_parts columns is =
    let (named, typed) = and_parts (nat_le 1 (length columns) && nat_le (length columns) 1017 && are_distinct is_same_column columns) (list_all is_typed columns) is in
    let (counted, distinct) = and_parts (nat_le 1 (length columns) && nat_le (length columns) 1017) (are_distinct is_same_column columns) named in
    let (some, few) = and_parts (nat_le 1 (length columns)) (nat_le (length columns) 1017) counted in
    record { some = some; few = few; distinct = distinct; typed = typed }

record AreIndexes (columns : List ColumnDef) (indexes : List IndexDef) : Type 0 where
  first : is_primary_first indexes ≡ true
  distinct : are_distinct is_same_index indexes ≡ true
  formed : list_all (is_index_formed columns) indexes ≡ true
  few : nat_le (count_by is_secondary indexes) 64 ≡ true
  ranked : are_ranked_from columns 0 indexes ≡ true

index_parts : (columns : List ColumnDef) (indexes : List IndexDef) → are_indexes_formed columns indexes ≡ true → AreIndexes columns indexes
unfolding are_indexes_formed are_few_indexes
index_parts columns indexes is =
    let few = nat_le (count_by is_secondary indexes) 64 in
    let (four, ranked) = and_parts (is_primary_first indexes && are_distinct is_same_index indexes && list_all (is_index_formed columns) indexes && few) (are_ranked_from columns 0 indexes) is in
    let (three, counted) = and_parts (is_primary_first indexes && are_distinct is_same_index indexes && list_all (is_index_formed columns) indexes) few four in
    let (two, formed) = and_parts (is_primary_first indexes && are_distinct is_same_index indexes) (list_all (is_index_formed columns) indexes) three in
    let (first, distinct) = and_parts (is_primary_first indexes) (are_distinct is_same_index indexes) two in
    record { first = first; distinct = distinct; formed = formed; few = counted; ranked = ranked }

record AreAutos (columns : List ColumnDef) (indexes : List IndexDef) : Type 0 where
  few : are_few_autos columns ≡ true
  formed : list_all (is_auto_formed indexes) columns ≡ true

auto_parts : (columns : List ColumnDef) (indexes : List IndexDef) → are_autos_formed columns indexes ≡ true → AreAutos columns indexes
unfolding are_autos_formed
auto_parts columns indexes is =
    let (few, formed) = and_parts (are_few_autos columns) (list_all (is_auto_formed indexes) columns) is in
    record { few = few; formed = formed }

record AreForeignKeys (parts : TableParts) : Type 0 where
  few : nat_le (length parts.foreign_keys) 1024 ≡ true
  formed : list_all (is_foreign_key_formed parts.columns parts.indexes) parts.foreign_keys ≡ true
  distinct : are_distinct is_same_constraint parts.foreign_keys ≡ true
  ordered : are_in_order parts.foreign_keys ≡ true

foreign_key_parts : (parts : TableParts) → are_foreign_keys_formed parts.columns parts.indexes parts.foreign_keys ≡ true → AreForeignKeys parts
unfolding are_foreign_keys_formed
foreign_key_parts parts is =
    let few = nat_le (length parts.foreign_keys) 1024 in
    let formed = list_all (is_foreign_key_formed parts.columns parts.indexes) parts.foreign_keys in
    let distinct = are_distinct is_same_constraint parts.foreign_keys in
    let (three, ordered) = and_parts (few && formed && distinct) (are_in_order parts.foreign_keys) is in
    let (two, apart) = and_parts (few && formed) distinct three in
    let (counted, each) = and_parts few formed two in
    record { few = counted; formed = each; distinct = apart; ordered = ordered }

record IsFormed (parts : TableParts) : Type 0 where
  columns : AreColumns parts.columns
  indexes : AreIndexes parts.columns parts.indexes
  autos : AreAutos parts.columns parts.indexes
  foreign_keys : AreForeignKeys parts

table_parts : (parts : TableParts) → is_well_formed parts ≡ true → IsFormed parts
unfolding is_well_formed
table_parts parts is =
    let columns = are_columns_formed parts.columns in
    let indexes = are_indexes_formed parts.columns parts.indexes in
    let autos = are_autos_formed parts.columns parts.indexes in
    let keys = are_foreign_keys_formed parts.columns parts.indexes parts.foreign_keys in
    let (three, d) = and_parts (columns && indexes && autos) keys is in
    let (two, c) = and_parts (columns && indexes) autos three in
    let (a, b) = and_parts columns indexes two in
    record { columns = column_parts parts.columns a; indexes = index_parts parts.columns parts.indexes b; autos = auto_parts parts.columns parts.indexes c; foreign_keys = foreign_key_parts parts d }

-- ## Within the limits

auto_led : (indexes : List IndexDef) (c : ColumnDef) → is_auto_formed indexes c ≡ true → is_auto_led indexes c ≡ true
unfolding is_auto_formed
auto_led indexes c is = elim (or_cases (not c.auto) (is_integer c.kind && not c.nullable && is_none c.default && leads_index indexes c.name) is) [
  | inl plain ↦ or_left (not c.auto) (leads_index indexes c.name) plain
  | inr auto ↦ or_right (not c.auto) (leads_index indexes c.name) (and_parts (is_integer c.kind && not c.nullable && is_none c.default) (leads_index indexes c.name) auto).1
]

autos_led : (parts : TableParts) → AreAutos parts.columns parts.indexes → are_autos_led parts ≡ true
unfolding are_autos_led
autos_led parts autos =
    and_from (are_few_autos parts.columns) (list_all (is_auto_led parts.indexes) parts.columns) autos.few
    (all_weaker (is_auto_formed parts.indexes) (is_auto_led parts.indexes) (auto_led parts.indexes) parts.columns autos.formed)

limits_kept : (parts : TableParts) → IsFormed parts → within_limits parts ≡ done tt
unfolding within_limits
limits_kept parts formed =
    passes (nat_lt 64 (count_by is_secondary parts.indexes)) refusals.too_many_keys _ (not_over 64 (count_by is_secondary parts.indexes) formed.indexes.few)
    ∙ passes (not (are_autos_led parts)) refusals.wrong_auto_key _ (ap not (autos_led parts formed.autos))
    ∙ ap (λ (b : Bool). refuse_if b (refusals.beyond_limit "1024")) (not_over 1024 (length parts.foreign_keys) formed.foreign_keys.few)

-- ## The whole table

-- what the elements make of the table, by the words that they have
abbrev made_of : ObjName → List ColumnWords → List KeyWords → List FkWords → Walk ErrorValue TableParts
made_of table columns keys foreign_keys =
    all_columns columns >>= λ made. over (one_key columns) (of_columns table made) keys >>= λ keyed. over one_foreign_key keyed foreign_keys >>= λ parts. within_limits parts >>= λ _.
    done (record parts { indexes = by_class parts.columns parts.indexes })

as_words : (parts : TableParts) → table_of parts.name (elements_said parts) ≡ made_of parts.name (map column_said parts.columns) (map index_said parts.indexes) (map (foreign_key_said parts.name.schema) parts.foreign_keys)
unfolding table_of
as_words parts = λ i. made_of parts.name (columns_are parts i) (all_keys_are parts i) (foreign_keys_are parts i)

made_again : (look : Look) (parts : TableParts) → IsFormed parts → EachStands look parts
    → run look (made_of parts.name (map column_said parts.columns) (map index_said parts.indexes) (map (foreign_key_said parts.name.schema) parts.foreign_keys)) ≡ fine parts
made_again look parts formed stands =
    let bare : TableParts = of_columns parts.name parts.columns in
    let columns : List ColumnWords = map column_said parts.columns in
    let fs : List FkWords = map (foreign_key_said parts.name.schema) parts.foreign_keys in
    let answer : List IndexDef → Found ErrorValue TableParts = λ is. fine (record parts { indexes = is }) in
    run_then look (all_columns columns) _ parts.columns (columns_again parts.indexes parts.columns formed.columns.some formed.columns.few formed.columns.distinct formed.columns.typed formed.autos.formed)
    ∙ run_then look (over (one_key columns) bare (map index_said parts.indexes)) _ (so_far parts [])
    (keys_again bare parts.indexes refl formed.columns.distinct formed.indexes.formed formed.indexes.first formed.indexes.distinct)
    ∙ run_fine look (over one_foreign_key (so_far parts []) fs) _ parts
    (foreign_keys_again look parts formed.columns.distinct formed.foreign_keys.formed stands formed.foreign_keys.distinct formed.foreign_keys.ordered)
    ∙ run_then look (within_limits parts) _ tt (limits_kept parts formed)
    ∙ ap answer (by_class_stays parts.columns parts.indexes formed.indexes.ranked)

table_again : (look : Look) (parts : TableParts) → IsFormed parts → EachStands look parts → run look (table_of parts.name (elements_said parts)) ≡ fine parts
table_again look parts formed stands = ap (λ (w : Walk ErrorValue TableParts). run look w) (as_words parts) ∙ made_again look parts formed stands

-- ## The statement

schema_again : (look : Look) (schema : List ℕ) → look (keys.Schema schema) ≡ Some SchemaThere → run look (schema_there schema) ≡ fine tt
unfolding schema_there
schema_again look schema there = run_fine look (look_at (keys.Schema schema)) _ SchemaThere (run_seen look (keys.Schema schema) SchemaThere there)

name_again : (look : Look) (schema name : List ℕ) → look (keys.Schema schema) ≡ Some SchemaThere → run look (one_named (Some schema) (record { schema = None; name = name })) ≡ fine (object_in schema name)
unfolding one_named resolved
name_again look schema name there = run_fine look (schema_there schema) _ tt (schema_again look schema there)

pub created_again : (look : Look) (session : SessionState) (parts : TableParts) → is_well_formed parts ≡ true → EachStands look parts → look (keys.Schema parts.name.schema) ≡ Some SchemaThere
    → look (keys.Object parts.name) ≡ Some Nothing → session.current ≡ Some parts.name.schema
    → run look (create_table session false (table_named parts) (elements_said parts)) ≡ fine (table_made session parts.name parts)
unfolding create_table
created_again look session parts formed stands schema absent current =
    let named : run look (one_named session.current (table_named parts)) ≡ fine parts.name =
    ap (λ (c : Option (List ℕ)). run look (one_named c (table_named parts))) current ∙ name_again look parts.name.schema parts.name.name schema in
    run_fine look (one_named session.current (table_named parts)) _ parts.name named
    ∙ run_fine look (look_at (keys.Object parts.name)) _ Nothing (run_seen look (keys.Object parts.name) Nothing absent)
    ∙ run_fine look (table_of parts.name (elements_said parts)) _ parts (table_again look parts (table_parts parts formed) stands)
