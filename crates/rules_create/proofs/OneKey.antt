-- What a key leaves of a table.
use Rattle.std.specs.Prelude.{◌≡◌, ◌+◌, ◌≤◌, ◌==◌, true, false, ◌&&◌, List, [], ◌∷◌, ◌++◌, length, refl}
use Rattle.std.specs.List.{list_any, count_by}
use Rattle.std.proofs.Common.{◌∙◌, ap, subst, arith}
use Rattle.std.proofs.lemmas.Bool.{and_parts}
use Rattle.dd_names.specs.declared.object_name.ObjName.{ObjName}
use Rattle.sql_types.specs.declared.words.ColumnWords.{ColumnWords}
use Rattle.sql_types.specs.declared.words.KeyWords.{KeyWords}
use Rattle.dd_definitions.specs.Columns.{are_key_columns}
use Rattle.dd_definitions.specs.Indexes.{is_primary, is_secondary, is_well_named, is_never_null, is_index_formed}
use Rattle.dd_definitions.specs.declared.columns.ColumnDef.{ColumnDef}
use Rattle.dd_definitions.specs.declared.indexes.IndexDef.{IndexDef}
use Rattle.dd_definitions.specs.declared.parts.TableParts.{TableParts}
use Rattle.dd_catalog.specs.Walks.{fine, run, refuse_if, over}
use Rattle.dd_catalog.specs.WalkLaws.{Look}
use Rattle.dd_catalog.specs.Asked.{fine_is, bind_fine, over_keeps}
use Rattle.rules_elements.specs.Keys.{key_of}
use Rattle.rules_refusals.specs.Refusals.{key_column_does_not_exist}
use Rattle.rules_refusals.specs.Refusals as refusals
use Rattle.rules_create.specs.Tables.{is_null_written, with_index, some_columns, one_key}
use Rattle.rules_create.proofs.MadeKeys.{IsReady, IsIndexMade, index_is_made}
use Rattle.rules_create.proofs.Lists.{all_weaker, one_if, count_push, count_both}
use Rattle.rules_create.proofs.Names.{not_refused}
use Rattle.rules_create.proofs.WithIndex.{IsWith, index_is_with, AreIndexed, index_keeps}

-- ## So few indexes

-- no more than 64 beside the primary key
abbrev pub AreFew : TableParts → Type 0
AreFew parts = count_by is_secondary parts.indexes ≤ 64

formed_named : (columns : List ColumnDef) (index : IndexDef) → is_index_formed columns index ≡ true → is_well_named index ≡ true
unfolding is_index_formed
formed_named columns index formed =
    let both = (and_parts (are_key_columns columns index.columns && is_well_named index) (is_never_null columns index) formed).0 in
    (and_parts (are_key_columns columns index.columns) (is_well_named index) both).1

are_ready : (parts : TableParts) → AreIndexed parts → AreFew parts → IsReady parts.indexes
are_ready parts good few =
    let both : length parts.indexes ≡ count_by is_primary parts.indexes + count_by is_secondary parts.indexes = count_both is_primary parts.indexes in
    let single : count_by is_primary parts.indexes ≤ 1 = good.single in
    record {
      few = omega arith;
      named = all_weaker (is_index_formed parts.columns) is_well_named (formed_named parts.columns) parts.indexes good.formed;
    }

-- ## One index more

pub with_indexes : (parts : TableParts) (index : IndexDef) → (with_index parts index).indexes ≡ parts.indexes ++ index ∷ []
unfolding with_index
with_indexes parts index = refl

pub with_name : (parts : TableParts) (index : IndexDef) → (with_index parts index).name ≡ parts.name
unfolding with_index
with_name parts index = refl

pub with_foreign_keys : (parts : TableParts) (index : IndexDef) → (with_index parts index).foreign_keys ≡ parts.foreign_keys
unfolding with_index
with_foreign_keys parts index = refl

pub few_before : (parts : TableParts) (index : IndexDef) → AreFew (with_index parts index) → AreFew parts
few_before parts index few =
    let all : count_by is_secondary (with_index parts index).indexes ≡ count_by is_secondary (parts.indexes ++ index ∷ []) = ap (count_by is_secondary) (with_indexes parts index) in
    let more : count_by is_secondary (parts.indexes ++ index ∷ []) ≡ count_by is_secondary parts.indexes + one_if (is_secondary index) = count_push is_secondary parts.indexes index in
    omega arith

pub record IsAdded (look : Look) (parts : TableParts) (key : KeyWords) (index : IndexDef) : Type 0 where
  pub made : IsIndexMade look parts key index
  pub more : IsWith parts index (with_index parts index)
  pub good : AreIndexed (with_index parts index)

pub index_added : (look : Look) (parts : TableParts) (key : KeyWords) (index : IndexDef) → AreIndexed parts → AreFew parts → (length key.columns == 0) ≡ false → run look (key_of parts key) ≡ fine index → IsAdded look parts key index
index_added look parts key index good few some is =
    let made : IsIndexMade look parts key index = index_is_made look parts key index (are_ready parts good few) some is in
    let more : IsWith parts index (with_index parts index) = index_is_with parts index good.sound in
    record { made = made; more = more; good = index_keeps look parts key index (with_index parts index) good made more }

-- ## All keys

-- the table behind some of its keys
pub record IsKeyed (table : ObjName) (parts : TableParts) : Type 0 where
  pub name : parts.name ≡ table
  pub none : parts.foreign_keys ≡ []
  pub good : AreFew parts → AreIndexed parts

key_keeps : (look : Look) (table : ObjName) (written : List ColumnWords) (parts : TableParts) (words : KeyWords) (next : TableParts) → IsKeyed table parts → run look (one_key written parts words) ≡ fine next → IsKeyed table next
unfolding one_key
key_keeps look table written parts words next so_far is =
    let (_, some, after_some) = bind_fine look (some_columns words.columns) _ next is in
    let (index, made, after_index) = bind_fine look (key_of parts words) _ next after_some in
    let (_, not_null, last) = bind_fine look (refuse_if (is_primary index && list_any (is_null_written written) index.columns) refusals.primary_cant_have_null) _ next after_index in
    let any = not_refused look (length words.columns == 0) (key_column_does_not_exist []) tt some in
    subst (IsKeyed table) (fine_is last) (record {
      name = with_name parts index ∙ so_far.name;
      none = with_foreign_keys parts index ∙ so_far.none;
      good = λ few. let before : AreFew parts = few_before parts index few in (index_added look parts words index (so_far.good before) before any made).good;
    })

pub keys_keep : (look : Look) (table : ObjName) (written : List ColumnWords) (start : TableParts) (words : List KeyWords) (keyed : TableParts) → IsKeyed table start → run look (over (one_key written) start words) ≡ fine keyed → IsKeyed table keyed
keys_keep look table written start words keyed good is = over_keeps (IsKeyed table) look (one_key written) (key_keeps look table written) start words keyed good is
