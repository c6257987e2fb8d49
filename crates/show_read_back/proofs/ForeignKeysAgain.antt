-- The foreign keys of a table of a valid catalog, made again from what its text says.
use Rattle.std.specs.Prelude.{◌≡◌, ℕ, ◌==◌, Bool, true, false, ◌&&◌, not, nat_lt, List, [], ◌∷◌, ◌++◌, map, length, Some, None, refl}
use Rattle.std.specs.List.{list_all}
use Rattle.std.specs.Str.{bytes_eq}
use Rattle.std.proofs.Common.{sym, ◌∙◌, ap, subst}
use Rattle.std.proofs.lemmas.Bool.{and_parts, or_from, cond-true}
use Rattle.std.proofs.lemmas.List.{append-nil, append_assoc}
use Rattle.dd_names.specs.Names.{fold}
use Rattle.dd_names.specs.declared.object_name.ObjName.{ObjName}
use Rattle.dd_names.specs.declared.object_name.ObjectKey.TheVariants as keys
use Rattle.dd_errors.specs.Errors.{ErrorValue}
use Rattle.sql_types.specs.declared.words.FkWords.{FkWords}
use Rattle.dd_definitions.specs.Columns.{is_same_column, are_key_columns}
use Rattle.dd_definitions.specs.Distinct.{are_distinct}
use Rattle.dd_definitions.specs.ForeignKeys.{is_same_constraint, has_index_on, is_foreign_key_formed, are_in_order}
use Rattle.dd_definitions.specs.declared.foreign_keys.ForeignKeyDef.{ForeignKeyDef}
use Rattle.dd_definitions.specs.declared.parts.TableParts.{TableParts}
use Rattle.dd_catalog.specs.Kinds.{first_odd_pair}
use Rattle.dd_catalog.specs.Walks.{done, ◌>>=◌, Found, fine, run, look_at, refuse_if, over}
use Rattle.dd_catalog.specs.WalkLaws.{Look, run_fine}
use Rattle.rules_elements.specs.ForeignKeys.{parent_of, has_index_from, odd_pair_refused, set_null_refused, spelled, is_owned_elsewhere, has_constraint_named, name_is_free, foreign_key_of}
use Rattle.rules_elements.specs.Keys.{key_columns, key_of}
use Rattle.rules_refusals.specs.Refusals.{too_many_key_parts, key_column_does_not_exist, fk_no_index_parent, fk_dup_name}
use Rattle.rules_refusals.specs.Refusals as refusals
use Rattle.rules_create.specs.Tables.{constraint_name, key_for, with_index, with_key_index, name_in_text, schema_or, parent_named, key_named, one_foreign_key}
use Rattle.rules_create.proofs.Names.{bytes_are}
use Rattle.show_text_laws.specs.Said.{schema_unless, parent_said, foreign_key_said}
use Rattle.show_read_back.proofs.ColumnsAgain.{not_over, not_none}
use Rattle.show_read_back.proofs.KeysAgain.{AreKeyColumns, key_parts}
use Rattle.show_read_back.proofs.Lists.{apart_before}
use Rattle.show_read_back.proofs.NamesAgain.{names_again}
use Rattle.show_read_back.proofs.Order.{put_last}
use Rattle.show_read_back.proofs.Parents.{StandsIn, so_far, parent_again, index_from, spelled_again, paired_again}
use Rattle.show_read_back.proofs.Steps.{run_passes, run_passes_some, run_then, run_seen}

-- ## The foreign key as it is written

schema_again : (schema own : List ℕ) (b : Bool) → bytes_eq schema own ≡ b → schema_or own (schema_unless b schema) ≡ schema
schema_again schema own true same = sym (bytes_are schema own same)
schema_again schema own false other = refl

parent_is : (table parent : ObjName) → parent_named table (parent_said table.schema parent) ≡ parent
parent_is table parent = ap (λ (s : List ℕ). record parent { schema = s }) (schema_again parent.schema table.schema (bytes_eq parent.schema table.schema) refl)

key_is : (table : ObjName) (key : ForeignKeyDef) → key_named (foreign_key_said table.schema key) table key.name key.columns ≡ key
key_is table key = ap (λ (p : ObjName). record key { parent = p }) (parent_is table key.parent)

-- ## The foreign key beside its parent

name_again : (look : Look) (parts : TableParts) (before : List ForeignKeyDef) (key : ForeignKeyDef) → StandsIn look parts key → has_constraint_named before key.name ≡ false → run look (name_is_free (so_far parts before) key.name) ≡ fine tt
unfolding name_is_free
name_again look parts before key stands apart =
    run_fine look (look_at (keys.Constraint parts.name.schema (fold key.name))) _ stands.owner (run_seen look (keys.Constraint parts.name.schema (fold key.name)) stands.owner stands.looked)
    ∙ ap (λ (b : Bool). run look (refuse_if b (fk_dup_name key.name))) (or_from (is_owned_elsewhere parts.name stands.owner) (has_constraint_named before key.name) stands.free apart)

key_again : (look : Look) (parts : TableParts) (before : List ForeignKeyDef) (written : List (List ℕ)) (key : ForeignKeyDef) → StandsIn look parts key → has_constraint_named before key.name ≡ false → run look (foreign_key_of (so_far parts before) written key) ≡ fine key
unfolding foreign_key_of
key_again look parts before written key stands apart =
    let seen = parent_again look parts before key.parent stands.parent stands.stands in
    let there : TableParts = seen.there in
    let indexed : has_index_from there.indexes key.parent_columns ≡ true = ap (λ is. has_index_from is key.parent_columns) seen.alike.indexes ∙ index_from stands.parent.indexes key.parent_columns stands.indexed in
    let paired = paired_again parts stands.parent written key stands.paired in
    let even : odd_pair_refused written key.name (first_odd_pair parts.columns there.columns key.columns key.parent_columns) ≡ None =
    ap (λ cs. odd_pair_refused written key.name (first_odd_pair parts.columns cs key.columns key.parent_columns)) seen.alike.columns ∙ paired.even in
    let spells : map (spelled there.columns) key.parent_columns ≡ key.parent_columns =
    ap (λ cs. map (spelled cs) key.parent_columns) seen.alike.columns ∙ spelled_again stands.parent key.parent_columns stands.well stands.indexed in
    let answer : List (List ℕ) → Found ErrorValue ForeignKeyDef = λ cs. fine (record key { parent_columns = cs }) in
    run_fine look (parent_of (so_far parts before) key.parent) _ there seen.seen
    ∙ run_passes look (not (has_index_from there.indexes key.parent_columns)) (fk_no_index_parent key.name key.parent.name) _ (ap not indexed)
    ∙ run_passes_some look (odd_pair_refused written key.name (first_odd_pair parts.columns there.columns key.columns key.parent_columns)) _ even
    ∙ run_passes_some look (set_null_refused written parts.columns key) _ paired.null
    ∙ run_fine look (name_is_free (so_far parts before) key.name) _ tt (name_again look parts before key stands apart)
    ∙ ap answer spells

-- ## One foreign key more

record IsFormed (parts : TableParts) (key : ForeignKeyDef) : Type 0 where
  fits : AreKeyColumns parts.columns key.columns
  even : (length key.columns == length key.parent_columns) ≡ true
  indexed : has_index_on parts.indexes key.columns ≡ true

formed_parts : (parts : TableParts) (key : ForeignKeyDef) → is_foreign_key_formed parts.columns parts.indexes key ≡ true → IsFormed parts key
unfolding is_foreign_key_formed
formed_parts parts key is =
    let (two, indexed) = and_parts (are_key_columns parts.columns key.columns && (length key.columns == length key.parent_columns)) (has_index_on parts.indexes key.columns) is in
    let (fits, even) = and_parts (are_key_columns parts.columns key.columns) (length key.columns == length key.parent_columns) two in
    record { fits = key_parts parts.columns key.columns fits; even = even; indexed = indexed }

given_name : (parts : TableParts) (name : List ℕ) → constraint_name parts (Some name) ≡ done name
unfolding constraint_name
given_name parts name = refl

index_there : (parts : TableParts) (words : FkWords) (columns : List (List ℕ)) → has_index_on parts.indexes columns ≡ true → with_key_index parts words columns ≡ done parts
unfolding with_key_index
index_there parts words columns is = cond-true (has_index_on parts.indexes columns) (done parts) (key_of parts (key_for words columns) >>= λ index. done (with_index parts index)) is

one_again : (look : Look) (parts : TableParts) (before : List ForeignKeyDef) (key : ForeignKeyDef) (after : List ForeignKeyDef) → are_distinct is_same_column parts.columns ≡ true
    → is_foreign_key_formed parts.columns parts.indexes key ≡ true → StandsIn look parts key → are_distinct is_same_constraint (before ++ key ∷ after) ≡ true → are_in_order (before ++ key ∷ after) ≡ true
    → run look (one_foreign_key (so_far parts before) (foreign_key_said parts.name.schema key)) ≡ fine (so_far parts (before ++ key ∷ []))
unfolding one_foreign_key
one_again look parts before key after distinct formed stands apart ordered =
    let f = formed_parts parts key formed in
    let table : TableParts = so_far parts before in
    let words : FkWords = foreign_key_said parts.name.schema key in
    let made : run look (foreign_key_of table key.columns (key_named words parts.name key.name key.columns)) ≡ fine key =
    subst (λ (k : ForeignKeyDef). run look (foreign_key_of table key.columns k) ≡ fine key) (sym (key_is parts.name key)) (key_again look parts before key.columns key stands (apart_before is_same_constraint before key after apart)) in
    let answer : List ForeignKeyDef → Found ErrorValue TableParts = λ ks. fine (so_far parts ks) in
    run_passes look (not (length key.columns == length key.parent_columns)) (refusals.wrong_fk_def (name_in_text (Some key.name))) _ (ap not f.even)
    ∙ run_passes look (nat_lt 16 (length key.columns)) too_many_key_parts _ (not_over 16 (length key.columns) f.fits.few)
    ∙ run_passes look (length key.columns == 0) (key_column_does_not_exist []) _ (not_none (length key.columns) f.fits.some)
    ∙ run_then look (key_columns parts.columns key.columns) _ key.columns (names_again parts.columns key.columns distinct f.fits.distinct f.fits.there)
    ∙ run_then look (constraint_name table (Some key.name)) _ key.name (given_name table key.name)
    ∙ run_then look (with_key_index table words key.columns) _ table (index_there table words key.columns f.indexed)
    ∙ run_fine look (foreign_key_of table key.columns (key_named words parts.name key.name key.columns)) _ key made
    ∙ ap answer (put_last before key after ordered)

-- ## All foreign keys

-- each foreign key of the table, by what stands in front of it and behind it
abbrev pub EachStands : Look → TableParts → Type 0
EachStands look parts = (before : List ForeignKeyDef) (key : ForeignKeyDef) (after : List ForeignKeyDef) → before ++ key ∷ after ≡ parts.foreign_keys → StandsIn look parts key

keys_from : (look : Look) (parts : TableParts) (before keys : List ForeignKeyDef) → are_distinct is_same_column parts.columns ≡ true → list_all (is_foreign_key_formed parts.columns parts.indexes) keys ≡ true
    → EachStands look parts → are_distinct is_same_constraint parts.foreign_keys ≡ true → are_in_order parts.foreign_keys ≡ true → before ++ keys ≡ parts.foreign_keys
    → run look (over one_foreign_key (so_far parts before) (map (foreign_key_said parts.name.schema) keys)) ≡ fine (so_far parts (before ++ keys))
keys_from look parts before [] distinct formed stands apart ordered all =
    let answer : List ForeignKeyDef → Found ErrorValue TableParts = λ ks. fine (so_far parts ks) in ap answer (sym (append-nil before))
keys_from look parts before (key ∷ keys) distinct formed stands apart ordered all =
    let (here, later) = and_parts (is_foreign_key_formed parts.columns parts.indexes key) (list_all (is_foreign_key_formed parts.columns parts.indexes) keys) formed in
    let same_list = append_assoc before (key ∷ []) keys in
    let rest = keys_from look parts (before ++ key ∷ []) keys distinct later stands apart ordered (same_list ∙ all) in
    run_fine look (one_foreign_key (so_far parts before) (foreign_key_said parts.name.schema key)) _ (so_far parts (before ++ key ∷ []))
    (one_again look parts before key keys distinct here (stands before key keys all) (subst (λ (ks : List ForeignKeyDef). are_distinct is_same_constraint ks ≡ true) (sym all) apart)
    (subst (λ (ks : List ForeignKeyDef). are_in_order ks ≡ true) (sym all) ordered))
    ∙ subst (λ (ks : List ForeignKeyDef). run look (over one_foreign_key (so_far parts (before ++ key ∷ [])) (map (foreign_key_said parts.name.schema) keys)) ≡ fine (so_far parts ks)) same_list rest

pub foreign_keys_again : (look : Look) (parts : TableParts) → are_distinct is_same_column parts.columns ≡ true → list_all (is_foreign_key_formed parts.columns parts.indexes) parts.foreign_keys ≡ true
    → EachStands look parts → are_distinct is_same_constraint parts.foreign_keys ≡ true → are_in_order parts.foreign_keys ≡ true
    → run look (over one_foreign_key (so_far parts []) (map (foreign_key_said parts.name.schema) parts.foreign_keys)) ≡ fine parts
foreign_keys_again look parts distinct formed stands apart ordered = keys_from look parts [] parts.foreign_keys distinct formed stands apart ordered refl
