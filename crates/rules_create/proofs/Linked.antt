-- A foreign key beside those that the table has: they count for its name alone.
use Rattle.std.specs.Prelude.{◌≡◌, ℕ, Bool, true, false, ◌&&◌, ◌||◌, not, nat_lt, List, [], ◌∷◌, map, length, Option, Some, None, if◌then◌else◌, refl}
use Rattle.std.specs.List.{list_any, flat_map}
use Rattle.std.proofs.Common.{sym, ◌∙◌, ap, subst}
use Rattle.dd_names.specs.Names.{fold}
use Rattle.dd_names.specs.declared.object_name.ObjectKey.{ObjectKey}
use Rattle.dd_names.specs.declared.object_name.ObjectKey.TheVariants as at_key
use Rattle.dd_errors.specs.Errors.{ErrorValue}
use Rattle.sql_types.specs.declared.words.FkWords.{FkWords}
use Rattle.sql_types.specs.declared.words.KeyWords.{KeyWords}
use Rattle.sql_ast.specs.declared.element.Element.{Element}
use Rattle.dd_definitions.specs.Indexes.{is_primary, is_primary_class}
use Rattle.dd_definitions.specs.ForeignKeys.{has_index_on}
use Rattle.dd_definitions.specs.declared.foreign_keys.ForeignKeyDef.{ForeignKeyDef}
use Rattle.dd_definitions.specs.declared.indexes.IndexDef.{IndexDef}
use Rattle.dd_definitions.specs.declared.parts.TableParts.{TableParts}
use Rattle.dd_catalog.specs.declared.stop.Stop.{Stop}
use Rattle.dd_catalog.specs.Catalog.{is_same_object}
use Rattle.dd_catalog.specs.Kinds.{first_odd_pair}
use Rattle.dd_catalog.specs.Sights.{Sight}
use Rattle.dd_catalog.specs.Walks.{Walk, done, refuse, ask, ◌>>=◌, Found, fine, refused, needs, told, run, look_at, refuse_if, refuse_some, over}
use Rattle.dd_catalog.specs.WalkLaws.{Look, go_on, run_bind}
use Rattle.dd_catalog.specs.LoopLaws.{stops_all}
use Rattle.dd_catalog.specs.Follow.{Stops}
use Rattle.rules_refusals.specs.Refusals.{multiple_pri_key, too_many_key_parts, fk_no_index_parent, fk_dup_name}
use Rattle.rules_elements.specs.Keys.{key_columns, given_name, allowed_name, key_name, key_of}
use Rattle.rules_elements.specs.ForeignKeys.{table_seen, parent_of, has_index_from, odd_pair_refused, set_null_refused, spelled, is_owned_elsewhere, has_constraint_named, name_is_free, with_parent_columns, foreign_key_of}
use Rattle.rules_create.specs.Tables.{foreign_key_in, with_index, key_for, with_key_index, put_in_order, one_foreign_key}
use Rattle.rules_create.specs.Made.{with_foreign_key}
use Rattle.rules_create.specs.declared.drafts.Draft.{Draft}
use Rattle.rules_create.specs.declared.ordered_keys.OrderedKeys.{OrderedKeys}
use Rattle.rules_create.specs.Drafts.{IsDraft, keys_in, with_keys, added_key, whole}

abbrev came : {A : Type 0} → A → Found ErrorValue A
came x = fine x

-- a walk that goes on otherwise behind a check does so behind the check and what comes before it
bind_moves : {E A B C : Type 0} (look : Look) (check : Walk E A) (next : A → Walk E C) (shorter : A → Walk E B) (more : B → Found E C) → ((x : A) → run look (next x) ≡ go_on (run look (shorter x)) more)
    → run look (check >>= next) ≡ go_on (run look (check >>= shorter)) more
bind_moves {E = E} {A = A} {B = B} look check next shorter more each = run_bind look check next ∙ at (run look check) ∙ ap (λ found. go_on found more) (sym (run_bind look check shorter))
  where
    at : (found : Found E A) → go_on found (λ x. run look (next x)) ≡ go_on (go_on found (λ x. run look (shorter x))) more
    at (fine x) = each x
    at (refused e) = refl
    at (needs key) = refl

-- ## The index of a foreign key

name_same : (parts : TableParts) (keys : List ForeignKeyDef) (primary : Bool) (given : Option (List ℕ)) (columns : List (List ℕ)) → key_name (with_keys parts keys) primary given columns ≡ key_name parts primary given columns
unfolding key_name
name_same parts keys true given columns = refl
name_same parts keys false None columns = refl
name_same parts keys false (Some name) columns = refl

key_same : (parts : TableParts) (keys : List ForeignKeyDef) (key : KeyWords) → key_of (with_keys parts keys) key ≡ key_of parts key
unfolding key_of
key_same parts keys key = ap behind (λ i columns. name_same parts keys (is_primary_class key.class) (given_name key) columns i)
  where
    behind : (List (List ℕ) → Walk ErrorValue (List ℕ)) → Walk ErrorValue IndexDef
    behind named = do
      _ ← refuse_if (is_primary_class key.class && list_any is_primary parts.indexes) multiple_pri_key
      _ ← allowed_name (is_primary_class key.class) (given_name key)
      _ ← refuse_if (nat_lt 16 (length key.columns)) too_many_key_parts
      columns ← key_columns parts.columns key.columns
      name ← named columns
      done (record { name = name; class = key.class; columns = columns })

index_beside : (look : Look) (parts : TableParts) (keys : List ForeignKeyDef) (words : FkWords) (columns : List (List ℕ))
    → run look (with_key_index (with_keys parts keys) words columns) ≡ go_on (run look (with_key_index parts words columns)) (λ indexed. fine (with_keys indexed keys))
unfolding with_key_index with_index
index_beside look parts keys words columns = at (has_index_on parts.indexes columns)
  where
    made : (found : Found ErrorValue IndexDef) → go_on found (λ index. came (with_index (with_keys parts keys) index)) ≡ go_on (go_on found (λ index. came (with_index parts index))) (λ indexed. fine (with_keys indexed keys))
    made (fine index) = refl
    made (refused e) = refl
    made (needs key) = refl

    at : (b : Bool) → run look (if b then done (with_keys parts keys) else (key_of (with_keys parts keys) (key_for words columns) >>= λ index. done (with_index (with_keys parts keys) index)))
        ≡ go_on (run look (if b then done parts else (key_of parts (key_for words columns) >>= λ index. done (with_index parts index)))) (λ indexed. fine (with_keys indexed keys))
    at true = refl
    at false =
        ap (λ check. run look (check >>= λ index. done (with_index (with_keys parts keys) index))) (key_same parts keys (key_for words columns))
        ∙ run_bind look (key_of parts (key_for words columns)) (λ index. done (with_index (with_keys parts keys) index))
        ∙ made (run look (key_of parts (key_for words columns)))
        ∙ ap (λ found. go_on found (λ indexed. fine (with_keys indexed keys))) (sym (run_bind look (key_of parts (key_for words columns)) (λ index. done (with_index parts index))))

-- ## The foreign key

-- its name isn't among those of the table
abbrev apart : List ForeignKeyDef → ForeignKeyDef → Walk ErrorValue ForeignKeyDef
apart keys key = refuse_if (has_constraint_named keys key.name) (fk_dup_name key.name) >>= λ _. done key

free_beside : (look : Look) (parts : TableParts) (keys : List ForeignKeyDef) (key : ForeignKeyDef)
    → run look (name_is_free (with_keys parts keys) key.name >>= λ _. done key) ≡ go_on (run look (name_is_free (with_keys parts []) key.name >>= λ _. done key)) (λ found. run look (apart keys found))
unfolding name_is_free
free_beside look parts keys key = at (look (at_key.Constraint parts.name.schema (fold key.name)))
  where
    on : (owned : Bool) → run look (refuse_if (owned || has_constraint_named keys key.name) (fk_dup_name key.name) >>= λ _. done key) ≡ go_on (run look (refuse_if (owned || false) (fk_dup_name key.name) >>= λ _. done key)) (λ found. run look (apart keys found))
    on true = refl
    on false = refl

    at : (known : Option Sight) → told known (at_key.Constraint parts.name.schema (fold key.name)) (λ owner. run look (refuse_if (is_owned_elsewhere parts.name owner || has_constraint_named keys key.name) (fk_dup_name key.name) >>= λ _. done key))
        ≡ go_on (told known (at_key.Constraint parts.name.schema (fold key.name)) (λ owner. run look (refuse_if (is_owned_elsewhere parts.name owner || false) (fk_dup_name key.name) >>= λ _. done key))) (λ found. run look (apart keys found))
    at None = refl
    at (Some owner) = on (is_owned_elsewhere parts.name owner)

-- what is looked for behind the parent
abbrev behind_parent : List (List ℕ) → TableParts → List ForeignKeyDef → ForeignKeyDef → TableParts → Walk ErrorValue ForeignKeyDef
behind_parent written parts keys key parent = do
  _ ← refuse_if (not (has_index_from parent.indexes key.parent_columns)) (fk_no_index_parent key.name key.parent.name)
  _ ← refuse_some (odd_pair_refused written key.name (first_odd_pair parts.columns parent.columns key.columns key.parent_columns))
  _ ← refuse_some (set_null_refused written parts.columns key)
  _ ← name_is_free (with_keys parts keys) key.name
  done (with_parent_columns key (map (spelled parent.columns) key.parent_columns))

parent_moves : (look : Look) (written : List (List ℕ)) (parts : TableParts) (keys : List ForeignKeyDef) (key : ForeignKeyDef) (parent : TableParts)
    → run look (behind_parent written parts keys key parent) ≡ go_on (run look (behind_parent written parts [] key parent)) (λ found. run look (apart keys found))
parent_moves look written parts keys key parent =
    let made = with_parent_columns key (map (spelled parent.columns) key.parent_columns) in
    bind_moves look (refuse_if (not (has_index_from parent.indexes key.parent_columns)) (fk_no_index_parent key.name key.parent.name)) _ _ (λ found. run look (apart keys found)) (λ _.
    bind_moves look (refuse_some (odd_pair_refused written key.name (first_odd_pair parts.columns parent.columns key.columns key.parent_columns))) _ _ (λ found. run look (apart keys found)) (λ _.
    bind_moves look (refuse_some (set_null_refused written parts.columns key)) _ _ (λ found. run look (apart keys found)) (λ _. free_beside look parts keys made)))

key_beside : (look : Look) (written : List (List ℕ)) (parts : TableParts) (keys : List ForeignKeyDef) (key : ForeignKeyDef)
    → run look (foreign_key_of (with_keys parts keys) written key) ≡ go_on (run look (foreign_key_of (with_keys parts []) written key)) (λ found. run look (apart keys found))
unfolding foreign_key_of parent_of
key_beside look written parts keys key = at (is_same_object key.parent parts.name)
  where
    other : Walk ErrorValue TableParts
    other = look_at (at_key.Object key.parent) >>= table_seen key.parent.name

    at : (b : Bool) → run look ((if b then done (with_keys parts keys) else other) >>= behind_parent written parts keys key)
        ≡ go_on (run look ((if b then done (with_keys parts []) else other) >>= behind_parent written parts [] key)) (λ found. run look (apart keys found))
    at true = parent_moves look written parts keys key (with_keys parts keys)
    at false = bind_moves look other (behind_parent written parts keys key) (behind_parent written parts [] key) (λ found. run look (apart keys found)) (parent_moves look written parts keys key)

-- ## Both

abbrev linked : List ForeignKeyDef → TableParts → Found ErrorValue (List ForeignKeyDef) → Found ErrorValue TableParts
linked keys indexed found = go_on found (λ all. fine (with_keys indexed all))

in_order : (look : Look) (indexed : TableParts) (keys : List ForeignKeyDef) (key : ForeignKeyDef)
    → go_on (run look (apart keys key)) (λ found. came (with_keys indexed (put_in_order found keys))) ≡ linked keys indexed (run look (added_key keys key))
in_order look indexed keys key = at (has_constraint_named keys key.name)
  where
    at : (b : Bool) → go_on (run look (refuse_if b (fk_dup_name key.name) >>= λ _. done key)) (λ found. came (with_keys indexed (put_in_order found keys)))
        ≡ linked keys indexed (run look (refuse_if b (fk_dup_name key.name) >>= λ _. done (put_in_order key keys)))
    at true = refl
    at false = refl

-- what stands behind the index
abbrev behind_index : Look → List (List ℕ) → List ForeignKeyDef → ForeignKeyDef → TableParts → Found ErrorValue TableParts
behind_index look written keys key indexed = go_on (run look (foreign_key_of (with_keys indexed []) written key)) (λ found. linked keys indexed (run look (added_key keys found)))

key_placed : (look : Look) (written : List (List ℕ)) (indexed : TableParts) (keys : List ForeignKeyDef) (key : ForeignKeyDef)
    → run look (foreign_key_of (with_keys indexed keys) written key >>= λ found. done (with_keys indexed (put_in_order found keys))) ≡ behind_index look written keys key indexed
key_placed look written indexed keys key =
    run_bind look (foreign_key_of (with_keys indexed keys) written key) (λ found. done (with_keys indexed (put_in_order found keys)))
    ∙ ap (λ found. go_on found (λ made. fine (with_keys indexed (put_in_order made keys)))) (key_beside look written indexed keys key)
    ∙ at (run look (foreign_key_of (with_keys indexed []) written key))
  where
    at : (found : Found ErrorValue ForeignKeyDef) → go_on (go_on found (λ made. run look (apart keys made))) (λ made. came (with_keys indexed (put_in_order made keys)))
        ≡ go_on found (λ made. linked keys indexed (run look (added_key keys made)))
    at (fine made) = in_order look indexed keys made
    at (refused e) = refl
    at (needs needed) = refl

by_parts : (look : Look) (parts : TableParts) (keys : List ForeignKeyDef) (words : FkWords) (key : ForeignKeyDef)
    → run look (with_foreign_key (with_keys parts keys) words key) ≡ go_on (run look (with_key_index parts words key.columns)) (behind_index look words.columns keys key)
unfolding with_foreign_key
by_parts look parts keys words key =
    run_bind look (with_key_index (with_keys parts keys) words key.columns) next
    ∙ ap (λ found. go_on found (λ indexed. run look (next indexed))) (index_beside look parts keys words key.columns)
    ∙ at (run look (with_key_index parts words key.columns))
  where
    next : TableParts → Walk ErrorValue TableParts
    next indexed = foreign_key_of indexed words.columns key >>= λ found. done (with_keys indexed (put_in_order found indexed.foreign_keys))

    at : (found : Found ErrorValue TableParts) → go_on (go_on found (λ indexed. came (with_keys indexed keys))) (λ indexed. run look (next indexed)) ≡ go_on found (behind_index look words.columns keys key)
    at (fine indexed) = key_placed look words.columns indexed keys key
    at (refused e) = refl
    at (needs needed) = refl

-- ## The exits

pub no_keys : (parts : TableParts) → parts.foreign_keys ≡ [] → with_keys parts [] ≡ parts
no_keys parts none = sym (ap (with_keys parts) none)

pub index_stop : (stop : Stop) (look : Look) (parts : TableParts) (keys : List ForeignKeyDef) (words : FkWords) (key : ForeignKeyDef) → Stops stop (run look (with_key_index parts words key.columns)) → Stops stop (run look (with_foreign_key (with_keys parts keys) words key))
index_stop stop look parts keys words key stopped = stops_all stop (run look (with_key_index parts words key.columns)) (behind_index look words.columns keys key) _ stopped (sym (by_parts look parts keys words key))

behind_made : (look : Look) (parts indexed : TableParts) (keys : List ForeignKeyDef) (words : FkWords) (key : ForeignKeyDef) → run look (with_key_index parts words key.columns) ≡ fine indexed → indexed.foreign_keys ≡ []
    → run look (with_foreign_key (with_keys parts keys) words key) ≡ go_on (run look (foreign_key_of indexed words.columns key)) (λ found. linked keys indexed (run look (added_key keys found)))
behind_made look parts indexed keys words key made none =
    by_parts look parts keys words key
    ∙ ap (λ found. go_on found (behind_index look words.columns keys key)) made
    ∙ ap (λ p. go_on (run look (foreign_key_of p words.columns key)) (λ found. linked keys indexed (run look (added_key keys found)))) (no_keys indexed none)

pub key_stop : (stop : Stop) (look : Look) (parts indexed : TableParts) (keys : List ForeignKeyDef) (words : FkWords) (key : ForeignKeyDef) → run look (with_key_index parts words key.columns) ≡ fine indexed → indexed.foreign_keys ≡ []
    → Stops stop (run look (foreign_key_of indexed words.columns key)) → Stops stop (run look (with_foreign_key (with_keys parts keys) words key))
key_stop stop look parts indexed keys words key made none stopped =
    stops_all stop (run look (foreign_key_of indexed words.columns key)) (λ found. linked keys indexed (run look (added_key keys found))) _ stopped (sym (behind_made look parts indexed keys words key made none))

behind_found : (look : Look) (parts indexed : TableParts) (keys : List ForeignKeyDef) (words : FkWords) (key found : ForeignKeyDef) → run look (with_key_index parts words key.columns) ≡ fine indexed → indexed.foreign_keys ≡ []
    → run look (foreign_key_of indexed words.columns key) ≡ fine found → run look (with_foreign_key (with_keys parts keys) words key) ≡ linked keys indexed (run look (added_key keys found))
behind_found look parts indexed keys words key found made none is =
    behind_made look parts indexed keys words key made none ∙ ap (λ f. go_on f (λ k. linked keys indexed (run look (added_key keys k)))) is

pub name_taken_stop : (stop : Stop) (look : Look) (parts indexed : TableParts) (keys : List ForeignKeyDef) (words : FkWords) (key found : ForeignKeyDef) → run look (with_key_index parts words key.columns) ≡ fine indexed → indexed.foreign_keys ≡ []
    → run look (foreign_key_of indexed words.columns key) ≡ fine found → Stops stop (run look (added_key keys found)) → Stops stop (run look (with_foreign_key (with_keys parts keys) words key))
name_taken_stop stop look parts indexed keys words key found made none is stopped =
    stops_all stop (run look (added_key keys found)) (λ all. fine (with_keys indexed all)) _ stopped (sym (behind_found look parts indexed keys words key found made none is))

pub all_linked : (look : Look) (parts indexed : TableParts) (keys more : List ForeignKeyDef) (words : FkWords) (key found : ForeignKeyDef) → run look (with_key_index parts words key.columns) ≡ fine indexed → indexed.foreign_keys ≡ []
    → run look (foreign_key_of indexed words.columns key) ≡ fine found → run look (added_key keys found) ≡ fine more → run look (with_foreign_key (with_keys parts keys) words key) ≡ fine (with_keys indexed more)
all_linked look parts indexed keys more words key found made none is added =
    behind_found look parts indexed keys words key found made none is ∙ ap (λ f. linked keys indexed f) added

-- ## All foreign keys

from_none : (draft : Draft) (keys : OrderedKeys) → IsDraft draft → keys_in keys ≡ [] → whole draft keys ≡ draft.parts
from_none draft keys is none = ap (with_keys draft.parts) none ∙ no_keys draft.parts is.none

pub over_stop : (stop : Stop) (look : Look) (draft : Draft) (keys : OrderedKeys) (elements : List Element) → IsDraft draft → keys_in keys ≡ [] → Stops stop (run look (over one_foreign_key (whole draft keys) (flat_map foreign_key_in elements)))
    → Stops stop (run look (over one_foreign_key draft.parts (flat_map foreign_key_in elements)))
over_stop stop look draft keys elements is none stopped = subst (λ parts. Stops stop (run look (over one_foreign_key parts (flat_map foreign_key_in elements)))) (from_none draft keys is none) stopped

pub over_fine : (look : Look) (draft after : Draft) (keys more : OrderedKeys) (elements : List Element) (list : List ForeignKeyDef) → IsDraft draft → keys_in keys ≡ [] → list ≡ keys_in more
    → run look (over one_foreign_key (whole draft keys) (flat_map foreign_key_in elements)) ≡ fine (whole after more) → run look (over one_foreign_key draft.parts (flat_map foreign_key_in elements)) ≡ fine (with_keys after.parts list)
over_fine look draft after keys more elements list is none same made =
    ap (λ parts. run look (over one_foreign_key parts (flat_map foreign_key_in elements))) (sym (from_none draft keys is none))
    ∙ made ∙ ap (λ ks. came (with_keys after.parts ks)) (sym same)
