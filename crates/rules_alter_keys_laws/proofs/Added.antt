-- A foreign key that is added has its parent and a name of its own.
use Rattle.std.specs.Prelude.{◌≡◌, ℕ, Bool, true, false, ◌||◌, not, List, Option, Some, None, map, if◌then◌else◌, refl}
use Rattle.std.proofs.Common.{sym, ◌∙◌, ap, subst}
use Rattle.std.proofs.lemmas.Bool.{and_from, or_parts, or_left, or_right, not-false, not_from_false}
use Rattle.dd_names.specs.Names.{fold}
use Rattle.dd_names.specs.declared.object_name.ObjName.{ObjName}
use Rattle.dd_names.specs.declared.object_name.ObjectKey.TheVariants as keys
use Rattle.dd_errors.specs.Errors.{ErrorValue}
use Rattle.dd_definitions.specs.ForeignKeys.{has_index_on}
use Rattle.dd_definitions.specs.declared.foreign_keys.ForeignKeyDef.{ForeignKeyDef}
use Rattle.dd_definitions.specs.declared.indexes.IndexDef.{IndexDef}
use Rattle.dd_definitions.specs.declared.parts.TableParts.{TableParts}
use Rattle.dd_catalog.specs.Catalog.{is_same_object}
use Rattle.dd_catalog.specs.Kinds.{first_odd_pair}
use Rattle.dd_catalog.specs.Sights.{Sight, Nothing, SchemaThere, TableThere, ViewThere, NamesThere, ChildrenThere, OwnerThere}
use Rattle.dd_catalog.specs.Walks.{done, ◌>>=◌, told, fine, run, look_at, refuse_if, refuse_some}
use Rattle.dd_catalog.specs.WalkLaws.{Look}
use Rattle.dd_catalog.specs.Asked.{fine_is, bind_fine}
use Rattle.rules_refusals.specs.Refusals.{fk_no_index_parent, fk_dup_name}
use Rattle.rules_elements.specs.ForeignKeys.{table_seen, parent_of, has_index_from, odd_pair_refused, set_null_refused, spelled, is_owned_elsewhere, has_constraint_named, name_is_free, with_parent_columns, foreign_key_of}
use Rattle.rules_elements_laws.specs.Parents.{IsSpelledWell}
use Rattle.rules_elements_laws.proofs.ParentSpelling.{index_stays}
use Rattle.rules_elements_laws.proofs.WellSpelled.{well_spelled}
use Rattle.rules_create.specs.Leaves.{IsTableAt, SeesFormed}
use Rattle.rules_create.proofs.Lists.{all_weaker}
use Rattle.rules_create.proofs.Names.{not_refused}
use Rattle.rules_alter_laws.specs.Stands.{Stands}
use Rattle.rules_alter_laws.proofs.AddedForeignKeys.{IsLinked}
use Rattle.rules_alter_laws.proofs.Kept.{columns_there, index_parts}
use Rattle.rules_alter_keys_laws.specs.Grounds.{is_unowned, has_parent_index, is_grounded}
use Rattle.rules_alter_keys_laws.specs.Led.{is_led}
use Rattle.rules_alter_keys_laws.proofs.Follows.{IsAddedKey}

-- ## The parent

stands_spelled : (parts : TableParts) → Stands parts → IsSpelledWell parts
stands_spelled parts good = record {
  distinct = good.columns.distinct;
  there = all_weaker _ _ (λ i formed. columns_there parts.columns i.columns (index_parts parts.columns i formed).fits) parts.indexes good.indexes.formed;
}

pub table_is_there : (look : Look) (name : List ℕ) (seen : Sight) (parent : TableParts) → run look (table_seen name seen) ≡ fine parent → (space : ℕ) × (seen ≡ TableThere space parent)
table_is_there look name Nothing parent is = cc
table_is_there look name SchemaThere parent is = cc
table_is_there look name (TableThere space parts) parent is = (space, ap (TableThere space) (fine_is is))
table_is_there look name (ViewThere parts) parent is = cc
table_is_there look name (NamesThere names) parent is = cc
table_is_there look name (ChildrenThere tables) parent is = cc
table_is_there look name (OwnerThere table) parent is = cc

pub parent_is_there : (look : Look) (name : ObjName) (parent : TableParts) → run look (look_at (keys.Object name) >>= table_seen name.name) ≡ fine parent → (space : ℕ) × (look (keys.Object name) ≡ Some (TableThere space parent))
parent_is_there look name parent is = on (look (keys.Object name)) refl is
  where
    on : (known : Option Sight) → look (keys.Object name) ≡ known → told {E = ErrorValue} {A = TableParts} known (keys.Object name) (λ seen. run look (table_seen name.name seen)) ≡ fine parent → (space : ℕ) × (look (keys.Object name) ≡ Some (TableThere space parent))
    on None there is = cc
    on (Some seen) there is =
        let (space, same_seen) = table_is_there look name.name seen parent is in
        (space, there ∙ ap (λ s. Some s) same_seen)

-- ## The name

seen_unowned : (look : Look) (parts : TableParts) (name : List ℕ) → run look (name_is_free parts name) ≡ fine tt → is_unowned parts.name (look (keys.Constraint parts.name.schema (fold name))) ≡ true
unfolding name_is_free
seen_unowned look parts name is = on (look (keys.Constraint parts.name.schema (fold name))) is
  where
    on : (known : Option Sight) → told {E = ErrorValue} {A = Unit {0}} known (keys.Constraint parts.name.schema (fold name)) (λ seen. run look (refuse_if (is_owned_elsewhere parts.name seen || has_constraint_named parts.foreign_keys name) (fk_dup_name name))) ≡ fine tt
        → is_unowned parts.name known ≡ true
    on None is = cc
    on (Some seen) is =
        let (other, own) = or_parts (is_owned_elsewhere parts.name seen) (has_constraint_named parts.foreign_keys name) (not_refused look (is_owned_elsewhere parts.name seen || has_constraint_named parts.foreign_keys name) (fk_dup_name name) tt is) in
        not_from_false (is_owned_elsewhere parts.name seen) other

-- ## The foreign key

record IsGood (look : Look) (parts : TableParts) (key : ForeignKeyDef) : Type 0 where
  led : is_led parts.name parts.indexes key ≡ true
  unowned : is_unowned parts.name (look (keys.Constraint parts.name.schema (fold key.name))) ≡ true
  parent : (is_same_object key.parent parts.name || has_parent_index key (look (keys.Object key.parent))) ≡ true

with_parent : (look : Look) (parts parent : TableParts) (words : ForeignKeyDef) → SeesFormed look → Stands parts → run look (parent_of parts words.parent) ≡ fine parent → has_index_from parent.indexes words.parent_columns ≡ true
    → is_unowned parts.name (look (keys.Constraint parts.name.schema (fold words.name))) ≡ true → IsGood look parts (with_parent_columns words (map (spelled parent.columns) words.parent_columns))
unfolding parent_of
with_parent look parts parent words sees good found has free = on (is_same_object words.parent parts.name) refl found
  where
    key : ForeignKeyDef
    key = with_parent_columns words (map (spelled parent.columns) words.parent_columns)

    on : (b : Bool) → is_same_object words.parent parts.name ≡ b → run look (if b then done parts else (look_at (keys.Object words.parent) >>= table_seen words.parent.name)) ≡ fine parent → IsGood look parts key
    on true same is =
        let own : parts ≡ parent = fine_is is in
        let begins : has_index_on parent.indexes (map (spelled parent.columns) words.parent_columns) ≡ true = index_stays parent words.parent_columns (subst IsSpelledWell own (stands_spelled parts good)) has in
        record {
          led = or_right (not (is_same_object words.parent parts.name)) (has_index_on parts.indexes (map (spelled parent.columns) words.parent_columns)) (ap (λ (p : TableParts). has_index_on p.indexes (map (spelled parent.columns) words.parent_columns)) own ∙ begins);
          unowned = free;
          parent = or_left (is_same_object words.parent parts.name) (has_parent_index key (look (keys.Object words.parent))) same;
        }
    on false other is =
        let (space, there) = parent_is_there look words.parent parent is in
        let at : IsTableAt words.parent parent = sees.tables words.parent space parent there in
        let begins : has_index_on parent.indexes (map (spelled parent.columns) words.parent_columns) ≡ true = index_stays parent words.parent_columns (well_spelled parent at.formed) has in
        record {
          led = or_left (not (is_same_object words.parent parts.name)) (has_index_on parts.indexes (map (spelled parent.columns) words.parent_columns)) (not_from_false (is_same_object words.parent parts.name) other);
          unowned = free;
          parent = or_right (is_same_object words.parent parts.name) (has_parent_index key (look (keys.Object words.parent))) (ap (has_parent_index key) there ∙ begins);
        }

made_is_good : (look : Look) (parts : TableParts) (written : List (List ℕ)) (words key : ForeignKeyDef) → SeesFormed look → Stands parts → run look (foreign_key_of parts written words) ≡ fine key → IsGood look parts key
unfolding foreign_key_of
made_is_good look parts written words key sees good is =
    let (parent, found, after_parent) = bind_fine look (parent_of parts words.parent) _ key is in
    let (_, indexed, after_index) = bind_fine look (refuse_if (not (has_index_from parent.indexes words.parent_columns)) (fk_no_index_parent words.name words.parent.name)) _ key after_parent in
    let (_, even, after_pairs) = bind_fine look (refuse_some (odd_pair_refused written words.name (first_odd_pair parts.columns parent.columns words.columns words.parent_columns))) _ key after_index in
    let (_, nulls, after_nulls) = bind_fine look (refuse_some (set_null_refused written parts.columns words)) _ key after_pairs in
    let (_, free, last) = bind_fine look (name_is_free parts words.name) _ key after_nulls in
    let has = not-false (has_index_from parent.indexes words.parent_columns) (not_refused look (not (has_index_from parent.indexes words.parent_columns)) (fk_no_index_parent words.name words.parent.name) tt indexed) in
    subst (IsGood look parts) (fine_is last) (with_parent look parts parent words sees good found has (seen_unowned look parts words.name free))

pub key_is_good : (look : Look) (parts next : TableParts) → SeesFormed look → (added : IsLinked look parts next) → IsAddedKey look next added.key
key_is_good look parts next sees added =
    let key : ForeignKeyDef = added.key in
    let good : IsGood look added.indexed added.key = made_is_good look added.indexed added.written added.asked added.key sees added.before added.made in
    let name : next.name ≡ added.indexed.name = added.name ∙ sym added.same_name in
    record {
      led = ap (λ n. is_led n next.indexes added.key) name ∙ ap (λ (is : List IndexDef). is_led added.indexed.name is added.key) added.indexes ∙ good.led;
      grounded = ap (λ n. is_grounded look n added.key) name ∙ and_from (is_unowned added.indexed.name (look (keys.Constraint added.indexed.name.schema (fold key.name))))
          (is_same_object key.parent added.indexed.name || has_parent_index key (look (keys.Object key.parent))) good.unowned good.parent;
    }
