-- The keys at which a table stands, foreign key by foreign key.
use Rattle.std.proofs.Common.{◌≡◌, ℕ, ◌+◌, ◌<◌, ◌≤◌, Bool, true, false, ◌&&◌, ◌||◌, List, [], ◌∷◌, ◌++◌, length, get_or, take, refl, sym, ◌∙◌, ap, subst}
use Rattle.std.specs.Prelude.{not}
use Rattle.std.specs.List.{list_any}
use Rattle.std.specs.Str.{bytes_eq}
use Rattle.std.specs.BTreeSet.{BTreeSet, contains}
use Rattle.std.proofs.lemmas.Bool.{and_from, true≢false}
use Rattle.std.proofs.lemmas.List.{take_more, take_all}
use Rattle.std.proofs.lemmas.List.Folds.{list_any-append}
use Rattle.std.proofs.lemmas.Slice.Eq.{bytes_eq-Decides}
use Rattle.dd_names.specs.Names.{fold}
use Rattle.dd_names.specs.declared.object_name.ObjName.{ObjName}
use Rattle.dd_names.specs.declared.object_name.ObjectKey.{ObjectKey}
use Rattle.dd_names.specs.declared.object_name.ObjectKey.TheVariants as keys
use Rattle.dd_definitions.specs.declared.foreign_keys.ForeignKeyDef.{ForeignKeyDef}
use Rattle.dd_catalog.specs.Catalog.{is_same_object}
use Rattle.dd_catalog.proofs.ObjectNames.{same_object}
use Rattle.dd_index.specs.Keys.{key_cmp, stands, HasKeys, HasMoreKeys}

none_stands : (b : Bool) → (b && false) ≡ true → false ≡ true
none_stands true is = is
none_stands false is = is

-- a table without foreign keys stands nowhere
pub has_none : (found : BTreeSet ObjectKey) (table : ObjName) → HasKeys found table []
has_none found table = record { all = on }
  where
    on : (key : ObjectKey) → stands key table [] ≡ true → contains key_cmp found key ≡ true
    on (keys.Children parent) is = absurd cc
    on (keys.Constraint schema folded) is = absurd (true≢false (sym (none_stands (bytes_eq table.schema schema) is)))
    on keys.Schemas is = absurd cc
    on (keys.Schema name) is = absurd cc
    on (keys.Objects name) is = absurd cc
    on (keys.Object name) is = absurd cc

child_more : (old new : BTreeSet ObjectKey) (table parent : ObjName) (before : List ForeignKeyDef) (key : ForeignKeyDef) (x y b : Bool)
    → HasKeys old table before → HasMoreKeys old new table.schema key
    → list_any (λ (k : ForeignKeyDef). is_same_object k.parent parent) before ≡ x → is_same_object key.parent parent ≡ y → not (is_same_object table parent) ≡ b
    → ((x || (y || false)) && b) ≡ true → contains key_cmp new (keys.Children parent) ≡ true
child_more old new table parent before key true y true has more xs ys bs is =
    more.kept (keys.Children parent) (has.all (keys.Children parent) (and_from (list_any (λ (k : ForeignKeyDef). is_same_object k.parent parent) before) (not (is_same_object table parent)) xs bs))
child_more old new table parent before key false true true has more xs ys bs is =
    subst (λ (o : ObjName). contains key_cmp new (keys.Children o) ≡ true) (same_object key.parent parent ys) more.parent
child_more old new table parent before key true y false has more xs ys bs is = absurd cc
child_more old new table parent before key false true false has more xs ys bs is = absurd cc
child_more old new table parent before key false false b has more xs ys bs is = absurd cc

owner_more : (old new : BTreeSet ObjectKey) (table : ObjName) (schema folded : List ℕ) (before : List ForeignKeyDef) (key : ForeignKeyDef) (x y b : Bool)
    → HasKeys old table before → HasMoreKeys old new table.schema key
    → list_any (λ (k : ForeignKeyDef). bytes_eq (fold k.name) folded) before ≡ x → bytes_eq (fold key.name) folded ≡ y → bytes_eq table.schema schema ≡ b
    → (b && (x || (y || false))) ≡ true → contains key_cmp new (keys.Constraint schema folded) ≡ true
owner_more old new table schema folded before key true y true has more xs ys bs is =
    more.kept (keys.Constraint schema folded) (has.all (keys.Constraint schema folded) (and_from (bytes_eq table.schema schema) (list_any (λ (k : ForeignKeyDef). bytes_eq (fold k.name) folded) before) bs xs))
owner_more old new table schema folded before key false true true has more xs ys bs is =
    subst (λ (s : List ℕ). contains key_cmp new (keys.Constraint s folded) ≡ true) ((bytes_eq-Decides table.schema schema).0 bs)
    (subst (λ (f : List ℕ). contains key_cmp new (keys.Constraint table.schema f) ≡ true) ((bytes_eq-Decides (fold key.name) folded).0 ys) more.constraint)
owner_more old new table schema folded before key false false true has more xs ys bs is = absurd cc
owner_more old new table schema folded before key x y false has more xs ys bs is = absurd cc

-- one more foreign key
pub has_more : (old new : BTreeSet ObjectKey) (table : ObjName) (before : List ForeignKeyDef) (key : ForeignKeyDef) → HasKeys old table before → HasMoreKeys old new table.schema key → HasKeys new table (before ++ key ∷ [])
has_more old new table before key has more = record { all = on }
  where
    on : (k : ObjectKey) → stands k table (before ++ key ∷ []) ≡ true → contains key_cmp new k ≡ true
    on (keys.Children parent) is =
        child_more old new table parent before key _ _ _ has more refl refl refl
        (sym (ap (λ b. b && not (is_same_object table parent)) (list_any-append (λ (k : ForeignKeyDef). is_same_object k.parent parent) before (key ∷ []))) ∙ is)
    on (keys.Constraint schema folded) is =
        owner_more old new table schema folded before key _ _ _ has more refl refl refl
        (sym (ap (λ b. bytes_eq table.schema schema && b) (list_any-append (λ (k : ForeignKeyDef). bytes_eq (fold k.name) folded) before (key ∷ []))) ∙ is)
    on keys.Schemas is = absurd cc
    on (keys.Schema name) is = absurd cc
    on (keys.Objects name) is = absurd cc
    on (keys.Object name) is = absurd cc

pub has_next : (old new : BTreeSet ObjectKey) (table : ObjName) (all : List ForeignKeyDef) (at : ℕ) (key : ForeignKeyDef) → at < length all → key ≡ get_or all at key
    → HasKeys old table (take at all) → HasMoreKeys old new table.schema key → HasKeys new table (take (at + 1) all)
has_next old new table all at key lt is has more =
    subst (HasKeys new table) (sym (take_more all at key lt ∙ ap (λ y. take at all ++ y ∷ []) (sym is))) (has_more old new table (take at all) key has more)

pub has_all : (found : BTreeSet ObjectKey) (table : ObjName) (all : List ForeignKeyDef) (at : ℕ) → length all ≤ at → HasKeys found table (take at all) → HasKeys found table all
has_all found table all at le has = subst (HasKeys found table) (take_all at all le) has
