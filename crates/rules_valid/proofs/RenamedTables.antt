-- What stands behind a renaming is valid.
use Rattle.std.specs.Prelude.{◌≡◌, ◌⊎◌, ℕ, Bool, true, false, List, Option, Some, None, if◌then◌else◌, refl}
use Rattle.std.specs.Option.{option_map}
use Rattle.std.proofs.Common.{sym, ◌∙◌, ap, subst, inl, inr}
use Rattle.std.proofs.lemmas.Bool.{true≢false}
use Rattle.dd_names.specs.declared.object_name.ObjName.{ObjName}
use Rattle.dd_definitions.specs.Named.{is_object_named}
use Rattle.dd_definitions.specs.declared.columns.ColumnDef.{ColumnDef}
use Rattle.dd_definitions.specs.declared.foreign_keys.ForeignKeyDef.{ForeignKeyDef}
use Rattle.dd_definitions.specs.declared.indexes.IndexDef.{IndexDef}
use Rattle.dd_definitions.specs.declared.parts.TableParts.{TableParts}
use Rattle.dd_catalog.specs.Catalog.{Placed, Table, View, is_same_object, has_constraint}
use Rattle.dd_catalog.specs.Valid.{own_name, is_placed_named, is_placed_formed, are_columns_paired, is_parent_fit}
use Rattle.dd_catalog.proofs.ObjectNames.{same_object}
use Rattle.rules_create.proofs.Lists.{all_map, all_weaker}
use Rattle.rules_rename.specs.Renames.{with_parent, with_parents}
use Rattle.rules_valid.proofs.RenamedNames.{is_same, same_or_not}
use Rattle.rules_valid.proofs.RenamedPlaces.{Places}
use Rattle.rules_valid.proofs.RenamedSound.{IsSound, ArePlacedNamed, KeepSpaces, have_parents}
use Rattle.rules_valid.proofs.RenamedMoved.{moved, moved_name, moved_named, moved_formed, moved_constraints, moved_fit}

-- ## What a renaming makes

-- the old name is free, the new object stands at the new one, and the others refer to that
pub record Renames (from to : ObjName) (new : Placed) (now next : Places) : Type 0 where
  pub gone : next from ≡ None
  pub there : next to ≡ Some new
  pub others : (o : ObjName) → (o ≡ from → ⊥) → (o ≡ to → ⊥) → next o ≡ option_map (moved from to) (now o)

-- a table keeps its space, columns and indexes
abbrev pub IsKept : Placed → Placed → Type 0
IsKept (Table space parts) (Table kept after) = (space ≡ kept) × (parts.columns ≡ after.columns) × (parts.indexes ≡ after.indexes)
IsKept (Table space parts) (View after) = ⊥
IsKept (View parts) (Table kept after) = ⊥
IsKept (View parts) (View after) = Unit {0}

-- the new object may stand at the new name
pub record MayStand (schemas : List ℕ → Bool) (from to : ObjName) (old new : Placed) (now : Places) : Type 0 where
  pub was : now from ≡ Some old
  pub free : now to ≡ None
  pub schema : schemas to.schema ≡ true
  pub named : own_name new ≡ to
  pub formed : is_placed_formed new ≡ true
  pub kept : IsKept old new
  pub unowned : (folded : List ℕ) (o : ObjName) (placed : Placed) → has_constraint folded new ≡ true → now o ≡ Some placed → o.schema ≡ to.schema → (o ≡ from → ⊥) → has_constraint folded placed ≡ true → ⊥

-- its foreign keys have fit parents wherever the renaming is done
pub record HasParents (from to : ObjName) (new : Placed) (now : Places) : Type 0 where
  pub fit : (next : Places) → Renames from to new now next → (space : ℕ) (parts : TableParts) → new ≡ Table space parts → have_parents next parts parts.foreign_keys ≡ true

-- ## What stood there before

record IsNew (to : ObjName) (new : Placed) (o : ObjName) (placed : Placed) : Type 0 where
  same : o ≡ to
  is : placed ≡ new

record IsOther (from to : ObjName) (now : Places) (o : ObjName) (placed : Placed) : Type 0 where
  before : Placed
  there : now o ≡ Some before
  is : placed ≡ moved from to before
  apart : o ≡ from → ⊥

moved_before : (from to : ObjName) (now : Places) (o : ObjName) (placed : Placed) → (o ≡ from → ⊥) → (known : Option Placed) → now o ≡ known → option_map (moved from to) known ≡ Some placed → IsOther from to now o placed
moved_before from to now o placed apart None there is = cc
moved_before from to now o placed apart (Some before) there is = let same : moved from to before ≡ placed = cc in record { before = before; there = there; is = sym same; apart = apart }

either : (from to : ObjName) (new : Placed) (now next : Places) → Renames from to new now next → (o : ObjName) (placed : Placed) → next o ≡ Some placed → IsNew to new o placed ⊎ IsOther from to now o placed
either from to new now next renames o placed is = elim (same_or_not o to) [
  | inl same ↦
      let made : Some placed ≡ Some new = sym is ∙ ap next same ∙ renames.there in
      let placed_is : placed ≡ new = cc in
      inl (record { same = same; is = placed_is })
  | inr apart ↦ elim (same_or_not o from) [
    | inl same ↦ let none : Some placed ≡ None = sym is ∙ ap next same ∙ renames.gone in cc
    | inr other ↦ inr (moved_before from to now o placed other (now o) refl (sym (renames.others o other apart) ∙ is))
  ]
]

-- ## Spaces

-- the table with the space stood at the same name, or at the old one
record HadSpace (from to : ObjName) (now : Places) (o : ObjName) (space : ℕ) : Type 0 where
  was : ObjName
  parts : TableParts
  there : now was ≡ Some (Table space parts)
  whose : ((o ≡ to) × (was ≡ from)) ⊎ ((o ≡ was) × (o ≡ from → ⊥))

table_before : (from to : ObjName) (before : Placed) (space : ℕ) (parts : TableParts) → Table space parts ≡ moved from to before → (p : TableParts) × (before ≡ Table space p) × (parts ≡ with_parents from to p)
table_before from to (Table kept p) space parts is =
    let number : space ≡ kept = cc in
    let rest : parts ≡ with_parents from to p = cc in
    (p, ap (λ n. Table n p) (sym number), rest)
table_before from to (View p) space parts is = cc

table_kept : (old new : Placed) (space : ℕ) (parts : TableParts) → IsKept old new → Table space parts ≡ new → (p : TableParts) × (old ≡ Table space p)
table_kept (Table n p) (Table m q) space parts kept is = let number : space ≡ m = cc in (p, ap (λ k. Table k p) (kept.0 ∙ sym number))
table_kept (Table n p) (View q) space parts kept is = absurd kept
table_kept (View p) (Table m q) space parts kept is = absurd kept
table_kept (View p) (View q) space parts kept is = cc

had_space : (schemas : List ℕ → Bool) (from to : ObjName) (old new : Placed) (now next : Places) → MayStand schemas from to old new now → Renames from to new now next
    → (o : ObjName) (space : ℕ) (parts : TableParts) → next o ≡ Some (Table space parts) → HadSpace from to now o space
had_space schemas from to old new now next stand renames o space parts is = elim (either from to new now next renames o (Table space parts) is) [
  | inl made ↦
      let (p, old_is) = table_kept old new space parts stand.kept made.is in
      record { was = from; parts = p; there = stand.was ∙ ap (λ x. Some x) old_is; whose = inl (made.same, refl) }
  | inr other ↦
      let (p, before_is, _) = table_before from to other.before space parts other.is in
      record { was = o; parts = p; there = other.there ∙ ap (λ x. Some x) before_is; whose = inr (refl, other.apart) }
]

pub renames_keep_spaces : (schemas : List ℕ → Bool) (from to : ObjName) (old new : Placed) (now next : Places) → MayStand schemas from to old new now → Renames from to new now next → KeepSpaces now next
renames_keep_spaces schemas from to old new now next stand renames = record {
  held = λ o space parts is.
      let had : HadSpace from to now o space = had_space schemas from to old new now next stand renames o space parts is in
      record { name = had.was; parts = had.parts; there = had.there };
}

same_owner : (from to a b wa wb : ObjName) → wa ≡ wb → ((a ≡ to) × (wa ≡ from)) ⊎ ((a ≡ wa) × (a ≡ from → ⊥)) → ((b ≡ to) × (wb ≡ from)) ⊎ ((b ≡ wb) × (b ≡ from → ⊥)) → a ≡ b
same_owner from to a b wa wb same (inl one) (inl two) = one.0 ∙ sym two.0
same_owner from to a b wa wb same (inl one) (inr two) = absurd (two.1 (two.0 ∙ sym same ∙ one.1))
same_owner from to a b wa wb same (inr one) (inl two) = absurd (one.1 (one.0 ∙ same ∙ two.1))
same_owner from to a b wa wb same (inr one) (inr two) = one.0 ∙ same ∙ sym two.0

-- ## Constraints

no_two_own : (schemas : List ℕ → Bool) (from to : ObjName) (old new : Placed) (now next : Places) → IsSound schemas now → MayStand schemas from to old new now → Renames from to new now next
    → (a b : ObjName) (placed other : Placed) (folded : List ℕ) → next a ≡ Some placed → next b ≡ Some other → a.schema ≡ b.schema → has_constraint folded placed ≡ true → has_constraint folded other ≡ true → a ≡ b
no_two_own schemas from to old new now next sound stand renames a b placed other folded one two schema_is first second = on (either from to new now next renames a placed one) (either from to new now next renames b other two)
  where
    before_has : (o : ObjName) (p : Placed) (there : IsOther from to now o p) → has_constraint folded p ≡ true → has_constraint folded there.before ≡ true
    before_has o p there has = sym (moved_constraints from to folded there.before) ∙ ap (has_constraint folded) (sym there.is) ∙ has

    clash : (c d : ObjName) (p q : Placed) → c.schema ≡ d.schema → IsNew to new c p → (there : IsOther from to now d q) → has_constraint folded p ≡ true → has_constraint folded q ≡ true → ⊥
    clash c d p q schemas_are made there has also = stand.unowned folded d there.before (ap (has_constraint folded) (sym made.is) ∙ has) there.there (sym schemas_are ∙ ap (λ (o : ObjName). o.schema) made.same) there.apart (before_has d q there also)

    on : IsNew to new a placed ⊎ IsOther from to now a placed → IsNew to new b other ⊎ IsOther from to now b other → a ≡ b
    on (inl m) (inl n) = m.same ∙ sym n.same
    on (inl m) (inr n) = absurd (clash a b placed other schema_is m n first second)
    on (inr m) (inl n) = absurd (clash b a other placed (sym schema_is) n m second first)
    on (inr m) (inr n) = sound.constraints_distinct a b m.before n.before folded m.there n.there schema_is (before_has a placed m first) (before_has b other n second)

-- ## Parents

kept_fit : (parts : TableParts) (key : ForeignKeyDef) (to : ObjName) (old new : Placed) → IsKept old new → is_parent_fit parts key (Some old) ≡ true → is_parent_fit parts (record key { parent = to }) (Some new) ≡ true
unfolding are_columns_paired
kept_fit parts key to (Table n p) (Table m q) kept fit =
    let columns_are : p.columns ≡ q.columns = kept.1 in
    let indexes_are : p.indexes ≡ q.indexes = kept.2 in
    subst (λ (columns : List ColumnDef). is_parent_fit parts key (Some (Table m (record q { columns = columns }))) ≡ true) columns_are
    (subst (λ (indexes : List IndexDef). is_parent_fit parts key (Some (Table m (record q { columns = p.columns; indexes = indexes }))) ≡ true) indexes_are fit)
kept_fit parts key to (Table n p) (View q) kept fit = absurd kept
kept_fit parts key to (View p) (Table m q) kept fit = absurd kept
kept_fit parts key to (View p) (View q) kept fit = fit

-- a foreign key with a fit parent has one behind the renaming
pub key_fits : (schemas : List ℕ → Bool) (from to : ObjName) (old new : Placed) (now next : Places) → MayStand schemas from to old new now → Renames from to new now next
    → (parts : TableParts) (key : ForeignKeyDef) → is_parent_fit parts key (now key.parent) ≡ true → is_parent_fit parts (with_parent from to key) (next (with_parent from to key).parent) ≡ true
key_fits schemas from to old new now next stand renames parts key fit = on (is_same_object key.parent from) refl
  where
    on : (b : Bool) → is_same_object key.parent from ≡ b → is_parent_fit parts (if b then record key { parent = to } else key) (next (if b then record key { parent = to } else key).parent) ≡ true
    on true same =
        let was : now key.parent ≡ Some old = ap now (same_object key.parent from same) ∙ stand.was in
        ap (is_parent_fit parts (record key { parent = to })) renames.there ∙ kept_fit parts key to old new stand.kept (sym (ap (is_parent_fit parts key) was) ∙ fit)
    on false other =
        let not_from : key.parent ≡ from → ⊥ = λ e. true≢false (sym (is_same key.parent from e) ∙ other) in
        let not_to : key.parent ≡ to → ⊥ = λ e. true≢false (sym fit ∙ ap (is_parent_fit parts key) (ap now e ∙ stand.free)) in
        ap (is_parent_fit parts key) (renames.others key.parent not_from not_to) ∙ moved_fit from to parts key (now key.parent) ∙ fit

children_fit : (schemas : List ℕ → Bool) (from to : ObjName) (old new : Placed) (now next : Places) → MayStand schemas from to old new now → Renames from to new now next
    → (parts : TableParts) → have_parents now parts parts.foreign_keys ≡ true → have_parents next (with_parents from to parts) (with_parents from to parts).foreign_keys ≡ true
unfolding are_columns_paired
children_fit schemas from to old new now next stand renames parts fit =
    all_map (λ (key : ForeignKeyDef). is_parent_fit (with_parents from to parts) key (next key.parent)) (with_parent from to) parts.foreign_keys
    ∙ all_weaker (λ (key : ForeignKeyDef). is_parent_fit parts key (now key.parent)) (λ (key : ForeignKeyDef). is_parent_fit (with_parents from to parts) (with_parent from to key) (next (with_parent from to key).parent))
    (key_fits schemas from to old new now next stand renames parts) parts.foreign_keys fit

-- ## Names

pub renames_named : (from to : ObjName) (new : Placed) (now next : Places) → is_object_named to ≡ true → is_placed_named new ≡ true → ArePlacedNamed now → Renames from to new now next → ArePlacedNamed next
renames_named from to new now next to_named new_named named renames = record {
  all = λ name placed is. elim (either from to new now next renames name placed is) [
    | inl made ↦ ap is_placed_named made.is ∙ new_named
    | inr other ↦ ap is_placed_named other.is ∙ moved_named from to other.before to_named (named.all name other.before other.there)
  ];
}

-- ## Altogether

pub renames_sound : (schemas : List ℕ → Bool) (from to : ObjName) (old new : Placed) (now next : Places) → IsSound schemas now → MayStand schemas from to old new now → HasParents from to new now → Renames from to new now next → IsSound schemas next
renames_sound schemas from to old new now next sound stand parents renames = record {
  schemas_there = λ name placed is. elim (either from to new now next renames name placed is) [
    | inl made ↦ subst (λ (o : ObjName). schemas o.schema ≡ true) (sym made.same) stand.schema
    | inr other ↦ sound.schemas_there name other.before other.there
  ];
  names_carried = λ name placed is. elim (either from to new now next renames name placed is) [
    | inl made ↦ ap own_name made.is ∙ stand.named ∙ sym made.same
    | inr other ↦ ap own_name other.is ∙ moved_name from to other.before ∙ sound.names_carried name other.before other.there
  ];
  formed = λ name placed is. elim (either from to new now next renames name placed is) [
    | inl made ↦ ap is_placed_formed made.is ∙ stand.formed
    | inr other ↦ ap is_placed_formed other.is ∙ moved_formed from to other.before (sound.formed name other.before other.there)
  ];
  spaces_in_range = λ name space parts is.
      let had : HadSpace from to now name space = had_space schemas from to old new now next stand renames name space parts is in
      sound.spaces_in_range had.was space had.parts had.there;
  spaces_distinct = λ a b space parts others one two.
      let first : HadSpace from to now a space = had_space schemas from to old new now next stand renames a space parts one in
      let second : HadSpace from to now b space = had_space schemas from to old new now next stand renames b space others two in
      same_owner from to a b first.was second.was (sound.spaces_distinct first.was second.was space first.parts second.parts first.there second.there) first.whose second.whose;
  constraints_distinct = no_two_own schemas from to old new now next sound stand renames;
  parents_fit = λ name space parts is. elim (either from to new now next renames name (Table space parts) is) [
    | inl made ↦ parents.fit next renames space parts (sym made.is)
    | inr other ↦
        let (p, before_is, parts_are) = table_before from to other.before space parts other.is in
        subst (λ (q : TableParts). have_parents next q q.foreign_keys ≡ true) (sym parts_are)
        (children_fit schemas from to old new now next stand renames p (sound.parents_fit name space p (other.there ∙ ap (λ x. Some x) before_is)))
  ];
}
