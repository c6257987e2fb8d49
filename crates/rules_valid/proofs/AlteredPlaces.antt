-- A table as its actions leave it, among its children, keeps what stands in a catalog valid.
use Rattle.std.specs.Prelude.{◌≡◌, ◌⊎◌, ℕ, ◌≤◌, Bool, true, false, ◌&&◌, ◌||◌, not, List, [], ◌∷◌, Option, Some, None, refl}
use Rattle.std.specs.List.{list_any, list_all}
use Rattle.std.specs.FinMap as finite_map
use Rattle.std.specs.Str.{bytes_eq}
use Rattle.std.proofs.Common.{sym, ◌∙◌, ap, subst, inl, inr}
use Rattle.std.proofs.lemmas.Bool.{true≢false, and_parts, and_from, or_left, or_right, or_parts, not-true, not_from_false, false_from_ne_true, cases_Bool}
use Rattle.dd_names.specs.Names.{fold}
use Rattle.dd_names.specs.declared.object_name.ObjName.{ObjName}
use Rattle.dd_names.specs.declared.object_name.ObjectKey.TheVariants as keys
use Rattle.dd_definitions.specs.ForeignKeys.{has_index_on}
use Rattle.dd_definitions.specs.declared.foreign_keys.ForeignKeyDef.{ForeignKeyDef}
use Rattle.dd_definitions.specs.declared.parts.TableParts.{TableParts}
use Rattle.dd_definitions.specs.declared.view_parts.ViewParts.{ViewParts}
use Rattle.dd_catalog.proofs.ObjectNames.{same_object}
use Rattle.dd_catalog.specs.Catalog.{Catalog, Placed, Table, View, all_of, has_constraint, is_same_object, object_seen, owner_among, refers_to}
use Rattle.dd_catalog.specs.Valid.{are_columns_paired, is_parent_fit, is_placed_formed, own_name, IsValid}
use Rattle.rules_elements.specs.ForeignKeys.{is_owned_elsewhere}
use Rattle.rules_outcome.specs.Choices.{IsNewSpace}
use Rattle.rules_create.specs.Leaves.{IsTableAt}
use Rattle.rules_create.proofs.Lists.{some_passes}
use Rattle.rules_create.proofs.Names.{bytes_are}
use Rattle.rules_alter.specs.declared.states.Altering.{Altering}
use Rattle.rules_alter.specs.declared.states.Child.{Child}
use Rattle.rules_alter_keys_laws.specs.Children.{AreSameKeys}
use Rattle.rules_alter_keys_laws.specs.Grounds.{is_unowned, has_parent_index, is_grounded, is_own_paired, is_paired_there, is_child_paired}
use Rattle.rules_alter_keys_laws.specs.Led.{is_led, are_led}
use Rattle.rules_alter_keys_laws.proofs.Relation.{keys_themselves}
use Rattle.rules_valid.proofs.RenamedLists.{IsIn}
use Rattle.rules_valid.proofs.RenamedNames.{is_same, same_or_not, not_same}
use Rattle.rules_valid.proofs.RenamedPlaces.{Places, lists_entries}
use Rattle.rules_valid.proofs.RenamedSeen.{IsFound, IsNone, find_owner}
use Rattle.rules_valid.proofs.RenamedSound.{have_parents, IsSound, schemas_of}

-- ## What stands there

-- a child is one of the catalog, but for the parent columns of its foreign keys on the table
pub record IsFrom (cat : Catalog) (table : ObjName) (child : Child) : Type 0 where
  pub before : TableParts
  pub was : finite_map.get cat.objects child.name ≡ Some (Table child.space before)
  pub parts : child.parts ≡ record before { foreign_keys = child.parts.foreign_keys }
  pub same : AreSameKeys table before.foreign_keys child.parts.foreign_keys
  pub unchanged : child.is_changed ≡ false → child.parts ≡ before
  pub other : child.name ≡ table → ⊥

-- what stands at one name: the table, a child, or what was there and is none
pub record IsOwnAt (table : ObjName) (held : ℕ) (state : Altering) (next : Places) (name : ObjName) : Type 0 where
  pub same : name ≡ table
  pub is : next name ≡ Some (Table held state.parts)

pub record IsChildAt (state : Altering) (next : Places) (name : ObjName) : Type 0 where
  pub child : Child
  pub there : IsIn child state.children
  pub named : child.name ≡ name
  pub is : next name ≡ Some (Table child.space child.parts)

pub record IsOtherAt (cat : Catalog) (table : ObjName) (state : Altering) (next : Places) (name : ObjName) : Type 0 where
  pub apart : name ≡ table → ⊥
  pub none : (child : Child) → IsIn child state.children → child.name ≡ name → ⊥
  pub is : next name ≡ finite_map.get cat.objects name

abbrev pub IsAt : Catalog → ObjName → ℕ → Altering → Places → ObjName → Type 0
IsAt cat table held state next name = IsOwnAt table held state next name ⊎ (IsChildAt state next name ⊎ IsOtherAt cat table state next name)

-- all that is known of the table and its children
pub record IsInPlace (cat : Catalog) (table : ObjName) (old held : ℕ) (state : Altering) (next : Places) : Type 0 where
  pub before : TableParts
  pub was : finite_map.get cat.objects table ≡ Some (Table old before)
  pub space : (held ≡ old) ⊎ IsNewSpace cat held
  pub stands : IsTableAt table state.parts
  pub led : are_led table state.parts.indexes state.parts.foreign_keys ≡ true
  pub grounded : list_all (is_grounded (all_of cat) table) state.parts.foreign_keys ≡ true
  pub paired : list_all (is_own_paired (all_of cat) state.parts) state.parts.foreign_keys ≡ true
  pub from : (child : Child) → IsIn child state.children → IsFrom cat table child
  pub formed : (child : Child) → IsIn child state.children → IsTableAt child.name child.parts
  pub child_led : (child : Child) → IsIn child state.children → are_led table state.parts.indexes child.parts.foreign_keys ≡ true
  pub child_paired : (child : Child) → IsIn child state.children → list_all (is_child_paired state.parts child.parts) child.parts.foreign_keys ≡ true
  pub closed : (name : ObjName) (space : ℕ) (parts : TableParts) → finite_map.get cat.objects name ≡ Some (Table space parts) → refers_to table (Table space parts) ≡ true → (name ≡ table → ⊥) → (child : Child) × IsIn child state.children × (child.name ≡ name)
  pub at : (name : ObjName) → IsAt cat table held state next name

placed_is : {x y : Placed} → ◌≡◌ {A = Option Placed} (Some x) (Some y) → x ≡ y
placed_is e = cc

space_is : {a b : ℕ} {p q : TableParts} → ◌≡◌ {A = Option Placed} (Some (Table a p)) (Some (Table b q)) → a ≡ b
space_is e = cc

parts_are : {a b : ℕ} {p q : TableParts} → ◌≡◌ {A = Option Placed} (Some (Table a p)) (Some (Table b q)) → p ≡ q
parts_are e = cc

-- ## Constraints

same_names : (table : ObjName) (folded : List ℕ) (keys others : List ForeignKeyDef) → AreSameKeys table keys others
    → list_any (λ (key : ForeignKeyDef). bytes_eq (fold key.name) folded) others ≡ list_any (λ (key : ForeignKeyDef). bytes_eq (fold key.name) folded) keys
same_names table folded [] [] same = refl
same_names table folded [] (b ∷ others) same = absurd same
same_names table folded (a ∷ keys) [] same = absurd same
same_names table folded (a ∷ keys) (b ∷ others) same =
    ap (λ (n : List ℕ). bytes_eq (fold n) folded || list_any (λ (key : ForeignKeyDef). bytes_eq (fold key.name) folded) others) same.0.name
    ∙ ap (λ r. bytes_eq (fold a.name) folded || r) (same_names table folded keys others same.1)

-- the constraint of another table is seen as another's
owner_elsewhere : (cat : Catalog) → IsValid cat → (table : ObjName) (folded : List ℕ) (other : ObjName) (placed : Placed) → finite_map.get cat.objects other ≡ Some placed → other.schema ≡ table.schema → has_constraint folded placed ≡ true → (other ≡ table → ⊥)
    → is_owned_elsewhere table (owner_among table.schema folded (finite_map.entries cat.objects)) ≡ true
owner_elsewhere cat valid table folded other placed there schema has apart = on (find_owner table.schema folded (finite_map.entries cat.objects))
  where
    on : IsFound table.schema folded (finite_map.entries cat.objects) ⊎ IsNone table.schema folded (finite_map.entries cat.objects) → is_owned_elsewhere table (owner_among table.schema folded (finite_map.entries cat.objects)) ≡ true
    on (inl found) =
        let held : finite_map.get cat.objects found.owner ≡ Some found.placed = (lists_entries cat.objects).holds found.owner found.placed found.there in
        let one : found.owner ≡ other = valid.constraints_distinct found.owner other found.placed placed folded (record { is = held }) (record { is = there }) (found.schema_is ∙ sym schema) found.has has in
        ap (is_owned_elsewhere table) found.seen ∙ not_from_false (is_same_object found.owner table) (not_same found.owner table (λ e. apart (sym one ∙ e)))
    on (inr none) = absurd (none.1 other placed ((lists_entries cat.objects).all other placed there) schema has)

-- no other table of the schema has the constraint of a grounded foreign key
unshared : (cat : Catalog) → IsValid cat → (table : ObjName) (keys_of : List ForeignKeyDef) → list_all (is_grounded (all_of cat) table) keys_of ≡ true → (folded : List ℕ) → list_any (λ (key : ForeignKeyDef). bytes_eq (fold key.name) folded) keys_of ≡ true
    → (other : ObjName) (placed : Placed) → finite_map.get cat.objects other ≡ Some placed → other.schema ≡ table.schema → has_constraint folded placed ≡ true → (other ≡ table → ⊥) → ⊥
unshared cat valid table keys_of grounded folded own other placed there schema has apart =
    let (key, good, named) = some_passes (is_grounded (all_of cat) table) (λ (k : ForeignKeyDef). bytes_eq (fold k.name) folded) keys_of grounded own in
    let (free, _) = and_parts (is_unowned table (all_of cat (keys.Constraint table.schema (fold key.name)))) (is_same_object key.parent table || has_parent_index key (all_of cat (keys.Object key.parent))) good in
    let free_so : is_owned_elsewhere table (owner_among table.schema folded (finite_map.entries cat.objects)) ≡ false =
    not-true (is_owned_elsewhere table (owner_among table.schema folded (finite_map.entries cat.objects)))
    (subst (λ (f : List ℕ). not (is_owned_elsewhere table (owner_among table.schema f (finite_map.entries cat.objects))) ≡ true) (bytes_are (fold key.name) folded named) free) in
    true≢false (sym (owner_elsewhere cat valid table folded other placed there schema has apart) ∙ free_so)

-- ## Parents

parent_there : (parts : TableParts) (key : ForeignKeyDef) (known : Option Placed) → has_parent_index key (Some (object_seen known)) ≡ true → is_paired_there parts key (Some (object_seen known)) ≡ true → is_parent_fit parts key known ≡ true
parent_there parts key None has paired = cc
parent_there parts key (Some (Table space parent)) has paired = and_from (has_index_on parent.indexes key.parent_columns) (are_columns_paired parts parent key) has paired
parent_there parts key (Some (View parent)) has paired = cc

-- the same columns are paired alike
columns_pair : (parts others : TableParts) (key : ForeignKeyDef) (known : Option Placed) (keys_of : List ForeignKeyDef) → parts ≡ record others { foreign_keys = keys_of } → is_parent_fit parts key known ≡ is_parent_fit others key known
unfolding are_columns_paired
columns_pair parts others key None keys_of same = refl
columns_pair parts others key (Some (Table space parent)) keys_of same = ap (λ (p : TableParts). is_parent_fit p key (Some (Table space parent))) same
columns_pair parts others key (Some (View parent)) keys_of same = refl

parent_keeps : (parts : TableParts) (key : ForeignKeyDef) (space : ℕ) (parent others : TableParts) (keys_of : List ForeignKeyDef) → others ≡ record parent { foreign_keys = keys_of } → is_parent_fit parts key (Some (Table space others)) ≡ is_parent_fit parts key (Some (Table space parent))
unfolding are_columns_paired
parent_keeps parts key space parent others keys_of same = ap (λ (p : TableParts). is_parent_fit parts key (Some (Table space p))) same

module _ (cat : Catalog) (valid : IsValid cat) (table : ObjName) (old held : ℕ) (state : Altering) (next : Places) (place : IsInPlace cat table old held state next) where
  -- what stands at another name was there, but for foreign keys on the table
  record IsStill (name : ObjName) (space : ℕ) (parts : TableParts) : Type 0 where
    before : TableParts
    was : finite_map.get cat.objects name ≡ Some (Table space before)
    same_parts : parts ≡ record before { foreign_keys = parts.foreign_keys }
    same_keys : AreSameKeys table before.foreign_keys parts.foreign_keys

  still : (name : ObjName) (space : ℕ) (parts : TableParts) → next name ≡ Some (Table space parts) → (name ≡ table → ⊥) → IsAt cat table held state next name → IsStill name space parts
  still name space parts is apart (inl own) = absurd (apart own.same)
  still name space parts is apart (inr (inl at)) =
      let from : IsFrom cat table at.child = place.from at.child at.there in
      let spaces : at.child.space ≡ space = space_is (sym at.is ∙ is) in
      let parts_same : at.child.parts ≡ parts = parts_are (sym at.is ∙ is) in
      record {
        before = from.before;
        was = ap (finite_map.get cat.objects) (sym at.named) ∙ from.was ∙ ap (λ n. Some (Table n from.before)) spaces;
        same_parts = subst (λ (p : TableParts). p ≡ record from.before { foreign_keys = p.foreign_keys }) parts_same from.parts;
        same_keys = subst (λ (p : TableParts). AreSameKeys table from.before.foreign_keys p.foreign_keys) parts_same from.same;
      }
  still name space parts is apart (inr (inr other)) = record { before = parts; was = sym other.is ∙ is; same_parts = refl; same_keys = keys_themselves table parts.foreign_keys }

  -- a view was there
  view_was : (name : ObjName) (parts : ViewParts) → next name ≡ Some (View parts) → IsAt cat table held state next name → finite_map.get cat.objects name ≡ Some (View parts)
  view_was name parts is (inl own) = let wrong : Some (View parts) ≡ Some (Table held state.parts) = sym is ∙ own.is in cc
  view_was name parts is (inr (inl at)) = let wrong : Some (View parts) ≡ Some (Table at.child.space at.child.parts) = sym is ∙ at.is in cc
  view_was name parts is (inr (inr other)) = sym other.is ∙ is

  own_is : (name : ObjName) (placed : Placed) → next name ≡ Some placed → name ≡ table → IsAt cat table held state next name → placed ≡ Table held state.parts
  own_is name placed is same (inl own) = placed_is (sym is ∙ own.is)
  own_is name placed is same (inr (inl at)) = absurd ((place.from at.child at.there).other (at.named ∙ same))
  own_is name placed is same (inr (inr other)) = absurd (other.apart same)

  schema_there : (name : ObjName) (placed : Placed) → next name ≡ Some placed → schemas_of cat name.schema ≡ true
  schema_there name placed is = elim (same_or_not name table) [
    | inl same ↦ subst (λ (o : ObjName). schemas_of cat o.schema ≡ true) (sym same) (valid.schemas_there table (Table old place.before) (record { is = place.was }))
    | inr apart ↦ on placed is apart
  ]
    where
      on : (p : Placed) → next name ≡ Some p → (name ≡ table → ⊥) → schemas_of cat name.schema ≡ true
      on (Table space parts) is apart = let there : IsStill name space parts = still name space parts is apart (place.at name) in valid.schemas_there name (Table space there.before) (record { is = there.was })
      on (View parts) is apart = valid.schemas_there name (View parts) (record { is = view_was name parts is (place.at name) })

  name_carried : (name : ObjName) (placed : Placed) → next name ≡ Some placed → own_name placed ≡ name
  name_carried name placed is = elim (same_or_not name table) [
    | inl same ↦ ap own_name (own_is name placed is same (place.at name)) ∙ place.stands.named ∙ sym same
    | inr apart ↦ on placed is apart
  ]
    where
      on : (p : Placed) → next name ≡ Some p → (name ≡ table → ⊥) → own_name p ≡ name
      on (Table space parts) is apart =
          let there : IsStill name space parts = still name space parts is apart (place.at name) in
          ap (λ (p : TableParts). p.name) there.same_parts ∙ valid.names_carried name (Table space there.before) (record { is = there.was })
      on (View parts) is apart = valid.names_carried name (View parts) (record { is = view_was name parts is (place.at name) })

  is_formed : (name : ObjName) (placed : Placed) → next name ≡ Some placed → is_placed_formed placed ≡ true
  is_formed name placed is = on (place.at name)
    where
      on : IsAt cat table held state next name → is_placed_formed placed ≡ true
      on (inl own) = ap is_placed_formed (placed_is (sym is ∙ own.is)) ∙ place.stands.formed
      on (inr (inl at)) = ap is_placed_formed (placed_is (sym is ∙ at.is)) ∙ (place.formed at.child at.there).formed
      on (inr (inr other)) = valid.formed name placed (record { is = sym other.is ∙ is })

  -- the space of a table: the one that is held, or one of the catalog at the same name
  in_range : (name : ObjName) (space : ℕ) (parts : TableParts) → next name ≡ Some (Table space parts) → (1 ≤ space) × (space ≤ 4294967294)
  in_range name space parts is = elim (same_or_not name table) [
    | inl same ↦ subst (λ n. (1 ≤ n) × (n ≤ 4294967294)) (sym (space_is (ap (λ p. Some p) (own_is name (Table space parts) is same (place.at name))))) (held_range place.space)
    | inr apart ↦ let there : IsStill name space parts = still name space parts is apart (place.at name) in valid.spaces_in_range name space there.before (record { is = there.was })
  ]
    where
      held_range : (held ≡ old) ⊎ IsNewSpace cat held → (1 ≤ held) × (held ≤ 4294967294)
      held_range (inl kept) = subst (λ n. (1 ≤ n) × (n ≤ 4294967294)) (sym kept) (valid.spaces_in_range table old place.before (record { is = place.was }))
      held_range (inr new) = (new.least, new.greatest)

  -- no other table holds the table's space
  held_alone : (name : ObjName) (parts : TableParts) → finite_map.get cat.objects name ≡ Some (Table held parts) → (name ≡ table → ⊥) → ⊥
  held_alone name parts there apart = on place.space
    where
      on : (held ≡ old) ⊎ IsNewSpace cat held → ⊥
      on (inl kept) = apart (valid.spaces_distinct name table old parts place.before (record { is = there ∙ ap (λ n. Some (Table n parts)) kept }) (record { is = place.was }))
      on (inr new) = new.new name parts (record { is = there })

  spaces_apart : (a b : ObjName) (space : ℕ) (parts others : TableParts) → next a ≡ Some (Table space parts) → next b ≡ Some (Table space others) → a ≡ b
  spaces_apart a b space parts others one two = on (same_or_not a table) (same_or_not b table)
    where
      space_held : (name : ObjName) (p : TableParts) → next name ≡ Some (Table space p) → name ≡ table → space ≡ held
      space_held name p is same = space_is (ap (λ q. Some q) (own_is name (Table space p) is same (place.at name)))

      clash : (name : ObjName) (p : TableParts) → next name ≡ Some (Table space p) → (name ≡ table → ⊥) → space ≡ held → ⊥
      clash name p is apart same =
          let there : IsStill name space p = still name space p is apart (place.at name) in
          held_alone name there.before (there.was ∙ ap (λ n. Some (Table n there.before)) same) apart

      on : (a ≡ table) ⊎ (a ≡ table → ⊥) → (b ≡ table) ⊎ (b ≡ table → ⊥) → a ≡ b
      on (inl same) (inl also) = same ∙ sym also
      on (inl same) (inr apart) = absurd (clash b others two apart (space_held a parts one same))
      on (inr apart) (inl same) = absurd (clash a parts one apart (space_held b others two same))
      on (inr apart) (inr other) =
          let first : IsStill a space parts = still a space parts one apart (place.at a) in
          let second : IsStill b space others = still b space others two other (place.at b) in
          valid.spaces_distinct a b space first.before second.before (record { is = first.was }) (record { is = second.was })

  -- a constraint at another name was there
  record HadConstraint (name : ObjName) (folded : List ℕ) : Type 0 where
    placed : Placed
    was : finite_map.get cat.objects name ≡ Some placed
    has : has_constraint folded placed ≡ true

  had_constraint : (name : ObjName) (folded : List ℕ) (placed : Placed) → next name ≡ Some placed → (name ≡ table → ⊥) → has_constraint folded placed ≡ true → HadConstraint name folded
  had_constraint name folded (Table space parts) is apart has =
      let there : IsStill name space parts = still name space parts is apart (place.at name) in
      record { placed = Table space there.before; was = there.was; has = sym (same_names table folded there.before.foreign_keys parts.foreign_keys there.same_keys) ∙ has }
  had_constraint name folded (View parts) is apart has = record { placed = View parts; was = view_was name parts is (place.at name); has = has }

  constraints_apart : (a b : ObjName) (placed other : Placed) (folded : List ℕ) → next a ≡ Some placed → next b ≡ Some other → a.schema ≡ b.schema → has_constraint folded placed ≡ true → has_constraint folded other ≡ true → a ≡ b
  constraints_apart a b placed other folded one two schema first second = on (same_or_not a table) (same_or_not b table)
    where
      clash : (c d : ObjName) (p q : Placed) → next c ≡ Some p → next d ≡ Some q → c ≡ table → (d ≡ table → ⊥) → c.schema ≡ d.schema → has_constraint folded p ≡ true → has_constraint folded q ≡ true → ⊥
      clash c d p q is there same apart schemas has also =
          let had : HadConstraint d folded = had_constraint d folded q there apart also in
          unshared cat valid table state.parts.foreign_keys place.grounded folded (ap (has_constraint folded) (sym (own_is c p is same (place.at c))) ∙ has) d had.placed had.was (sym schemas ∙ ap (λ (o : ObjName). o.schema) same) had.has apart

      on : (a ≡ table) ⊎ (a ≡ table → ⊥) → (b ≡ table) ⊎ (b ≡ table → ⊥) → a ≡ b
      on (inl same) (inl also) = same ∙ sym also
      on (inl same) (inr apart) = absurd (clash a b placed other one two same apart schema first second)
      on (inr apart) (inl same) = absurd (clash b a other placed two one same apart (sym schema) second first)
      on (inr apart) (inr also) =
          let had : HadConstraint a folded = had_constraint a folded placed one apart first in
          let another : HadConstraint b folded = had_constraint b folded other two also second in
          valid.constraints_distinct a b had.placed another.placed folded (record { is = had.was }) (record { is = another.was }) schema had.has another.has

  -- a parent that is another table is as fit as it was
  other_fit : (parts : TableParts) (key : ForeignKeyDef) → (key.parent ≡ table → ⊥) → IsAt cat table held state next key.parent → is_parent_fit parts key (finite_map.get cat.objects key.parent) ≡ true → is_parent_fit parts key (next key.parent) ≡ true
  other_fit parts key apart (inl own) fit = absurd (apart own.same)
  other_fit parts key apart (inr (inl at)) fit =
      let from : IsFrom cat table at.child = place.from at.child at.there in
      ap (is_parent_fit parts key) at.is ∙ parent_keeps parts key at.child.space from.before at.child.parts at.child.parts.foreign_keys from.parts
      ∙ sym (ap (is_parent_fit parts key) (ap (finite_map.get cat.objects) (sym at.named) ∙ from.was)) ∙ fit
  other_fit parts key apart (inr (inr other)) fit = ap (is_parent_fit parts key) other.is ∙ fit

  own_at : IsAt cat table held state next table → next table ≡ Some (Table held state.parts)
  own_at (inl own) = own.is
  own_at (inr (inl at)) = absurd ((place.from at.child at.there).other at.named)
  own_at (inr (inr other)) = absurd (other.apart refl)

  -- a foreign key on the table that is led and paired
  on_table : (parts : TableParts) (key : ForeignKeyDef) → is_same_object key.parent table ≡ true → is_led table state.parts.indexes key ≡ true → are_columns_paired parts state.parts key ≡ true → is_parent_fit parts key (next key.parent) ≡ true
  on_table parts key same led paired =
      let there : next key.parent ≡ Some (Table held state.parts) = ap next (same_object key.parent table same) ∙ own_at (place.at table) in
      ap (is_parent_fit parts key) there
      ∙ and_from (has_index_on state.parts.indexes key.parent_columns) (are_columns_paired parts state.parts key) (sym (ap (λ b. not b || has_index_on state.parts.indexes key.parent_columns) same) ∙ led) paired

  own_fit : (key : ForeignKeyDef) → is_led table state.parts.indexes key ≡ true → is_grounded (all_of cat) table key ≡ true → is_own_paired (all_of cat) state.parts key ≡ true → is_parent_fit state.parts key (next key.parent) ≡ true
  own_fit key led grounded paired = elim (cases_Bool (is_same_object key.parent table)) [
    | inl same ↦
        let own : is_same_object key.parent state.parts.name ≡ true = ap (is_same_object key.parent) place.stands.named ∙ same in
        let (first, _) = and_parts (not (is_same_object key.parent state.parts.name) || are_columns_paired state.parts state.parts key) (is_same_object key.parent state.parts.name || is_paired_there state.parts key (all_of cat (keys.Object key.parent))) paired in
        on_table state.parts key same led (sym (ap (λ b. not b || are_columns_paired state.parts state.parts key) own) ∙ first)
    | inr apart ↦
        let other : is_same_object key.parent state.parts.name ≡ false = ap (is_same_object key.parent) place.stands.named ∙ apart in
        let (_, second) = and_parts (not (is_same_object key.parent state.parts.name) || are_columns_paired state.parts state.parts key) (is_same_object key.parent state.parts.name || is_paired_there state.parts key (all_of cat (keys.Object key.parent))) paired in
        let (_, parent) = and_parts (is_unowned table (all_of cat (keys.Constraint table.schema (fold key.name)))) (is_same_object key.parent table || has_parent_index key (all_of cat (keys.Object key.parent))) grounded in
        other_fit state.parts key (λ e. true≢false (sym (is_same key.parent table e) ∙ apart)) (place.at key.parent)
        (parent_there state.parts key (finite_map.get cat.objects key.parent) (sym (ap (λ b. b || has_parent_index key (all_of cat (keys.Object key.parent))) apart) ∙ parent)
        (sym (ap (λ b. b || is_paired_there state.parts key (all_of cat (keys.Object key.parent))) other) ∙ second))
  ]

  all_own_fit : (keys_of : List ForeignKeyDef) → are_led table state.parts.indexes keys_of ≡ true → list_all (is_grounded (all_of cat) table) keys_of ≡ true → list_all (is_own_paired (all_of cat) state.parts) keys_of ≡ true → have_parents next state.parts keys_of ≡ true
  all_own_fit [] led grounded paired = refl
  all_own_fit (key ∷ rest) led grounded paired =
      let (one, leds) = and_parts (is_led table state.parts.indexes key) (are_led table state.parts.indexes rest) led in
      let (two, groundeds) = and_parts (is_grounded (all_of cat) table key) (list_all (is_grounded (all_of cat) table) rest) grounded in
      let (three, paireds) = and_parts (is_own_paired (all_of cat) state.parts key) (list_all (is_own_paired (all_of cat) state.parts) rest) paired in
      and_from (is_parent_fit state.parts key (next key.parent)) (have_parents next state.parts rest) (own_fit key one two three) (all_own_fit rest leds groundeds paireds)

  -- foreign keys of another table, those on the table led and paired
  still_fit : (parts before : TableParts) (mine : List ForeignKeyDef) (olds news : List ForeignKeyDef) → parts ≡ record before { foreign_keys = mine } → AreSameKeys table olds news
      → list_all (λ (key : ForeignKeyDef). is_parent_fit before key (finite_map.get cat.objects key.parent)) olds ≡ true
      → ((key : ForeignKeyDef) → is_same_object key.parent table ≡ true → (is_led table state.parts.indexes key && is_child_paired state.parts parts key) ≡ true → is_parent_fit parts key (next key.parent) ≡ true)
      → list_all (λ (key : ForeignKeyDef). not (is_same_object key.parent table) || (is_led table state.parts.indexes key && is_child_paired state.parts parts key)) news ≡ true → have_parents next parts news ≡ true
  still_fit parts before mine [] [] same_parts same fits gives good = refl
  still_fit parts before mine [] (b ∷ news) same_parts same fits gives good = absurd same
  still_fit parts before mine (a ∷ olds) [] same_parts same fits gives good = absurd same
  still_fit parts before mine (a ∷ olds) (b ∷ news) same_parts same fits gives good =
      let (fit, others) = and_parts (is_parent_fit before a (finite_map.get cat.objects a.parent)) (list_all (λ (key : ForeignKeyDef). is_parent_fit before key (finite_map.get cat.objects key.parent)) olds) fits in
      let (here, rest) = and_parts (not (is_same_object b.parent table) || (is_led table state.parts.indexes b && is_child_paired state.parts parts b))
      (list_all (λ (key : ForeignKeyDef). not (is_same_object key.parent table) || (is_led table state.parts.indexes key && is_child_paired state.parts parts key)) news) good in
      and_from (is_parent_fit parts b (next b.parent)) (have_parents next parts news) (one (is_same_object b.parent table) refl fit here) (still_fit parts before mine olds news same_parts same.1 others gives rest)
    where
      one : (t : Bool) → is_same_object b.parent table ≡ t → is_parent_fit before a (finite_map.get cat.objects a.parent) ≡ true → (not t || (is_led table state.parts.indexes b && is_child_paired state.parts parts b)) ≡ true → is_parent_fit parts b (next b.parent) ≡ true
      one true is fit here = gives b is here
      one false is fit here =
          let unlike : is_same_object a.parent table ≡ false = ap (λ o. is_same_object o table) (sym same.0.parent) ∙ is in
          let key_same : b ≡ a = same.0.other unlike in
          let apart : a.parent ≡ table → ⊥ = λ e. true≢false (sym (is_same a.parent table e) ∙ unlike) in
          subst (λ (k : ForeignKeyDef). is_parent_fit parts k (next k.parent) ≡ true) (sym key_same)
          (columns_pair parts before a (next a.parent) mine same_parts ∙ other_fit before a apart (place.at a.parent) fit)

  led_or_not : (parts : TableParts) (keys_of : List ForeignKeyDef) → are_led table state.parts.indexes keys_of ≡ true → list_all (is_child_paired state.parts parts) keys_of ≡ true
      → list_all (λ (key : ForeignKeyDef). not (is_same_object key.parent table) || (is_led table state.parts.indexes key && is_child_paired state.parts parts key)) keys_of ≡ true
  led_or_not parts [] led paired = refl
  led_or_not parts (key ∷ rest) led paired =
      let (one, leds) = and_parts (is_led table state.parts.indexes key) (are_led table state.parts.indexes rest) led in
      let (two, paireds) = and_parts (is_child_paired state.parts parts key) (list_all (is_child_paired state.parts parts) rest) paired in
      and_from (not (is_same_object key.parent table) || (is_led table state.parts.indexes key && is_child_paired state.parts parts key)) (list_all (λ (k : ForeignKeyDef). not (is_same_object k.parent table) || (is_led table state.parts.indexes k && is_child_paired state.parts parts k)) rest)
      (or_right (not (is_same_object key.parent table)) (is_led table state.parts.indexes key && is_child_paired state.parts parts key) (and_from (is_led table state.parts.indexes key) (is_child_paired state.parts parts key) one two)) (led_or_not parts rest leds paireds)

  none_on : (parts : TableParts) (keys_of : List ForeignKeyDef) → list_any (λ (key : ForeignKeyDef). is_same_object key.parent table) keys_of ≡ false
      → list_all (λ (key : ForeignKeyDef). not (is_same_object key.parent table) || (is_led table state.parts.indexes key && is_child_paired state.parts parts key)) keys_of ≡ true
  none_on parts [] none = refl
  none_on parts (key ∷ rest) none =
      let (here, later) = or_parts (is_same_object key.parent table) (list_any (λ (k : ForeignKeyDef). is_same_object k.parent table) rest) none in
      and_from (not (is_same_object key.parent table) || (is_led table state.parts.indexes key && is_child_paired state.parts parts key)) (list_all (λ (k : ForeignKeyDef). not (is_same_object k.parent table) || (is_led table state.parts.indexes k && is_child_paired state.parts parts k)) rest)
      (or_left (not (is_same_object key.parent table)) (is_led table state.parts.indexes key && is_child_paired state.parts parts key) (not_from_false (is_same_object key.parent table) here)) (none_on parts rest later)

  child_key : (parts : TableParts) (key : ForeignKeyDef) → is_same_object key.parent table ≡ true → (is_led table state.parts.indexes key && is_child_paired state.parts parts key) ≡ true → is_parent_fit parts key (next key.parent) ≡ true
  child_key parts key same good =
      let (led, paired) = and_parts (is_led table state.parts.indexes key) (is_child_paired state.parts parts key) good in
      let own : is_same_object key.parent state.parts.name ≡ true = ap (is_same_object key.parent) place.stands.named ∙ same in
      on_table parts key same led (sym (ap (λ b. not b || are_columns_paired parts state.parts key) own) ∙ paired)

  parents_there : (name : ObjName) (space : ℕ) (parts : TableParts) → next name ≡ Some (Table space parts) → have_parents next parts parts.foreign_keys ≡ true
  parents_there name space parts is = on (place.at name)
    where
      refers_none : (name ≡ table → ⊥) → ((child : Child) → IsIn child state.children → child.name ≡ name → ⊥) → finite_map.get cat.objects name ≡ Some (Table space parts) → list_any (λ (key : ForeignKeyDef). is_same_object key.parent table) parts.foreign_keys ≡ false
      refers_none apart none there = false_from_ne_true (list_any (λ (key : ForeignKeyDef). is_same_object key.parent table) parts.foreign_keys) (λ refers.
          let (child, is_in, named) = place.closed name space parts there refers apart in
          none child is_in named)

      on : IsAt cat table held state next name → have_parents next parts parts.foreign_keys ≡ true
      on (inl own) = subst (λ (p : TableParts). have_parents next p p.foreign_keys ≡ true) (parts_are (sym own.is ∙ is)) (all_own_fit state.parts.foreign_keys place.led place.grounded place.paired)
      on (inr (inl at)) =
          let from : IsFrom cat table at.child = place.from at.child at.there in
          subst (λ (p : TableParts). have_parents next p p.foreign_keys ≡ true) (parts_are (sym at.is ∙ is))
          (still_fit at.child.parts from.before at.child.parts.foreign_keys from.before.foreign_keys at.child.parts.foreign_keys from.parts from.same
          (valid.parents_fit at.child.name at.child.space from.before (record { is = from.was })) (child_key at.child.parts)
          (led_or_not at.child.parts at.child.parts.foreign_keys (place.child_led at.child at.there) (place.child_paired at.child at.there)))
      on (inr (inr other)) =
          let there : finite_map.get cat.objects name ≡ Some (Table space parts) = sym other.is ∙ is in
          still_fit parts parts parts.foreign_keys parts.foreign_keys parts.foreign_keys refl (keys_themselves table parts.foreign_keys) (valid.parents_fit name space parts (record { is = there })) (child_key parts)
          (none_on parts parts.foreign_keys (refers_none other.apart other.none there))

  -- what stands there is valid
  pub in_place_sound : IsSound (schemas_of cat) next
  in_place_sound = record {
    schemas_there = schema_there;
    names_carried = name_carried;
    formed = is_formed;
    spaces_in_range = in_range;
    spaces_distinct = spaces_apart;
    constraints_distinct = constraints_apart;
    parents_fit = parents_there;
  }
