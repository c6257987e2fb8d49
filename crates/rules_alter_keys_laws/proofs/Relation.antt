-- Children that differ in the parent columns of their foreign keys on the table alone.
use Rattle.std.specs.Prelude.{◌≡◌, ℕ, Bool, true, false, List, [], ◌∷◌, map, refl}
use Rattle.std.proofs.Common.{sym, ◌∙◌, ap}
use Rattle.std.proofs.lemmas.Bool.{true≢false, cond_both}
use Rattle.dd_names.specs.declared.object_name.ObjName.{ObjName}
use Rattle.dd_definitions.specs.declared.foreign_keys.ForeignKeyDef.{ForeignKeyDef}
use Rattle.dd_definitions.specs.declared.parts.TableParts.{TableParts}
use Rattle.dd_catalog.specs.Catalog.{is_same_object}
use Rattle.rules_alter.specs.Altering.{child_renamed, is_child_touched, renamed_name, with_keys_renamed, with_parent_renamed}
use Rattle.rules_alter.specs.declared.states.Child.{Child}
use Rattle.rules_alter_keys_laws.specs.Children.{IsSameKey, AreSameKeys, IsChildOf, AreChildrenOf}

key_itself : (table : ObjName) (key : ForeignKeyDef) → IsSameKey table key key
key_itself table key = record { name = refl; parent = refl; other = λ apart. refl }

pub keys_themselves : (table : ObjName) (keys : List ForeignKeyDef) → AreSameKeys table keys keys
keys_themselves table [] = tt
keys_themselves table (key ∷ keys) = (key_itself table key, keys_themselves table keys)

key_through : (table : ObjName) (a b c : ForeignKeyDef) → IsSameKey table a b → IsSameKey table b c → IsSameKey table a c
key_through table a b c one two = record {
  name = two.name ∙ one.name;
  parent = two.parent ∙ one.parent;
  other = λ apart. two.other (ap (λ parent. is_same_object parent table) one.parent ∙ apart) ∙ one.other apart;
}

keys_through : (table : ObjName) (xs ys zs : List ForeignKeyDef) → AreSameKeys table xs ys → AreSameKeys table ys zs → AreSameKeys table xs zs
keys_through table [] [] [] one two = tt
keys_through table [] [] (c ∷ zs) one two = absurd two
keys_through table [] (b ∷ ys) zs one two = absurd one
keys_through table (a ∷ xs) [] zs one two = absurd one
keys_through table (a ∷ xs) (b ∷ ys) [] one two = absurd two
keys_through table (a ∷ xs) (b ∷ ys) (c ∷ zs) one two = (key_through table a b c one.0 two.0, keys_through table xs ys zs one.1 two.1)

pub child_itself : (table : ObjName) (child : Child) → IsChildOf table child child
child_itself table child = record { name = refl; space = refl; parts = refl; keys = keys_themselves table child.parts.foreign_keys; changed = λ is. is; unchanged = λ is. refl }

pub children_themselves : (table : ObjName) (children : List Child) → AreChildrenOf table children children
children_themselves table [] = tt
children_themselves table (child ∷ children) = (child_itself table child, children_themselves table children)

child_through : (table : ObjName) (a b c : Child) → IsChildOf table a b → IsChildOf table b c → IsChildOf table a c
child_through table a b c one two = record {
  name = two.name ∙ one.name;
  space = two.space ∙ one.space;
  parts = two.parts ∙ ap (λ (p : TableParts). record p { foreign_keys = c.parts.foreign_keys }) one.parts;
  keys = keys_through table a.parts.foreign_keys b.parts.foreign_keys c.parts.foreign_keys one.keys two.keys;
  changed = λ is. two.changed (one.changed is);
  unchanged = λ is. two.unchanged is ∙ one.unchanged (still b.is_changed refl is);
}
  where
    still : (x : Bool) → b.is_changed ≡ x → c.is_changed ≡ false → b.is_changed ≡ false
    still true was is = absurd (true≢false (sym (two.changed was) ∙ is))
    still false was is = was

pub children_through : (table : ObjName) (xs ys zs : List Child) → AreChildrenOf table xs ys → AreChildrenOf table ys zs → AreChildrenOf table xs zs
children_through table [] [] [] one two = tt
children_through table [] [] (c ∷ zs) one two = absurd two
children_through table [] (b ∷ ys) zs one two = absurd one
children_through table (a ∷ xs) [] zs one two = absurd one
children_through table (a ∷ xs) (b ∷ ys) [] one two = absurd two
children_through table (a ∷ xs) (b ∷ ys) (c ∷ zs) one two = (child_through table a b c one.0 two.0, children_through table xs ys zs one.1 two.1)

-- ## A child whose foreign keys name a column anew

key_renamed : (table : ObjName) (from to : List ℕ) (key : ForeignKeyDef) → IsSameKey table key (with_parent_renamed table from to key)
key_renamed table from to key = cond_both (is_same_object key.parent table) (record key { parent_columns = map (renamed_name from to) key.parent_columns }) key (IsSameKey table key)
    (λ same. record { name = refl; parent = refl; other = λ apart. absurd (true≢false (sym same ∙ apart)) }) (λ _. key_itself table key)

keys_renamed : (table : ObjName) (from to : List ℕ) (keys : List ForeignKeyDef) → AreSameKeys table keys (map (with_parent_renamed table from to) keys)
keys_renamed table from to [] = tt
keys_renamed table from to (key ∷ keys) = (key_renamed table from to key, keys_renamed table from to keys)

child_is_renamed : (table : ObjName) (from to : List ℕ) (child : Child) → IsChildOf table child (child_renamed table from to child)
child_is_renamed table from to child = cond_both (is_child_touched table from child) (record child { parts = with_keys_renamed table from to child.parts; is_changed = true }) child (IsChildOf table child)
    (λ _. record { name = refl; space = refl; parts = refl; keys = keys_renamed table from to child.parts.foreign_keys; changed = λ is. refl; unchanged = λ is. absurd (true≢false is) }) (λ _. child_itself table child)

pub children_are_renamed : (table : ObjName) (from to : List ℕ) (children : List Child) → AreChildrenOf table children (map (child_renamed table from to) children)
children_are_renamed table from to [] = tt
children_are_renamed table from to (child ∷ children) = (child_is_renamed table from to child, children_are_renamed table from to children)
