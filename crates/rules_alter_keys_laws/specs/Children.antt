-- The children of a table whose columns may have other names.
use Rattle.std.specs.Prelude.{◌≡◌, true, false, List, [], ◌∷◌}
use Rattle.dd_names.specs.declared.object_name.ObjName.{ObjName}
use Rattle.dd_definitions.specs.declared.foreign_keys.ForeignKeyDef.{ForeignKeyDef}
use Rattle.dd_catalog.specs.Catalog.{is_same_object}
use Rattle.rules_alter.specs.declared.states.Child.{Child}

-- the same foreign key but for parent columns in the table
pub record IsSameKey (table : ObjName) (before after : ForeignKeyDef) : Type 0 where
  pub name : after.name ≡ before.name
  pub parent : after.parent ≡ before.parent
  pub other : is_same_object before.parent table ≡ false → after ≡ before

abbrev pub AreSameKeys : ObjName → List ForeignKeyDef → List ForeignKeyDef → Type 0
AreSameKeys table [] [] = Unit {0}
AreSameKeys table (a ∷ keys) (b ∷ others) = IsSameKey table a b × AreSameKeys table keys others
AreSameKeys table keys others = ⊥

-- the same child but for such foreign keys, and the very same where it isn't changed
pub record IsChildOf (table : ObjName) (before after : Child) : Type 0 where
  pub name : after.name ≡ before.name
  pub space : after.space ≡ before.space
  pub parts : after.parts ≡ record before.parts { foreign_keys = after.parts.foreign_keys }
  pub keys : AreSameKeys table before.parts.foreign_keys after.parts.foreign_keys
  pub changed : before.is_changed ≡ true → after.is_changed ≡ true
  pub unchanged : after.is_changed ≡ false → after.parts ≡ before.parts

abbrev pub AreChildrenOf : ObjName → List Child → List Child → Type 0
AreChildrenOf table [] [] = Unit {0}
AreChildrenOf table (a ∷ children) (b ∷ others) = IsChildOf table a b × AreChildrenOf table children others
AreChildrenOf table children others = ⊥
