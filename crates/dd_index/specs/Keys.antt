-- The keys of children and of constraints at which a table stands.
use Rattle.std.specs.Prelude.{◌≡◌, ℕ, Bool, true, false, not, ◌&&◌, List, [], ◌∷◌, Option, Some, None, if◌then◌else◌}
use Rattle.std.specs.Char.{is_ascii_uppercase}
use Rattle.std.specs.List.{list_any}
use Rattle.std.specs.Str.{bytes_eq}
use Rattle.std.specs.BTreeSet.{BTreeSet, contains}
use Rattle.std.specs.declared.cmp.Ordering.{Ordering}
use Rattle.dd_names.specs.Names.{fold}
use Rattle.dd_names.specs.declared.object_name.ObjName.{ObjName}
use Rattle.dd_names.specs.declared.object_name.ObjectKey.{ObjectKey}
use Rattle.dd_names.specs.declared.object_name.ObjectKey.TheVariants as keys
use Rattle.dd_names.specs.contracts.object_name.ObjectKeyOrd.TheImpl as key_ord
use Rattle.dd_definitions.specs.declared.foreign_keys.ForeignKeyDef.{ForeignKeyDef}
use Rattle.dd_catalog.specs.Catalog.{Placed, is_same_object, foreign_keys_of}

-- by the kind of the keys, and then by their names
abbrev pub key_cmp : ObjectKey → ObjectKey → Ordering
key_cmp = (key_ord.ghosts).cmp

-- the byte isn't an ASCII letter in upper case
abbrev pub is_no_capital : ℕ → Bool
is_no_capital c = not (is_ascii_uppercase c)

-- a table with these foreign keys is a child of another, or owns the constraint
abbrev pub stands : ObjectKey → ObjName → List ForeignKeyDef → Bool
stands (keys.Children parent) table foreign_keys = list_any (λ (key : ForeignKeyDef). is_same_object key.parent parent) foreign_keys && not (is_same_object table parent)
stands (keys.Constraint schema folded) table foreign_keys = bytes_eq table.schema schema && list_any (λ (key : ForeignKeyDef). bytes_eq (fold key.name) folded) foreign_keys
stands key table foreign_keys = false

-- the names of the entries that pass
abbrev pub names_where : {X : Type 0} → (ObjName → X → Bool) → List (ObjName × X) → List ObjName
names_where test [] = []
names_where test (entry ∷ entries) = if test entry.0 entry.1 then entry.0 ∷ names_where test entries else names_where test entries

abbrev pub passes : {X : Type 0} → (ObjName → X → Bool) → ObjName → Option X → Bool
passes test name None = false
passes test name (Some x) = test name x

-- an object of that name stands at the key
abbrev pub placed_stands : ObjectKey → ObjName → Placed → Bool
placed_stands key name placed = stands key name (foreign_keys_of placed)

-- the objects that stand at the key
abbrev pub standing : ObjectKey → List (ObjName × Placed) → List ObjName
standing key entries = names_where (placed_stands key) entries

-- the keys have each at which the table stands
pub record HasKeys (found : BTreeSet ObjectKey) (table : ObjName) (foreign_keys : List ForeignKeyDef) : Type 0 where
  pub all : (key : ObjectKey) → stands key table foreign_keys ≡ true → contains key_cmp found key ≡ true

-- the new keys are the old ones and those of one more foreign key
pub record HasMoreKeys (old new : BTreeSet ObjectKey) (schema : List ℕ) (foreign_key : ForeignKeyDef) : Type 0 where
  pub kept : (key : ObjectKey) → contains key_cmp old key ≡ true → contains key_cmp new key ≡ true
  pub parent : contains key_cmp new (keys.Children foreign_key.parent) ≡ true
  pub constraint : contains key_cmp new (keys.Constraint schema (fold foreign_key.name)) ≡ true
