-- Validity as it is seen at each name.
use Rattle.std.specs.Prelude.{◌≡◌, ◌≤◌, ℕ, Bool, true, false, List, Some}
use Rattle.std.specs.FinMap as finite_map
use Rattle.std.specs.List.{list_all}
use Rattle.std.proofs.Common.{sym, ◌∙◌, ap}
use Rattle.dd_names.specs.Names.{is_name}
use Rattle.dd_names.specs.Reserved.{is_system_schema}
use Rattle.dd_names.specs.declared.object_name.ObjName.{ObjName}
use Rattle.dd_definitions.specs.declared.foreign_keys.ForeignKeyDef.{ForeignKeyDef}
use Rattle.dd_definitions.specs.declared.parts.TableParts.{TableParts}
use Rattle.dd_catalog.specs.Catalog.{Catalog, Placed, Table, has_constraint}
use Rattle.dd_catalog.specs.Valid.{own_name, is_placed_named, is_placed_formed, is_parent_fit, Has, IsValid}
use Rattle.rules_create.proofs.Lists.{same_all}
use Rattle.rules_valid.proofs.RenamedPlaces.{Places}

-- each foreign key has a fit parent
abbrev pub have_parents : Places → TableParts → List ForeignKeyDef → Bool
have_parents at parts keys = list_all (λ (key : ForeignKeyDef). is_parent_fit parts key (at key.parent)) keys

-- what stands there is valid beside these schemas
pub record IsSound (schemas : List ℕ → Bool) (at : Places) : Type 0 where
  pub schemas_there : (name : ObjName) (placed : Placed) → at name ≡ Some placed → schemas name.schema ≡ true
  pub names_carried : (name : ObjName) (placed : Placed) → at name ≡ Some placed → own_name placed ≡ name
  pub formed : (name : ObjName) (placed : Placed) → at name ≡ Some placed → is_placed_formed placed ≡ true
  pub spaces_in_range : (name : ObjName) (space : ℕ) (parts : TableParts) → at name ≡ Some (Table space parts) → (1 ≤ space) × (space ≤ 4294967294)
  pub spaces_distinct : (a b : ObjName) (space : ℕ) (parts others : TableParts) → at a ≡ Some (Table space parts) → at b ≡ Some (Table space others) → a ≡ b
  pub constraints_distinct : (a b : ObjName) (placed other : Placed) (folded : List ℕ) → at a ≡ Some placed → at b ≡ Some other → a.schema ≡ b.schema
      → has_constraint folded placed ≡ true → has_constraint folded other ≡ true → a ≡ b
  pub parents_fit : (name : ObjName) (space : ℕ) (parts : TableParts) → at name ≡ Some (Table space parts) → have_parents at parts parts.foreign_keys ≡ true

-- the names in what stands there are names
pub record ArePlacedNamed (at : Places) : Type 0 where
  pub all : (name : ObjName) (placed : Placed) → at name ≡ Some placed → is_placed_named placed ≡ true

-- a table has the space
pub record HoldsSpace (at : Places) (space : ℕ) : Type 0 where
  pub name : ObjName
  pub parts : TableParts
  pub there : at name ≡ Some (Table space parts)

-- each table has the space of one that stood there before
pub record KeepSpaces (before at : Places) : Type 0 where
  pub held : (name : ObjName) (space : ℕ) (parts : TableParts) → at name ≡ Some (Table space parts) → HoldsSpace before space

pub keep_all : (at : Places) → KeepSpaces at at
keep_all at = record { held = λ name space parts is. record { name = name; parts = parts; there = is } }

pub keep_both : (first second third : Places) → KeepSpaces first second → KeepSpaces second third → KeepSpaces first third
keep_both first second third one two = record {
  held = λ name space parts is. let before : HoldsSpace second space = two.held name space parts is in one.held before.name space before.parts before.there;
}

pub keep_alike : (before at other : Places) → ((name : ObjName) → at name ≡ other name) → KeepSpaces before at → KeepSpaces before other
keep_alike before at other alike kept = record { held = λ name space parts is. kept.held name space parts (alike name ∙ is) }

abbrev pub schemas_of : Catalog → List ℕ → Bool
schemas_of cat name = finite_map.contains_key cat.schemas name

-- what a valid catalog has is so
pub from_valid : (cat : Catalog) → IsValid cat → IsSound (schemas_of cat) (finite_map.get cat.objects)
from_valid cat valid = record {
  schemas_there = λ name placed is. valid.schemas_there name placed (record { is = is });
  names_carried = λ name placed is. valid.names_carried name placed (record { is = is });
  formed = λ name placed is. valid.formed name placed (record { is = is });
  spaces_in_range = λ name space parts is. valid.spaces_in_range name space parts (record { is = is });
  spaces_distinct = λ a b space parts others one other. valid.spaces_distinct a b space parts others (record { is = one }) (record { is = other });
  constraints_distinct = λ a b placed other folded one two. valid.constraints_distinct a b placed other folded (record { is = one }) (record { is = two });
  parents_fit = λ name space parts is. valid.parents_fit name space parts (record { is = is });
}

parents_alike : (at other : Places) → ((name : ObjName) → at name ≡ other name) → (parts : TableParts) (keys : List ForeignKeyDef) → have_parents at parts keys ≡ have_parents other parts keys
parents_alike at other alike parts keys =
    same_all (λ (key : ForeignKeyDef). is_parent_fit parts key (at key.parent)) (λ (key : ForeignKeyDef). is_parent_fit parts key (other key.parent)) (λ key. ap (is_parent_fit parts key) (alike key.parent)) keys

-- it is so where the same stands at each name
pub alike_sound : (schemas : List ℕ → Bool) (at other : Places) → ((name : ObjName) → at name ≡ other name) → IsSound schemas at → IsSound schemas other
alike_sound schemas at other alike sound = record {
  schemas_there = λ name placed is. sound.schemas_there name placed (alike name ∙ is);
  names_carried = λ name placed is. sound.names_carried name placed (alike name ∙ is);
  formed = λ name placed is. sound.formed name placed (alike name ∙ is);
  spaces_in_range = λ name space parts is. sound.spaces_in_range name space parts (alike name ∙ is);
  spaces_distinct = λ a b space parts others one two. sound.spaces_distinct a b space parts others (alike a ∙ one) (alike b ∙ two);
  constraints_distinct = λ a b placed another folded one two. sound.constraints_distinct a b placed another folded (alike a ∙ one) (alike b ∙ two);
  parents_fit = λ name space parts is. sym (parents_alike at other alike parts parts.foreign_keys) ∙ sound.parents_fit name space parts (alike name ∙ is);
}

pub alike_named : (at other : Places) → ((name : ObjName) → at name ≡ other name) → ArePlacedNamed at → ArePlacedNamed other
alike_named at other alike named = record { all = λ name placed is. named.all name placed (alike name ∙ is) }

got : (cat : Catalog) (name : ObjName) (placed : Placed) → Has cat name placed → finite_map.get cat.objects name ≡ Some placed
got cat name placed has = has.is

-- a catalog that has it, with names, and schemas of which each is named and none is the server's, is valid
pub to_valid : (cat : Catalog) → ((name : List ℕ) → schemas_of cat name ≡ true → is_system_schema name ≡ false) → ((name : List ℕ) → schemas_of cat name ≡ true → is_name name ≡ true) → IsSound (schemas_of cat) (finite_map.get cat.objects)
    → ArePlacedNamed (finite_map.get cat.objects) → IsValid cat
to_valid cat own schemas_named sound named = record {
  own_schemas = own;
  schemas_named = schemas_named;
  named = λ name placed has. named.all name placed (got cat name placed has);
  schemas_there = λ name placed has. sound.schemas_there name placed (got cat name placed has);
  names_carried = λ name placed has. sound.names_carried name placed (got cat name placed has);
  formed = λ name placed has. sound.formed name placed (got cat name placed has);
  spaces_in_range = λ name space parts has. sound.spaces_in_range name space parts (got cat name (Table space parts) has);
  spaces_distinct = λ a b space parts others one other. sound.spaces_distinct a b space parts others (got cat a (Table space parts) one) (got cat b (Table space others) other);
  constraints_distinct = λ a b placed other folded one two. sound.constraints_distinct a b placed other folded (got cat a placed one) (got cat b other two);
  parents_fit = λ name space parts has. sound.parents_fit name space parts (got cat name (Table space parts) has);
}
