-- Tables and views that are formed and carry their names, where a check sees them and where a statement leaves them.
use Rattle.std.specs.Prelude.{◌≡◌, ℕ, true, Some}
use Rattle.std.specs.List.{AllByRecursion}
use Rattle.dd_names.specs.declared.object_name.ObjName.{ObjName}
use Rattle.dd_names.specs.declared.object_name.ObjectKey.{ObjectKey}
use Rattle.dd_names.specs.declared.object_name.ObjectKey.TheVariants as keys
use Rattle.dd_definitions.specs.Views.{is_view_formed}
use Rattle.dd_definitions.specs.WellFormed.{is_well_formed}
use Rattle.dd_definitions.specs.declared.parts.TableParts.{TableParts}
use Rattle.dd_definitions.specs.declared.view_parts.ViewParts.{ViewParts}
use Rattle.dd_catalog.specs.Sights.{TableThere, ViewThere}
use Rattle.dd_catalog.specs.WalkLaws.{Look}
use Rattle.rules_outcome.specs.Choices.{After, Gone, NewSchema, FreshTable, KeptTable, NewView, KeptView, Change, Choice, Same, Changes, Lists}

-- a table that fits together and has this name
pub record IsTableAt (name : ObjName) (parts : TableParts) : Type 0 where
  pub formed : is_well_formed parts ≡ true
  pub named : parts.name ≡ name

-- a view that fits together and has this name
pub record IsViewAt (name : ObjName) (parts : ViewParts) : Type 0 where
  pub formed : is_view_formed parts ≡ true
  pub named : parts.name ≡ name

-- each table and each view that is known is so
pub record SeesFormed (look : Look) : Type 0 where
  pub tables : (name : ObjName) (space : ℕ) (parts : TableParts) → look (keys.Object name) ≡ Some (TableThere space parts) → IsTableAt name parts
  pub views : (name : ObjName) (parts : ViewParts) → look (keys.Object name) ≡ Some (ViewThere parts) → IsViewAt name parts

abbrev pub IsFormedAt : ObjName → After → Type 0
IsFormedAt name Gone = Unit {0}
IsFormedAt name NewSchema = Unit {0}
IsFormedAt name (FreshTable parts) = IsTableAt name parts
IsFormedAt name (KeptTable space parts) = IsTableAt name parts
IsFormedAt name (NewView parts) = IsViewAt name parts
IsFormedAt name (KeptView parts) = IsViewAt name parts

abbrev pub IsFormedBehind : ObjectKey → After → Type 0
IsFormedBehind (keys.Object name) after = IsFormedAt name after
IsFormedBehind key after = Unit {0}

-- each table and each view that the statement changes is so behind it
abbrev pub LeavesFormed : Choice → Type 0
LeavesFormed Same = Unit {0}
LeavesFormed (Changes changes session) = AllByRecursion (λ (c : Change). IsFormedBehind c.key c.after) changes
LeavesFormed (Lists listing) = Unit {0}
