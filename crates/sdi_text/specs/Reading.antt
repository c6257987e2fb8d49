-- What is read of an SDI.
use Rattle.std.specs.Prelude.{◌≡◌, ◌<◌, ◌^◌, MatchResult, Result, ⊤}
use Rattle.std.specs.List.{AllByRecursion}
use Rattle.dd_names.specs.Names.{IsName}
use Rattle.sql_types.specs.declared.choices.ColumnType.{ColumnType}
use Rattle.sql_types.specs.declared.choices.ColumnType.TheVariants as types
use Rattle.dd_definitions.specs.declared.columns.ColumnDef.{ColumnDef}
use Rattle.dd_definitions.specs.declared.indexes.IndexDef.{IndexDef}
use Rattle.dd_definitions.specs.declared.foreign_keys.ForeignKeyDef.{ForeignKeyDef}
use Rattle.dd_definitions.specs.declared.parts.TableParts.{TableParts}
use Rattle.sdi_text.specs.declared.fault.SdiFault.{SdiFault}
use Rattle.sdi_text.specs.declared.fault.SdiFault.TheVariants.{Memory}

-- this value is read, or there was no memory for it
abbrev pub Reads : {X : Type 0} → X → Result X SdiFault → Type 0
Reads x result = MatchResult result (λ read. read ≡ x) (λ fault. fault ≡ Memory)

-- a length has two bytes
abbrev pub IsHeldType : ColumnType → Type 0
IsHeldType (types.Int size unsigned) = ⊤
IsHeldType types.Bool = ⊤
IsHeldType (types.Char length) = length < 2 ^ 16
IsHeldType (types.VarChar length) = length < 2 ^ 16
IsHeldType types.Date = ⊤
IsHeldType types.DateTime = ⊤

-- what the types of Rust ask of a column, an index, a foreign key and a table: names are names, and lengths have room
pub record IsHeldColumn (column : ColumnDef) : Type 0 where
  pub name : IsName column.name
  pub kind : IsHeldType column.kind

pub record IsHeldIndex (index : IndexDef) : Type 0 where
  pub name : IsName index.name
  pub columns : AllByRecursion IsName index.columns

pub record IsHeldKey (key : ForeignKeyDef) : Type 0 where
  pub name : IsName key.name
  pub columns : AllByRecursion IsName key.columns
  pub schema : IsName key.parent.schema
  pub parent : IsName key.parent.name
  pub parent_columns : AllByRecursion IsName key.parent_columns

pub record IsHeld (parts : TableParts) : Type 0 where
  pub schema : IsName parts.name.schema
  pub name : IsName parts.name.name
  pub columns : AllByRecursion IsHeldColumn parts.columns
  pub indexes : AllByRecursion IsHeldIndex parts.indexes
  pub foreign_keys : AllByRecursion IsHeldKey parts.foreign_keys
