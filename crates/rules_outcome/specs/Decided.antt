-- What is decided of a statement, as its check finds it.
use Rattle.std.specs.Prelude.{◌≡◌, ℕ, ◌⊎◌, List, map, Option, Some, None, Result}
use Rattle.std.specs.List.{AllByRecursion}
use Rattle.dd_names.specs.declared.object_name.ObjName.{ObjName}
use Rattle.dd_names.specs.declared.object_name.ObjectKey.{ObjectKey}
use Rattle.dd_names.specs.declared.object_name.ObjectKey.TheVariants as keys
use Rattle.dd_errors.specs.Errors.{ErrorValue}
use Rattle.dd_definitions.specs.declared.parts.TableParts.{TableParts}
use Rattle.dd_definitions.specs.declared.view_parts.ViewParts.{ViewParts}
use Rattle.dd_catalog.specs.declared.object.Object.{Object}
use Rattle.dd_catalog.specs.declared.object.Object.TheVariants as objects
use Rattle.dd_catalog.specs.declared.stop.Stop.{Stop}
use Rattle.dd_catalog.specs.Follow.{Follows}
use Rattle.dd_catalog.specs.Walks.{Found}
use Rattle.rules_outcome.specs.declared.decided.After as left
use Rattle.rules_outcome.specs.declared.decided.After.TheVariants as after
use Rattle.rules_outcome.specs.declared.decided.Edit.{Edit}
use Rattle.rules_outcome.specs.declared.decided.Edits.{Edits}
use Rattle.rules_outcome.specs.declared.decided.Decided.{Decided}
use Rattle.rules_outcome.specs.declared.decided.Decided.TheVariants as decided
use Rattle.rules_outcome.specs.Choices.{After, Gone, NewSchema, FreshTable, KeptTable, NewView, KeptView, Change, change, Choice, Same, Changes, Lists}

-- what an edit leaves at its key, without ids
abbrev pub after_of : left.After → After
after_of after.Gone = Gone
after_of after.NewSchema = NewSchema
after_of (after.NewTable schema def) = FreshTable def
after_of (after.KeptTable id schema space def) = KeptTable space def
after_of (after.RebuiltTable id schema def) = FreshTable def
after_of (after.NewView schema def) = NewView def
after_of (after.KeptView id schema def) = KeptView def

abbrev pub change_of : Edit → Change
change_of edit = change edit.key (after_of edit.after)

abbrev pub choice_of : Edits → Choice
choice_of edits = Changes (map change_of edits.puts) edits.session

-- what was decided, without ids
abbrev pub chosen : Decided → Choice
chosen (decided.Edits edits) = choice_of edits
chosen decided.Same = Same
chosen (decided.Rows listing) = Lists listing

-- what is decided is what the check comes to, or the check comes to the stop; want of memory may come at any time
abbrev pub Decides : Result Decided Stop → Found ErrorValue Choice → Type 0
Decides answer found = Follows chosen answer found

-- ## What stood before

-- nothing where the key is known to have nothing
abbrev pub there : Object → Option Object
there objects.Absent = None
there object = Some object

abbrev pub IsBefore : Option Object → Option Object → Type 0
IsBefore None before = ⊥
IsBefore (Some object) before = before ≡ there object

-- each edit has what is known to stand at its key
abbrev pub AreBefore : (ObjectKey → Option Object) → Decided → Type 0
AreBefore known (decided.Edits edits) = AllByRecursion (λ (edit : Edit). IsBefore (known edit.key) edit.before) edits.puts
AreBefore known other = Unit {0}

-- ## Ids

-- a table that is known, with its id, that of its schema, and that of its tablespace
pub record KnownTable (known : ObjectKey → Option Object) (id schema space : ℕ) : Type 0 where
  pub name : ObjName
  pub parts : TableParts
  pub is : known (keys.Object name) ≡ Some (objects.Table id schema space parts)

-- a view that is known, with its id and that of its schema
pub record KnownView (known : ObjectKey → Option Object) (id schema : ℕ) : Type 0 where
  pub name : ObjName
  pub parts : ViewParts
  pub is : known (keys.Object name) ≡ Some (objects.View id schema parts)

-- the schema is known, or an object of it, and it has this id
abbrev pub IsSchemaId : (ObjectKey → Option Object) → List ℕ → ℕ → Type 0
IsSchemaId known name id = (known (keys.Schema name) ≡ Some (objects.Schema id))
    ⊎ (((object : ObjName) × (object.schema ≡ name) × (own : ℕ) × (space : ℕ) × (parts : TableParts) × (known (keys.Object object) ≡ Some (objects.Table own id space parts)))
    ⊎ ((object : ObjName) × (object.schema ≡ name) × (own : ℕ) × (parts : ViewParts) × (known (keys.Object object) ≡ Some (objects.View own id parts))))

-- what isn't new has the id of a table or a view that is known, and each has the id of its schema
abbrev pub HasIdsAt : (ObjectKey → Option Object) → ObjName → left.After → Type 0
HasIdsAt known name (after.NewTable schema def) = IsSchemaId known name.schema schema
HasIdsAt known name (after.KeptTable id schema space def) = IsSchemaId known name.schema schema × ((own : ℕ) × KnownTable known id own space)
HasIdsAt known name (after.RebuiltTable id schema def) = IsSchemaId known name.schema schema × ((own : ℕ) × (space : ℕ) × KnownTable known id own space)
HasIdsAt known name (after.NewView schema def) = IsSchemaId known name.schema schema
HasIdsAt known name (after.KeptView id schema def) = IsSchemaId known name.schema schema × ((own : ℕ) × KnownView known id own)
HasIdsAt known name other = Unit {0}

abbrev pub HasIds : (ObjectKey → Option Object) → ObjectKey → left.After → Type 0
HasIds known (keys.Object name) after = HasIdsAt known name after
HasIds known key after = Unit {0}

-- each edit leaves such ids
abbrev pub HaveIds : (ObjectKey → Option Object) → Decided → Type 0
HaveIds known (decided.Edits edits) = AllByRecursion (λ (edit : Edit). HasIds known edit.key edit.after) edits.puts
HaveIds known other = Unit {0}
