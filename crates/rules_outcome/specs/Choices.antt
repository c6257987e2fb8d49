-- What a statement comes to where it isn't refused, and what its changes make of a catalog.
use Rattle.std.specs.Prelude.{ℕ, ◌≤◌, Bool, true, false, List, [], ◌∷◌}
use Rattle.std.specs.List.{list_any}
use Rattle.std.specs.FinMap as finite_map
use Rattle.dd_names.specs.declared.object_name.ObjName.{ObjName}
use Rattle.dd_names.specs.declared.object_name.ObjectKey.{ObjectKey}
use Rattle.dd_names.specs.declared.object_name.ObjectKey.TheVariants as keys
use Rattle.sql_types.specs.declared.listing.Listing.{Listing}
use Rattle.dd_definitions.specs.declared.parts.TableParts.{TableParts}
use Rattle.dd_definitions.specs.declared.view_parts.ViewParts.{ViewParts}
use Rattle.dd_catalog.specs.Catalog.{Catalog}
use Rattle.dd_catalog.specs.Catalog as placed
use Rattle.dd_catalog.specs.Valid.{Has}
use Rattle.sql_ast.specs.declared.session.SessionState.{SessionState}

-- What stands at a key behind a statement: nothing, a new schema, a table with a new tablespace or with the one that it had, a
-- new view or one that was there.
pub data After : Type 0 where
  Gone : After
  NewSchema : After
  FreshTable : TableParts → After
  KeptTable : ℕ → TableParts → After
  NewView : ViewParts → After
  KeptView : ViewParts → After

pub record Change : Type 0 where
  pub key : ObjectKey
  pub after : After

abbrev pub change : ObjectKey → After → Change
change key after = record { key = key; after = after }

-- The statement changes nothing though it is done, it makes these changes and leaves this session, or it lists something.
pub data Choice : Type 0 where
  Same : Choice
  Changes : List Change → SessionState → Choice
  Lists : Listing → Choice

-- ## The next catalog

-- one change; a table with a new tablespace has this number
abbrev pub applied_at : ℕ → ObjectKey → After → Catalog → Catalog
applied_at space (keys.Schema name) Gone cat = record cat { schemas = finite_map.remove cat.schemas name }
applied_at space (keys.Schema name) after cat = record cat { schemas = finite_map.insert cat.schemas name tt }
applied_at space (keys.Object name) Gone cat = record cat { objects = finite_map.remove cat.objects name }
applied_at space (keys.Object name) NewSchema cat = cat
applied_at space (keys.Object name) (FreshTable parts) cat = record cat { objects = finite_map.insert cat.objects name (placed.Table space parts) }
applied_at space (keys.Object name) (KeptTable kept parts) cat = record cat { objects = finite_map.insert cat.objects name (placed.Table kept parts) }
applied_at space (keys.Object name) (NewView parts) cat = record cat { objects = finite_map.insert cat.objects name (placed.View parts) }
applied_at space (keys.Object name) (KeptView parts) cat = record cat { objects = finite_map.insert cat.objects name (placed.View parts) }
applied_at space key after cat = cat

-- the changes, one after another
abbrev pub applied : ℕ → List Change → Catalog → Catalog
applied space [] cat = cat
applied space (c ∷ changes) cat = applied space changes (applied_at space c.key c.after cat)

-- the catalog behind the statement
abbrev pub catalog_behind : ℕ → Choice → Catalog → Catalog
catalog_behind space Same cat = cat
catalog_behind space (Changes changes session) cat = applied space changes cat
catalog_behind space (Lists listing) cat = cat

-- and the session
abbrev pub session_behind : Choice → SessionState → SessionState
session_behind Same session = session
session_behind (Changes changes left) session = left
session_behind (Lists listing) session = session

-- a tablespace is made
abbrev pub makes_space : After → Bool
makes_space Gone = false
makes_space NewSchema = false
makes_space (FreshTable parts) = true
makes_space (KeptTable space parts) = false
makes_space (NewView parts) = false
makes_space (KeptView parts) = false

-- the statement takes a number for a tablespace
abbrev pub takes_space : Choice → Bool
takes_space Same = false
takes_space (Changes changes session) = list_any (λ (c : Change). makes_space c.after) changes
takes_space (Lists listing) = false

-- what is new takes a number as its id, and a table with a new tablespace takes one for this
abbrev pub takes_number : After → Bool
takes_number Gone = false
takes_number NewSchema = true
takes_number (FreshTable parts) = true
takes_number (KeptTable space parts) = false
takes_number (NewView parts) = true
takes_number (KeptView parts) = false

-- the statement draws a number
abbrev pub draws : Choice → Bool
draws Same = false
draws (Changes changes session) = list_any (λ (c : Change). takes_number c.after) changes
draws (Lists listing) = false

-- a number for a tablespace that no table of the catalog has
pub record IsNewSpace (cat : Catalog) (space : ℕ) : Type 0 where
  pub least : 1 ≤ space
  pub greatest : space ≤ 4294967294
  pub new : (name : ObjName) (parts : TableParts) → Has cat name (placed.Table space parts) → ⊥
