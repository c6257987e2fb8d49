-- The order of the indexes behind an action. Those of a class that stood in it keep their order; behind them stand those that
-- come from another class, in the order in which they stood, and then the new ones, in order of making.
use Rattle.std.specs.Prelude.{ℕ, Bool, true, false, ◌==◌, List, ◌++◌, map, filter, Option, Some, None, if◌then◌else◌}
use Rattle.std.specs.List.{find}
use Rattle.std.specs.Str.{bytes_eq}
use Rattle.dd_definitions.specs.Indexes.{rank}
use Rattle.dd_definitions.specs.declared.columns.ColumnDef.{ColumnDef}
use Rattle.dd_definitions.specs.declared.indexes.IndexDef.{IndexDef}
use Rattle.dd_definitions.specs.declared.parts.TableParts.{TableParts}
use Rattle.rules_create.specs.Tables.{by_class}
use Rattle.rules_alter.specs.declared.arranged.Ranked.{Ranked}
use Rattle.rules_alter.specs.declared.arranged.Standing.{Standing}
use Rattle.rules_alter.specs.declared.arranged.Standing.TheVariants.{Stays, Moves, Comes}

abbrev pub is_standing : Standing → Standing → Bool
is_standing Stays Stays = true
is_standing Moves Moves = true
is_standing Comes Comes = true
is_standing a b = false

-- an index with the rank of its class
abbrev pub ranked : List ColumnDef → IndexDef → Ranked
ranked columns index = record { name = index.name; rank = rank columns index }

-- the ranks of the indexes before an action
abbrev pub ranks_of : TableParts → List Ranked
ranks_of parts = map (ranked parts.columns) parts.indexes

abbrev pub standing_at : ℕ → ℕ → Standing
standing_at stood now = if stood == now then Stays else Moves

abbrev pub standing_by : ℕ → Option Ranked → Standing
standing_by now None = Comes
standing_by now (Some stood) = standing_at stood.rank now

-- by the index of its name among those before the action
abbrev pub standing : List Ranked → List ColumnDef → IndexDef → Standing
standing before columns index = standing_by (rank columns index) (find (λ (stood : Ranked). bytes_eq stood.name index.name) before)

abbrev pub stands_so : List Ranked → List ColumnDef → Standing → IndexDef → Bool
stands_so before columns wanted index = is_standing (standing before columns index) wanted

abbrev pub standing_so : List Ranked → List ColumnDef → List IndexDef → Standing → List IndexDef
standing_so before columns indexes wanted = filter (stands_so before columns wanted) indexes

abbrev pub in_turn : List Ranked → List ColumnDef → List IndexDef → List IndexDef
in_turn before columns indexes =
    standing_so before columns indexes Stays ++ standing_so before columns indexes Moves ++ standing_so before columns indexes Comes

abbrev pub arranged_by : List Ranked → TableParts → TableParts
arranged_by before parts = record parts { indexes = by_class parts.columns (in_turn before parts.columns parts.indexes) }

-- the indexes of the table behind an action, which has made the new ones in their order
unfoldable pub arranged : TableParts → TableParts → TableParts
arranged before parts = arranged_by (ranks_of before) parts
