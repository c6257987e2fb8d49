-- Where a version comment is open.
use Rattle.std.specs.Prelude.{Bool, true, false}
use Rattle.script_cut.specs.declared.moves.State.{State}
use Rattle.script_cut.specs.declared.moves.State.TheVariants.{Within}

abbrev pub is_inside : State → Bool
is_inside (Within from inside) = inside
is_inside _ = false
