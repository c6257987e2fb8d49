use Rattle.std.proofs.Common.{◌≡◌, ◌++◌, length, map}
use Rattle.std.specs.Prelude.{reverse}
use Rattle.rules_rename.specs.Puts.{AreKnown}
use Rattle.rules_rename.specs.Pairs.{edit_of}
use Rattle.rules_rename.proofs.statement.edits_of.Given as goal

abbrev pub invariant-rest : goal.invariant-rest
invariant-rest g l =
    record {
      edits : l.edits ++ map (edit_of (g.L.Lookup.known l.look)) (reverse l.rest.items) ≡ map (edit_of (g.L.Lookup.known l.look)) l.fn.overlay;
      known : AreKnown (g.L.Lookup.known l.look) (reverse l.rest.items) → AreKnown (g.L.Lookup.known l.look) l.fn.overlay;
    }

abbrev pub decreases-rest : goal.decreases-rest
decreases-rest g l = length l.rest.items
