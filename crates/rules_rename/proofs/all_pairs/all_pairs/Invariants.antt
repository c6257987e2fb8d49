use Rattle.std.proofs.Common.{◌≡◌, [], drop}
use Rattle.std.specs.FinMap as finite_map
use Rattle.dd_catalog.specs.Walks.{run, over}
use Rattle.dd_catalog.specs.Follow.{sights}
use Rattle.rules_rename.specs.Renames.{one_pair}
use Rattle.rules_rename.specs.Ids.{AreWithIds}
use Rattle.rules_rename.specs.Pairs.{renaming_of, AreSame}
use Rattle.rules_rename.proofs.all_pairs.all_pairs.Given as goal

abbrev pub invariant-pairs : goal.invariant-pairs
invariant-pairs g l =
    record {
      exact : run (sights (g.L.Lookup.known l.look)) (over one_pair (renaming_of l.renaming) (drop l.pair-index l.pairs)) ≡ run (sights (g.L.Lookup.known l.look)) (over one_pair (record { overlay = finite_map.empty; children = [] }) l.pairs);
      same : AreSame l.renaming.children;
      ids : AreWithIds (g.L.Lookup.known l.look) l.renaming.overlay;
    }
