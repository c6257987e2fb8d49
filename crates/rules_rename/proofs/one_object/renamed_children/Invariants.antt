use Rattle.std.proofs.Common.{◌≡◌, drop, map}
use Rattle.dd_catalog.specs.Walks.{run, each}
use Rattle.dd_catalog.specs.LoopLaws.{with_front}
use Rattle.rules_rename.specs.Renames.{renamed_child}
use Rattle.rules_rename.specs.Ids.{AreWithIds}
use Rattle.rules_rename.specs.Puts.{entry_of, behind}
use Rattle.rules_rename.proofs.one_object.renamed_children.Given as goal

abbrev pub invariant-children : goal.invariant-children
invariant-children g l =
    record {
      exact : with_front (map entry_of l.puts) (run (behind (g.L.Lookup.known l.look) l.overlay) (each (renamed_child l.from l.to) (drop l.child-index l.children))) ≡ run (behind (g.L.Lookup.known l.look) l.overlay) (each (renamed_child l.from l.to) l.children);
      ids : AreWithIds (g.L.Lookup.known l.look) l.overlay → AreWithIds (g.L.Lookup.known l.look) l.puts;
    }
