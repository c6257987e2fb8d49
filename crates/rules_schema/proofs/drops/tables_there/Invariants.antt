use Rattle.std.proofs.Common.{◌≡◌, drop, map}
use Rattle.dd_catalog.specs.Walks.{run, picked}
use Rattle.dd_catalog.specs.Follow.{sights}
use Rattle.dd_catalog.specs.LoopLaws.{with_front}
use Rattle.rules_outcome.specs.Decided.{change_of}
use Rattle.rules_named.specs.Answers.{AllBefore, AllIds}
use Rattle.rules_schema.specs.Drops.{is_there, gone}
use Rattle.rules_schema.proofs.drops.tables_there.Given as goal

abbrev pub invariant-objects : goal.invariant-objects
invariant-objects g l =
    record {
      seen : with_front l.tables.names (run (sights (g.L.Lookup.known l.look)) (picked is_there (drop l.object-index l.objects))) ≡ run (sights (g.L.Lookup.known l.look)) (picked is_there l.objects);
      changes : map change_of l.tables.puts ≡ map gone l.tables.names;
      before : AllBefore (g.L.Lookup.known l.look) l.tables.puts;
      ids : AllIds (g.L.Lookup.known l.look) l.tables.puts;
    }
