use Rattle.std.proofs.Common.{◌≡◌, take, drop, map}
use Rattle.dd_catalog.specs.Walks.{run, every}
use Rattle.dd_catalog.specs.Follow.{sights}
use Rattle.rules_outcome.specs.Decided.{change_of}
use Rattle.rules_named.specs.Answers.{AllBefore, AllIds}
use Rattle.rules_named.specs.Named.{object_in}
use Rattle.rules_schema.specs.Drops.{gone}
use Rattle.rules_schema.specs.Schemas.{may_go}
use Rattle.rules_schema.proofs.schemas.objects_gone.Given as goal

abbrev pub invariant-names : goal.invariant-names
invariant-names g l =
    record {
      seen : run (sights (g.L.Lookup.known l.look)) (every (may_go l.schema) (drop l.name-index l.names)) ≡ run (sights (g.L.Lookup.known l.look)) (every (may_go l.schema) l.names);
      changes : map change_of l.puts ≡ map (λ name. gone (object_in l.schema name)) (take l.name-index l.names);
      before : AllBefore (g.L.Lookup.known l.look) l.puts;
      ids : AllIds (g.L.Lookup.known l.look) l.puts;
    }
