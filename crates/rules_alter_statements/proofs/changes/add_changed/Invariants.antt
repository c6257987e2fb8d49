use Rattle.std.proofs.Common.{◌≡◌, ◌++◌, take, map, filter}
use Rattle.rules_outcome.specs.Decided.{change_of}
use Rattle.rules_named.specs.Answers.{AllBefore, AllIds}
use Rattle.rules_alter.specs.Statements.{child_change, is_child_changed}
use Rattle.rules_alter_statements.proofs.changes.add_changed.Given as goal

abbrev pub invariant-children : goal.invariant-children
invariant-children g l =
    record {
      changes : map change_of l.edits ≡ map change_of l.fn.edits ++ map child_change (filter is_child_changed (take l.child-index l.children));
      before : AllBefore (g.L.Lookup.known l.look) l.fn.edits → AllBefore (g.L.Lookup.known l.look) l.edits;
      ids : AllIds (g.L.Lookup.known l.look) l.fn.edits → AllIds (g.L.Lookup.known l.look) l.edits;
    }
