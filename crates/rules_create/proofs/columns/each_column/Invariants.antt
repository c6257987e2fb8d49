use Rattle.std.proofs.Common.{◌≡◌, [], drop}
use Rattle.std.specs.List.{flat_map}
use Rattle.dd_catalog.specs.Walks.{run, over}
use Rattle.dd_catalog.specs.WalkLaws.{Look}
use Rattle.rules_create.specs.Tables.{column_in, one_column}
use Rattle.rules_create.specs.Made.{over_each, AreFoldedNames}
use Rattle.rules_create.proofs.columns.each_column.Given as goal

abbrev pub invariant-elements : goal.invariant-elements
invariant-elements l =
    record {
      so_far : (look : Look) → run look (over (over_each one_column column_in) l.columns (drop l.element-index l.elements)) ≡ run look (over one_column [] (flat_map column_in l.elements));
      names : AreFoldedNames l.names l.columns;
    }
