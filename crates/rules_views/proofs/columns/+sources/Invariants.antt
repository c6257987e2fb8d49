use Rattle.std.proofs.Common.{◌≡◌, ◌≤◌, [], drop, ◌+◌, ◌*◌}
use Rattle.dd_catalog.specs.Walks.{run, over}
use Rattle.dd_catalog.specs.Follow.{sights}
use Rattle.rules_views.specs.Columns.{one_source, source_seen, greatest}
use Rattle.rules_views.proofs.columns.+sources.Given as goal

abbrev pub decreases-view_seen : goal.decreases-view_seen
decreases-view_seen g l = 6 * l.left + 2

abbrev pub decreases-source_seen : goal.decreases-source_seen
decreases-source_seen g l = 6 * l.left + 3

abbrev pub decreases-view_whole : goal.decreases-view_whole
decreases-view_whole g l = 6 * l.left + 1

abbrev pub decreases-add_source : goal.decreases-add_source
decreases-add_source g l = 6 * l.left + 4

abbrev pub decreases-all_sources : goal.decreases-all_sources
decreases-all_sources g l = 6 * l.left + 5

abbrev pub decreases-through_sources : goal.decreases-through_sources
decreases-through_sources g l = 6 * l.left + 6

abbrev pub invariant-all_sources-sources : goal.invariant-all_sources-sources
invariant-all_sources-sources g l =
    record {
      exact : run (sights (g.L.Lookup.known l.look)) (over (one_source (source_seen l.left l.asked l.fn.search.way.items)) (record { shown = l.shown; finds = l.search.finds.entries }) (drop l.source-index l.sources)) ≡ run (sights (g.L.Lookup.known l.look)) (over (one_source (source_seen l.left l.asked l.fn.search.way.items)) (record { shown = []; finds = l.fn.search.finds.entries }) l.sources);
      way : l.search.way.items ≡ l.fn.search.way.items;
      height : greatest 0 l.shown ≤ l.left;
    }
