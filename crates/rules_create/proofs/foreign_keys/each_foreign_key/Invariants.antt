use Rattle.std.proofs.Common.{◌≡◌, drop}
use Rattle.std.specs.List.{flat_map}
use Rattle.dd_catalog.specs.Walks.{run, over}
use Rattle.dd_catalog.specs.Follow.{sights}
use Rattle.rules_create.specs.Tables.{foreign_key_in, one_foreign_key}
use Rattle.rules_create.specs.Made.{over_each}
use Rattle.rules_create.specs.Drafts.{IsLinkedDraft, whole}
use Rattle.rules_create.proofs.foreign_keys.each_foreign_key.Given as goal

abbrev pub invariant-elements : goal.invariant-elements
invariant-elements g l =
    record {
      so_far : run (sights (g.L.Lookup.known l.look)) (over (over_each one_foreign_key foreign_key_in) (whole l.draft l.keys) (drop l.element-index l.elements)) ≡ run (sights (g.L.Lookup.known l.look)) (over one_foreign_key (whole l.fn.draft l.fn.keys) (flat_map foreign_key_in l.elements));
      linked : IsLinkedDraft l.draft l.keys;
    }
