use Rattle.std.proofs.Common.{◌≡◌, drop}
use Rattle.std.specs.List.{flat_map}
use Rattle.dd_catalog.specs.Walks.{run, over}
use Rattle.dd_catalog.specs.WalkLaws.{Look}
use Rattle.rules_create.specs.Tables.{column_in, key_in, one_key}
use Rattle.rules_create.specs.Made.{over_each}
use Rattle.rules_create.specs.Drafts.{IsDraft}
use Rattle.rules_create.proofs.keys.add_written_keys.Given as goal

abbrev pub invariant-elements : goal.invariant-elements
invariant-elements l =
    record {
      so_far : (look : Look) → run look (over (over_each (one_key (flat_map column_in l.elements)) key_in) l.draft.parts (drop l.element-index l.elements)) ≡ run look (over (one_key (flat_map column_in l.elements)) l.fn.draft.parts (flat_map key_in l.elements));
      draft : IsDraft l.draft;
    }
