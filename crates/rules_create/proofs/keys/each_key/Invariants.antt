use Rattle.std.proofs.Common.{◌≡◌, drop}
use Rattle.std.specs.List.{flat_map}
use Rattle.dd_catalog.specs.Walks.{run, over}
use Rattle.dd_catalog.specs.WalkLaws.{Look}
use Rattle.rules_create.specs.Tables.{column_in, one_key}
use Rattle.rules_create.specs.Drafts.{IsDraft}
use Rattle.rules_create.proofs.keys.each_key.Given as goal

abbrev pub invariant-keys : goal.invariant-keys
invariant-keys l =
    record {
      so_far : (look : Look) → run look (over (one_key (flat_map column_in l.elements)) l.draft.parts (drop l.key-index l.keys)) ≡ run look (over (one_key (flat_map column_in l.elements)) l.fn.draft.parts l.keys);
      draft : IsDraft l.draft;
    }
