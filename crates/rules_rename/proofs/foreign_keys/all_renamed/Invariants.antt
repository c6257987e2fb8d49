use Rattle.std.proofs.Common.{◌≡◌, take, drop, map}
use Rattle.dd_catalog.specs.Walks.{run, every}
use Rattle.dd_catalog.specs.WalkLaws.{Look}
use Rattle.rules_rename.specs.Renames.{renamed_key, fits_in_name}
use Rattle.rules_rename.proofs.foreign_keys.all_renamed.Given as goal

abbrev pub invariant-keys : goal.invariant-keys
invariant-keys l =
    record {
      fit : (look : Look) → run look (every fits_in_name (map (renamed_key l.from l.to) (drop l.key-index l.keys))) ≡ run look (every fits_in_name (map (renamed_key l.from l.to) l.keys));
      found : l.found ≡ map (renamed_key l.from l.to) (take l.key-index l.keys);
    }
