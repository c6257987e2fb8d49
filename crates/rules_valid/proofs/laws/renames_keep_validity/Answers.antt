use Rattle.rules_valid.proofs.RenamedAll.{rename_keeps}
use Rattle.rules_valid.proofs.laws.renames_keep_validity.Goals as goal

pub returns : goal.returns
returns c = record { kept = rename_keeps }
