use Rattle.rules_create.proofs.Seen.{valid_sees_formed}
use Rattle.rules_create.proofs.laws.valid_catalogs_show_formed.Goals as goal

pub returns : goal.returns
returns c = record { seen = valid_sees_formed }
