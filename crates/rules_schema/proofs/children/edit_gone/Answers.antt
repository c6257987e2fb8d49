use Rattle.std.proofs.Common.{sym, subst}
use Rattle.rules_outcome.specs.declared.decided.Edit.{Edit}
use Rattle.rules_outcome.specs.Decided.{HasIds}
use Rattle.rules_schema.proofs.Ids.{gone_has_ids}
use Rattle.rules_schema.proofs.children.edit_gone.Goals as goal

pub returns-clause-ids : goal.returns-clause-ids
returns-clause-ids c known = gone_has_ids known c.args.key
