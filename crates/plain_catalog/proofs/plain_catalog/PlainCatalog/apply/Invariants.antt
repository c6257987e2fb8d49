use Rattle.std.proofs.Common.{◌≡◌, map}
use Rattle.rules_outcome.specs.Choices.{applied}
use Rattle.rules_outcome.specs.Decided.{change_of}
use Rattle.plain_catalog.proofs.plain_catalog.PlainCatalog.apply.Given as goal

abbrev pub invariant-edits : goal.invariant-edits
invariant-edits l = l.self ≡ applied l.space (map change_of l.yielded) l.fn.self
