use Rattle.std.proofs.Common.{◌≡◌, map}
use Rattle.plain_catalog.proofs.listed.all_names.Given as goal

abbrev pub invariant-names : goal.invariant-names
invariant-names l = l.list ≡ map (λ name. name.now) l.yielded
