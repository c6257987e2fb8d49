use Rattle.std.proofs.Common.{◌≡◌, ◌++◌, drop}
use Rattle.std.specs.Prelude.{not, filter}
use Rattle.rules_rename.specs.Puts.{is_changed}
use Rattle.rules_rename.proofs.children.kept_children.Given as goal

abbrev pub invariant-kept : goal.invariant-kept
invariant-kept l = l.children ++ filter (λ child. not (is_changed l.overlay child)) (drop l.child-index l.before) ≡ filter (λ child. not (is_changed l.overlay child)) l.before
