use Rattle.std.proofs.Common.{◌≡◌, map, take}
use Rattle.std.specs.Prelude.{string_bytes}
use Rattle.ddrun.proofs.ended.as_words.Given as goal

abbrev pub invariant-each : goal.invariant-each
invariant-each l = map (λ w. w.now) l.words.items ≡ map string_bytes (take l.arg-index l.args)
