use Rattle.std.proofs.Common.{◌≡◌, ◌<◌, ◌^◌, drop, max}
use Rattle.rules_create.specs.Tables.{greatest_number}
use Rattle.rules_alter.proofs.added_keys.greatest_number.Given as goal

abbrev pub invariant-keys : goal.invariant-keys
invariant-keys l = record { number : max l.greatest (greatest_number l.front (drop l.key-index l.keys)) ≡ greatest_number l.front l.keys; small : l.greatest < 10 ^ 38 }
