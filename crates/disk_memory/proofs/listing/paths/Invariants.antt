use Rattle.std.proofs.Common.{◌≡◌, map}
use Rattle.std.specs.String.{string_bytes}
use Rattle.disk_memory.proofs.listing.paths.Given as goal

abbrev pub invariant-paths : goal.invariant-paths
invariant-paths l = l.paths.items ≡ map (λ k. string_bytes k.now) l.yielded
