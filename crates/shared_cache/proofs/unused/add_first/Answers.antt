use Rattle.std.proofs.Common.{◌<◌, ◌^◌, ◌∙◌, ap, subst}
use Rattle.std.specs.Map.{keys_of}
use Rattle.shared_cache.specs.Fields.{Unused}
use Rattle.shared_cache.proofs.Entries.{put_before}
use Rattle.shared_cache.proofs.unused.add_first.Goals as goal

pub returns-clause-added : goal.returns-clause-added
returns-clause-added c =
    ap (λ (u : Unused). keys_of u.entries) c.in_ok-put.ensures.entries
    ∙ rw c.in_ok-copy.ensures (put_before c.args.unused.now c.args.key.now tt c.requires.absent c.requires.unbounded (subst (λ n. n < 2 ^ 63) c.len.ensures.len c.len.ensures.fits))
