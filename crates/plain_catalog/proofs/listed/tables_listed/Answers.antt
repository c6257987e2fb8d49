use Rattle.std.proofs.Common.{◌≡◌, ◌∙◌, ap, subst}
use Rattle.std.specs.Prelude.{IfOk}
use Rattle.std.specs.FinMap as finite_map
use Rattle.dd_catalog.specs.Sights.{Sight, sight}
use Rattle.plain_catalog.specs.Listed.{listing_seen}
use Rattle.plain_catalog.proofs.Standing.{listing_is}
use Rattle.plain_catalog.proofs.listed.tables_listed.Goals as goal

pub returns : goal.returns
returns c =
    subst (λ (s : Sight). IfOk c.listing.result (λ object. sight object ≡ s)) (ap (listing_seen c.args.key.now) c.in_ok-tables.ensures ∙ listing_is c.args.key.now (finite_map.entries c.args.objects.now)) c.listing.ensures
