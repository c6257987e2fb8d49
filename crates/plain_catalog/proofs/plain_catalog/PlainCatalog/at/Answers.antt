use Rattle.std.proofs.Common.{◌≡◌, subst}
use Rattle.std.specs.Prelude.{IfOk}
use Rattle.dd_catalog.specs.Catalog.{Catalog, sight_of}
use Rattle.dd_catalog.specs.Sights.{sight}
use Rattle.plain_catalog.proofs.plain_catalog.PlainCatalog.at.Goals as goal

pub returns : goal.returns
returns c = subst (λ (cat : Catalog). IfOk c.standing_at.result (λ object. sight object ≡ sight_of cat c.args.key.now)) c.self.view_is c.standing_at.ensures
