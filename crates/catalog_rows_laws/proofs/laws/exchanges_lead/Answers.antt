use Rattle.catalog_rows_laws.proofs.Behind.{leads_behind}
use Rattle.catalog_rows_laws.proofs.laws.exchanges_lead.Goals as goal

pub returns : goal.returns
returns c = leads_behind
