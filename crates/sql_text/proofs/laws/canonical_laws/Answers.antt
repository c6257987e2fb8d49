use Rattle.sql_text.proofs.ReadBack.{read_back}
use Rattle.sql_text.proofs.laws.canonical_laws.Goals as goal

pub returns : goal.returns
returns c = read_back
