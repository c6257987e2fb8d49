use Rattle.show_text_laws.proofs.ReadTable.{text_read}
use Rattle.show_text_laws.proofs.laws.text_reads.Goals as goal

pub returns : goal.returns
returns c = text_read
