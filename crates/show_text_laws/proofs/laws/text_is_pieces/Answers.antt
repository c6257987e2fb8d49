use Rattle.show_text_laws.proofs.TextWritten.{text_written}
use Rattle.show_text_laws.proofs.laws.text_is_pieces.Goals as goal

pub returns : goal.returns
returns c = text_written
