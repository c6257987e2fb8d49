use Rattle.sql_text_laws.proofs.ReadSpellable.{read_spellable}
use Rattle.sql_text_laws.proofs.laws.what_is_read_is_spellable.Goals as goal

pub returns : goal.returns
returns c = read_spellable
