use Rattle.show_read_back.proofs.Makes.{text_makes}
use Rattle.show_read_back.proofs.ReadBack.{reads_back, is_without}
use Rattle.show_read_back.proofs.laws.tables_read_back.Goals as goal

pub returns-clause-same : goal.returns-clause-same
returns-clause-same c = reads_back

pub returns-clause-makes : goal.returns-clause-makes
returns-clause-makes c = text_makes reads_back

pub returns-clause-seen : goal.returns-clause-seen
returns-clause-seen c = is_without
