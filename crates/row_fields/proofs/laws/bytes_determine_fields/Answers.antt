use Rattle.row_fields.proofs.Again.{fields_again, all_again, same_fields}
use Rattle.row_fields.proofs.laws.bytes_determine_fields.Goals as goal

pub returns : goal.returns
returns c = record { again = fields_again; all = all_again; same = same_fields }
