use Rattle.rules_elements_laws.proofs.ColumnsFit.{columns_are_fit}
use Rattle.rules_elements_laws.proofs.laws.column_laws.Goals as goal

pub returns : goal.returns
returns c = record { fit = columns_are_fit }
