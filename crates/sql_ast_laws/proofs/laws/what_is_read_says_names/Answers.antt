use Rattle.sql_ast_laws.proofs.SaidNames.{read_says_names}
use Rattle.sql_ast_laws.proofs.laws.what_is_read_says_names.Goals as goal

pub returns : goal.returns
returns c = read_says_names
