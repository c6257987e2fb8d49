use Rattle.sql_pieces.proofs.Spaced.{apart_read, spaced_read}
use Rattle.sql_pieces.proofs.Numbers.{decimal_alone}
use Rattle.sql_pieces.proofs.Strings.{string_means}
use Rattle.sql_pieces.proofs.laws.piece_laws.Goals as goal

pub returns-clause-apart : goal.returns-clause-apart
returns-clause-apart c = apart_read

pub returns-clause-spaced : goal.returns-clause-spaced
returns-clause-spaced c = spaced_read

pub returns-clause-numbers : goal.returns-clause-numbers
returns-clause-numbers c = decimal_alone

pub returns-clause-strings : goal.returns-clause-strings
returns-clause-strings c = string_means
