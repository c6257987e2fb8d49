-- What a table is made of, in parts that are read by functions of their own.
use Rattle.sql_grammar.specs.Grammar.{Grammar, means, many}
use Rattle.sql_grammar.specs.Rules.{sign_of, ◌⊳◌, ◌⊲◌, listed}
use Rattle.sql_ast.specs.declared.table.TableBody.{TableBody}
use Rattle.sql_ast.specs.declared.table.TableBody.TheVariants.{Elements}
use Rattle.sql_ast.specs.GrammarParts.{◌∣◌, maybe, table_option}
use Rattle.sql_ast.specs.GrammarKeys.{element}
use Rattle.sql_ast.specs.Grammar.{like_object}

-- element {, element} ) {[,] option}
abbrev pub elements_body : Grammar TableBody
elements_body = means Elements (listed element ⊲ sign_of 41 ⊲ many (maybe (sign_of 44) ⊳ table_option))

-- LIKE object ) | element {, element} ) {[,] option}
abbrev pub body_behind : Grammar TableBody
body_behind = (like_object ⊲ sign_of 41) ∣ elements_body
