-- Parts of the rules of statements that are read by functions of their own.
use Rattle.std.specs.Prelude.{Bool, true, false}
use Rattle.sql_grammar.specs.Grammar.{Grammar, means}
use Rattle.sql_grammar.specs.Rules.{◌⊳◌, gives, opt}
use Rattle.sql_ast.specs.declared.table.RenamePair.{RenamePair}
use Rattle.sql_ast.specs.declared.show.ShowStatement.TheVariants as shows
use Rattle.sql_ast.specs.declared.show.ShownCreation.TheVariants as creations
use Rattle.sql_ast.specs.declared.statement.Statement.{Statement}
use Rattle.sql_ast.specs.declared.statement.Statement.TheVariants as is
use Rattle.sql_ast.specs.GrammarParts.{the, ◌∣◌, ◌&◌, maybe, a_name, object, db, from_or_in}
use Rattle.sql_ast.specs.Grammar.{pair_of, in_named_schema}

-- object TO object
abbrev pub pair : Grammar RenamePair
pair = means (λ p. pair_of p.0 p.1) (object & (the "TO" ⊳ object))

-- [RESTRICT|CASCADE]
abbrev pub drop_rule : Grammar (Unit {0})
drop_rule = maybe (the "RESTRICT" ∣ the "CASCADE")

-- UNIQUE INDEX | INDEX, and whether UNIQUE is written
abbrev pub index_words : Grammar Bool
index_words = gives true (the "UNIQUE" ⊳ the "INDEX") ∣ gives false (the "INDEX")

-- DATABASES | SCHEMAS
abbrev pub databases_word : Grammar (Unit {0})
databases_word = the "DATABASES" ∣ the "SCHEMAS"

-- COLUMNS | FIELDS
abbrev pub columns_word : Grammar (Unit {0})
columns_word = the "COLUMNS" ∣ the "FIELDS"

-- TABLES [(FROM|IN) name]
abbrev pub show_tables : Grammar Statement
show_tables = means (λ s. is.Show (shows.Tables s)) (the "TABLES" ⊳ opt (from_or_in ⊳ a_name))

-- (COLUMNS|FIELDS) (FROM|IN) object [(FROM|IN) name]
abbrev pub show_columns : Grammar Statement
show_columns = means (λ p. is.Show (shows.Columns (in_named_schema p.0 p.1))) (columns_word ⊳ from_or_in ⊳ (object & opt (from_or_in ⊳ a_name)))

-- db name
abbrev pub shown_database : Grammar Statement
shown_database = means (λ n. is.Show (shows.Creation (creations.Database n))) (db ⊳ a_name)

-- TABLE object
abbrev pub shown_table : Grammar Statement
shown_table = means (λ o. is.Show (shows.Creation (creations.Table o))) (the "TABLE" ⊳ object)

-- VIEW object
abbrev pub shown_view : Grammar Statement
shown_view = means (λ o. is.Show (shows.Creation (creations.View o))) (the "VIEW" ⊳ object)

-- CREATE db name | CREATE TABLE object | CREATE VIEW object
abbrev pub show_create : Grammar Statement
show_create = the "CREATE" ⊳ (shown_database ∣ shown_table ∣ shown_view)
