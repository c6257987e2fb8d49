-- The rules of views.
use Rattle.std.specs.Prelude.{ℕ, List, Option, Some, None}
use Rattle.sql_grammar.specs.Lexemes.{text}
use Rattle.sql_grammar.specs.Grammar.{Grammar, one, means}
use Rattle.sql_grammar.specs.Rules.{sign_of, ◌⊳◌, ◌⊲◌, gives, opt, listed}
use Rattle.sql_types.specs.declared.words.ObjRef.{ObjRef}
use Rattle.sql_ast.specs.declared.view.Item.{Item}
use Rattle.sql_ast.specs.declared.view.Item.TheVariants.{All, AllOf, Column}
use Rattle.sql_ast.specs.declared.view.SelectSource.{SelectSource}
use Rattle.sql_ast.specs.declared.view.Select.{Select}
use Rattle.sql_ast.specs.GrammarParts.{the, ◌∣◌, ◌&◌, maybe, a_name, object}

-- [[AS] name]
unfoldable pub another_name : Grammar (Option (List ℕ))
another_name = opt ((the "AS" ⊳ a_name) ∣ a_name)

-- what follows the first name of an item: . * or . name and another name, or another name
pub data Tail : Type 0 where
  all_of : Tail
  column_of : List ℕ → Option (List ℕ) → Tail
  no_more : Option (List ℕ) → Tail

unfoldable pub tail : Grammar Tail
tail = (sign_of 46 ⊳ (gives all_of (sign_of 42) ∣ means (λ p. column_of p.0 p.1) (a_name & another_name))) ∣ means no_more another_name

abbrev pub item_of : List ℕ → Tail → Item
item_of first all_of = AllOf first
item_of first (column_of column output) = Column (Some first) column output
item_of first (no_more output) = Column None first output

-- item = * | name . * | [name .] name [[AS] name]
unfoldable pub item : Grammar Item
item = gives All (sign_of 42) ∣ means (λ p. item_of p.0 p.1) (a_name & tail)

abbrev pub source_of : ObjRef → Option (List ℕ) → SelectSource
source_of object alias = record { object = object; alias = alias }

-- source = object [[AS] name]
unfoldable pub source : Grammar SelectSource
source = means (λ p. source_of p.0 p.1) (object & another_name)

abbrev pub select_of : List Item → List SelectSource → Select
select_of items sources = record { items = items; sources = sources }

-- SELECT item {, item} FROM source {, source}
unfoldable pub select : Grammar Select
select = means (λ p. select_of p.0 p.1) (the "SELECT" ⊳ (listed item & (the "FROM" ⊳ listed source)))

-- part = name | string
unfoldable pub part : Grammar (Unit {0})
part = means (λ x. tt) a_name ∣ means (λ x. tt) (one text)

-- [ALGORITHM = UNDEFINED] [DEFINER = part @ part] [SQL SECURITY DEFINER]
unfoldable pub view_words : Grammar (Unit {0})
view_words = maybe (the "ALGORITHM" ⊳ sign_of 61 ⊳ the "UNDEFINED")
    ⊳ maybe (the "DEFINER" ⊳ sign_of 61 ⊳ part ⊳ sign_of 64 ⊳ part)
    ⊳ maybe (the "SQL" ⊳ the "SECURITY" ⊳ the "DEFINER")
