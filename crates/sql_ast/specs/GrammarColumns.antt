-- The rules of columns.
use Rattle.std.specs.Prelude.{ℕ, Bool, true, false, List, [], ◌∷◌, ◌++◌, Option, Some, None, ◌==◌, if◌then◌else◌}
use Rattle.sql_grammar.specs.Lexemes.{keyword, mark, amount, width, text, value_from}
use Rattle.sql_grammar.specs.Grammar.{Grammar, one, nothing, means, many, if_next}
use Rattle.sql_grammar.specs.Rules.{◌⊳◌, ◌⊲◌, gives, opt, in_parentheses}
use Rattle.std.specs.Prelude.{codes}
use Rattle.sql_types.specs.declared.choices.IntSize.{IntSize}
use Rattle.sql_types.specs.declared.choices.IntSize.TheVariants.{Tiny, Small, Medium, Normal, Big}
use Rattle.sql_types.specs.declared.literal.Literal.{Literal}
use Rattle.sql_types.specs.declared.literal.Literal.TheVariants.{Null, Number, Str}
use Rattle.sql_types.specs.declared.words.TypeWords.{TypeWords}
use Rattle.sql_types.specs.declared.words.TypeWords.TheVariants as kind
use Rattle.sql_types.specs.declared.words.ColumnWords.{ColumnWords}
use Rattle.sql_ast.specs.GrammarParts.{the, ◌∣◌, ◌&◌, a_name, a_number, charset}

-- ---- literals

-- a sign, if one is written
abbrev pub sign_written : Grammar (List ℕ)
sign_written = one (mark 43) ∣ one (mark 45) ∣ nothing []

-- literal = NULL | [+|-] number | string
unfoldable pub literal : Grammar Literal
literal = gives Null (the "NULL") ∣ means Str (one text) ∣ means (λ p. Number (p.0 ++ p.1)) (sign_written & one amount)

-- ---- types

unfoldable pub int_size : Grammar IntSize
int_size = gives Tiny (the "TINYINT") ∣ gives Small (the "SMALLINT") ∣ gives Medium (the "MEDIUMINT")
    ∣ gives Normal (the "INT" ∣ the "INTEGER") ∣ gives Big (the "BIGINT")

-- signed TINYINT(1) is Bool; other widths are dropped
abbrev pub int_type : IntSize → Option (List ℕ) → Bool → TypeWords
int_type Tiny (Some digits) false = if value_from 0 digits == 1 then kind.Bool else kind.Int Tiny false
int_type size digits unsigned = kind.Int size unsigned

-- [( number )] [SIGNED|UNSIGNED]
unfoldable pub unsigned : Grammar Bool
unsigned = gives true (the "UNSIGNED") ∣ gives false (the "SIGNED") ∣ nothing false

abbrev pub or_one : Option ℕ → ℕ
or_one None = 1
or_one (Some n) = n

-- type = (TINYINT|SMALLINT|MEDIUMINT|INT|INTEGER|BIGINT) [( number )] [SIGNED|UNSIGNED]
--      | BOOL | BOOLEAN | CHAR [( number )] | VARCHAR ( number ) | DATE | DATETIME
unfoldable pub a_type : Grammar TypeWords
a_type = means (λ p. int_type p.0 p.1.0 p.1.1) (int_size & opt (in_parentheses (one width)) & unsigned)
    ∣ gives kind.Bool (the "BOOL" ∣ the "BOOLEAN")
    ∣ means (λ n. kind.Char (or_one n)) (the "CHAR" ⊳ opt (in_parentheses a_number))
    ∣ means kind.VarChar (the "VARCHAR" ⊳ in_parentheses a_number)
    ∣ gives kind.Date (the "DATE")
    ∣ gives kind.DateTime (the "DATETIME")

-- ---- attributes

pub data Attribute : Type 0 where
  null_is : Bool → Attribute
  default_is : Literal → Attribute
  is_auto : Attribute
  is_unique : Attribute
  is_primary : Attribute
  says_nothing : Attribute

-- attribute = NOT NULL | NULL | DEFAULT literal | AUTO_INCREMENT | UNIQUE [KEY]
--           | [PRIMARY] KEY | charset utf8mb4 | COLLATE utf8mb4_0900_ai_ci
-- A KEY directly after UNIQUE belongs to it.
unfoldable pub attribute : Grammar Attribute
attribute = gives (null_is false) (the "NOT" ⊳ the "NULL")
    ∣ gives (null_is true) (the "NULL")
    ∣ means default_is (the "DEFAULT" ⊳ literal)
    ∣ gives is_auto (the "AUTO_INCREMENT")
    ∣ gives is_unique (the "UNIQUE" ⊳ if_next (keyword (codes "KEY")))
    ∣ gives is_primary ((the "PRIMARY" ⊳ the "KEY") ∣ the "KEY")
    ∣ gives says_nothing (charset ⊳ the "UTF8MB4")
    ∣ gives says_nothing (the "COLLATE" ⊳ the "UTF8MB4_0900_AI_CI")

-- ---- columns

abbrev pub with_attribute : ColumnWords → Attribute → ColumnWords
with_attribute c (null_is b) = record c { nullable = Some b }
with_attribute c (default_is l) = record c { default = Some l }
with_attribute c is_auto = record c { auto = true }
with_attribute c is_unique = record c { unique = true }
with_attribute c is_primary = record c { primary = true }
with_attribute c says_nothing = c

-- of repeated attributes of one kind the last holds
abbrev pub with_attributes : ColumnWords → List Attribute → ColumnWords
with_attributes c [] = c
with_attributes c (a ∷ more) = with_attributes (with_attribute c a) more

-- a column of which only its type is said
abbrev pub plain_column : List ℕ → TypeWords → ColumnWords
plain_column n t = record { name = n; kind = t; nullable = None; default = None; auto = false; unique = false; primary = false }

-- name column, where column = type {attribute}
unfoldable pub named_column : Grammar ColumnWords
named_column = means (λ p. with_attributes (plain_column p.0 p.1.0) p.1.1) (a_name & a_type & many attribute)
