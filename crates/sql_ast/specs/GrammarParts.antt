-- The small rules that others are made of. Words of the grammar have any case.
use Rattle.std.specs.Prelude.{ℕ, ◌-◌, ◌^◌, min, Bool, true, false, List, [], ◌∷◌, ◌++◌, Option, Some, None, codes}
use Rattle.sql_grammar.specs.Lexemes.{name, amount, value_from}
use Prim.Native.String.{String}
use Rattle.sql_grammar.specs.Grammar.{Grammar, one, nothing, seq, means, alt, many}
use Rattle.sql_grammar.specs.Rules.{word_of, sign_of, string_of, ◌⊳◌, ◌⊲◌, flag, opt, listed, in_parentheses}
use Rattle.sql_types.specs.declared.words.ObjRef.{ObjRef}

-- ---- how rules are written

-- a word of the grammar
abbrev pub the : String → Grammar (Unit {0})
the k = word_of (codes k)

-- one rule or the other
infixr 5 ◌∣◌
abbrev pub ◌∣◌ : {A : Type 0} → Grammar A → Grammar A → Grammar A
g ∣ h = alt g h

-- one after the other, with both values
infixr 6 ◌&◌
abbrev pub ◌&◌ : {A B : Type 0} → Grammar A → Grammar B → Grammar (A × B)
g & h = seq g h

-- what may stand there and says nothing
abbrev pub maybe : {A : Type 0} → Grammar A → Grammar (Unit {0})
maybe g = means (λ x. tt) (flag g)

-- ---- names and numbers

abbrev pub a_name : Grammar (List ℕ)
a_name = one name

-- the number, or 2 ^ 128 - 1 for every wider one
abbrev pub number_of : List ℕ → ℕ
number_of digits = min (value_from 0 digits) (2 ^ 128 - 1)

abbrev pub a_number : Grammar ℕ
a_number = means number_of (one amount)

abbrev pub in_schema : List ℕ → Option (List ℕ) → ObjRef
in_schema first None = record { schema = None; name = first }
in_schema first (Some second) = record { schema = Some first; name = second }

-- object = [name .] name
unfoldable pub object : Grammar ObjRef
object = means (λ p. in_schema p.0 p.1) (a_name & opt (sign_of 46 ⊳ a_name))

-- names = ( name {, name} )
unfoldable pub names : Grammar (List (List ℕ))
names = in_parentheses (listed a_name)

-- cols = ( name [ASC] {, name [ASC]} ) [USING BTREE]
unfoldable pub cols : Grammar (List (List ℕ))
cols = in_parentheses (listed (a_name ⊲ maybe (the "ASC"))) ⊲ maybe (the "USING" ⊳ the "BTREE")

-- ---- words that many statements have

-- db = DATABASE | SCHEMA
unfoldable pub db : Grammar (Unit {0})
db = the "DATABASE" ∣ the "SCHEMA"

-- INDEX | KEY
unfoldable pub index_or_key : Grammar (Unit {0})
index_or_key = the "INDEX" ∣ the "KEY"

-- FROM | IN
unfoldable pub from_or_in : Grammar (Unit {0})
from_or_in = the "FROM" ∣ the "IN"

unfoldable pub if_not_exists : Grammar Bool
if_not_exists = flag (the "IF" ⊳ the "NOT" ⊳ the "EXISTS")

unfoldable pub if_exists : Grammar Bool
if_exists = flag (the "IF" ⊳ the "EXISTS")

-- [=]
unfoldable pub equals : Grammar (Unit {0})
equals = maybe (sign_of 61)

-- charset = CHARACTER SET | CHARSET
unfoldable pub charset : Grammar (Unit {0})
charset = (the "CHARACTER" ⊳ the "SET") ∣ the "CHARSET"

-- charset [=] utf8mb4 | COLLATE [=] utf8mb4_0900_ai_ci
unfoldable pub charset_option : Grammar (Unit {0})
charset_option = (charset ⊳ equals ⊳ the "UTF8MB4") ∣ (the "COLLATE" ⊳ equals ⊳ the "UTF8MB4_0900_AI_CI")

-- ENGINE [=] InnoDB
unfoldable pub engine_option : Grammar (Unit {0})
engine_option = the "ENGINE" ⊳ equals ⊳ the "INNODB"

-- db_option = [DEFAULT] charset [=] utf8mb4 | [DEFAULT] COLLATE [=] utf8mb4_0900_ai_ci | [DEFAULT] ENCRYPTION [=] 'N'
unfoldable pub db_option : Grammar (Unit {0})
db_option = maybe (the "DEFAULT") ⊳ (charset_option ∣ (the "ENCRYPTION" ⊳ equals ⊳ string_of (codes "N")))

-- option = ENGINE [=] InnoDB | [DEFAULT] charset [=] utf8mb4 | [DEFAULT] COLLATE [=] utf8mb4_0900_ai_ci | AUTO_INCREMENT [=] number
unfoldable pub table_option : Grammar (Unit {0})
table_option = engine_option ∣ (the "AUTO_INCREMENT" ⊳ equals ⊳ means (λ n. tt) (one amount)) ∣ (maybe (the "DEFAULT") ⊳ charset_option)
