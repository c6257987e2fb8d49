-- The words that are no names, and the names that no schema of a user has.
use Rattle.std.specs.Prelude.{ℕ, Bool, List, [], ◌∷◌, ◌++◌, codes}
use Rattle.std.specs.List.{list_any}
use Rattle.dd_names.specs.Names.{same}

-- the reserved words from ADD to DATABASE
abbrev pub from_add : List (List ℕ)
from_add =
    codes "ADD" ∷ codes "ALTER" ∷ codes "AS" ∷ codes "ASC" ∷ codes "BIGINT" ∷ codes "CASCADE" ∷ codes "CHANGE"
    ∷ codes "CHAR" ∷ codes "CHARACTER" ∷ codes "COLLATE" ∷ codes "COLUMN" ∷ codes "CONSTRAINT" ∷ codes "CREATE" ∷ codes "DATABASE" ∷ []

-- the reserved words from DATABASES to INTEGER
abbrev pub from_databases : List (List ℕ)
from_databases =
    codes "DATABASES" ∷ codes "DEFAULT" ∷ codes "DELETE" ∷ codes "DESC" ∷ codes "DROP" ∷ codes "EXISTS" ∷ codes "FORCE"
    ∷ codes "FOREIGN" ∷ codes "FROM" ∷ codes "IF" ∷ codes "IN" ∷ codes "INDEX" ∷ codes "INT" ∷ codes "INTEGER" ∷ []

-- the reserved words from KEY to SELECT
abbrev pub from_key : List (List ℕ)
from_key =
    codes "KEY" ∷ codes "KEYS" ∷ codes "LIKE" ∷ codes "MEDIUMINT" ∷ codes "NOT" ∷ codes "NULL" ∷ codes "ON"
    ∷ codes "PRIMARY" ∷ codes "REFERENCES" ∷ codes "RENAME" ∷ codes "RESTRICT" ∷ codes "SCHEMA" ∷ codes "SCHEMAS" ∷ codes "SELECT" ∷ []

-- the reserved words from SET to WHERE
abbrev pub from_set : List (List ℕ)
from_set =
    codes "SET" ∷ codes "SHOW" ∷ codes "SMALLINT" ∷ codes "SQL" ∷ codes "TABLE" ∷ codes "TINYINT" ∷ codes "TO"
    ∷ codes "UNIQUE" ∷ codes "UNSIGNED" ∷ codes "UPDATE" ∷ codes "USE" ∷ codes "USING" ∷ codes "VARCHAR" ∷ codes "WHERE" ∷ []

abbrev pub reserved_words : List (List ℕ)
reserved_words = from_add ++ from_databases ++ from_key ++ from_set

abbrev pub system_schemas : List (List ℕ)
system_schemas = codes "information_schema" ∷ codes "mysql" ∷ codes "performance_schema" ∷ codes "sys" ∷ []

-- a word that has a meaning of its own, in any case, and so is no name unless it is quoted
unfoldable pub is_reserved : List ℕ → Bool
is_reserved word = list_any (λ other. same word other) reserved_words

-- a schema that the server has for itself, in any case
unfoldable pub is_system_schema : List ℕ → Bool
is_system_schema name = list_any (λ other. same name other) system_schemas
