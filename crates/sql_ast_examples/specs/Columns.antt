-- Texts of columns, and what they read as.
use Rattle.std.specs.Prelude.{List, [], ◌∷◌, true, false, Some, None, codes}
use Rattle.sql_types.specs.declared.choices.IntSize.TheVariants.{Tiny, Small, Medium, Normal, Big}
use Rattle.sql_types.specs.declared.literal.Literal.TheVariants.{Null, Number, Str}
use Rattle.sql_ast.specs.declared.element.Element.TheVariants.{Column}
use Rattle.sql_ast_examples.specs.Values.{own, column}
use Rattle.sql_ast_examples.specs.Statements.{create_table}
use Rattle.sql_ast_examples.specs.Example.{Example, ◌means◌}
use Rattle.sql_types.specs.declared.words.TypeWords.TheVariants as kind

-- columns with their types and attributes (1 of 4)
abbrev pub columns_1 : List Example
columns_1 =
    ("CREATE TABLE t (a TINYINT)" means create_table false (own "t") ((Column (column "a" (kind.Int Tiny false) None None false false false)) ∷ []))
    ∷ ("CREATE TABLE t (a SMALLINT)" means create_table false (own "t") ((Column (column "a" (kind.Int Small false) None None false false false)) ∷ []))
    ∷ ("CREATE TABLE t (a MEDIUMINT)" means create_table false (own "t") ((Column (column "a" (kind.Int Medium false) None None false false false)) ∷ []))
    ∷ ("CREATE TABLE t (a INT)" means create_table false (own "t") ((Column (column "a" (kind.Int Normal false) None None false false false)) ∷ []))
    ∷ ("CREATE TABLE t (a INTEGER)" means create_table false (own "t") ((Column (column "a" (kind.Int Normal false) None None false false false)) ∷ []))
    ∷ ("CREATE TABLE t (a BIGINT)" means create_table false (own "t") ((Column (column "a" (kind.Int Big false) None None false false false)) ∷ []))
    ∷ ("CREATE TABLE t (a TINYINT UNSIGNED)" means create_table false (own "t") ((Column (column "a" (kind.Int Tiny true) None None false false false)) ∷ []))
    ∷ ("CREATE TABLE t (a BIGINT(20) UNSIGNED)" means create_table false (own "t") ((Column (column "a" (kind.Int Big true) None None false false false)) ∷ []))
    ∷ ("CREATE TABLE t (a INT SIGNED)" means create_table false (own "t") ((Column (column "a" (kind.Int Normal false) None None false false false)) ∷ []))
    ∷ ("CREATE TABLE t (a INT(255))" means create_table false (own "t") ((Column (column "a" (kind.Int Normal false) None None false false false)) ∷ []))
    ∷ ("CREATE TABLE t (a INT(0))" means create_table false (own "t") ((Column (column "a" (kind.Int Normal false) None None false false false)) ∷ []))
    ∷ ("CREATE TABLE t (a SMALLINT (5) SIGNED)" means create_table false (own "t") ((Column (column "a" (kind.Int Small false) None None false false false)) ∷ []))
    ∷ ("CREATE TABLE t (a TINYINT(1))" means create_table false (own "t") ((Column (column "a" kind.Bool None None false false false)) ∷ []))
    ∷ ("CREATE TABLE t (a TINYINT(01) SIGNED)" means create_table false (own "t") ((Column (column "a" kind.Bool None None false false false)) ∷ []))
    ∷ []

-- columns with their types and attributes (2 of 4)
abbrev pub columns_2 : List Example
columns_2 =
    ("CREATE TABLE t (a TINYINT(1) UNSIGNED)" means create_table false (own "t") ((Column (column "a" (kind.Int Tiny true) None None false false false)) ∷ []))
    ∷ ("CREATE TABLE t (a TINYINT(2))" means create_table false (own "t") ((Column (column "a" (kind.Int Tiny false) None None false false false)) ∷ []))
    ∷ ("CREATE TABLE t (a SMALLINT(1))" means create_table false (own "t") ((Column (column "a" (kind.Int Small false) None None false false false)) ∷ []))
    ∷ ("CREATE TABLE t (a BOOL)" means create_table false (own "t") ((Column (column "a" kind.Bool None None false false false)) ∷ []))
    ∷ ("CREATE TABLE t (a BOOLEAN)" means create_table false (own "t") ((Column (column "a" kind.Bool None None false false false)) ∷ []))
    ∷ ("CREATE TABLE t (a CHAR)" means create_table false (own "t") ((Column (column "a" (kind.Char 1) None None false false false)) ∷ []))
    ∷ ("CREATE TABLE t (a CHAR(0))" means create_table false (own "t") ((Column (column "a" (kind.Char 0) None None false false false)) ∷ []))
    ∷ ("CREATE TABLE t (a CHAR(256))" means create_table false (own "t") ((Column (column "a" (kind.Char 256) None None false false false)) ∷ []))
    ∷ ("CREATE TABLE t (a VARCHAR(20))" means create_table false (own "t") ((Column (column "a" (kind.VarChar 20) None None false false false)) ∷ []))
    ∷ ("CREATE TABLE t (a CHAR(340282366920938463463374607431768211457))" means create_table false (own "t") ((Column (column "a" (kind.Char 340282366920938463463374607431768211455) None None false false false)) ∷ []))
    ∷ ("CREATE TABLE t (a DATE)" means create_table false (own "t") ((Column (column "a" kind.Date None None false false false)) ∷ []))
    ∷ ("CREATE TABLE t (a datetime)" means create_table false (own "t") ((Column (column "a" kind.DateTime None None false false false)) ∷ []))
    ∷ ("CREATE TABLE t (a INT NULL)" means create_table false (own "t") ((Column (column "a" (kind.Int Normal false) (Some true) None false false false)) ∷ []))
    ∷ ("CREATE TABLE t (a INT NOT NULL)" means create_table false (own "t") ((Column (column "a" (kind.Int Normal false) (Some false) None false false false)) ∷ []))
    ∷ []

-- columns with their types and attributes (3 of 4)
abbrev pub columns_3 : List Example
columns_3 =
    ("CREATE TABLE t (a INT NULL NOT NULL)" means create_table false (own "t") ((Column (column "a" (kind.Int Normal false) (Some false) None false false false)) ∷ []))
    ∷ ("CREATE TABLE t (a INT NOT NULL NULL)" means create_table false (own "t") ((Column (column "a" (kind.Int Normal false) (Some true) None false false false)) ∷ []))
    ∷ ("CREATE TABLE t (a INT DEFAULT NULL)" means create_table false (own "t") ((Column (column "a" (kind.Int Normal false) None (Some Null) false false false)) ∷ []))
    ∷ ("CREATE TABLE t (a INT DEFAULT 1)" means create_table false (own "t") ((Column (column "a" (kind.Int Normal false) None (Some (Number (codes "1"))) false false false)) ∷ []))
    ∷ ("CREATE TABLE t (a INT DEFAULT +5)" means create_table false (own "t") ((Column (column "a" (kind.Int Normal false) None (Some (Number (codes "+5"))) false false false)) ∷ []))
    ∷ ("CREATE TABLE t (a INT DEFAULT - 007)" means create_table false (own "t") ((Column (column "a" (kind.Int Normal false) None (Some (Number (codes "-007"))) false false false)) ∷ []))
    ∷ ("CREATE TABLE t (a INT DEFAULT '')" means create_table false (own "t") ((Column (column "a" (kind.Int Normal false) None (Some (Str (codes ""))) false false false)) ∷ []))
    ∷ ("CREATE TABLE t (a INT DEFAULT 'it''s\\n')" means create_table false (own "t") ((Column (column "a" (kind.Int Normal false) None (Some (Str (codes "it's\n"))) false false false)) ∷ []))
    ∷ ("CREATE TABLE t (a INT DEFAULT \"a'b\")" means create_table false (own "t") ((Column (column "a" (kind.Int Normal false) None (Some (Str (codes "a'b"))) false false false)) ∷ []))
    ∷ ("CREATE TABLE t (a INT DEFAULT 1 DEFAULT 'x')" means create_table false (own "t") ((Column (column "a" (kind.Int Normal false) None (Some (Str (codes "x"))) false false false)) ∷ []))
    ∷ ("CREATE TABLE t (a INT AUTO_INCREMENT)" means create_table false (own "t") ((Column (column "a" (kind.Int Normal false) None None true false false)) ∷ []))
    ∷ ("CREATE TABLE t (a INT AUTO_INCREMENT AUTO_INCREMENT)" means create_table false (own "t") ((Column (column "a" (kind.Int Normal false) None None true false false)) ∷ []))
    ∷ ("CREATE TABLE t (a INT UNIQUE)" means create_table false (own "t") ((Column (column "a" (kind.Int Normal false) None None false true false)) ∷ []))
    ∷ ("CREATE TABLE t (a INT UNIQUE KEY)" means create_table false (own "t") ((Column (column "a" (kind.Int Normal false) None None false true false)) ∷ []))
    ∷ []

-- columns with their types and attributes (4 of 4)
abbrev pub columns_4 : List Example
columns_4 =
    ("CREATE TABLE t (a INT UNIQUE KEY KEY)" means create_table false (own "t") ((Column (column "a" (kind.Int Normal false) None None false true true)) ∷ []))
    ∷ ("CREATE TABLE t (a INT UNIQUE PRIMARY KEY)" means create_table false (own "t") ((Column (column "a" (kind.Int Normal false) None None false true true)) ∷ []))
    ∷ ("CREATE TABLE t (a INT KEY UNIQUE)" means create_table false (own "t") ((Column (column "a" (kind.Int Normal false) None None false true true)) ∷ []))
    ∷ ("CREATE TABLE t (a INT KEY)" means create_table false (own "t") ((Column (column "a" (kind.Int Normal false) None None false false true)) ∷ []))
    ∷ ("CREATE TABLE t (a INT PRIMARY KEY)" means create_table false (own "t") ((Column (column "a" (kind.Int Normal false) None None false false true)) ∷ []))
    ∷ ("CREATE TABLE t (a INT CHARACTER SET utf8mb4)" means create_table false (own "t") ((Column (column "a" (kind.Int Normal false) None None false false false)) ∷ []))
    ∷ ("CREATE TABLE t (a INT CHARSET UTF8MB4 COLLATE utf8mb4_0900_ai_ci)" means create_table false (own "t") ((Column (column "a" (kind.Int Normal false) None None false false false)) ∷ []))
    ∷ ("CREATE TABLE t (a INT NOT NULL DEFAULT 3 UNIQUE COLLATE utf8mb4_0900_ai_ci NULL)" means create_table false (own "t") ((Column (column "a" (kind.Int Normal false) (Some true) (Some (Number (codes "3"))) false true false)) ∷ []))
    ∷ ("CREATE TABLE t (a INT DEFAULT '\\%\\_\\Z\\t\\\\')" means create_table false (own "t") ((Column (column "a" (kind.Int Normal false) None (Some (Str (92 ∷ 37 ∷ 92 ∷ 95 ∷ 26 ∷ 9 ∷ 92 ∷ []))) false false false)) ∷ []))
    ∷ []
