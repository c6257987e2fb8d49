-- Texts about schemas, and what they read as.
use Rattle.std.specs.Prelude.{List, [], ◌∷◌, true, false, codes}
use Rattle.sql_ast_examples.specs.Statements.{create_database, drop_database, use_schema, show_databases, show_create_database, information_table, set_tries}
use Rattle.sql_ast_examples.specs.Example.{Example, ◌means◌}

-- schemas: CREATE, DROP, USE and SHOW (1 of 3)
abbrev pub databases_1 : List Example
databases_1 =
    ("CREATE DATABASE d" means create_database false (codes "d"))
    ∷ ("create Schema D" means create_database false (codes "D"))
    ∷ ("CREATE DATABASE IF NOT EXISTS d" means create_database true (codes "d"))
    ∷ ("CREATE DATABASE d CHARACTER SET utf8mb4" means create_database false (codes "d"))
    ∷ ("CREATE DATABASE d CHARACTER SET = UTF8MB4 CHARSET utf8mb4" means create_database false (codes "d"))
    ∷ ("CREATE DATABASE d DEFAULT CHARSET=utf8mb4 DEFAULT COLLATE utf8mb4_0900_ai_ci COLLATE = utf8mb4_0900_ai_ci" means create_database false (codes "d"))
    ∷ ("CREATE DATABASE d ENCRYPTION 'N' DEFAULT ENCRYPTION='N'" means create_database false (codes "d"))
    ∷ ("CREATE DATABASE d ENCRYPTION = \"N\"" means create_database false (codes "d"))
    ∷ ("CREATE DATABASE `e` /*!40100 DEFAULT CHARACTER SET utf8mb4 COLLATE utf8mb4_0900_ai_ci */ /*!80016 DEFAULT ENCRYPTION='N' */" means create_database false (codes "e"))
    ∷ ("CREATE/**/DATABASE # a comment\n d -- another" means create_database false (codes "d"))
    ∷ ("CREATE DATABASE `select`" means create_database false (codes "select"))
    ∷ ("CREATE DATABASE `12`" means create_database false (codes "12"))
    ∷ ("CREATE DATABASE 1a" means create_database false (codes "1a"))
    ∷ ("CREATE DATABASE charset" means create_database false (codes "charset"))
    ∷ []

-- schemas: CREATE, DROP, USE and SHOW (2 of 3)
abbrev pub databases_2 : List Example
databases_2 =
    ("CREATE DATABASE aaaaaaaaaaaaaaaaaaaaaaaaaaaaaaaaaaaaaaaaaaaaaaaaaaaaaaaaaaaaaaaa" means create_database false (codes "aaaaaaaaaaaaaaaaaaaaaaaaaaaaaaaaaaaaaaaaaaaaaaaaaaaaaaaaaaaaaaaa"))
    ∷ ("DROP DATABASE d" means drop_database false (codes "d"))
    ∷ ("DROP SCHEMA IF EXISTS d" means drop_database true (codes "d"))
    ∷ ("USE d" means use_schema (codes "d"))
    ∷ ("SHOW DATABASES" means show_databases)
    ∷ ("show schemas" means show_databases)
    ∷ ("SHOW CREATE DATABASE d" means show_create_database (codes "d"))
    ∷ ("SHOW CREATE SCHEMA `d`" means show_create_database (codes "d"))
    ∷ ("SET lock_wait_timeout = 1" means set_tries 1)
    ∷ ("SET SESSION lock_wait_timeout = 31536001" means set_tries 31536001)
    ∷ ("SET lock_wait_timeout = 340282366920938463463374607431768211455" means set_tries 340282366920938463463374607431768211455)
    ∷ ("SET lock_wait_timeout = 340282366920938463463374607431768211456" means set_tries 340282366920938463463374607431768211455)
    ∷ ("SET lock_wait_timeout = 000" means set_tries 0)
    ∷ ("TABLE information_schema.REFERENTIAL_CONSTRAINTS" means information_table (codes "REFERENTIAL_CONSTRAINTS"))
    ∷ []

-- schemas: CREATE, DROP, USE and SHOW (3 of 3)
abbrev pub databases_3 : List Example
databases_3 =
    ("table INFORMATION_SCHEMA . nothing" means information_table (codes "nothing"))
    ∷ ("CREATE /*!40000 DATABASE /* a comment */ d */" means create_database false (codes "d"))
    ∷ []
