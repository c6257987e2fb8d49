-- Texts about tables, and what they read as.
use Rattle.std.specs.Prelude.{List, [], ◌∷◌, true, false, Some, None, codes}
use Rattle.sql_types.specs.declared.choices.IntSize.TheVariants.{Small, Normal, Big}
use Rattle.sql_types.specs.declared.choices.IndexClass.TheVariants.{Primary, Unique, Plain}
use Rattle.sql_types.specs.declared.choices.FkRule.TheVariants.{NoAction, Cascade}
use Rattle.sql_types.specs.declared.literal.Literal.TheVariants.{Null, Number, Str}
use Rattle.sql_ast.specs.declared.element.Element.TheVariants.{Column, Key, ForeignKey}
use Rattle.sql_ast.specs.declared.view.Item.TheVariants.{All}
use Rattle.sql_ast_examples.specs.Values.{own, of_schema, column, a_key, a_foreign_key, pair, source, query}
use Rattle.sql_ast_examples.specs.Statements.{create_database, use_schema, create_table, create_like, drop_table, rename_tables, truncate_table, create_view, show_tables, show_columns, show_create_table}
use Rattle.sql_ast_examples.specs.Example.{Example, ◌means◌}
use Rattle.sql_types.specs.declared.words.TypeWords.TheVariants as kind

-- tables made and shown (1 of 3)
abbrev pub whole_tables_1 : List Example
whole_tables_1 =
    ("CREATE TABLE t (id INT(11) PRIMARY KEY, n TINYINT(1), a VARCHAR(20) DEFAULT 'x')" means create_table false (own "t") ((Column (column "id" (kind.Int Normal false) None None false false true)) ∷ (Column (column "n" kind.Bool None None false false false)) ∷ (Column (column "a" (kind.VarChar 20) None (Some (Str (codes "x"))) false false false)) ∷ []))
    ∷ ("CREATE TABLE `u` (\n  `id` int NOT NULL,\n  `n` tinyint(1) DEFAULT NULL,\n  `a` varchar(20) DEFAULT 'x',\n  PRIMARY KEY (`id`)\n) ENGINE=InnoDB DEFAULT CHARSET=utf8mb4 COLLATE=utf8mb4_0900_ai_ci" means create_table false (own "u") ((Column (column "id" (kind.Int Normal false) (Some false) None false false false)) ∷ (Column (column "n" kind.Bool None (Some Null) false false false)) ∷ (Column (column "a" (kind.VarChar 20) None (Some (Str (codes "x"))) false false false)) ∷ (Key (a_key Primary None None (codes "id" ∷ []))) ∷ []))
    ∷ ("CREATE TABLE aaaaaaaaaaaaaaaaaaaaaaaaaaaaaaaaaaaaaaaaaaaaaaaaaaaaaaaaaaaaaaaa (v VARCHAR(16383))" means create_table false (own "aaaaaaaaaaaaaaaaaaaaaaaaaaaaaaaaaaaaaaaaaaaaaaaaaaaaaaaaaaaaaaaa") ((Column (column "v" (kind.VarChar 16383) None None false false false)) ∷ []))
    ∷ ("CREATE TABLE w (v VARCHAR(16384))" means create_table false (own "w") ((Column (column "v" (kind.VarChar 16384) None None false false false)) ∷ []))
    ∷ ("CREATE TABLE t1 (i INT)" means create_table false (own "t1") ((Column (column "i" (kind.Int Normal false) None None false false false)) ∷ []))
    ∷ ("CREATE TABLE t (a INT, A INT)" means create_table false (own "t") ((Column (column "a" (kind.Int Normal false) None None false false false)) ∷ (Column (column "A" (kind.Int Normal false) None None false false false)) ∷ []))
    ∷ ("CREATE TABLE IF NOT EXISTS d.t (i INT)" means create_table true (of_schema "d" "t") ((Column (column "i" (kind.Int Normal false) None None false false false)) ∷ []))
    ∷ ("CREATE TABLE p (id INT PRIMARY KEY)" means create_table false (own "p") ((Column (column "id" (kind.Int Normal false) None None false false true)) ∷ []))
    ∷ ("CREATE TABLE c (id INT PRIMARY KEY, p INT, FOREIGN KEY (p) REFERENCES p (id))" means create_table false (own "c") ((Column (column "id" (kind.Int Normal false) None None false false true)) ∷ (Column (column "p" (kind.Int Normal false) None None false false false)) ∷ (ForeignKey (a_foreign_key None None (codes "p" ∷ []) (own "p") (codes "id" ∷ []) NoAction NoAction)) ∷ []))
    ∷ ("CREATE TABLE s (id INT PRIMARY KEY, up INT, FOREIGN KEY (up) REFERENCES s (id))" means create_table false (own "s") ((Column (column "id" (kind.Int Normal false) None None false false true)) ∷ (Column (column "up" (kind.Int Normal false) None None false false false)) ∷ (ForeignKey (a_foreign_key None None (codes "up" ∷ []) (own "s") (codes "id" ∷ []) NoAction NoAction)) ∷ []))
    ∷ ("CREATE TABLE t0 (id INT PRIMARY KEY, v INT, KEY k (v))" means create_table false (own "t0") ((Column (column "id" (kind.Int Normal false) None None false false true)) ∷ (Column (column "v" (kind.Int Normal false) None None false false false)) ∷ (Key (a_key Plain None (Some (codes "k")) (codes "v" ∷ []))) ∷ []))
    ∷ ("CREATE TABLE customers (id INT UNSIGNED NOT NULL AUTO_INCREMENT, email VARCHAR(255) NOT NULL, name VARCHAR(100) DEFAULT NULL, PRIMARY KEY (id), UNIQUE KEY email (email))" means create_table false (own "customers") ((Column (column "id" (kind.Int Normal true) (Some false) None true false false)) ∷ (Column (column "email" (kind.VarChar 255) (Some false) None false false false)) ∷ (Column (column "name" (kind.VarChar 100) None (Some Null) false false false)) ∷ (Key (a_key Primary None None (codes "id" ∷ []))) ∷ (Key (a_key Unique None (Some (codes "email")) (codes "email" ∷ []))) ∷ []))
    ∷ ("CREATE TABLE orders (id BIGINT UNSIGNED NOT NULL AUTO_INCREMENT PRIMARY KEY, customer_id INT UNSIGNED NOT NULL, placed DATETIME NOT NULL, KEY placed (placed), CONSTRAINT orders_customer FOREIGN KEY (customer_id) REFERENCES customers (id))" means create_table false (own "orders") ((Column (column "id" (kind.Int Big true) (Some false) None true false true)) ∷ (Column (column "customer_id" (kind.Int Normal true) (Some false) None false false false)) ∷ (Column (column "placed" kind.DateTime (Some false) None false false false)) ∷ (Key (a_key Plain None (Some (codes "placed")) (codes "placed" ∷ []))) ∷ (ForeignKey (a_foreign_key (Some (codes "orders_customer")) None (codes "customer_id" ∷ []) (own "customers") (codes "id" ∷ []) NoAction NoAction)) ∷ []))
    ∷ ("CREATE TABLE order_lines (order_id BIGINT UNSIGNED NOT NULL, line SMALLINT UNSIGNED NOT NULL, sku CHAR(12) NOT NULL, quantity INT NOT NULL DEFAULT 1, PRIMARY KEY (order_id, line), FOREIGN KEY (order_id) REFERENCES orders (id) ON DELETE CASCADE)" means create_table false (own "order_lines") ((Column (column "order_id" (kind.Int Big true) (Some false) None false false false)) ∷ (Column (column "line" (kind.Int Small true) (Some false) None false false false)) ∷ (Column (column "sku" (kind.Char 12) (Some false) None false false false)) ∷ (Column (column "quantity" (kind.Int Normal false) (Some false) (Some (Number (codes "1"))) false false false)) ∷ (Key (a_key Primary None None (codes "order_id" ∷ codes "line" ∷ []))) ∷ (ForeignKey (a_foreign_key None None (codes "order_id" ∷ []) (own "orders") (codes "id" ∷ []) Cascade NoAction)) ∷ []))
    ∷ []

-- tables made and shown (2 of 3)
abbrev pub whole_tables_2 : List Example
whole_tables_2 =
    ("CREATE TABLE t (a INT) ENGINE InnoDB, CHARSET utf8mb4 AUTO_INCREMENT = 5, DEFAULT COLLATE=utf8mb4_0900_ai_ci" means create_table false (own "t") ((Column (column "a" (kind.Int Normal false) None None false false false)) ∷ []))
    ∷ ("CREATE TABLE t (a INT) auto_increment 7 character set utf8mb4" means create_table false (own "t") ((Column (column "a" (kind.Int Normal false) None None false false false)) ∷ []))
    ∷ ("CREATE TABLE t LIKE s" means create_like false (own "t") (own "s"))
    ∷ ("CREATE TABLE IF NOT EXISTS d.t (LIKE e.s)" means create_like true (of_schema "d" "t") (of_schema "e" "s"))
    ∷ ("SHOW CREATE TABLE d.t" means show_create_table (of_schema "d" "t"))
    ∷ ("SHOW TABLES" means show_tables None)
    ∷ ("SHOW TABLES FROM d" means show_tables (Some (codes "d")))
    ∷ ("SHOW TABLES IN d" means show_tables (Some (codes "d")))
    ∷ ("SHOW COLUMNS FROM t" means show_columns (own "t"))
    ∷ ("SHOW FIELDS IN d.t" means show_columns (of_schema "d" "t"))
    ∷ ("SHOW COLUMNS FROM order_skus FROM shop" means show_columns (of_schema "shop" "order_skus"))
    ∷ ("SHOW FIELDS FROM d.t IN e" means show_columns (of_schema "e" "t"))
    ∷ ("DROP TABLE t1, t2" means drop_table false ((own "t1") ∷ (own "t2") ∷ []))
    ∷ ("DROP TABLE IF EXISTS d.t RESTRICT" means drop_table true ((of_schema "d" "t") ∷ []))
    ∷ []

-- tables made and shown (3 of 3)
abbrev pub whole_tables_3 : List Example
whole_tables_3 =
    ("DROP TABLE p, d.c CASCADE" means drop_table false ((own "p") ∷ (of_schema "d" "c") ∷ []))
    ∷ ("RENAME TABLE a TO x, b TO a, x TO b" means rename_tables ((pair (own "a") (own "x")) ∷ (pair (own "b") (own "a")) ∷ (pair (own "x") (own "b")) ∷ []))
    ∷ ("RENAME TABLE d.a TO e.b" means rename_tables ((pair (of_schema "d" "a") (of_schema "e" "b")) ∷ []))
    ∷ ("TRUNCATE TABLE p" means truncate_table (own "p"))
    ∷ ("TRUNCATE d.p" means truncate_table (of_schema "d" "p"))
    ∷ []

-- further statements on schemas, tables and views (1 of 3)
abbrev pub further_tables_1 : List Example
further_tables_1 =
    ("CREATE DATABASE mysql" means create_database false (codes "mysql"))
    ∷ ("CREATE DATABASE e" means create_database false (codes "e"))
    ∷ ("CREATE DATABASE g0" means create_database false (codes "g0"))
    ∷ ("USE shop" means use_schema (codes "shop"))
    ∷ ("SHOW CREATE TABLE t" means show_create_table (own "t"))
    ∷ ("SHOW CREATE TABLE u" means show_create_table (own "u"))
    ∷ ("SHOW CREATE TABLE shop.order_lines" means show_create_table (of_schema "shop" "order_lines"))
    ∷ ("SHOW COLUMNS FROM shop.customers" means show_columns (of_schema "shop" "customers"))
    ∷ ("SHOW COLUMNS FROM v" means show_columns (own "v"))
    ∷ ("CREATE TABLE T (a INT)" means create_table false (own "T") ((Column (column "a" (kind.Int Normal false) None None false false false)) ∷ []))
    ∷ ("CREATE TABLE t (id INT, n INT)" means create_table false (own "t") ((Column (column "id" (kind.Int Normal false) None None false false false)) ∷ (Column (column "n" (kind.Int Normal false) None None false false false)) ∷ []))
    ∷ ("CREATE TABLE b (j INT)" means create_table false (own "b") ((Column (column "j" (kind.Int Normal false) None None false false false)) ∷ []))
    ∷ ("CREATE TABLE p (id INT PRIMARY KEY, a INT)" means create_table false (own "p") ((Column (column "id" (kind.Int Normal false) None None false false true)) ∷ (Column (column "a" (kind.Int Normal false) None None false false false)) ∷ []))
    ∷ ("CREATE TABLE a (i INT, FOREIGN KEY (i) REFERENCES p (id))" means create_table false (own "a") ((Column (column "i" (kind.Int Normal false) None None false false false)) ∷ (ForeignKey (a_foreign_key None None (codes "i" ∷ []) (own "p") (codes "id" ∷ []) NoAction NoAction)) ∷ []))
    ∷ []

-- further statements on schemas, tables and views (2 of 3)
abbrev pub further_tables_2 : List Example
further_tables_2 =
    ("CREATE TABLE c (p INT, FOREIGN KEY (p) REFERENCES p (id))" means create_table false (own "c") ((Column (column "p" (kind.Int Normal false) None None false false false)) ∷ (ForeignKey (a_foreign_key None None (codes "p" ∷ []) (own "p") (codes "id" ∷ []) NoAction NoAction)) ∷ []))
    ∷ ("DROP TABLE p" means drop_table false ((own "p") ∷ []))
    ∷ ("DROP TABLE p, c" means drop_table false ((own "p") ∷ (own "c") ∷ []))
    ∷ ("DROP TABLE s" means drop_table false ((own "s") ∷ []))
    ∷ ("CREATE VIEW v2 AS SELECT * FROM v1" means create_view (own "v2") None (query (All ∷ []) ((source (own "v1") None) ∷ [])))
    ∷ ("CREATE TABLE d.u (i INT)" means create_table false (of_schema "d" "u") ((Column (column "i" (kind.Int Normal false) None None false false false)) ∷ []))
    ∷ ("CREATE TABLE t (i INT)" means create_table false (own "t") ((Column (column "i" (kind.Int Normal false) None None false false false)) ∷ []))
    ∷ ("CREATE TABLE u (i INT)" means create_table false (own "u") ((Column (column "i" (kind.Int Normal false) None None false false false)) ∷ []))
    ∷ ("CREATE TABLE d.t (i INT)" means create_table false (of_schema "d" "t") ((Column (column "i" (kind.Int Normal false) None None false false false)) ∷ []))
    ∷ ("CREATE TABLE t (a INT)" means create_table false (own "t") ((Column (column "a" (kind.Int Normal false) None None false false false)) ∷ []))
    ∷ ("DROP TABLE t" means drop_table false ((own "t") ∷ []))
    ∷ ("DROP TABLE v" means drop_table false ((own "v") ∷ []))
    ∷ ("USE g0" means use_schema (codes "g0"))
    ∷ ("SHOW CREATE TABLE t0" means show_create_table (own "t0"))
    ∷ []

-- further statements on schemas, tables and views (3 of 3)
abbrev pub further_tables_3 : List Example
further_tables_3 =
    ("SHOW CREATE TABLE b" means show_create_table (own "b"))
    ∷ ("SHOW CREATE TABLE c" means show_create_table (own "c"))
    ∷ ("CREATE VIEW v33 AS SELECT * FROM v32" means create_view (own "v33") None (query (All ∷ []) ((source (own "v32") None) ∷ [])))
    ∷ ("create table t (id INT(11) KEY) engine=InnoDB" means create_table false (own "t") ((Column (column "id" (kind.Int Normal false) None None false false true)) ∷ []))
    ∷ ("CREATE TABLE `t` ( `id` INT PRIMARY KEY )" means create_table false (own "t") ((Column (column "id" (kind.Int Normal false) None None false false true)) ∷ []))
    ∷ []
