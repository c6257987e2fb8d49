-- Texts outside the grammar, and the byte of the first faulty token of each.
use Rattle.std.specs.Prelude.{List, [], ◌∷◌}
use Rattle.sql_ast_examples.specs.Example.{Example, ◌is_faulty_at◌}

-- texts about schemas outside the grammar, with the bytes of their first faulty tokens (1 of 4)
abbrev pub databases_refused_1 : List Example
databases_refused_1 =
    ("" is_faulty_at 0)
    ∷ ("  " is_faulty_at 2)
    ∷ ("-- a comment" is_faulty_at 12)
    ∷ ("/*!40000 */" is_faulty_at 11)
    ∷ (";" is_faulty_at 0)
    ∷ ("SELECT" is_faulty_at 0)
    ∷ ("session" is_faulty_at 0)
    ∷ ("create" is_faulty_at 6)
    ∷ ("CREATE UNIQUE_" is_faulty_at 7)
    ∷ ("CREATE DATABASE" is_faulty_at 15)
    ∷ ("CREATE DATABASE 12" is_faulty_at 16)
    ∷ ("CREATE DATABASE select" is_faulty_at 16)
    ∷ ("CREATE DATABASE \"d\"" is_faulty_at 16)
    ∷ ("CREATE DATABASE e e" is_faulty_at 18)
    ∷ []

-- texts about schemas outside the grammar, with the bytes of their first faulty tokens (2 of 4)
abbrev pub databases_refused_2 : List Example
databases_refused_2 =
    ("CREATE DATABASE d ;" is_faulty_at 18)
    ∷ ("CREATE DATABASE IF EXISTS d" is_faulty_at 19)
    ∷ ("CREATE DATABASE IF NOT d" is_faulty_at 23)
    ∷ ("CREATE DATABASE d CHARACTER utf8mb4" is_faulty_at 28)
    ∷ ("CREATE DATABASE d CHARSET latin1" is_faulty_at 26)
    ∷ ("CREATE DATABASE d DEFAULT" is_faulty_at 25)
    ∷ ("CREATE DATABASE d COLLATE = utf8mb4" is_faulty_at 28)
    ∷ ("CREATE DATABASE d ENCRYPTION 'Y'" is_faulty_at 29)
    ∷ ("CREATE DATABASE d ENCRYPTION 'n'" is_faulty_at 29)
    ∷ ("CREATE DATABASE d ENCRYPTION N" is_faulty_at 29)
    ∷ ("CREATE DATABASE a.b" is_faulty_at 17)
    ∷ ("CREATE DATABASE d $" is_faulty_at 18)
    ∷ ("CREATE DATABASE `a b`" is_faulty_at 16)
    ∷ ("CREATE DATABASE d 'x" is_faulty_at 18)
    ∷ []

-- texts about schemas outside the grammar, with the bytes of their first faulty tokens (3 of 4)
abbrev pub databases_refused_3 : List Example
databases_refused_3 =
    ("CREATE DATABASE d /* x" is_faulty_at 18)
    ∷ ("DROP d" is_faulty_at 5)
    ∷ ("DROP DATABASE IF NOT EXISTS d" is_faulty_at 17)
    ∷ ("USE" is_faulty_at 3)
    ∷ ("USE d.e" is_faulty_at 5)
    ∷ ("SHOW" is_faulty_at 4)
    ∷ ("SHOW TABLE" is_faulty_at 5)
    ∷ ("SHOW CREATE t" is_faulty_at 12)
    ∷ ("SHOW TABLES t" is_faulty_at 12)
    ∷ ("SHOW COLUMNS t" is_faulty_at 13)
    ∷ ("SET x = 1" is_faulty_at 4)
    ∷ ("SET lock_wait_timeout 1" is_faulty_at 22)
    ∷ ("SET lock_wait_timeout = -1" is_faulty_at 24)
    ∷ ("SET lock_wait_timeout = '1'" is_faulty_at 24)
    ∷ []

-- texts about schemas outside the grammar, with the bytes of their first faulty tokens (4 of 4)
abbrev pub databases_refused_4 : List Example
databases_refused_4 =
    ("SET SESSION SESSION lock_wait_timeout = 1" is_faulty_at 12)
    ∷ ("TABLE t" is_faulty_at 6)
    ∷ ("TABLE information_schema" is_faulty_at 24)
    ∷ ("TABLE information_schema , x" is_faulty_at 25)
    ∷ ("CREATE DATABASE d */" is_faulty_at 18)
    ∷ ("CREATE /*!40000 DATABASE d" is_faulty_at 7)
    ∷ []

-- texts about tables and indexes outside the grammar, with the bytes of their first faulty tokens (1 of 4)
abbrev pub tables_refused_1 : List Example
tables_refused_1 =
    ("CREATE TABLE" is_faulty_at 12)
    ∷ ("CREATE TABLE t" is_faulty_at 14)
    ∷ ("CREATE TABLE t ()" is_faulty_at 16)
    ∷ ("CREATE TABLE t (a)" is_faulty_at 17)
    ∷ ("CREATE TABLE t (a INT" is_faulty_at 21)
    ∷ ("CREATE TABLE t (a INT,)" is_faulty_at 22)
    ∷ ("CREATE TABLE t (a FLOAT)" is_faulty_at 18)
    ∷ ("CREATE TABLE t (a INT(256))" is_faulty_at 22)
    ∷ ("CREATE TABLE t (a INT())" is_faulty_at 22)
    ∷ ("CREATE TABLE t (a VARCHAR)" is_faulty_at 25)
    ∷ ("CREATE TABLE t (a VARCHAR (-1))" is_faulty_at 27)
    ∷ ("CREATE TABLE t (a CHAR(10" is_faulty_at 25)
    ∷ ("CREATE TABLE t (a DATE UNSIGNED)" is_faulty_at 23)
    ∷ ("CREATE TABLE t (a INT UNSIGNED SIGNED)" is_faulty_at 31)
    ∷ []

-- texts about tables and indexes outside the grammar, with the bytes of their first faulty tokens (2 of 4)
abbrev pub tables_refused_2 : List Example
tables_refused_2 =
    ("CREATE TABLE t (a INT NOT a)" is_faulty_at 26)
    ∷ ("CREATE TABLE t (a INT DEFAULT)" is_faulty_at 29)
    ∷ ("CREATE TABLE t (a INT DEFAULT b)" is_faulty_at 30)
    ∷ ("CREATE TABLE t (a INT DEFAULT - '1')" is_faulty_at 32)
    ∷ ("CREATE TABLE t (a INT PRIMARY)" is_faulty_at 29)
    ∷ ("CREATE TABLE t (a INT INDEX)" is_faulty_at 22)
    ∷ ("CREATE TABLE t (key INT)" is_faulty_at 20)
    ∷ ("CREATE TABLE t (PRIMARY KEY a)" is_faulty_at 28)
    ∷ ("CREATE TABLE t (PRIMARY KEY ())" is_faulty_at 29)
    ∷ ("CREATE TABLE t (PRIMARY KEY (a DESC))" is_faulty_at 31)
    ∷ ("CREATE TABLE t (PRIMARY KEY (a) USING HASH)" is_faulty_at 38)
    ∷ ("CREATE TABLE t (CONSTRAINT c KEY (a))" is_faulty_at 29)
    ∷ ("CREATE TABLE t (CONSTRAINT c INDEX (a))" is_faulty_at 29)
    ∷ ("CREATE TABLE t (UNIQUE u v (a))" is_faulty_at 25)
    ∷ []

-- texts about tables and indexes outside the grammar, with the bytes of their first faulty tokens (3 of 4)
abbrev pub tables_refused_3 : List Example
tables_refused_3 =
    ("CREATE TABLE t (FOREIGN KEY (a ASC) REFERENCES p (x))" is_faulty_at 31)
    ∷ ("CREATE TABLE t (FOREIGN KEY (a))" is_faulty_at 31)
    ∷ ("CREATE TABLE t (FOREIGN KEY (a) REFERENCES p)" is_faulty_at 44)
    ∷ ("CREATE TABLE t (FOREIGN KEY (a) REFERENCES p (x) ON INSERT CASCADE)" is_faulty_at 52)
    ∷ ("CREATE TABLE t (FOREIGN KEY (a) REFERENCES p (x) ON DELETE SET_NULL)" is_faulty_at 59)
    ∷ ("CREATE TABLE t (FOREIGN KEY (a) REFERENCES p (x) ON DELETE SET DEFAULT)" is_faulty_at 63)
    ∷ ("CREATE TABLE t (a INT) ENGINE=MyISAM" is_faulty_at 30)
    ∷ ("CREATE TABLE t (a INT) ," is_faulty_at 24)
    ∷ ("CREATE TABLE t (a INT) AUTO_INCREMENT=x" is_faulty_at 38)
    ∷ ("CREATE TABLE t (a INT) COMMENT" is_faulty_at 23)
    ∷ ("CREATE TABLE t LIKE" is_faulty_at 19)
    ∷ ("CREATE TABLE t (LIKE s" is_faulty_at 22)
    ∷ ("CREATE TABLE t LIKE s ENGINE=InnoDB" is_faulty_at 22)
    ∷ ("CREATE TABLE d.(a INT)" is_faulty_at 15)
    ∷ []

-- texts about tables and indexes outside the grammar, with the bytes of their first faulty tokens (4 of 4)
abbrev pub tables_refused_4 : List Example
tables_refused_4 =
    ("CREATE TABLE a.b.c (i INT)" is_faulty_at 16)
    ∷ ("DROP TABLE" is_faulty_at 10)
    ∷ ("DROP TABLE t ," is_faulty_at 14)
    ∷ ("DROP TABLE t RESTRICT CASCADE" is_faulty_at 22)
    ∷ ("RENAME a TO b" is_faulty_at 7)
    ∷ ("RENAME TABLE a b" is_faulty_at 15)
    ∷ ("RENAME TABLE a TO b," is_faulty_at 20)
    ∷ ("TRUNCATE" is_faulty_at 8)
    ∷ ("TRUNCATE TABLE t, u" is_faulty_at 16)
    ∷ ("CREATE UNIQUE TABLE t (a INT)" is_faulty_at 14)
    ∷ ("CREATE INDEX k t (a)" is_faulty_at 15)
    ∷ ("CREATE INDEX k ON t" is_faulty_at 19)
    ∷ ("DROP INDEX k" is_faulty_at 12)
    ∷ ("DROP INDEX k ON t USING BTREE" is_faulty_at 18)
    ∷ ("CREATE TABLE t (a INT DEFAULT -)" is_faulty_at 31)
    ∷ []

-- texts about ALTER TABLE and views outside the grammar, with the bytes of their first faulty tokens (1 of 3)
abbrev pub changes_refused_1 : List Example
changes_refused_1 =
    ("ALTER t" is_faulty_at 6)
    ∷ ("ALTER TABLE t" is_faulty_at 13)
    ∷ ("ALTER TABLE t ADD" is_faulty_at 17)
    ∷ ("ALTER TABLE t ADD b INT BEFORE a" is_faulty_at 24)
    ∷ ("ALTER TABLE t ADD b INT FIRST AFTER a" is_faulty_at 30)
    ∷ ("ALTER TABLE t ADD b INT AFTER" is_faulty_at 29)
    ∷ ("ALTER TABLE t ADD (b INT FIRST)" is_faulty_at 25)
    ∷ ("ALTER TABLE t ADD COLUMN KEY (a)" is_faulty_at 25)
    ∷ ("ALTER TABLE t DROP" is_faulty_at 18)
    ∷ ("ALTER TABLE t DROP COLUMN PRIMARY" is_faulty_at 26)
    ∷ ("ALTER TABLE t DROP PRIMARY" is_faulty_at 26)
    ∷ ("ALTER TABLE t DROP FOREIGN f" is_faulty_at 27)
    ∷ ("ALTER TABLE t MODIFY a" is_faulty_at 22)
    ∷ ("ALTER TABLE t MODIFY a b INT" is_faulty_at 23)
    ∷ []

-- texts about ALTER TABLE and views outside the grammar, with the bytes of their first faulty tokens (2 of 3)
abbrev pub changes_refused_2 : List Example
changes_refused_2 =
    ("ALTER TABLE t CHANGE a INT" is_faulty_at 23)
    ∷ ("ALTER TABLE t RENAME COLUMN a b" is_faulty_at 30)
    ∷ ("ALTER TABLE t RENAME" is_faulty_at 20)
    ∷ ("ALTER TABLE t RENAME TO" is_faulty_at 23)
    ∷ ("ALTER TABLE t ALTER a DEFAULT 1" is_faulty_at 22)
    ∷ ("ALTER TABLE t ALTER a SET DEFAULT x" is_faulty_at 34)
    ∷ ("ALTER TABLE t FORCE," is_faulty_at 20)
    ∷ ("ALTER TABLE t ENGINE=x" is_faulty_at 21)
    ∷ ("ALTER TABLE t FORCE FORCE" is_faulty_at 20)
    ∷ ("CREATE VIEW v" is_faulty_at 13)
    ∷ ("CREATE VIEW v SELECT a FROM t" is_faulty_at 14)
    ∷ ("CREATE VIEW v () AS SELECT a FROM t" is_faulty_at 15)
    ∷ ("CREATE VIEW v AS SELECT" is_faulty_at 23)
    ∷ ("CREATE VIEW v AS SELECT a" is_faulty_at 25)
    ∷ []

-- texts about ALTER TABLE and views outside the grammar, with the bytes of their first faulty tokens (3 of 3)
abbrev pub changes_refused_3 : List Example
changes_refused_3 =
    ("CREATE VIEW v AS SELECT a, FROM t" is_faulty_at 27)
    ∷ ("CREATE VIEW v AS SELECT a.FROM t" is_faulty_at 26)
    ∷ ("CREATE VIEW v AS SELECT a.b.c FROM t" is_faulty_at 27)
    ∷ ("CREATE VIEW v AS SELECT * AS x FROM t" is_faulty_at 26)
    ∷ ("CREATE VIEW v AS SELECT a FROM" is_faulty_at 30)
    ∷ ("CREATE VIEW v AS SELECT a FROM t WHERE a" is_faulty_at 33)
    ∷ ("CREATE ALGORITHM=MERGE VIEW v AS SELECT a FROM t" is_faulty_at 17)
    ∷ ("CREATE DEFINER=root VIEW v AS SELECT a FROM t" is_faulty_at 20)
    ∷ ("CREATE SQL SECURITY INVOKER VIEW v AS SELECT a FROM t" is_faulty_at 20)
    ∷ ("CREATE SQL SECURITY DEFINER ALGORITHM=UNDEFINED VIEW v AS SELECT a FROM t" is_faulty_at 28)
    ∷ ("DROP VIEW v CASCADE" is_faulty_at 12)
    ∷ ("SHOW CREATE VIEW v, w" is_faulty_at 18)
    ∷ ("CREATE VIEW v AS SELECT a IN t" is_faulty_at 26)
    ∷ []
