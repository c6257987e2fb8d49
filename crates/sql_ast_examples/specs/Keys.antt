-- Texts of keys and foreign keys, and what they read as.
use Rattle.std.specs.Prelude.{List, [], ◌∷◌, true, false, Some, None, codes}
use Rattle.sql_types.specs.declared.choices.IntSize.TheVariants.{Normal}
use Rattle.sql_types.specs.declared.choices.IndexClass.TheVariants.{Primary, Unique, Plain}
use Rattle.sql_types.specs.declared.choices.FkRule.TheVariants.{NoAction, Restrict, Cascade, SetNull}
use Rattle.sql_ast.specs.declared.element.Element.TheVariants.{Column, Key, ForeignKey}
use Rattle.sql_ast_examples.specs.Values.{own, of_schema, column, a_key, a_foreign_key}
use Rattle.sql_ast_examples.specs.Statements.{create_table, create_index, drop_index}
use Rattle.sql_ast_examples.specs.Example.{Example, ◌means◌}
use Rattle.sql_types.specs.declared.words.TypeWords.TheVariants as kind

-- keys and foreign keys (1 of 2)
abbrev pub keys_1 : List Example
keys_1 =
    ("CREATE TABLE t (a INT, PRIMARY KEY (a))" means create_table false (own "t") ((Column (column "a" (kind.Int Normal false) None None false false false)) ∷ (Key (a_key Primary None None (codes "a" ∷ []))) ∷ []))
    ∷ ("CREATE TABLE t (a INT, CONSTRAINT PRIMARY KEY (a))" means create_table false (own "t") ((Column (column "a" (kind.Int Normal false) None None false false false)) ∷ (Key (a_key Primary None None (codes "a" ∷ []))) ∷ []))
    ∷ ("CREATE TABLE t (a INT, CONSTRAINT pk PRIMARY KEY (a ASC, b) USING BTREE)" means create_table false (own "t") ((Column (column "a" (kind.Int Normal false) None None false false false)) ∷ (Key (a_key Primary None None (codes "a" ∷ codes "b" ∷ []))) ∷ []))
    ∷ ("CREATE TABLE t (a INT, UNIQUE (a))" means create_table false (own "t") ((Column (column "a" (kind.Int Normal false) None None false false false)) ∷ (Key (a_key Unique None None (codes "a" ∷ []))) ∷ []))
    ∷ ("CREATE TABLE t (a INT, UNIQUE INDEX u (a))" means create_table false (own "t") ((Column (column "a" (kind.Int Normal false) None None false false false)) ∷ (Key (a_key Unique None (Some (codes "u")) (codes "a" ∷ []))) ∷ []))
    ∷ ("CREATE TABLE t (a INT, UNIQUE KEY (a, b ASC))" means create_table false (own "t") ((Column (column "a" (kind.Int Normal false) None None false false false)) ∷ (Key (a_key Unique None None (codes "a" ∷ codes "b" ∷ []))) ∷ []))
    ∷ ("CREATE TABLE t (a INT, CONSTRAINT UNIQUE u (a))" means create_table false (own "t") ((Column (column "a" (kind.Int Normal false) None None false false false)) ∷ (Key (a_key Unique None (Some (codes "u")) (codes "a" ∷ []))) ∷ []))
    ∷ ("CREATE TABLE t (a INT, CONSTRAINT c UNIQUE KEY u (a) USING BTREE)" means create_table false (own "t") ((Column (column "a" (kind.Int Normal false) None None false false false)) ∷ (Key (a_key Unique (Some (codes "c")) (Some (codes "u")) (codes "a" ∷ []))) ∷ []))
    ∷ ("CREATE TABLE t (a INT, INDEX (a))" means create_table false (own "t") ((Column (column "a" (kind.Int Normal false) None None false false false)) ∷ (Key (a_key Plain None None (codes "a" ∷ []))) ∷ []))
    ∷ ("CREATE TABLE t (a INT, KEY k (a, b))" means create_table false (own "t") ((Column (column "a" (kind.Int Normal false) None None false false false)) ∷ (Key (a_key Plain None (Some (codes "k")) (codes "a" ∷ codes "b" ∷ []))) ∷ []))
    ∷ ("CREATE TABLE t (a INT, INDEX `key` (a ASC) USING BTREE)" means create_table false (own "t") ((Column (column "a" (kind.Int Normal false) None None false false false)) ∷ (Key (a_key Plain None (Some (codes "key")) (codes "a" ∷ []))) ∷ []))
    ∷ ("CREATE TABLE t (a INT, FOREIGN KEY (a) REFERENCES p (x))" means create_table false (own "t") ((Column (column "a" (kind.Int Normal false) None None false false false)) ∷ (ForeignKey (a_foreign_key None None (codes "a" ∷ []) (own "p") (codes "x" ∷ []) NoAction NoAction)) ∷ []))
    ∷ ("CREATE TABLE t (a INT, FOREIGN KEY f (a, b) REFERENCES d.p (x, y))" means create_table false (own "t") ((Column (column "a" (kind.Int Normal false) None None false false false)) ∷ (ForeignKey (a_foreign_key None (Some (codes "f")) (codes "a" ∷ codes "b" ∷ []) (of_schema "d" "p") (codes "x" ∷ codes "y" ∷ []) NoAction NoAction)) ∷ []))
    ∷ ("CREATE TABLE t (a INT, CONSTRAINT FOREIGN KEY f (a) REFERENCES p (x))" means create_table false (own "t") ((Column (column "a" (kind.Int Normal false) None None false false false)) ∷ (ForeignKey (a_foreign_key None (Some (codes "f")) (codes "a" ∷ []) (own "p") (codes "x" ∷ []) NoAction NoAction)) ∷ []))
    ∷ []

-- keys and foreign keys (2 of 2)
abbrev pub keys_2 : List Example
keys_2 =
    ("CREATE TABLE t (a INT, CONSTRAINT c FOREIGN KEY (a) REFERENCES p (x) ON DELETE RESTRICT ON UPDATE CASCADE)" means create_table false (own "t") ((Column (column "a" (kind.Int Normal false) None None false false false)) ∷ (ForeignKey (a_foreign_key (Some (codes "c")) None (codes "a" ∷ []) (own "p") (codes "x" ∷ []) Restrict Cascade)) ∷ []))
    ∷ ("CREATE TABLE t (a INT, FOREIGN KEY (a) REFERENCES p (x) ON UPDATE SET NULL)" means create_table false (own "t") ((Column (column "a" (kind.Int Normal false) None None false false false)) ∷ (ForeignKey (a_foreign_key None None (codes "a" ∷ []) (own "p") (codes "x" ∷ []) NoAction SetNull)) ∷ []))
    ∷ ("CREATE TABLE t (a INT, FOREIGN KEY (a) REFERENCES p (x) ON DELETE NO ACTION)" means create_table false (own "t") ((Column (column "a" (kind.Int Normal false) None None false false false)) ∷ (ForeignKey (a_foreign_key None None (codes "a" ∷ []) (own "p") (codes "x" ∷ []) NoAction NoAction)) ∷ []))
    ∷ ("CREATE TABLE t (a INT, FOREIGN KEY (a) REFERENCES p (x) ON DELETE CASCADE ON UPDATE CASCADE ON DELETE SET NULL)" means create_table false (own "t") ((Column (column "a" (kind.Int Normal false) None None false false false)) ∷ (ForeignKey (a_foreign_key None None (codes "a" ∷ []) (own "p") (codes "x" ∷ []) SetNull Cascade)) ∷ []))
    ∷ ("CREATE INDEX k ON t (a)" means create_index false (codes "k") (own "t") (codes "a" ∷ []))
    ∷ ("CREATE UNIQUE INDEX k ON d.t (a ASC, b) USING BTREE" means create_index true (codes "k") (of_schema "d" "t") (codes "a" ∷ codes "b" ∷ []))
    ∷ ("DROP INDEX p ON c" means drop_index (codes "p") (own "c"))
    ∷ []
