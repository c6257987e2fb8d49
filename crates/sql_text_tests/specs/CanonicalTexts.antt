-- Statements, and their canonical texts.
use Rattle.std.specs.Prelude.{List, [], ◌∷◌, true, false, Some, None, codes}
use Rattle.sql_types.specs.declared.choices.IntSize.TheVariants.{Normal}
use Rattle.sql_types.specs.declared.choices.IndexClass.TheVariants.{Primary, Unique, Plain}
use Rattle.sql_types.specs.declared.choices.FkRule.TheVariants.{NoAction, Cascade, SetNull}
use Rattle.sql_types.specs.declared.literal.Literal.TheVariants.{Null, Number, Str}
use Rattle.sql_types.specs.declared.words.TypeWords.TheVariants as kind
use Rattle.sql_ast.specs.declared.action.AlterAction.TheVariants as does
use Rattle.sql_ast.specs.declared.action.Place.TheVariants.{First, After}
use Rattle.sql_ast.specs.declared.element.Element.TheVariants.{Column, Key, ForeignKey}
use Rattle.sql_ast.specs.declared.view.Item.TheVariants.{All, AllOf}
use Rattle.sql_text.specs.Canonical.{canonical_text}
use Rattle.sql_ast_examples.specs.Statements.{create_database, drop_database, create_table, create_like, drop_table, rename_tables, truncate_table, alter_table, create_index, drop_index, create_view, drop_view, show_tables, show_columns}
use Rattle.sql_ast_examples.specs.Values.{own, of_schema, column, a_key, a_foreign_key, pair, item_of, source, query}
use Rattle.sql_text_tests.specs.Cases.{TextCase, ◌spells◌}

-- statements on schemas, tables and indexes, and those that list
abbrev pub statement_texts : List TextCase
statement_texts =
    (canonical_text (create_database true (codes "d")) spells "CREATE DATABASE IF NOT EXISTS `d`")
    ∷ (canonical_text (drop_database false (codes "d")) spells "DROP DATABASE `d`")
    ∷ (canonical_text (create_like true (of_schema "d" "t") (own "s")) spells "CREATE TABLE IF NOT EXISTS `d` . `t` LIKE `s`")
    ∷ (canonical_text (drop_table true (own "t" ∷ of_schema "d" "u" ∷ [])) spells "DROP TABLE IF EXISTS `t` , `d` . `u`")
    ∷ (canonical_text (rename_tables (pair (own "a") (own "b") ∷ pair (own "b") (of_schema "d" "c") ∷ [])) spells "RENAME TABLE `a` TO `b` , `b` TO `d` . `c`")
    ∷ (canonical_text (truncate_table (own "t")) spells "TRUNCATE `t`")
    ∷ (canonical_text (create_index true (codes "k") (own "t") (codes "a" ∷ codes "b" ∷ [])) spells "CREATE UNIQUE INDEX `k` ON `t` ( `a` , `b` )")
    ∷ (canonical_text (drop_index (codes "k") (own "t")) spells "DROP INDEX `k` ON `t`")
    ∷ (canonical_text (show_tables (Some (codes "d"))) spells "SHOW TABLES FROM `d`")
    ∷ (canonical_text (show_columns (own "t")) spells "SHOW COLUMNS FROM `t`")
    ∷ (canonical_text (drop_view true (own "v" ∷ own "w" ∷ [])) spells "DROP VIEW IF EXISTS `v` , `w`")
    ∷ []

-- a table with each kind of element, a view, and actions
abbrev pub element_texts : List TextCase
element_texts =
    (canonical_text (create_table false (own "c") (Column (column "id" (kind.Int Normal true) (Some false) None true false true)
    ∷ Column (column "a" (kind.Char 1) (Some true) (Some (Number (codes "+5"))) false true false)
    ∷ Column (column "b" kind.DateTime None (Some (Str (codes "it's"))) false false false)
    ∷ Key (a_key Primary None None (codes "id" ∷ []))
    ∷ Key (a_key Unique (Some (codes "k")) (Some (codes "u")) (codes "a" ∷ codes "b" ∷ []))
    ∷ Key (a_key Plain None (Some (codes "i")) (codes "a" ∷ []))
    ∷ ForeignKey (a_foreign_key (Some (codes "f")) None (codes "a" ∷ []) (of_schema "e" "p") (codes "x" ∷ []) Cascade SetNull)
    ∷ ForeignKey (a_foreign_key None (Some (codes "g")) (codes "b" ∷ []) (own "q") (codes "y" ∷ []) NoAction Cascade)
    ∷ [])) spells "CREATE TABLE `c` ( `id` INT UNSIGNED NOT NULL AUTO_INCREMENT PRIMARY KEY , `a` CHAR NULL DEFAULT + 5 UNIQUE , `b` DATETIME DEFAULT 'it''s' , PRIMARY KEY ( `id` ) , CONSTRAINT `k` UNIQUE `u` ( `a` , `b` ) , INDEX `i` ( `a` ) , CONSTRAINT `f` FOREIGN KEY ( `a` ) REFERENCES `e` . `p` ( `x` ) ON DELETE CASCADE ON UPDATE SET NULL , FOREIGN KEY `g` ( `b` ) REFERENCES `q` ( `y` ) ON UPDATE CASCADE )")
    ∷ (canonical_text (create_view (own "v") (Some (codes "x" ∷ codes "y" ∷ [])) (query (item_of (Some (codes "t")) "a" (Some (codes "m")) ∷ AllOf (codes "u") ∷ All ∷ []) (source (of_schema "d" "t") (Some (codes "s")) ∷ source (own "u") None ∷ [])))
    spells "CREATE VIEW `v` ( `x` , `y` ) AS SELECT `t` . `a` AS `m` , `u` . * , * FROM `d` . `t` AS `s` , `u`")
    ∷ (canonical_text (alter_table (own "t") (does.AddColumn (column "a" kind.Date None None false false false) (Some First)
    ∷ does.ModifyColumn (column "b" kind.Bool None (Some Null) false false false) (Some (After (codes "a")))
    ∷ does.RenameIndex (codes "k") (codes "l")
    ∷ does.DropPrimaryKey
    ∷ does.DropForeignKey (codes "f")
    ∷ does.Engine
    ∷ [])) spells "ALTER TABLE `t` ADD `a` DATE FIRST , MODIFY `b` BOOL DEFAULT NULL AFTER `a` , RENAME INDEX `k` TO `l` , DROP PRIMARY KEY , DROP FOREIGN KEY `f` , ENGINE InnoDB")
    ∷ []
