-- Texts of ALTER TABLE, and what they read as.
use Rattle.std.specs.Prelude.{List, [], ◌∷◌, false, Some, None, codes}
use Rattle.sql_types.specs.declared.choices.IntSize.TheVariants.{Normal, Big}
use Rattle.sql_types.specs.declared.choices.IndexClass.TheVariants.{Primary, Unique, Plain}
use Rattle.sql_types.specs.declared.choices.FkRule.TheVariants.{NoAction}
use Rattle.sql_types.specs.declared.literal.Literal.TheVariants.{Null, Number}
use Rattle.sql_ast.specs.declared.action.Place.TheVariants.{First, After}
use Rattle.sql_ast_examples.specs.Values.{own, of_schema, column, a_key, a_foreign_key}
use Rattle.sql_ast_examples.specs.Statements.{alter_table}
use Rattle.sql_ast_examples.specs.Example.{Example, ◌means◌}
use Rattle.sql_types.specs.declared.words.TypeWords.TheVariants as kind
use Rattle.sql_ast.specs.declared.action.AlterAction.TheVariants as does

-- ALTER TABLE (1 of 3)
abbrev pub actions_1 : List Example
actions_1 =
    ("ALTER TABLE t ADD b INT" means alter_table (own "t") ((does.AddColumn (column "b" (kind.Int Normal false) None None false false false) None) ∷ []))
    ∷ ("ALTER TABLE t ADD COLUMN b INT FIRST" means alter_table (own "t") ((does.AddColumn (column "b" (kind.Int Normal false) None None false false false) (Some First)) ∷ []))
    ∷ ("ALTER TABLE t ADD b INT NOT NULL AFTER a" means alter_table (own "t") ((does.AddColumn (column "b" (kind.Int Normal false) (Some false) None false false false) (Some (After (codes "a")))) ∷ []))
    ∷ ("ALTER TABLE t ADD (b INT)" means alter_table (own "t") ((does.AddColumns ((column "b" (kind.Int Normal false) None None false false false) ∷ [])) ∷ []))
    ∷ ("ALTER TABLE t ADD COLUMN (b INT, c DATE)" means alter_table (own "t") ((does.AddColumns ((column "b" (kind.Int Normal false) None None false false false) ∷ (column "c" kind.Date None None false false false) ∷ [])) ∷ []))
    ∷ ("ALTER TABLE t ADD first DATE FIRST" means alter_table (own "t") ((does.AddColumn (column "first" kind.Date None None false false false) (Some First)) ∷ []))
    ∷ ("ALTER TABLE t ADD PRIMARY KEY (a)" means alter_table (own "t") ((does.AddKey (a_key Primary None None (codes "a" ∷ []))) ∷ []))
    ∷ ("ALTER TABLE t ADD UNIQUE u (a)" means alter_table (own "t") ((does.AddKey (a_key Unique None (Some (codes "u")) (codes "a" ∷ []))) ∷ []))
    ∷ ("ALTER TABLE t ADD INDEX sku (sku)" means alter_table (own "t") ((does.AddKey (a_key Plain None (Some (codes "sku")) (codes "sku" ∷ []))) ∷ []))
    ∷ ("ALTER TABLE t ADD CONSTRAINT f FOREIGN KEY (a) REFERENCES p (x)" means alter_table (own "t") ((does.AddForeignKey (a_foreign_key (Some (codes "f")) None (codes "a" ∷ []) (own "p") (codes "x" ∷ []) NoAction NoAction)) ∷ []))
    ∷ ("ALTER TABLE t DROP b" means alter_table (own "t") ((does.DropColumn (codes "b")) ∷ []))
    ∷ ("ALTER TABLE t DROP COLUMN b" means alter_table (own "t") ((does.DropColumn (codes "b")) ∷ []))
    ∷ ("ALTER TABLE t MODIFY n BIGINT" means alter_table (own "t") ((does.ModifyColumn (column "n" (kind.Int Big false) None None false false false) None) ∷ []))
    ∷ ("ALTER TABLE t MODIFY COLUMN n INT FIRST" means alter_table (own "t") ((does.ModifyColumn (column "n" (kind.Int Normal false) None None false false false) (Some First)) ∷ []))
    ∷ []

-- ALTER TABLE (2 of 3)
abbrev pub actions_2 : List Example
actions_2 =
    ("ALTER TABLE t CHANGE a b INT" means alter_table (own "t") ((does.ChangeColumn (codes "a") (column "b" (kind.Int Normal false) None None false false false) None) ∷ []))
    ∷ ("ALTER TABLE t CHANGE COLUMN a b INT AFTER c" means alter_table (own "t") ((does.ChangeColumn (codes "a") (column "b" (kind.Int Normal false) None None false false false) (Some (After (codes "c")))) ∷ []))
    ∷ ("ALTER TABLE t RENAME COLUMN id TO k, ADD b INT FIRST" means alter_table (own "t") ((does.RenameColumn (codes "id") (codes "k")) ∷ (does.AddColumn (column "b" (kind.Int Normal false) None None false false false) (Some First)) ∷ []))
    ∷ ("ALTER TABLE t ALTER a SET DEFAULT 4" means alter_table (own "t") ((does.SetDefault (codes "a") (Number (codes "4"))) ∷ []))
    ∷ ("ALTER TABLE t ALTER COLUMN a SET DEFAULT NULL" means alter_table (own "t") ((does.SetDefault (codes "a") Null) ∷ []))
    ∷ ("ALTER TABLE t ALTER COLUMN a DROP DEFAULT" means alter_table (own "t") ((does.DropDefault (codes "a")) ∷ []))
    ∷ ("ALTER TABLE t DROP INDEX k" means alter_table (own "t") ((does.DropIndex (codes "k")) ∷ []))
    ∷ ("ALTER TABLE t DROP KEY k" means alter_table (own "t") ((does.DropIndex (codes "k")) ∷ []))
    ∷ ("ALTER TABLE t DROP PRIMARY KEY" means alter_table (own "t") (does.DropPrimaryKey ∷ []))
    ∷ ("ALTER TABLE t DROP FOREIGN KEY f" means alter_table (own "t") ((does.DropForeignKey (codes "f")) ∷ []))
    ∷ ("ALTER TABLE t RENAME INDEX k TO l" means alter_table (own "t") ((does.RenameIndex (codes "k") (codes "l")) ∷ []))
    ∷ ("ALTER TABLE t RENAME KEY k TO l" means alter_table (own "t") ((does.RenameIndex (codes "k") (codes "l")) ∷ []))
    ∷ ("ALTER TABLE t RENAME u" means alter_table (own "t") ((does.RenameTable (own "u")) ∷ []))
    ∷ ("ALTER TABLE t RENAME TO d.u" means alter_table (own "t") ((does.RenameTable (of_schema "d" "u")) ∷ []))
    ∷ []

-- ALTER TABLE (3 of 3)
abbrev pub actions_3 : List Example
actions_3 =
    ("ALTER TABLE t RENAME AS u" means alter_table (own "t") ((does.RenameTable (own "u")) ∷ []))
    ∷ ("ALTER TABLE t FORCE" means alter_table (own "t") (does.Force ∷ []))
    ∷ ("ALTER TABLE t ENGINE=InnoDB" means alter_table (own "t") (does.Engine ∷ []))
    ∷ ("ALTER TABLE t ENGINE innodb, FORCE" means alter_table (own "t") (does.Engine ∷ does.Force ∷ []))
    ∷ ("ALTER TABLE shop.order_lines ADD INDEX sku (sku)" means alter_table (of_schema "shop" "order_lines") ((does.AddKey (a_key Plain None (Some (codes "sku")) (codes "sku" ∷ []))) ∷ []))
    ∷ ("ALTER TABLE p RENAME COLUMN id TO k, ADD b INT FIRST" means alter_table (own "p") ((does.RenameColumn (codes "id") (codes "k")) ∷ (does.AddColumn (column "b" (kind.Int Normal false) None None false false false) (Some First)) ∷ []))
    ∷ ("ALTER TABLE p DROP COLUMN id" means alter_table (own "p") ((does.DropColumn (codes "id")) ∷ []))
    ∷ []
