-- A table, a schema and a view, and what SHOW CREATE shows of them.
use Rattle.std.specs.Prelude.{ℕ, Bool, List, [], ◌∷◌, true, false, Option, Some, None, codes}
use Prim.Native.String.{String}
use Rattle.dd_names.specs.declared.object_name.ObjName.{ObjName}
use Rattle.sql_types.specs.declared.choices.ColumnType.{ColumnType}
use Rattle.sql_types.specs.declared.choices.ColumnType.TheVariants as types
use Rattle.sql_types.specs.declared.choices.FkRule.TheVariants.{NoAction, Restrict, Cascade, SetNull}
use Rattle.sql_types.specs.declared.choices.IndexClass.{IndexClass}
use Rattle.sql_types.specs.declared.choices.IndexClass.TheVariants.{Primary, Unique, Plain}
use Rattle.sql_types.specs.declared.choices.IntSize.TheVariants.{Normal}
use Rattle.dd_definitions.specs.declared.columns.ColumnDef.{ColumnDef}
use Rattle.dd_definitions.specs.declared.foreign_keys.ForeignKeyDef.{ForeignKeyDef}
use Rattle.dd_definitions.specs.declared.indexes.IndexDef.{IndexDef}
use Rattle.dd_definitions.specs.declared.parts.TableParts.{TableParts}
use Rattle.dd_definitions.specs.declared.view_parts.ViewColumn.{ViewColumn}
use Rattle.dd_definitions.specs.declared.view_parts.ViewParts.{ViewParts}
use Rattle.dd_definitions.specs.declared.view_parts.ViewSource.{ViewSource}
use Rattle.show_text.specs.Tables.{table_text, database_text}
use Rattle.show_text.specs.Views.{view_text}
use Rattle.sql_text_tests.specs.Cases.{TextCase, ◌spells◌}

abbrev pub object : String → String → ObjName
object schema name = record { schema = codes schema; name = codes name }

-- its name and type, whether it may be NULL, its default, and whether it is auto
abbrev pub column : String → ColumnType → Bool → Option (List ℕ) → Bool → ColumnDef
column name kind nullable default auto = record { name = codes name; kind = kind; nullable = nullable; default = default; auto = auto }

abbrev pub index : String → IndexClass → List (List ℕ) → IndexDef
index name class columns = record { name = codes name; class = class; columns = columns }

-- one with a parent in another schema, and one with a parent in its own
abbrev pub away : ForeignKeyDef
away = record { name = codes "f"; columns = codes "c" ∷ []; parent = object "e" "p"; parent_columns = codes "x" ∷ []; on_delete = Cascade; on_update = SetNull }

abbrev pub at_home : ForeignKeyDef
at_home = record { name = codes "g"; columns = codes "v" ∷ codes "id" ∷ []; parent = object "d" "q"; parent_columns = codes "y" ∷ codes "z" ∷ []; on_delete = NoAction; on_update = Restrict }

abbrev pub child : TableParts
child = record {
  name = object "d" "t";
  columns = column "id" (types.Int Normal true) false None true ∷ column "n" types.Bool true None false ∷ column "v" types.Date true (Some (codes "2024-01-01")) false ∷ column "c" (types.Int Normal false) false None false ∷ [];
  indexes = index "PRIMARY" Primary (codes "id" ∷ []) ∷ index "u" Unique (codes "v" ∷ codes "id" ∷ []) ∷ index "k" Plain (codes "c" ∷ []) ∷ [];
  foreign_keys = away ∷ at_home ∷ [];
}

abbrev pub source : ObjName → String → ViewSource
source object alias = record { object = object; alias = codes alias }

abbrev pub output : ℕ → String → String → ViewColumn
output source column name = record { source = source; column = codes column; output = codes name }

-- a view of two sources, one of which goes by another name
abbrev pub view : ViewParts
view = record {
  name = object "d" "v";
  sources = source (object "d" "t") "t" ∷ source (object "e" "u") "w" ∷ [];
  outputs = output 0 "id" "id" ∷ output 1 "n" "m" ∷ [];
}

abbrev pub shown_texts : List TextCase
shown_texts =
    (table_text child spells "CREATE TABLE `t` (\n  `id` int unsigned NOT NULL AUTO_INCREMENT,\n  `n` tinyint(1) DEFAULT NULL,\n  `v` date DEFAULT '2024-01-01',\n  `c` int NOT NULL,\n  PRIMARY KEY (`id`),\n  UNIQUE KEY `u` (`v`,`id`),\n  KEY `k` (`c`),\n  CONSTRAINT `f` FOREIGN KEY (`c`) REFERENCES `e`.`p` (`x`) ON DELETE CASCADE ON UPDATE SET NULL,\n  CONSTRAINT `g` FOREIGN KEY (`v`,`id`) REFERENCES `q` (`y`,`z`) ON UPDATE RESTRICT\n) ENGINE=InnoDB DEFAULT CHARSET=utf8mb4 COLLATE=utf8mb4_0900_ai_ci")
    ∷ (database_text (codes "d") spells "CREATE DATABASE `d` /*!40100 DEFAULT CHARACTER SET utf8mb4 COLLATE utf8mb4_0900_ai_ci */ /*!80016 DEFAULT ENCRYPTION='N' */")
    ∷ (view_text view spells "CREATE ALGORITHM=UNDEFINED DEFINER=`root`@`localhost` SQL SECURITY DEFINER VIEW `v` AS select `t`.`id` AS `id`,`w`.`n` AS `m` from `d`.`t`,`e`.`u` `w`")
    ∷ []
