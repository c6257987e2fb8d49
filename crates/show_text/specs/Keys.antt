-- Keys and foreign keys in the text of SHOW CREATE TABLE.
use Rattle.std.specs.Prelude.{ℕ, Bool, true, false, List, [], ◌∷◌, ◌++◌, codes, flat_map}
use Rattle.std.specs.Str.{bytes_eq}
use Rattle.dd_names.specs.declared.object_name.ObjName.{ObjName}
use Rattle.sql_types.specs.declared.choices.IndexClass.{IndexClass}
use Rattle.sql_types.specs.declared.choices.IndexClass.TheVariants as classes
use Rattle.sql_types.specs.declared.choices.FkRule.{FkRule}
use Rattle.sql_types.specs.declared.choices.FkRule.TheVariants as rules
use Rattle.dd_definitions.specs.declared.indexes.IndexDef.{IndexDef}
use Rattle.dd_definitions.specs.declared.foreign_keys.ForeignKeyDef.{ForeignKeyDef}
use Rattle.sql_pieces.specs.Pieces.{quoted_name}

abbrev pub behind_comma : List ℕ → List ℕ
behind_comma name = codes "," ++ quoted_name name

abbrev pub names_inside : List (List ℕ) → List ℕ
names_inside [] = []
names_inside (name ∷ names) = quoted_name name ++ flat_map behind_comma names

-- names between parentheses
unfoldable pub names_text : List (List ℕ) → List ℕ
names_text names = codes "(" ++ names_inside names ++ codes ")"

-- a name between two texts
unfoldable pub between : List ℕ → List ℕ → List ℕ → List ℕ
between front name back = front ++ quoted_name name ++ back

-- the class with the name, which a primary key doesn't show
abbrev pub class_text : IndexClass → List ℕ → List ℕ
class_text classes.Primary name = codes "PRIMARY KEY "
class_text classes.Unique name = between (codes "UNIQUE KEY ") name (codes " ")
class_text classes.Plain name = between (codes "KEY ") name (codes " ")

abbrev pub index_text : IndexDef → List ℕ
index_text index = class_text index.class index.name ++ names_text index.columns

abbrev pub rule_name : FkRule → List ℕ
rule_name rules.NoAction = codes "NO ACTION"
rule_name rules.Restrict = codes "RESTRICT"
rule_name rules.Cascade = codes "CASCADE"
rule_name rules.SetNull = codes "SET NULL"

abbrev pub is_no_action : FkRule → Bool
is_no_action rules.NoAction = true
is_no_action rules.Restrict = false
is_no_action rules.Cascade = false
is_no_action rules.SetNull = false

-- nothing for NO ACTION
abbrev pub rule_unless : Bool → List ℕ → FkRule → List ℕ
rule_unless true event rule = []
rule_unless false event rule = event ++ rule_name rule

abbrev pub rule_text : List ℕ → FkRule → List ℕ
rule_text event rule = rule_unless (is_no_action rule) event rule

-- the schema where it is another
abbrev pub schema_text : Bool → List ℕ → List ℕ
schema_text true schema = []
schema_text false schema = quoted_name schema ++ codes "."

-- the parent behind a front, and a blank
unfoldable pub parent_text : List ℕ → List ℕ → ObjName → List ℕ
parent_text front schema parent = front ++ schema_text (bytes_eq parent.schema schema) parent.schema ++ quoted_name parent.name ++ codes " "

abbrev pub rules_text : ForeignKeyDef → List ℕ
rules_text key = rule_text (codes " ON DELETE ") key.on_delete ++ rule_text (codes " ON UPDATE ") key.on_update

unfoldable pub constraint_word : List ℕ
constraint_word = codes "CONSTRAINT "

unfoldable pub foreign_key_words : List ℕ
foreign_key_words = codes " FOREIGN KEY "

unfoldable pub references_word : List ℕ
references_word = codes " REFERENCES "

abbrev pub own_columns : ForeignKeyDef → List ℕ
own_columns key = between constraint_word key.name foreign_key_words ++ names_text key.columns

abbrev pub references_text : List ℕ → ForeignKeyDef → List ℕ
references_text schema key = parent_text references_word schema key.parent ++ names_text key.parent_columns

-- a foreign key of a table in the schema
unfoldable pub foreign_key_text : List ℕ → ForeignKeyDef → List ℕ
foreign_key_text schema key = own_columns key ++ references_text schema key ++ rules_text key
