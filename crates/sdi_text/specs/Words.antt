-- The words of an SDI for the classes of indexes. Those for types and rules are the words of SHOW CREATE TABLE.
use Rattle.std.specs.Prelude.{ℕ, List, codes}
use Rattle.sql_types.specs.declared.choices.IndexClass.{IndexClass}
use Rattle.sql_types.specs.declared.choices.IndexClass.TheVariants as classes

abbrev pub class_word : IndexClass → List ℕ
class_word classes.Primary = codes "primary"
class_word classes.Unique = codes "unique"
class_word classes.Plain = codes "plain"
