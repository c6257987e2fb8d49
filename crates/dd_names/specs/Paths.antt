-- Where the tablespace files lie in the data folder.
use Rattle.std.specs.Prelude.{ℕ, List, ◌++◌, codes}
use Rattle.std.specs.Fmt.{decimal}
use Rattle.dd_names.specs.Names.{IsName}
use Rattle.dd_names.specs.declared.object_name.ObjName.{ObjName}

-- a pair of names
pub record IsObjName (object : ObjName) : Type 0 where
  pub schema : IsName object.schema
  pub name : IsName object.name

-- the file of a table
abbrev pub path : ObjName → List ℕ
path object = object.schema ++ codes "/" ++ object.name ++ codes ".ibd"

-- the file of a tablespace that belongs to no table yet
abbrev pub temporary_path : List ℕ → ℕ → List ℕ
temporary_path schema space = schema ++ codes "/#sql-ib" ++ decimal space ++ codes ".ibd"

-- the file of the dictionary's rows
abbrev pub dictionary_path : List ℕ
dictionary_path = codes "#dd/dict"

-- the file that becomes the dictionary's at the next checkpoint
abbrev pub new_dictionary_path : List ℕ
new_dictionary_path = codes "#dd/dict.new"
