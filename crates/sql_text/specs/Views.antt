-- The text of a view's query.
use Rattle.std.specs.Prelude.{ℕ, Bool, true, List, [], ◌∷◌, ◌++◌, ◌&&◌}
use Rattle.dd_names.specs.Names.{is_name}
use Rattle.sql_ast.specs.declared.view.Item.{Item}
use Rattle.sql_ast.specs.declared.view.Item.TheVariants.{All, AllOf, Column}
use Rattle.sql_ast.specs.declared.view.SelectSource.{SelectSource}
use Rattle.sql_ast.specs.declared.view.Select.{Select}
use Rattle.sql_pieces.specs.Pieces.{Piece, as_name, as_sign}
use Rattle.sql_text.specs.Parts.{word, divided, schema_pieces, object_pieces, where_some, is_object, if_some, some_each}

-- AS name
abbrev pub alias_pieces : List ℕ → List Piece
alias_pieces n = word "AS" ∷ as_name n ∷ []

-- item = * | name . * | [name .] name [AS name]
abbrev pub item_pieces : Item → List Piece
item_pieces All = as_sign 42 ∷ []
item_pieces (AllOf alias) = as_name alias ∷ as_sign 46 ∷ as_sign 42 ∷ []
item_pieces (Column alias column output) = where_some schema_pieces alias ++ as_name column ∷ where_some alias_pieces output

-- source = object [AS name]
abbrev pub source_pieces : SelectSource → List Piece
source_pieces s = object_pieces s.object ++ where_some alias_pieces s.alias

-- SELECT item {, item} FROM source {, source}
abbrev pub select_pieces : Select → List Piece
select_pieces q = word "SELECT" ∷ (divided item_pieces q.items ++ word "FROM" ∷ divided source_pieces q.sources)

-- ---- which of these have a text

abbrev pub is_item : Item → Bool
is_item All = true
is_item (AllOf alias) = is_name alias
is_item (Column alias column output) = if_some is_name alias && is_name column && if_some is_name output

abbrev pub is_source : SelectSource → Bool
is_source s = is_object s.object && if_some is_name s.alias

abbrev pub is_select : Select → Bool
is_select q = some_each is_item q.items && some_each is_source q.sources
