-- The text of SHOW CREATE VIEW.
use Rattle.std.specs.Prelude.{ℕ, List, [], ◌∷◌, ◌++◌, Option, Some, None, codes, if◌then◌else◌, slice_get, flat_map}
use Rattle.std.specs.Str.{bytes_eq}
use Rattle.dd_definitions.specs.declared.view_parts.ViewColumn.{ViewColumn}
use Rattle.dd_definitions.specs.declared.view_parts.ViewSource.{ViewSource}
use Rattle.dd_definitions.specs.declared.view_parts.ViewParts.{ViewParts}
use Rattle.sql_pieces.specs.Pieces.{quoted_name}

abbrev pub alias_of : Option ViewSource → List ℕ
alias_of None = []
alias_of (Some source) = source.alias

-- `alias.column AS output`
abbrev pub output_text : List ViewSource → ViewColumn → List ℕ
output_text sources output = quoted_name (alias_of (slice_get sources output.source)) ++ codes "." ++ quoted_name output.column ++ codes " AS " ++ quoted_name output.output

abbrev pub alias_text : ViewSource → List ℕ
alias_text source = if bytes_eq source.alias source.object.name then [] else codes " " ++ quoted_name source.alias

-- the schema and the name, and the alias where it is another than the name
abbrev pub source_text : ViewSource → List ℕ
source_text source = quoted_name source.object.schema ++ codes "." ++ quoted_name source.object.name ++ alias_text source

abbrev pub behind_comma : List ℕ → List ℕ
behind_comma text = codes "," ++ text

abbrev pub outputs_text : List ViewSource → List ViewColumn → List ℕ
outputs_text sources [] = []
outputs_text sources (output ∷ outputs) = output_text sources output ++ flat_map (λ o. behind_comma (output_text sources o)) outputs

abbrev pub sources_text : List ViewSource → List ℕ
sources_text [] = []
sources_text (source ∷ sources) = source_text source ++ flat_map (λ s. behind_comma (source_text s)) sources

-- `select .. from ..`
abbrev pub query_text : ViewParts → List ℕ
query_text parts = codes "select " ++ outputs_text parts.sources parts.outputs ++ codes " from " ++ sources_text parts.sources

abbrev pub view_text : ViewParts → List ℕ
view_text parts = codes "CREATE ALGORITHM=UNDEFINED DEFINER=`root`@`localhost` SQL SECURITY DEFINER VIEW " ++ quoted_name parts.name.name ++ codes " AS " ++ query_text parts
