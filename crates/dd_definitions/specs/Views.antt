-- When the parts of a view fit together.
use Rattle.std.specs.Prelude.{ℕ, Bool, ◌&&◌, nat_le, nat_lt, List, length}
use Rattle.std.specs.List.{list_all}
use Rattle.std.specs.Str.{bytes_eq}
use Rattle.dd_names.specs.Names.{same}
use Rattle.dd_definitions.specs.declared.view_parts.ViewSource.{ViewSource}
use Rattle.dd_definitions.specs.declared.view_parts.ViewColumn.{ViewColumn}
use Rattle.dd_definitions.specs.declared.view_parts.ViewParts.{ViewParts}
use Rattle.dd_definitions.specs.Distinct.{are_distinct}

-- aliases are compared byte for byte
abbrev pub is_same_alias : ViewSource → ViewSource → Bool
is_same_alias a b = bytes_eq a.alias b.alias

-- the names of the two outputs differ in case at most
abbrev pub is_same_output : ViewColumn → ViewColumn → Bool
is_same_output a b = same a.output b.output

-- the output is taken from one of so many sources
abbrev pub is_of_source : ℕ → ViewColumn → Bool
is_of_source sources output = nat_lt output.source sources

-- 1 to 1,024 sources, whose aliases are distinct
unfoldable pub are_sources_formed : List ViewSource → Bool
are_sources_formed sources = nat_le 1 (length sources) && nat_le (length sources) 1024 && are_distinct is_same_alias sources

-- 1 to 1017 outputs, whose names differ in more than case, each of one of so many sources
unfoldable pub are_outputs_formed : ℕ → List ViewColumn → Bool
are_outputs_formed sources outputs =
    nat_le 1 (length outputs) && nat_le (length outputs) 1017 && are_distinct is_same_output outputs && list_all (is_of_source sources) outputs

unfoldable pub is_view_formed : ViewParts → Bool
is_view_formed parts = are_sources_formed parts.sources && are_outputs_formed (length parts.sources) parts.outputs
