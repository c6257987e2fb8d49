-- A table whose columns are made goes on with its keys.
use Rattle.std.specs.Prelude.{◌≡◌, List}
use Rattle.std.specs.List.{flat_map}
use Rattle.std.proofs.Common.{refl, sym, ◌∙◌, ap, subst}
use Rattle.dd_names.specs.declared.object_name.ObjName.{ObjName}
use Rattle.dd_errors.specs.Errors.{ErrorValue}
use Rattle.dd_definitions.specs.declared.columns.ColumnDef.{ColumnDef}
use Rattle.dd_definitions.specs.declared.parts.TableParts.{TableParts}
use Rattle.sql_ast.specs.declared.element.Element.{Element}
use Rattle.dd_catalog.specs.declared.stop.Stop.{Stop}
use Rattle.dd_catalog.specs.Walks.{done, Found, fine, refused, needs, run}
use Rattle.dd_catalog.specs.WalkLaws.{Look, go_on, run_bind}
use Rattle.dd_catalog.specs.LoopLaws.{stops_all}
use Rattle.dd_catalog.specs.Follow.{Stops}
use Rattle.rules_create.specs.Tables.{column_in, all_columns, of_columns, table_of}
use Rattle.rules_create.specs.Made.{columns_made, filled}

abbrev came : {A : Type 0} → A → Found ErrorValue A
came x = fine x

filled_after : (look : Look) (table : ObjName) (elements : List Element) → run look (table_of table elements) ≡ go_on (run look (columns_made table elements)) (λ start. run look (filled elements start))
unfolding table_of filled
filled_after look table elements =
    run_bind look (all_columns (flat_map column_in elements)) _ ∙ at (run look (all_columns (flat_map column_in elements)))
    ∙ ap (λ found. go_on found (λ start. run look (filled elements start))) (sym (run_bind look (all_columns (flat_map column_in elements)) (λ columns. done (of_columns table columns))))
  where
    at : (found : Found ErrorValue (List ColumnDef)) → go_on found (λ columns. run look (filled elements (of_columns table columns))) ≡ go_on (go_on found (λ columns. came (of_columns table columns))) (λ start. run look (filled elements start))
    at (fine columns) = refl
    at (refused e) = refl
    at (needs key) = refl

-- where the columns stop, all stops
pub made_stop : (stop : Stop) (look : Look) (table : ObjName) (elements : List Element) → Stops stop (run look (columns_made table elements)) → Stops stop (run look (table_of table elements))
made_stop stop look table elements stopped = stops_all stop (run look (columns_made table elements)) (λ start. run look (filled elements start)) _ stopped (sym (filled_after look table elements))

filled_from : (look : Look) (table : ObjName) (elements : List Element) (start : TableParts) → run look (columns_made table elements) ≡ fine start → run look (table_of table elements) ≡ run look (filled elements start)
filled_from look table elements start made = filled_after look table elements ∙ ap (λ found. go_on found (λ s. run look (filled elements s))) made

-- where what follows the columns stops, all stops
pub fill_stop : (stop : Stop) (look : Look) (table : ObjName) (elements : List Element) (start : TableParts) → run look (columns_made table elements) ≡ fine start → Stops stop (run look (filled elements start)) → Stops stop (run look (table_of table elements))
fill_stop stop look table elements start made stopped = subst (Stops stop) (sym (filled_from look table elements start made)) stopped

pub fill_fine : (look : Look) (table : ObjName) (elements : List Element) (start parts : TableParts) → run look (columns_made table elements) ≡ fine start → run look (filled elements start) ≡ fine parts → run look (table_of table elements) ≡ fine parts
fill_fine look table elements start parts made all = filled_from look table elements start made ∙ all
