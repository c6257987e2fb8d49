-- How many rows there are.
use Rattle.std.specs.Prelude.{◌≡◌, ℕ, ◌+◌, List, [], ◌∷◌, ◌++◌, suc, length, refl}
use Rattle.std.proofs.Common.{sym, ap, ◌∙◌, append_assoc}
use Rattle.std.proofs.lemmas.List.{length-map}
use Rattle.dd_names.specs.declared.object_name.ObjName.{ObjName}
use Rattle.sql_types.specs.declared.listing.Cell.{Cell}
use Rattle.sql_types.specs.declared.listing.Listing.{Listing}
use Rattle.dd_definitions.specs.declared.parts.TableParts.{TableParts}
use Rattle.dd_definitions.specs.declared.view_parts.ViewParts.{ViewParts}
use Rattle.dd_catalog.specs.Asked.{fine_is, bind_fine}
use Rattle.dd_catalog.specs.Sights.{ViewThere}
use Rattle.dd_catalog.specs.WalkLaws.{Look}
use Rattle.dd_catalog.specs.Walks.{Walk, done, fine, run, each, over}
use Rattle.rules_outcome.specs.Choices.{Choice, Same, Changes, Lists}
use Rattle.show_text.specs.Views.{query_text, view_text}
use Rattle.info_schema.specs.declared.tables.InfoTable.TheVariants as tables
use Rattle.info_schema.specs.Columns.{identifying, column_cells, columns_rows}
use Rattle.info_schema.specs.Tables.{rows_from, base_table_rows, columns_row}
use Rattle.rules_views.specs.Columns.{Finds, Seeks, Sought, one_output, one_source, source_seen, through_sources}
use Rattle.rules_views.specs.Shows.{view_columns}
use Rattle.info_schema_laws.specs.Whole.{before_query}

length_from : {A : Type 0} (row : ℕ → A → List Cell) (place : ℕ) (xs : List A) → length (rows_from row place xs) ≡ length xs
length_from row place [] = refl
length_from row place (x ∷ xs) = ap suc (length_from row (place + 1) xs)

pub table_counted : (parts : TableParts) → length (base_table_rows tables.Columns parts) ≡ length parts.columns
unfolding base_table_rows
table_counted parts = length_from (columns_row parts (identifying parts.columns parts.indexes)) 0 parts.columns

each_counted : {E A B : Type 0} (look : Look) (check : A → Walk E B) (xs : List A) (ys : List B) → run look (each check xs) ≡ fine ys → length ys ≡ length xs
each_counted look check [] ys is = ap length (sym (fine_is is))
each_counted look check (x ∷ xs) ys is =
    let (y, one, behind) = bind_fine look (check x) _ ys is in
    let (rest, others, last) = bind_fine look (each check xs) _ ys behind in
    ap length (sym (fine_is last)) ∙ ap suc (each_counted look check xs rest others)

pub text_ends : (parts : ViewParts) → view_text parts ≡ before_query parts ++ query_text parts
text_ends parts = simp append_assoc refl

-- ## The columns of a view

through_counted : (look : Look) (seek : Seeks) (asked : ObjName) (finds : Finds) (name : ObjName) (parts : ViewParts) (found : Sought)
    → run look (through_sources seek asked finds name parts) ≡ fine found → length found.shown.columns ≡ length parts.outputs
unfolding through_sources
through_counted look seek asked finds name parts found is =
    let (sources, all, behind) = bind_fine look (over (one_source seek) (record { shown = []; finds = finds }) parts.sources) _ found is in
    let (columns, taken, last) = bind_fine look (each (one_output asked sources.shown) parts.outputs) _ found behind in
    ap (λ (f : Sought). length f.shown.columns) (sym (fine_is last)) ∙ each_counted look (one_output asked sources.shown) parts.outputs columns taken

seen_counted : (look : Look) (object : ObjName) (parts : ViewParts) (found : Sought) → run look (source_seen 32 object [] [] object (ViewThere parts)) ≡ fine found → length found.shown.columns ≡ length parts.outputs
seen_counted look object parts found is = through_counted look (source_seen 31 object (object ∷ [])) object [] object parts found is

abbrev rows_of : Choice → List (List Cell)
rows_of Same = []
rows_of (Changes changes session) = []
rows_of (Lists listing) = listing.rows

pub view_counted : (look : Look) (object : ObjName) (parts : ViewParts) (listing : Listing) → run look (view_columns object (ViewThere parts)) ≡ fine (Lists listing) → length listing.rows ≡ length parts.outputs
unfolding view_columns
view_counted look object parts listing is =
    let (found, sought, last) = bind_fine look (source_seen 32 object [] [] object (ViewThere parts)) (λ found. done (Lists (columns_rows found.shown.columns []))) (Lists listing) is in
    ap (λ choice. length (rows_of choice)) (sym (fine_is last))
    ∙ length-map found.shown.columns (column_cells (identifying found.shown.columns []) [])
    ∙ seen_counted look object parts found sought
