use Rattle.std.proofs.Common.{◌<◌, ◌≤◌, ◌++◌, ◌∙◌, ap, length, arith}
use Rattle.info_schema.specs.Tables.{columns_row}
use Rattle.info_schema.proofs.Rows.{row_pushed, rows_end}
use Rattle.info_schema.proofs.objects.push_each_column.Goals as goal

pub places-preserved : goal.places-preserved
places-preserved c =
    let lt : c.places.place < length c.args.columns.now = omega arith in
    let row = columns_row c.args.parts.now c.args.known_by.now in
    row_pushed row c.args.columns.now c.places.place c.index-columns-place.result c.columns_cells.new.row c.places.rows _ c.args.rows.now lt c.index-columns-place.is (c.in_ok-columns_cells.ensures ∙ ap (λ front. front ++ row c.places.place c.index-columns-place.result) c.new-row.ensures) c.in_ok-push.ensures.ok c.places.invariant

pub returns : goal.returns
returns c =
    let le : length c.args.columns.now ≤ c.places.place = omega arith in
    rows_end (columns_row c.args.parts.now c.args.known_by.now) c.args.columns.now c.places.place c.places.rows c.args.rows.now le c.places.invariant
