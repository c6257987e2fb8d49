use Rattle.std.proofs.Common.{◌<◌, ◌≤◌, ◌++◌, ◌∙◌, ap, length, arith}
use Rattle.info_schema.specs.Tables.{rows_from, statistics_row}
use Rattle.info_schema.proofs.Rows.{row_pushed, rows_end}
use Rattle.info_schema.proofs.objects.push_index.Goals as goal

pub places-preserved : goal.places-preserved
places-preserved c =
    let lt : c.places.place < length c.as_slice-columns.result.now = omega arith in
    row_pushed (statistics_row c.args.name.now c.args.index.now) c.as_slice-columns.result.now c.places.place c.index-columns-place.result c.statistics_cells.new.row c.places.rows _ c.args.rows.now lt c.index-columns-place.is (c.in_ok-statistics_cells.ensures ∙ ap (λ front. front ++ statistics_row c.args.name.now c.args.index.now c.places.place c.index-columns-place.result) c.new-row.ensures) c.in_ok-push.ensures.ok c.places.invariant

pub returns : goal.returns
returns c =
    let le : length c.as_slice-columns.result.now ≤ c.places.place = omega arith in
    rows_end (statistics_row c.args.name.now c.args.index.now) c.as_slice-columns.result.now c.places.place c.places.rows c.args.rows.now le c.places.invariant
    ∙ ap (λ columns. c.args.rows.now ++ rows_from (statistics_row c.args.name.now c.args.index.now) 0 columns) c.as_slice-columns.ensures
