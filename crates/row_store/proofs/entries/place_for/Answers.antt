use Rattle.std.proofs.Common.{rules}
use Rattle.std.specs.Ordering.{is_lt}
use Rattle.std.proofs.lemmas.List.Sorted.{IsPartitionPoint-from_clause}
use Rattle.row_batch.specs.Order.{key_cmp}
use Rattle.row_store.proofs.Places.{before_first, point_is_place}
use Rattle.row_store.proofs.entries.place_for.Goals as goal

pub returns-clause-place : goal.returns-clause-place
returns-clause-place c =
    point_is_place c.args.key.now c.args.rows.now c.partition_point.result c.partition_point.ensures.bound
    (IsPartitionPoint-from_clause (λ e. is_lt (key_cmp e.0 c.args.key.now)) c.args.rows.now c.partition_point.result c.partition_point.ensures.partitioned (before_first c.args.key.now c.args.rows.now c.requires) (λ a r f k. search rules))
