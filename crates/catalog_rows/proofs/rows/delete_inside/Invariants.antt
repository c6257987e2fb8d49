use Rattle.std.proofs.Common.{take}
use Rattle.std.specs.List.{list_any}
use Rattle.catalog_rows.specs.Changes.{is_of}
use Rattle.catalog_rows.specs.Adding.{Taken}
use Rattle.catalog_rows.proofs.rows.delete_inside.Given as goal

abbrev pub invariant-each : goal.invariant-each
invariant-each l = Taken l.fn.batch l.batch (λ q. list_any (λ tag. is_of tag l.id q) (take l.tag-index l.tags))
