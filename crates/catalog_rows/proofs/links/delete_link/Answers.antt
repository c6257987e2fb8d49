use Rattle.catalog_rows.specs.Owners.{child_row, constraint_row}
use Rattle.catalog_rows.proofs.Adding.{taken_both}
use Rattle.catalog_rows.proofs.links.delete_link.Goals as goal

pub delete_constraint-requires : goal.delete_constraint-requires
delete_constraint-requires c = record { «open» = (c.in_ok-delete_child.ensures c.args.key.now.parent).unframed }

pub returns : goal.returns
returns c = λ name.
    taken_both c.delete_constraint.result c.args.batch.now c.delete_child.new.batch c.delete_constraint.new.batch (child_row c.args.id name c.args.place c.args.key.now) (constraint_row c.args.schema c.args.id c.args.place c.args.key.now)
    (c.in_ok-delete_child.ensures name) c.delete_constraint.ensures
