use Rattle.std.proofs.Common.{subst, [], ◌∷◌}
use Rattle.std.specs.Prelude.{OnOk}
use Rattle.dd_definitions.specs.declared.view_parts.ViewParts.{ViewParts}
use Rattle.catalog_rows.specs.Owners.{inside_row, Query}
use Rattle.catalog_rows.specs.Parts.{view_fields}
use Rattle.catalog_rows.specs.Stands.{FitsView}
use Rattle.catalog_rows.specs.Adding.{Added, AddedOne}
use Rattle.catalog_rows.proofs.Groups.{view_added, on_ok}
use Rattle.catalog_rows.proofs.putting.put_view.Goals as goal

pub returns-clause-added : goal.returns-clause-added
returns-clause-added c =
    let query = subst (λ (parts : ViewParts). OnOk c.put_query.result (AddedOne FitsView c.put_view_name.new.batch c.put_query.new.batch (inside_row c.args.id Query (view_fields parts) ∷ []) parts)) c.parts.ensures c.put_query.ensures in
    view_added c.put_query.result c.args.name.now c.args.schema c.args.id c.args.def.now c.args.batch.now c.put_view_name.new.batch c.put_query.new.batch c.in_ok-put_view_name.ensures.added
    (on_ok c.put_query.result (AddedOne FitsView c.put_view_name.new.batch c.put_query.new.batch (inside_row c.args.id Query (view_fields c.args.def.now) ∷ []) c.args.def.now) (Added c.put_view_name.new.batch c.put_query.new.batch (inside_row c.args.id Query (view_fields c.args.def.now) ∷ [])) (λ one. one.added) query)
