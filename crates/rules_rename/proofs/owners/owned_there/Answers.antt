use Rattle.std.proofs.Common.{◌≡◌, List, ◌∙◌, ap}
use Rattle.dd_names.specs.Names.{fold}
use Rattle.dd_names.specs.declared.object_name.ObjName.{ObjName}
use Rattle.dd_names.specs.declared.object_name.ObjectKey.{ObjectKey}
use Rattle.rules_rename.specs.Puts.{owned_by}
use Rattle.rules_rename.specs.Indexed.{first_owner, standing}
use Rattle.rules_rename.proofs.Standing.{owner_is}
use Rattle.rules_rename.proofs.owners.owned_there.Goals as goal

pub returns-clause-owned : goal.returns-clause-owned
returns-clause-owned c =
    let table = c.args.table.now in
    let puts = c.args.overlay.now in
    c.owned_by.ensures
    ∙ ap (λ (owners : List ObjName). owned_by table (first_owner owners)) (c.as_slice.ensures ∙ c.in_ok-owners.ensures.tables ∙ ap (λ (key : ObjectKey). standing key puts) c.in_ok-key.ensures)
    ∙ ap (owned_by table) (owner_is c.args.schema.now (fold c.args.name.now) puts)
