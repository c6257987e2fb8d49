use Rattle.std.proofs.Common.{◌≡◌, ◌∙◌, sym}
use Rattle.std.specs.Prelude.{Some, None, refl}
use Rattle.std.proofs.lemmas.Result.{err_from_is_err_and}
use Rattle.dd_names.specs.Names.{fold}
use Rattle.dd_names.specs.declared.object_name.ObjectKey.TheVariants as keys
use Rattle.dd_errors.specs.Errors.{ErrorValue}
use Rattle.dd_catalog.specs.Walks.{fine, run, look_at}
use Rattle.dd_catalog.specs.LoopLaws.{stops_all}
use Rattle.rules_elements.specs.ForeignKeys.{is_owned_elsewhere}
use Rattle.rules_rename.specs.Puts.{behind}
use Rattle.rules_rename.proofs.Behind.{stops_too, owner_told}
use Rattle.rules_rename.proofs.owners.is_owned_at.Goals as goal

pub returns-in_err-known : goal.returns-in_err-known
returns-in_err-known g c =
    let known = g.L.Lookup.known c.args.look.now in
    let key = keys.Constraint c.args.schema.now (fold c.args.name.now) in
    let p = err_from_is_err_and c.from_residual.result c.from_residual.ensures.1 in
    rw (p.1, p.2) (stops_all c.in_err-known.field-0.0 (run {E = ErrorValue} (behind known c.args.overlay.now) (look_at key)) (λ owner. fine (is_owned_elsewhere c.args.table.now owner)) _ (stops_too known c.args.overlay.now key c.in_err-known.field-0.0 c.in_err-known.ensures.seen) refl)

pub returns-in-None : goal.returns-in-None
returns-in-None g c =
    owner_told (g.L.Lookup.known c.args.look.now) c.args.overlay.now c.args.table.now c.args.schema.now (fold c.args.name.now) c.in_ok-known.known.now None c.is_owned_still.result c.in_ok-owned_there.ensures.in_order c.in_ok-known.ensures.known
    (sym c.in-None.is ∙ c.in_ok-owned_there.ensures.owned) c.is_owned_still.ensures

pub returns-in-Some : goal.returns-in-Some
returns-in-Some g c =
    owner_told (g.L.Lookup.known c.args.look.now) c.args.overlay.now c.args.table.now c.args.schema.now (fold c.args.name.now) c.in_ok-known.known.now (Some c.in-Some.owned) c.in-Some.owned c.in_ok-owned_there.ensures.in_order c.in_ok-known.ensures.known
    (sym c.in-Some.is ∙ c.in_ok-owned_there.ensures.owned) refl
