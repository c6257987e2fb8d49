use Rattle.std.proofs.Common.{◌∙◌, ap}
use Rattle.std.specs.Prelude.{not, filter}
use Rattle.std.proofs.lemmas.Result.{err_from_is_err_and}
use Rattle.dd_names.specs.declared.object_name.ObjName.{ObjName}
use Rattle.dd_names.specs.declared.object_name.ObjectKey.TheVariants as keys
use Rattle.rules_rename.specs.Puts.{is_changed}
use Rattle.rules_rename.specs.Indexed.{standing}
use Rattle.rules_rename.proofs.Standing.{children_are}
use Rattle.rules_rename.proofs.Behind.{stops_too, children_all}
use Rattle.rules_rename.proofs.children.children_at.Goals as goal

pub returns-in_err-known : goal.returns-in_err-known
returns-in_err-known g c =
    let p = err_from_is_err_and c.from_residual.result c.from_residual.ensures.1 in
    rw (p.1, p.2) (stops_too (g.L.Lookup.known c.args.look.now) c.args.overlay.now (keys.Children c.args.parent.now) c.in_err-known.field-0.0 c.in_err-known.ensures.seen)

pub returns : goal.returns
returns g c =
    let known = g.L.Lookup.known c.args.look.now in
    let puts = c.args.overlay.now in
    children_all known puts c.args.parent.now c.in_ok-known.known.now c.in_ok-changed.changed c.in_ok-children.children c.put_names.new.names c.in_ok-changed.ensures.in_order c.in_ok-known.ensures.known
    (c.in_ok-changed.ensures.tables ∙ ap (λ (parent : ObjName). standing (keys.Children parent) puts) c.in_ok-copy.ensures ∙ children_are c.args.parent.now puts)
    (c.in_ok-children.ensures ∙ ap (filter (λ child. not (is_changed puts child))) c.children_seen.ensures) c.in_ok-put_names.ensures
