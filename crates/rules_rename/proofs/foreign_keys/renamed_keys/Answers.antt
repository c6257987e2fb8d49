use Rattle.std.proofs.Common.{◌≡◌, ◌∙◌, List, [], ap, sym, subst}
use Rattle.std.proofs.lemmas.Result.{err_from_is_err_and}
use Rattle.dd_definitions.specs.declared.foreign_keys.ForeignKeyDef.{ForeignKeyDef}
use Rattle.dd_catalog.specs.Walks.{fine, run, over}
use Rattle.dd_catalog.specs.Follow.{Stops}
use Rattle.rules_rename.specs.Renames.{one_free}
use Rattle.rules_rename.specs.Puts.{behind}
use Rattle.rules_rename.proofs.Steps.{keys_unfit, keys_taken, keys_made}
use Rattle.rules_rename.proofs.foreign_keys.renamed_keys.Goals as goal

pub returns-in_err-renamed : goal.returns-in_err-renamed
returns-in_err-renamed g c =
    let look = behind (g.L.Lookup.known c.args.look.now) c.args.overlay.now in
    let p = err_from_is_err_and c.from_residual.result c.from_residual.ensures.1 in
    rw (p.1, p.2) (keys_unfit look c.args.from.now c.args.to.now c.args.keys.now c.in_err-renamed.field-0.0 (c.in_err-renamed.ensures.fit look))

pub returns-in_err-free : goal.returns-in_err-free
returns-in_err-free g c =
    let look = behind (g.L.Lookup.known c.args.look.now) c.args.overlay.now in
    let p = err_from_is_err_and c.from_residual-in_err-free.result c.from_residual-in_err-free.ensures.1 in
    rw (p.1, p.2) (keys_taken look c.args.from.now c.args.to.now c.args.keys.now c.in_ok-renamed.renamed c.in_err-free.field-0.0 c.in_ok-renamed.ensures.keys (c.in_ok-renamed.ensures.fit look)
    (subst (λ (ks : List ForeignKeyDef). Stops c.in_err-free.field-0.0 (run look (over (one_free c.args.from.now c.args.to.now) [] ks))) c.as_slice.ensures c.in_err-free.ensures))

pub returns : goal.returns
returns g c =
    let look = behind (g.L.Lookup.known c.args.look.now) c.args.overlay.now in
    keys_made look c.args.from.now c.args.to.now c.args.keys.now c.in_ok-renamed.renamed c.in_ok-free.free c.in_ok-renamed.ensures.keys (c.in_ok-renamed.ensures.fit look)
    (subst (λ (ks : List ForeignKeyDef). run look (over (one_free c.args.from.now c.args.to.now) [] ks) ≡ fine c.in_ok-free.free) c.as_slice.ensures c.in_ok-free.ensures) ∙ ap (λ (ks : List ForeignKeyDef). fine ks) (sym c.in_ok-in_order.ensures)
