use Rattle.std.proofs.Common.{◌≡◌, [], sym, ◌∙◌, ap}
use Rattle.std.specs.List.{flat_map}
use Rattle.std.proofs.lemmas.Result.{err_from_is_err_and}
use Rattle.dd_catalog.specs.Follow.{sights}
use Rattle.rules_create.proofs.Linked.{over_stop, over_fine}
use Rattle.rules_create.proofs.foreign_keys.add_foreign_keys.Goals as goal

pub each_foreign_key-requires : goal.each_foreign_key-requires
each_foreign_key-requires g c = record { stands = c.requires; ordered = c.in_ok-keys.ensures.ordered }

pub returns-in_err-each_foreign_key : goal.returns-in_err-each_foreign_key
returns-in_err-each_foreign_key g c =
    let look = sights (g.L.Lookup.known c.args.look.now) in
    let p = err_from_is_err_and c.from_residual-in_err-each_foreign_key.result c.from_residual-in_err-each_foreign_key.ensures.1 in
    rw (p.1, p.2) (over_stop c.in_err-each_foreign_key.field-0.0 look c.args.draft.now c.in_ok-keys.keys c.args.elements.now c.requires c.in_ok-keys.ensures.none c.in_err-each_foreign_key.ensures)

pub returns : goal.returns
returns g c =
    let look = sights (g.L.Lookup.known c.args.look.now) in
    over_fine look c.args.draft.now c.each_foreign_key.new.draft c.in_ok-keys.keys c.each_foreign_key.new.keys c.args.elements.now c.in_ok-draft.field-0 c.requires c.in_ok-keys.ensures.none c.in_ok-draft.ensures c.in_ok-each_foreign_key.ensures
