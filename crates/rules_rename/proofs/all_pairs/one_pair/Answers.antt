use Rattle.std.proofs.Common.{◌∙◌, ap, sym, subst}
use Rattle.std.proofs.lemmas.Result.{err_from_is_err_and}
use Rattle.rules_rename.specs.Renames.{with_all}
use Rattle.rules_rename.proofs.Pair.{pair_stops, pair_made}
use Rattle.rules_rename.specs.Ids.{AreWithIds}
use Rattle.rules_rename.proofs.Ids.{ids_all}
use Rattle.rules_rename.proofs.all_pairs.one_pair.Goals as goal

pub returns-in_err-renamed-clause-exact : goal.returns-in_err-renamed-clause-exact
returns-in_err-renamed-clause-exact g c = λ same.
    let p = err_from_is_err_and c.from_residual.result c.from_residual.ensures.1 in
    rw (p.1, p.2) (pair_stops (g.L.Lookup.known c.args.look.now) c.args.renaming.now.overlay c.args.renaming.now.children.names c.args.pair.now c.in_err-renamed.field-0.0 c.in_err-renamed.ensures.exact)

pub returns-clause-exact : goal.returns-clause-exact
returns-clause-exact g c = λ same.
    pair_made (g.L.Lookup.known c.args.look.now) c.args.renaming.now.overlay c.put_all.new.overlay c.args.renaming.now.children.names c.add_all.new.self.names c.args.pair.now c.in_ok-renamed.renamed c.in_ok-put_all.ensures.in_order
    c.in_ok-renamed.ensures.exact c.in_ok-put_all.ensures.changed (c.in_ok-add_all.ensures.added same ∙ ap (with_all c.args.renaming.now.children.names) c.as_slice.ensures)

pub returns-clause-same : goal.returns-clause-same
returns-clause-same g c = λ same. c.in_ok-add_all.ensures.same same

pub returns-clause-ids : goal.returns-clause-ids
returns-clause-ids g c = λ all.
    subst (AreWithIds (g.L.Lookup.known c.args.look.now)) (sym c.in_ok-put_all.ensures.changed)
    (ids_all (g.L.Lookup.known c.args.look.now) c.in_ok-renamed.renamed.changes c.args.renaming.now.overlay (c.in_ok-renamed.ensures.ids all) all)
