use Rattle.std.proofs.Common.{◌<◌, ◌∷◌, [], length, map, arith}
use Rattle.std.proofs.lemmas.Result.{err_from_is_err_and}
use Rattle.std.proofs.lemmas.List.{map-append}
use Rattle.dd_catalog.specs.LoopLaws.{each_step, each_stop}
use Rattle.rules_rename.specs.Renames.{renamed_child}
use Rattle.rules_rename.specs.Puts.{Put, entry_of, behind}
use Rattle.rules_rename.proofs.Ids.{ids_push}
use Rattle.rules_rename.proofs.one_object.renamed_children.Goals as goal

pub returns-in_err-renamed_child-clause-exact : goal.returns-in_err-renamed_child-clause-exact
returns-in_err-renamed_child-clause-exact g c =
    let lt : c.children.child-index < length c.args.children.now = omega arith in
    let p = err_from_is_err_and c.from_residual.result c.from_residual.ensures.1 in
    rw (p.1, p.2) (each_stop c.in_err-renamed_child.field-0.0 (behind (g.L.Lookup.known c.args.look.now) c.args.overlay.now) (renamed_child c.args.from.now c.args.to.now) c.args.children.now c.children.child-index c.child-item.result (map entry_of c.children.puts) _ lt c.child-item.is c.in_err-renamed_child.ensures.exact c.children.invariant.exact)

pub children-preserved : goal.children-preserved
children-preserved g c =
    let lt : c.children.child-index < length c.args.children.now = omega arith in
    record {
      exact = rw (c.in_ok-push.ensures.ok, map-append entry_of c.children.puts (c.in_ok-renamed_child.field-0 ∷ [])) (each_step (behind (g.L.Lookup.known c.args.look.now) c.args.overlay.now) (renamed_child c.args.from.now c.args.to.now) c.args.children.now c.children.child-index c.child-item.result (entry_of c.in_ok-renamed_child.field-0) (map entry_of c.children.puts) _ lt c.child-item.is c.in_ok-renamed_child.ensures.exact c.children.invariant.exact);
      ids = λ all. rw (c.in_ok-push.ensures.ok) (ids_push (g.L.Lookup.known c.args.look.now) c.children.puts c.in_ok-renamed_child.field-0 (c.children.invariant.ids all) (c.in_ok-renamed_child.ensures.ids all));
    }
