use Rattle.std.proofs.Common.{◌<◌, List, [], length, sym, ◌∙◌, ap, subst, arith}
use Rattle.std.proofs.lemmas.Result.{err_from_is_err_and}
use Rattle.dd_names.specs.declared.object_name.ObjName.{ObjName}
use Rattle.dd_catalog.specs.Walks.{run, over}
use Rattle.dd_catalog.specs.Follow.{sights}
use Rattle.dd_catalog.specs.LoopLaws.{over_step, over_stop}
use Rattle.rules_rename.specs.Renames.{one_pair}
use Rattle.rules_rename.specs.Overlays.{Overlay}
use Rattle.rules_rename.specs.Pairs.{renaming_of}
use Rattle.rules_rename.specs.Ids.{AreWithIds}
use Rattle.rules_rename.specs.Puts.{Put, overlay_of}
use Rattle.rules_rename.proofs.Edits.{overlay_of_none}
use Rattle.rules_rename.proofs.all_pairs.all_pairs.Goals as goal

pub returns-in_err-one_pair-clause-exact : goal.returns-in_err-one_pair-clause-exact
returns-in_err-one_pair-clause-exact g c =
    let lt : c.pairs.pair-index < length c.args.pairs.now = omega arith in
    let p = err_from_is_err_and c.from_residual.result c.from_residual.ensures.1 in
    rw (p.1, p.2) (over_stop c.in_err-one_pair.field-0.0 (sights (g.L.Lookup.known c.args.look.now)) one_pair c.args.pairs.now c.pairs.pair-index c.pair-item.result (renaming_of c.pairs.renaming) _ lt c.pair-item.is (c.in_err-one_pair.ensures.exact c.pairs.invariant.same) c.pairs.invariant.exact)

pub pairs-init : goal.pairs-init
pairs-init g c =
    let known = g.L.Lookup.known c.args.look.now in
    record {
      exact = ap (λ (puts : List Put). run (sights known) (over one_pair (record { overlay = overlay_of puts; children = c.new-2.result.names }) c.args.pairs.now)) c.new.ensures
          ∙ ap (λ (children : List ObjName). run (sights known) (over one_pair (record { overlay = overlay_of []; children = children }) c.args.pairs.now)) c.new-2.ensures.none
          ∙ ap (λ (overlay : Overlay). run (sights known) (over one_pair (record { overlay = overlay; children = [] }) c.args.pairs.now)) overlay_of_none;
      same = c.new-2.ensures.same;
      ids = subst (AreWithIds known) (sym c.new.ensures) tt;
    }

pub pairs-preserved : goal.pairs-preserved
pairs-preserved g c =
    let lt : c.pairs.pair-index < length c.args.pairs.now = omega arith in
    record {
      exact = over_step (sights (g.L.Lookup.known c.args.look.now)) one_pair c.args.pairs.now c.pairs.pair-index c.pair-item.result (renaming_of c.pairs.renaming) (renaming_of c.one_pair.new.renaming) _ lt c.pair-item.is (c.in_ok-one_pair.ensures.exact c.pairs.invariant.same) c.pairs.invariant.exact;
      same = c.in_ok-one_pair.ensures.same c.pairs.invariant.same;
      ids = c.in_ok-one_pair.ensures.ids c.pairs.invariant.ids;
    }
