use Rattle.std.proofs.Common.{ℕ, ◌<◌, List, [], ◌∷◌, ◌++◌, length, take, map, sym, ap, ◌∙◌, arith}
use Rattle.std.proofs.lemmas.List.{map_more}
use Rattle.std.proofs.lemmas.Result.{err_from_is_err_and}
use Rattle.dd_catalog.specs.Walks.{run, every}
use Rattle.dd_catalog.specs.Follow.{sights}
use Rattle.dd_catalog.specs.LoopLaws.{every_step, every_stop}
use Rattle.rules_outcome.specs.Choices.{Change}
use Rattle.rules_outcome.specs.Decided.{change_of}
use Rattle.rules_named.specs.Named.{object_in}
use Rattle.rules_schema.specs.Drops.{gone}
use Rattle.rules_schema.specs.Schemas.{may_go}
use Rattle.rules_schema.proofs.schemas.objects_gone.Goals as goal

pub returns-in_err-object_gone-clause-seen : goal.returns-in_err-object_gone-clause-seen
returns-in_err-object_gone-clause-seen g c =
    let names = c.args.names.now in
    let lt : c.names.name-index < length names = omega arith in
    let look = sights (g.L.Lookup.known c.args.look.now) in
    let p = err_from_is_err_and c.from_residual.result c.from_residual.ensures.1 in
    rw (p.1, p.2) (every_stop c.in_err-object_gone.field-0.0 look (may_go c.args.schema.now) names c.names.name-index c.name-item.result (run look (every (may_go c.args.schema.now) names)) lt c.name-item.is c.in_err-object_gone.ensures.seen c.names.invariant.seen)

pub names-preserved : goal.names-preserved
names-preserved g c =
    let names = c.args.names.now in
    let known = g.L.Lookup.known c.args.look.now in
    let lt : c.names.name-index < length names = omega arith in
    let as_gone : List ℕ → Change = λ name. gone (object_in c.args.schema.now name) in
    record {
      seen = every_step (sights known) (may_go c.args.schema.now) names c.names.name-index c.name-item.result _ lt c.name-item.is c.in_ok-object_gone.ensures.seen c.names.invariant.seen;
      changes =
          c.in_ok-add_edit.ensures.changes
          ∙ ap (λ changes. changes ++ change_of c.in_ok-object_gone.field-0 ∷ []) c.names.invariant.changes
          ∙ ap (λ change. map as_gone (take c.names.name-index names) ++ change ∷ []) (c.in_ok-object_gone.ensures.change ∙ ap as_gone c.name-item.is)
          ∙ sym (map_more as_gone names c.names.name-index c.name-item.result lt);
      before = c.in_ok-add_edit.ensures.before known c.names.invariant.before c.in_ok-object_gone.ensures.before;
      ids = c.in_ok-add_edit.ensures.ids known c.names.invariant.ids c.in_ok-object_gone.ensures.ids;
    }
