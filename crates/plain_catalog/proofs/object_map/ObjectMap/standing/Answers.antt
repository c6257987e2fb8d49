use Rattle.std.proofs.Common.{◌≡◌, [], ◌∙◌, List, ap, sym, subst}
use Rattle.std.specs.Prelude.{IfOk}
use Rattle.std.specs.List.Sorted.{IsStrictlySortedBy}
use Rattle.std.specs.FinMap as finite_map
use Rattle.dd_names.specs.declared.object_name.ObjName.{ObjName}
use Rattle.dd_catalog.specs.Catalog.{Placed, object_cmp}
use Rattle.dd_index.specs.Keys.{standing}
use Rattle.plain_catalog.proofs.Indexed.{stand_there, candidates_in, no_candidates}
use Rattle.plain_catalog.proofs.object_map.ObjectMap.standing.Goals as goal

none_in_order : IsStrictlySortedBy object_cmp []
unfolding IsStrictlySortedBy
none_in_order = tt

pub returns-in-None : goal.returns-in-None
returns-in-None c =
    let inside = c.self.inside in
    let key = c.args.key.now in
    c.new.ensures ∙ stand_there inside.tables inside.objects key [] c.self.invariant.0 c.self.invariant.1 none_in_order (no_candidates inside.tables key c.in-None.ensures)
    ∙ ap (λ (m : finite_map.FinMap object_cmp Placed). standing key (finite_map.entries m)) c.self.view_is

pub returns-in-Some : goal.returns-in-Some
returns-in-Some c =
    let inside = c.self.inside in
    let key = c.args.key.now in
    subst (λ (names : List ObjName). IfOk c.standing_among.result (λ tables. tables ≡ names))
    (stand_there inside.tables inside.objects key c.in-Some.names.now.keys c.self.invariant.0 c.self.invariant.1 c.standing_among.ensures.ordered (candidates_in inside.tables key c.in-Some.names.now c.in-Some.ensures)
    ∙ ap (λ (m : finite_map.FinMap object_cmp Placed). standing key (finite_map.entries m)) c.self.view_is)
    c.standing_among.ensures.tables
