use Rattle.std.proofs.Common.{◌≡◌, [], ◌∙◌, List, ap, subst}
use Rattle.std.specs.Prelude.{IfOk}
use Rattle.std.specs.List.Sorted.{IsStrictlySortedBy}
use Rattle.dd_names.specs.declared.object_name.ObjName.{ObjName}
use Rattle.dd_catalog.specs.Catalog.{object_cmp}
use Rattle.rules_rename.specs.Puts.{Put}
use Rattle.rules_rename.specs.Indexed.{standing}
use Rattle.rules_rename.proofs.Indexed.{stand_there, candidates_in, no_candidates}
use Rattle.rules_rename.proofs.overlay.Overlay.standing.Goals as goal

none_in_order : IsStrictlySortedBy object_cmp []
unfolding IsStrictlySortedBy
none_in_order = tt

pub returns-in-None-clause-tables : goal.returns-in-None-clause-tables
returns-in-None-clause-tables c =
    let inside = c.self.inside in
    let key = c.args.key.now in
    c.new.ensures ∙ stand_there inside.tables inside.left key [] c.self.invariant.0 c.self.invariant.1 none_in_order (no_candidates inside.tables key c.in-None.ensures)
    ∙ ap (λ (puts : List Put). standing key puts) c.self.view_is

pub returns-in-Some-clause-tables : goal.returns-in-Some-clause-tables
returns-in-Some-clause-tables c =
    let inside = c.self.inside in
    let key = c.args.key.now in
    subst (λ (names : List ObjName). IfOk c.standing_among.result (λ tables. tables ≡ names))
    (stand_there inside.tables inside.left key c.in-Some.names.now.keys c.self.invariant.0 c.self.invariant.1 c.standing_among.ensures.ordered (candidates_in inside.tables key c.in-Some.names.now c.in-Some.ensures)
    ∙ ap (λ (puts : List Put). standing key puts) c.self.view_is)
    c.standing_among.ensures.tables
