use Rattle.std.proofs.Common.{◌<◌, ◌≤◌, ◌∙◌, sym, ap, length, arith}
use Rattle.std.proofs.lemmas.List.{drop_all}
use Rattle.rules_views.specs.Columns.{greatest}
use Rattle.rules_views.proofs.Heights.{greatest_at}
use Rattle.rules_views.proofs.shown.greatest.Goals as goal

pub sources-preserved : goal.sources-preserved
sources-preserved c =
    let lt : c.sources.source-index < length c.args.shown.now = omega arith in
    rw c.higher-most.ensures (sym (greatest_at c.sources.most c.args.shown.now c.sources.source-index c.source-item.result lt c.source-item.is) ∙ c.sources.invariant)

pub returns : goal.returns
returns c =
    let le : length c.args.shown.now ≤ c.sources.source-index = omega arith in
    ap (greatest c.sources.most) (sym (drop_all c.sources.source-index c.args.shown.now le)) ∙ c.sources.invariant
