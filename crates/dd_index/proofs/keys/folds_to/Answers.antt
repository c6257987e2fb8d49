use Rattle.std.proofs.Common.{◌&&◌, ap, sym, ◌∙◌}
use Rattle.std.specs.List.{list_all}
use Rattle.dd_index.specs.Keys.{is_no_capital}
use Rattle.dd_index.proofs.Folded.{folds_is}
use Rattle.dd_index.proofs.keys.folds_to.Goals as goal

pub returns-then-same : goal.returns-then-same
returns-then-same c =
    let a = c.args.name.now in
    let b = c.args.folded.now in
    c.has_no_capital.ensures
    ∙ ap (list_all is_no_capital) (c.as_bytes.ensures.value ∙ c.as_str.ensures.text)
    ∙ ap (λ t. t && list_all is_no_capital b) (sym c.if-same.true ∙ c.same.ensures)
    ∙ folds_is a b

pub returns-else-same : goal.returns-else-same
returns-else-same c =
    let a = c.args.name.now in
    let b = c.args.folded.now in
    c.if-same.false
    ∙ ap (λ t. t && list_all is_no_capital b) (sym c.if-same.false ∙ c.same.ensures)
    ∙ folds_is a b
