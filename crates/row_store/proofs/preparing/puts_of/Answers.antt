use Rattle.std.proofs.Common.{◌++◌, ◌∷◌, [], ap, ◌∙◌}
use Rattle.row_store.specs.Entries.{Entries}
use Rattle.row_store.specs.Merging.{puts_of}
use Rattle.row_store.proofs.Merged.{puts_more}
use Rattle.row_store.proofs.preparing.puts_of.Goals as goal

pub each-preserved : goal.each-preserved
each-preserved c =
    c.in_ok-push_put.ensures ∙ ap (λ (es : Entries). es ++ puts_of (c.operation-item.result ∷ [])) c.each.invariant ∙ puts_more c.args.operations.now c.each.operation-index c.operation-item.result c.each-test.true c.operation-item.is
