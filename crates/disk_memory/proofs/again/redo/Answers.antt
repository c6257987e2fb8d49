use Rattle.std.proofs.Common.{◌≡◌, List, ℕ, sym, ◌∙◌, ap}
use Rattle.std.proofs.lemmas.Result.{on_ok_weaker}
use Rattle.disk_trait.specs.Change.{made, moved, wrote, cut}
use Rattle.disk_memory.specs.Record.{change_of}
use Rattle.disk_memory.proofs.Changes.{like_of}
use Rattle.disk_memory.proofs.again.redo.Goals as goal

pub returns-in_ok-create-in-Made : goal.returns-in_ok-create-in-Made
returns-in_ok-create-in-Made c = like_of _ _ _ _ (ap change_of c.in-Made.is ∙ ap made (sym c.as_str.ensures)) c.in_ok-create-in-Made.ensures.ok

pub returns-in-Wrote : goal.returns-in-Wrote
returns-in-Wrote c =
    on_ok_weaker c.lay.result
    (λ is. like_of _ _ _ _
    (ap change_of c.in-Wrote.is ∙ ap (λ (p : List ℕ). wrote p c.in-Wrote.at c.in-Wrote.bytes.items) (sym c.as_str-in-Wrote.ensures) ∙ ap (wrote c.as_str-in-Wrote.result.now c.in-Wrote.at) (sym c.deref.ensures.value))
    is)
    c.lay.ensures.ok

pub returns-in-Cut : goal.returns-in-Cut
returns-in-Cut c = like_of _ _ _ _ (ap change_of c.in-Cut.is ∙ ap (λ (p : List ℕ). cut p c.in-Cut.size) (sym c.as_str-in-Cut.ensures)) c.shorten.ensures
