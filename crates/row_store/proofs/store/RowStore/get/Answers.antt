use Rattle.std.proofs.Common.{Some, None, sym, ap, ◌∙◌}
use Rattle.row_store.specs.Value.{StoreValue}
use Rattle.row_store.proofs.Kept.{as_kept}
use Rattle.row_store.proofs.store.RowStore.get.Goals.{in-Ok, in-Err}
use Rattle.row_store.proofs.store.RowStore.get.Goals as goal

pub returns-in_default-clause-got : goal.returns-in_default-clause-got
returns-in_default-clause-got g c =
    as_kept c.args.self.now.rows c.args.search.now c.key.result.now c.self.inside.rows.items c.deref.result.now None c.self.invariant (ap (λ (s : StoreValue). s.rows) (sym c.self.view_is)) c.key.ensures c.deref.ensures.value c.in_default.ensures

pub returns-clause-got : goal.returns-clause-got
returns-clause-got g c =
    let kept = as_kept c.args.self.now.rows c.args.search.now c.key.result.now c.self.inside.rows.items c.deref.result.now (Some c.in-Some.value.now) c.self.invariant (ap (λ (s : StoreValue). s.rows) (sym c.self.view_is)) c.key.ensures c.deref.ensures.value c.in-Some.ensures in
    elim c.match-of.branch [ in-Ok w ↦ rw w.result-is (kept ∙ ap Some (sym w.in-Ok.ensures)) | in-Err w ↦ rw w.result-is (tt, (c.in-Some.value.now, kept)) ]
