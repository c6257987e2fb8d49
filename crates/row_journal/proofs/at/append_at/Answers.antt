use Rattle.std.proofs.Common.{inl, sym, ◌∙◌, ◌+◌, length, arith}
use Rattle.disk_trait.specs.Carried.{Wrote}
use Rattle.disk_trait.proofs.Acts.{then_by}
use Rattle.row_journal.specs.Append.{Keeps, MayAppend}
use Rattle.row_journal.proofs.Steps.{second_opens, second_reads, opened_after, has_all, reads_all, keeps_may, room_stays, on_ok}
use Rattle.row_journal.proofs.at.append_at.Goals as goal

pub returns-then-is_err-2-clause-reads : goal.returns-then-is_err-2-clause-reads
returns-then-is_err-2-clause-reads g c = λ at batches batch is left.
    let p = c.args.path.now in
    let staged = on_ok _ c.stage.ensures.staged (sym c.is_err.ensures.value ∙ c.if-is_err.false) at batches batch is left in
    second_reads p at c.args.end batches batch _ _ _ staged (c.stage.ensures.reads at batches left) c.write_through.ensures.turns

pub returns-then-is_err-2-clause-any_moment : goal.returns-then-is_err-2-clause-any_moment
returns-then-is_err-2-clause-any_moment g c = λ at batches batch is left settled.
    let p = c.args.path.now in
    let staged = on_ok _ c.stage.ensures.staged (sym c.is_err.ensures.value ∙ c.if-is_err.false) at batches batch is left in
    let settled_there = on_ok _ c.stage.ensures.settled (sym c.is_err.ensures.value ∙ c.if-is_err.false) in
    then_by (Keeps p at batches) (Wrote p (inl (c.args.end, 1))) (MayAppend p at batches batch) _ _ _ _ _ _
    (λ x y from it. keeps_may p at c.args.end batches batch x y it) (λ x y z from it mid step. second_opens p at c.args.end batches batch _ staged settled_there x y z it mid step)
    (c.stage.ensures.keeps at batches left settled) c.write_through.ensures.carries

pub returns-clause-appended : goal.returns-clause-appended
returns-clause-appended g c = λ at batches batch is done left.
    let staged = on_ok _ c.stage.ensures.staged (sym c.is_err.ensures.value ∙ c.if-is_err.false) at batches batch is left in
    let reads = on_ok _ c.write_through.ensures.reads (sym c.is_err-2.ensures.value ∙ c.if-is_err-2.false) in
    opened_after c.args.path.now at c.args.end batches batch _ _ c.args.framed.now is staged reads

pub returns-clause-reads : goal.returns-clause-reads
returns-clause-reads g c = λ at batches batch is left.
    let p = c.args.path.now in
    let end = c.args.end in
    let staged = on_ok _ c.stage.ensures.staged (sym c.is_err.ensures.value ∙ c.if-is_err.false) at batches batch is left in
    let reads = on_ok _ c.write_through.ensures.reads (sym c.is_err-2.ensures.value ∙ c.if-is_err-2.false) in
    let all = opened_after p at end batches batch _ _ c.args.framed.now is staged reads in
    let may = second_reads p at end batches batch _ _ _ staged (c.stage.ensures.reads at batches left) c.write_through.ensures.turns in
    reads_all p at end batches batch _ _ _ all may

pub returns-clause-any_moment : goal.returns-clause-any_moment
returns-clause-any_moment g c = λ at batches batch is left settled.
    let p = c.args.path.now in
    let staged = on_ok _ c.stage.ensures.staged (sym c.is_err.ensures.value ∙ c.if-is_err.false) at batches batch is left in
    let settled_there = on_ok _ c.stage.ensures.settled (sym c.is_err.ensures.value ∙ c.if-is_err.false) in
    then_by (Keeps p at batches) (Wrote p (inl (c.args.end, 1))) (MayAppend p at batches batch) _ _ _ _ _ _
    (λ x y from it. keeps_may p at c.args.end batches batch x y it) (λ x y z from it mid step. second_opens p at c.args.end batches batch _ staged settled_there x y z it mid step)
    (c.stage.ensures.keeps at batches left settled) c.write_through.ensures.carries

pub returns-clause-done : goal.returns-clause-done
returns-clause-done g c = λ at batches batch is done left settled image now.
    let p = c.args.path.now in
    let end = c.args.end in
    let staged = on_ok _ c.stage.ensures.staged (sym c.is_err.ensures.value ∙ c.if-is_err.false) at batches batch is left in
    let settled_there = on_ok _ c.stage.ensures.settled (sym c.is_err.ensures.value ∙ c.if-is_err.false) in
    let each =
    then_by (Keeps p at batches) (Wrote p (inl (end, 1))) (MayAppend p at batches batch) _ _ _ _ _ _
    (λ x y from it. keeps_may p at end batches batch x y it) (λ x y z from it mid step. second_opens p at end batches batch _ staged settled_there x y z it mid step)
    (c.stage.ensures.keeps at batches left settled) c.write_through.ensures.carries in
    let reads = on_ok _ c.write_through.ensures.reads (sym c.is_err-2.ensures.value ∙ c.if-is_err-2.false) in
    let all = opened_after p at end batches batch _ _ c.args.framed.now is staged reads in
    let settled_again = on_ok _ c.write_through.ensures.settled (sym c.is_err-2.ensures.value ∙ c.if-is_err-2.false) in
    let from = each.images image now in
    (from.0, from.1, has_all p at end batches batch _ _ all settled_again from.0 image now from.2)

pub returns-clause-room : goal.returns-clause-room
returns-clause-room g c = λ done.
    let room = on_ok _ c.stage.ensures.room (sym c.is_err.ensures.value ∙ c.if-is_err.false) in
    let reads = on_ok _ c.write_through.ensures.reads (sym c.is_err-2.ensures.value ∙ c.if-is_err-2.false) in
    room_stays c.args.path.now _ c.args.end (c.args.end + length c.args.framed.now) _ _ (omega arith) room reads
