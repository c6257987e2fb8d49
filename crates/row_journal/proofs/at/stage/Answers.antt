use Rattle.std.proofs.Common.{◌≡◌, inl, ℕ, ◌+◌, List, length, subst, arith}
use Rattle.disk_trait.specs.Change.{wrote, reads_after}
use Rattle.disk_trait.specs.Carried.{Wrote, Turns}
use Rattle.disk_trait.proofs.Acts.{weaken}
use Rattle.row_journal.specs.Append.{Keeps}
use Rattle.row_journal.proofs.Steps.{first_keeps, first_reads, staged_after, at_place, at_place_reads, some_bytes, room_behind, is_sized, on_ok_by, on_ok_then}
use Rattle.row_journal.proofs.at.stage.Goals as goal

pub returns-clause-keeps : goal.returns-clause-keeps
returns-clause-keeps g c = λ at batches left settled.
    let p = c.args.path.now in
    let some = some_bytes c.args.framed.now c.requires.framed.0 c.requires.framed.1 in
    let first = at_place p c.args.end _ (length c.args.framed.now) _ _ c.saturating_add-place.ensures some c.write_through.ensures.past _ _ c.write_through.ensures.carries in
    weaken (Wrote p (inl (c.args.end + 1, length c.args.framed.now))) (Keeps p at batches) _ _ _ _ (first_keeps p at c.args.end batches _ (length c.args.framed.now) left settled) first

pub returns-clause-reads : goal.returns-clause-reads
returns-clause-reads g c = λ at batches left.
    let p = c.args.path.now in
    let some = some_bytes c.args.framed.now c.requires.framed.0 c.requires.framed.1 in
    let first = at_place_reads p c.args.end _ (length c.args.framed.now) _ _ c.saturating_add-place.ensures some c.write_through.ensures.past c.write_through.ensures.turns in
    first_reads p at c.args.end batches _ _ (length c.args.framed.now) left first

pub returns-clause-staged : goal.returns-clause-staged
returns-clause-staged g c =
    let p = c.args.path.now in
    let framed = c.args.framed.now in
    let some = some_bytes framed c.requires.framed.0 c.requires.framed.1 in
    on_ok_by c.write_through.result
    (λ within reads at batches batch is left.
    let place : c.saturating_add-place.result ≡ c.args.end + 1 = omega (arith, c.saturating_add-place.ensures, within, some) in
    let reads_there = subst (λ (k : ℕ). Turns (g.D.Disk.story c.args.disk.now) (g.D.Disk.story c.write_through.new.disk) (λ old new. (q : List ℕ) → new q ≡ reads_after (wrote p k framed) old q)) place reads in
    staged_after p at c.args.end batches batch _ _ framed (is_sized framed batch is (omega (arith, within))) is left reads_there)
    c.write_through.ensures.within c.write_through.ensures.reads

pub returns-clause-within : goal.returns-clause-within
returns-clause-within g c =
    let some = some_bytes c.args.framed.now c.requires.framed.0 c.requires.framed.1 in
    on_ok_then c.write_through.result (λ within. omega (arith, c.saturating_add-place.ensures, within, some)) c.write_through.ensures.within

pub returns-clause-room : goal.returns-clause-room
returns-clause-room g c =
    let framed = c.args.framed.now in
    let some = some_bytes framed c.requires.framed.0 c.requires.framed.1 in
    on_ok_by c.write_through.result
    (λ within reads.
    let place : c.saturating_add-place.result ≡ c.args.end + 1 = omega (arith, c.saturating_add-place.ensures, within, some) in
    room_behind c.args.path.now framed c.args.end _ _ _ place c.requires.room reads)
    c.write_through.ensures.within c.write_through.ensures.reads
