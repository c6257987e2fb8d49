use Rattle.std.proofs.Common.{inl, length}
use Rattle.disk_trait.specs.Carried.{Off, Wrote}
use Rattle.disk_trait.proofs.Acts.{weaken}
use Rattle.row_journal.proofs.Steps.{on_ok_then}
use Rattle.row_store.proofs.Made.{room_at_front, is_written, wrote_off}
use Rattle.row_store.proofs.making.fill.Goals as goal

pub write_through-requires : goal.write_through-requires
write_through-requires g c = (c.type_bounds.send-D, room_at_front (g.D.Disk.story c.args.disk.now) c.args.path.now c.requires)

pub returns-clause-reads : goal.returns-clause-reads
returns-clause-reads g c = on_ok_then c.write_through.result (λ turns. is_written _ _ c.args.path.now c.args.bytes.now c.requires turns) c.write_through.ensures.reads

pub returns-clause-off : goal.returns-clause-off
returns-clause-off g c = wrote_off _ _ c.args.path.now (inl (0, length c.args.bytes.now)) c.write_through.ensures.turns

pub returns-clause-carries : goal.returns-clause-carries
returns-clause-carries g c = weaken (Wrote c.args.path.now (inl (0, length c.args.bytes.now))) (Off c.args.path.now) _ _ _ _ (λ d e from step. step.off) c.write_through.ensures.carries
