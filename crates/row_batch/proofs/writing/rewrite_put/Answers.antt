use Rattle.std.proofs.Common.{length, ap, arith}
use Rattle.row_batch.proofs.Framing.{operations_in_frame, spot_within, spot_rewritten, place_within}
use Rattle.row_batch.proofs.writing.rewrite_put.Goals as goal

pub size_before-at-requires-clause-within : goal.size_before-at-requires-clause-within
size_before-at-requires-clause-within c = omega (arith, place_within c.args.operations.now c.args.place c.args.key.now c.args.value.now c.requires.puts)

pub size_before-at-requires-clause-room : goal.size_before-at-requires-clause-room
size_before-at-requires-clause-room c = omega (arith, operations_in_frame c.args.operations.now, ap length c.requires.framed, c.requires.room)

pub overflow_add-at : goal.overflow_add-at
overflow_add-at c = omega (arith, spot_within c.args.operations.now c.args.place c.args.key.now c.args.value.now c.args.bytes.now c.requires.framed c.requires.puts, c.size_before-at.ensures, c.requires.room)

pub overwrite-requires : goal.overwrite-requires
overwrite-requires c = omega (arith, spot_within c.args.operations.now c.args.place c.args.key.now c.args.value.now c.args.bytes.now c.requires.framed c.requires.puts, c.size_before-at.ensures)

pub overflow_add-at-2 : goal.overflow_add-at-2
overflow_add-at-2 c = omega (arith, spot_within c.args.operations.now c.args.place c.args.key.now c.args.value.now c.args.bytes.now c.requires.framed c.requires.puts, c.size_before-at.ensures, c.requires.room)

pub overflow_add-at-3 : goal.overflow_add-at-3
overflow_add-at-3 c = omega (arith, spot_within c.args.operations.now c.args.place c.args.key.now c.args.value.now c.args.bytes.now c.requires.framed c.requires.puts, c.size_before-at.ensures, c.requires.room)

pub overwrite-requires-2 : goal.overwrite-requires-2
overwrite-requires-2 c = omega (arith, spot_within c.args.operations.now c.args.place c.args.key.now c.args.value.now c.args.bytes.now c.requires.framed c.requires.puts, c.size_before-at.ensures, c.overwrite.auto.bytes)

pub returns : goal.returns
returns c = spot_rewritten c.args.operations.now c.args.place c.args.key.now c.args.value.now c.args.bytes.now c.overwrite.new.bytes c.overwrite-2.new.bytes c.size_before-at.result c.requires.framed c.requires.puts c.size_before-at.ensures c.overwrite.ensures c.overwrite-2.ensures
