use Rattle.std.proofs.Common.{◌<◌, length, refl, sym, ap, subst, ◌∙◌, None}
use Rattle.row_store.specs.Entries.{Entries}
use Rattle.row_store.specs.Place.{last_key}
use Rattle.row_store.proofs.Rest.{gives, ends, left_of_rows, left_of_piece}
use Rattle.row_store.proofs.giving.next_rows.Goals as goal

pub returns-in-Ok-Some : goal.returns-in-Ok-Some
returns-in-Ok-Some c =
    gives c.args.scan.now c.move_to.new.self c.args.rows.now c.in-Ok.piece.items c.in-Ok-Some.key c.requires c.in-Ok.ensures.piece
    (sym (sym c.in-Ok-Some.field-0-is ∙ c.in-Ok-Some.ensures.key ∙ ap (last_key None) c.deref.ensures.value)) c.move_to.ensures

pub returns-in-Ok-None : goal.returns-in-Ok-None
returns-in-Ok-None c = (
  ends c.args.scan.now c.args.rows.now c.in-Ok.piece.items c.requires c.in-Ok.ensures.piece
      (sym (sym c.in-Ok-None.field-0-is ∙ c.in-Ok-None.ensures.key ∙ ap (last_key None) c.deref.ensures.value)),
  refl,
)

pub returns-in_default : goal.returns-in_default
returns-in_default c = (tt, refl, left_of_rows c.args.scan.now c.args.rows.now c.requires c.in_default.ensures.wanted)

pub returns-in-Err : goal.returns-in-Err
returns-in-Err c =
    (tt, refl, left_of_piece c.args.scan.now c.args.rows.now c.in-Ok.piece.items c.requires c.in-Ok.ensures.piece (subst (λ (p : Entries). 0 < length p) c.deref.ensures.value c.in-Err.ensures.wanted))
