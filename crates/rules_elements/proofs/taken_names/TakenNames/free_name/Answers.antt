use Rattle.std.proofs.Common.{ℕ, List, refl, ◌∙◌, ap}
use Rattle.rules_elements.specs.Keys.{numbered}
use Rattle.rules_elements.proofs.Taken.{one_number_more}
use Rattle.rules_elements.proofs.taken_names.TakenNames.free_name.Goals as goal

pub returns : goal.returns
returns c = record {
  free = c.in_ok-numbered.ensures ∙ ap (λ (b : List ℕ). numbered b c.in_ok-number.number) c.as_str.ensures.text ∙ c.in_ok-number.ensures.free;
  names = one_number_more c.args.self.now (record { folded = c.args.self.now.folded; tried = c.insert.new.self }) c.args.indexes.now c.args.base.now c.in_ok-copy.field-0 c.in_ok-number.number c.in_ok-copy.ensures refl c.in_ok-insert.ensures.updates.0 c.in_ok-number.ensures.tried c.requires;
}
