use Rattle.std.proofs.Common.{◌||◌, sym, ◌∙◌, ap}
use Rattle.dd_names.specs.Names.{same}
use Rattle.dd_definitions.specs.Indexes.{primary_name}
use Rattle.rules_elements.proofs.taken_names.TakenNames.is_taken.Goals as goal

pub returns-then-has : goal.returns-then-has
returns-then-has c indexes are = c.if-has.true ∙ ap (λ b. b || same c.args.name.now primary_name) (sym c.if-has.true ∙ c.in_ok-has.ensures indexes are)

pub returns-else-has : goal.returns-else-has
returns-else-has c indexes are = c.is_primary_name.ensures ∙ ap (λ b. b || same c.args.name.now primary_name) (sym c.if-has.false ∙ c.in_ok-has.ensures indexes are)
