use Rattle.std.proofs.Common.{refl, ◌∙◌, ap}
use Rattle.dd_names.specs.Names.{fold}
use Rattle.rules_elements.proofs.Taken.{one_name_more}
use Rattle.rules_elements.proofs.taken_names.TakenNames.add.Goals as goal

pub returns : goal.returns
returns c indexes index named are =
    one_name_more c.args.self.now (record { folded = c.insert.new.self; tried = c.args.self.now.tried }) indexes index c.args.name.now c.in_ok-name.name named (c.in_ok-name.ensures ∙ ap fold c.as_str.ensures.text) refl c.in_ok-insert.ensures.updates.0 are
