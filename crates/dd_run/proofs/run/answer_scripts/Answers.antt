use Rattle.std.proofs.Common.{sym, ◌∙◌}
use Rattle.std.proofs.lemmas.Result.{on_ok_weaker}
use Rattle.dd_run.proofs.Endings.{only}
use Rattle.dd_run.proofs.Sessions.{all_answered, first_answered, history_of}
use Rattle.dd_run.proofs.run.answer_scripts.Goals as goal

pub returns-in-Some-clause-history : goal.returns-in-Some-clause-history
returns-in-Some-clause-history c =
    let script = c.in-Some.script in
    let is = (only c.args.scripts c.pop.new.self.items script c.requires (sym c.into_vec.ensures ∙ c.in-Some.ensures.items)).is in
    history_of c.args.scripts script is c.answer_script.result.history c.answer_script.ensures.said

pub returns-in-Some-clause-all : goal.returns-in-Some-clause-all
returns-in-Some-clause-all c =
    let script = c.in-Some.script in
    let is = (only c.args.scripts c.pop.new.self.items script c.requires (sym c.into_vec.ensures ∙ c.in-Some.ensures.items)).is in
    on_ok_weaker c.answer_script.result.names (λ told. all_answered c.args.scripts script is c.answer_script.result.history c.answer_script.ensures.said told) c.answer_script.ensures.all

pub returns-in-Some-clause-first : goal.returns-in-Some-clause-first
returns-in-Some-clause-first c =
    let script = c.in-Some.script in
    let is = (only c.args.scripts c.pop.new.self.items script c.requires (sym c.into_vec.ensures ∙ c.in-Some.ensures.items)).is in
    let some = c.answer_script.ensures.first in
    first_answered c.args.scripts script is c.answer_script.result.history c.answer_script.ensures.said some.0 some.1
