use Rattle.std.proofs.Common.{ap, ◌∙◌}
use Rattle.row_journal.specs.Value.{JournalValue}
use Rattle.row_journal.proofs.Steps.{gate_there}
use Rattle.row_journal.proofs.journal.Journal.append.Goals as goal

pub append_at-appended-requires-clause-room : goal.append_at-appended-requires-clause-room
append_at-appended-requires-clause-room g c κs within =
    let is = c.self.view_is in
    gate_there _ c.args.self.now c.as_str.result.now c.self.inside.end (c.as_str.ensures ∙ ap (λ (j : JournalValue). j.path) is) (ap (λ (j : JournalValue). j.end) is) c.requires.room
