use Rattle.rules_outcome_examples.proofs.Judged.{dropped_tables_computed, dropped_schemas_computed, renamed_computed, not_renamed_computed, liked_computed, emptied_computed, shown_computed}
use Rattle.rules_outcome_examples.proofs.outcomes.outcomes_are_judged.Goals as goal

pub returns-clause-dropped_tables : goal.returns-clause-dropped_tables
returns-clause-dropped_tables c = dropped_tables_computed

pub returns-clause-dropped_schemas : goal.returns-clause-dropped_schemas
returns-clause-dropped_schemas c = dropped_schemas_computed

pub returns-clause-renamed : goal.returns-clause-renamed
returns-clause-renamed c = renamed_computed

pub returns-clause-not_renamed : goal.returns-clause-not_renamed
returns-clause-not_renamed c = not_renamed_computed

pub returns-clause-shown : goal.returns-clause-shown
returns-clause-shown c = shown_computed

pub returns-clause-liked : goal.returns-clause-liked
returns-clause-liked c = liked_computed

pub returns-clause-emptied : goal.returns-clause-emptied
returns-clause-emptied c = emptied_computed
