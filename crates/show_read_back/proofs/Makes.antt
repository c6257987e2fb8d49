-- The text of a table makes the table again, as a statement of any kind.
use Rattle.std.specs.Prelude.{Some}
use Rattle.std.proofs.Common.{ap}
use Rattle.dd_errors.specs.Errors.{ErrorValue}
use Rattle.dd_catalog.specs.Walks.{Found}
use Rattle.rules_outcome.specs.Choices.{Choice}
use Rattle.show_text_laws.specs.Said.{statement_said}
use Rattle.show_read_back.specs.Laws.{ReadsBack, EachReadsBack}
use Rattle.show_read_back.specs.ReadBack.{EachTextMakes}

pub text_makes : EachReadsBack → EachTextMakes
text_makes each cat name space parts look session valid has gone current =
    let back : ReadsBack look session name parts = each cat name space parts look session valid has gone current in
    record { statement = statement_said parts; reads = back.reads; makes = ap (λ (found : Found ErrorValue Choice). Some found) back.makes }
