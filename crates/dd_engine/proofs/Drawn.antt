-- Where the numbers suffice, no entry is told that none is left.
use Rattle.std.proofs.Common.{◌≡◌, ℕ, ◌<◌, ◌≤◌, ◌+◌, Bool, true, false, List, [], ◌∷◌, length, Option, Some, None, arith}
use Rattle.std.specs.List.{AllByRecursion}
use Rattle.dd_errors.specs.Errors.{ErrorValue}
use Rattle.sql_ast.specs.declared.session.SessionState.{SessionState}
use Rattle.dd_catalog.specs.Catalog.{Catalog}
use Rattle.dd_catalog.specs.Walks.{Found, fine, refused, needs}
use Rattle.rules_outcome.specs.Choices.{Choice, Same, Changes, Lists, draws}
use Rattle.rules_decide.specs.Outcome.{outcome_over}
use Rattle.dd_engine.specs.declared.history.Answer.{Answer}
use Rattle.dd_engine.specs.declared.history.Answer.TheVariants.{Done, Rows, Error, Memory, NoSpaceId}
use Rattle.dd_engine.specs.declared.history.Entry.{Entry}
use Rattle.dd_engine.specs.Drawn.{DrawsFrom, HadNumber, IsOutAt, behind}
use Rattle.dd_engine.specs.History.{Answers, StepByStep, catalog_after, effect, sessions_after}

-- it is said of the greatest number alone
told_greatest : (found : Option (Found ErrorValue Choice)) (told : ℕ) → Answers found (NoSpaceId told) → told ≡ 4294967295
told_greatest None told is = absurd is
told_greatest (Some (fine Same)) told is = absurd is
told_greatest (Some (fine (Changes changes session))) told is = is.1
told_greatest (Some (fine (Lists listing))) told is = absurd is
told_greatest (Some (refused error)) told is = absurd is
told_greatest (Some (needs key)) told is = absurd is

had_number : (found : Option (Found ErrorValue Choice)) (next : ℕ) (answer : Answer) → Answers found answer → IsOutAt next answer → next < 4294967295 → HadNumber answer
had_number found next Done is out less = tt
had_number found next (Rows listing) is out less = tt
had_number found next (Error error) is out less = tt
had_number found next Memory is out less = tt
had_number found next (NoSpaceId told) is out less =
    let greatest : told ≡ 4294967295 = told_greatest found told is in
    let same : told ≡ next = out in
    omega (arith, greatest, same, less)

one_at_most : (drawn : Bool) (next : ℕ) → behind drawn next ≤ next + 1
one_at_most false next = omega arith
one_at_most true next = omega arith

pub had_numbers : (cat : Catalog) (sessions : ℕ → SessionState) (next : ℕ) (history : List Entry) → StepByStep cat sessions history → DrawsFrom cat sessions next history
    → next + length history ≤ 4294967295 → AllByRecursion (λ e. HadNumber e.answer) history
had_numbers cat sessions next [] steps drawn less = tt
had_numbers cat sessions next (e ∷ history) steps drawn less =
    let more : behind (draws (effect cat sessions e)) next ≤ next + 1 = one_at_most (draws (effect cat sessions e)) next in (
      had_number (outcome_over cat (sessions e.session) e.statement) next e.answer steps.0.answers drawn.0.out (omega (arith, less)),
      had_numbers (catalog_after cat sessions e) (sessions_after cat sessions e) (behind (draws (effect cat sessions e)) next) history steps.1 drawn.1 (omega (arith, less, more)),
    )
