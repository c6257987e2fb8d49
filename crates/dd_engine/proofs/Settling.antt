-- What answers leave of a state.
use Rattle.std.specs.Prelude.{◌≡◌, ◌≢◌, ◌+◌, ℕ, Bool, true, false, ◌||◌, List, [], ◌∷◌, Option, Some, None, is_some, map, Result, Ok, Err, OnErr}
use Rattle.std.specs.List.{list_any}
use Rattle.std.specs.Option.{option_map}
use Rattle.std.proofs.Common.{sym, ap, subst, refl, arith}
use Rattle.dd_errors.specs.Errors.{ErrorValue}
use Rattle.sql_types.specs.declared.listing.Listing.{Listing}
use Rattle.sql_ast.specs.declared.statement.Statement.{Statement}
use Rattle.dd_catalog.specs.Catalog.{all_of}
use Rattle.dd_catalog.specs.Walks.{Walk, Found, fine, refused, needs, run}
use Rattle.dd_catalog.specs.WalkLaws.{IsSettled}
use Rattle.rules_outcome.specs.Choices.{Change, Choice, Same, Changes, Lists}
use Rattle.rules_outcome.specs.Decided.{change_of}
use Rattle.rules_outcome.specs.declared.decided.Edit.{Edit}
use Rattle.rules_decide.specs.Outcome.{outcome, outcome_over, is_decided}
use Rattle.rules_decide.proofs.Whole.{decided_has_check}
use Rattle.dd_engine.specs.declared.history.Answer.{Answer}
use Rattle.dd_engine.specs.declared.history.Answer.TheVariants.{Memory, Rows}
use Rattle.dd_engine.specs.declared.state.State.{State}
use Rattle.dd_engine.specs.Drawn.{IsOutAt}
use Rattle.dd_engine.specs.Listed.{answer_size, listing_size}
use Rattle.dd_engine.specs.Engine.{Leaves, Settles}
use Rattle.dd_engine.specs.History.{AnswersFound, choice_found, done_of}
use Rattle.dd_engine.proofs.Deciding.{whole_settled}

false_true : false ≢ true
false_true e = cc

-- where nothing is done the state stays
stays : (old : State) (room : ℕ) → Leaves old Same (record old { room = room }) []
stays old room = record { catalog = refl; session = refl; next = refl; room = λ e. absurd (false_true e); taken = refl }

pub nothing_done : (found : Found ErrorValue Choice) (old : State) (answer : Answer) → AnswersFound found answer → IsOutAt old.next answer → answer_size answer ≡ 0 → done_of (choice_found found) answer ≡ Same → Settles found old answer old []
nothing_done found old answer answers out size same = record { answers = answers; out = out; room = omega (arith, size); leaves = subst (λ (choice : Choice). Leaves old choice old []) (sym same) (stays old old.room) }

-- what is listed takes of the room
pub listing_done : (listing : Listing) (old : State) (room : ℕ) → listing_size listing + room ≡ old.room → Settles (fine (Lists listing)) old (Rows listing) (record old { room = room }) []
listing_done listing old room size = record { answers = refl; out = tt; room = size; leaves = stays old room }

-- for want of memory any outcome is answered so
pub memory_answers : (found : Found ErrorValue Choice) → IsSettled found → AnswersFound found Memory
memory_answers (fine Same) is = tt
memory_answers (fine (Changes changes session)) is = tt
memory_answers (fine (Lists listing)) is = tt
memory_answers (refused error) is = tt
memory_answers (needs key) is = absurd is

-- a statement that is decided has an outcome
pub record Outcome (old : State) (statement : Statement) : Type 0 where
  pub found : Found ErrorValue Choice
  pub is : outcome_over old.catalog old.session statement ≡ Some found
  pub settled : IsSettled found

pub outcome_there : (old : State) (statement : Statement) → is_decided statement ≡ true → Outcome old statement
outcome_there old statement is = on (outcome old.session statement) refl (decided_has_check old.session statement is)
  where
    on : (check : Option (Walk ErrorValue Choice)) → outcome old.session statement ≡ check → is_some check ≡ true → Outcome old statement
    on None here e = absurd (false_true e)
    on (Some check) here e =
        let found : Found ErrorValue Choice = run (all_of old.catalog) check in
        let there : outcome_over old.catalog old.session statement ≡ Some found = ap (option_map (run (all_of old.catalog))) here in
        record { found = found; is = there; settled = whole_settled old.catalog (outcome old.session statement) found there }

pub any_mapped : (test : Change → Bool) (edits : List Edit) → list_any (λ edit. test (change_of edit)) edits ≡ list_any test (map change_of edits)
any_mapped test [] = refl
any_mapped test (edit ∷ edits) = ap (λ rest. test (change_of edit) || rest) (any_mapped test edits)

-- ## What a failure says

pub lost_still : {X F : Type 0} {P Q : Type 0} (result : Result X F) → (P → Q) → OnErr result P → OnErr result Q
lost_still (Ok x) more lost = tt
lost_still (Err e) more lost = more lost

pub lost_anyway : {X F : Type 0} {P : Type 0} (result : Result X F) → P → OnErr result P
lost_anyway (Ok x) is = tt
lost_anyway (Err e) is = is
