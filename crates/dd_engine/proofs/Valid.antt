-- A legal history whose statements say names leaves a valid catalog valid.
use Rattle.std.specs.Prelude.{◌≡◌, ◌==◌, ℕ, Bool, true, false, List, [], ◌∷◌, Option, Some, None, if◌then◌else◌}
use Rattle.std.specs.Option.{option_map}
use Rattle.std.proofs.Common.{sym, ap, subst, refl, arith}
use Rattle.std.proofs.lemmas.Bool.Decides.{nat_tests}
use Rattle.dd_errors.specs.Errors.{ErrorValue}
use Rattle.sql_ast.specs.Names.{says_names, session_is_named}
use Rattle.sql_ast.specs.declared.session.SessionState.{SessionState}
use Rattle.dd_catalog.specs.Catalog.{Catalog, all_of}
use Rattle.dd_catalog.specs.Valid.{IsValid}
use Rattle.dd_catalog.specs.Walks.{Walk, Found, fine, refused, needs, run}
use Rattle.rules_outcome.specs.Choices.{Choice, Same, catalog_behind, session_behind, takes_space, IsNewSpace}
use Rattle.rules_valid.specs.Keeps.{KeepsNamed, KeepsValid}
use Rattle.rules_decide.specs.Outcome.{outcome}
use Rattle.rules_decide.proofs.Kept.{outcome_kept}
use Rattle.rules_decide.proofs.Named.{outcome_named}
use Rattle.dd_engine.specs.declared.history.Answer.{Answer}
use Rattle.dd_engine.specs.declared.history.Answer.TheVariants.{Done, Rows, Error, Memory, NoSpaceId}
use Rattle.dd_engine.specs.declared.history.Entry.{Entry}
use Rattle.dd_engine.specs.History.{AllSayNames, choice_found, choice_in, done_of, TakesSpaces, space_in, StepByStep, catalog_after, sessions_after, catalog_left, effect}

-- the number that an entry takes is new where it takes one
number_is_new : (cat : Catalog) (takes : Bool) (spaces : List ℕ) → TakesSpaces cat takes spaces → takes ≡ true → IsNewSpace cat (space_in spaces)
number_is_new cat true spaces taken e = subst (λ n. IsNewSpace cat n) (sym (ap space_in taken.1)) taken.2
number_is_new cat false spaces taken e = cc

-- where nothing changes, whatever is answered
same_stays : (cat : Catalog) (space : ℕ) (answer : Answer) → IsValid cat → IsValid (catalog_behind space (done_of Same answer) cat)
same_stays cat space Done valid = valid
same_stays cat space (Rows listing) valid = valid
same_stays cat space (Error error) valid = valid
same_stays cat space Memory valid = valid
same_stays cat space (NoSpaceId next) valid = valid

choice_keeps : (cat : Catalog) (spaces : List ℕ) (check : Walk ErrorValue Choice) (choice : Choice) (answer : Answer) → KeepsValid check → IsValid cat → run (all_of cat) check ≡ fine choice
    → TakesSpaces cat (takes_space (done_of choice answer)) spaces → IsValid (catalog_behind (space_in spaces) (done_of choice answer) cat)
choice_keeps cat spaces check choice Done kept valid is taken = kept.keeps cat (space_in spaces) choice valid (number_is_new cat (takes_space choice) spaces taken) is
choice_keeps cat spaces check choice (Rows listing) kept valid is taken = valid
choice_keeps cat spaces check choice (Error error) kept valid is taken = valid
choice_keeps cat spaces check choice Memory kept valid is taken = valid
choice_keeps cat spaces check choice (NoSpaceId next) kept valid is taken = valid

check_keeps : (cat : Catalog) (spaces : List ℕ) (check : Walk ErrorValue Choice) (answer : Answer) → KeepsValid check → IsValid cat
    → TakesSpaces cat (takes_space (done_of (choice_found (run (all_of cat) check)) answer)) spaces → IsValid (catalog_behind (space_in spaces) (done_of (choice_found (run (all_of cat) check)) answer) cat)
check_keeps cat spaces check answer kept valid taken = on (run (all_of cat) check) (λ choice is. choice_keeps cat spaces check choice answer kept valid is) taken
  where
    on : (found : Found ErrorValue Choice)
        → ((choice : Choice) → found ≡ fine choice → TakesSpaces cat (takes_space (done_of choice answer)) spaces → IsValid (catalog_behind (space_in spaces) (done_of choice answer) cat))
        → TakesSpaces cat (takes_space (done_of (choice_found found) answer)) spaces → IsValid (catalog_behind (space_in spaces) (done_of (choice_found found) answer) cat)
    on (fine choice) each taken = each choice (λ i. fine choice) taken
    on (refused error) each taken = same_stays cat (space_in spaces) answer valid
    on (needs key) each taken = same_stays cat (space_in spaces) answer valid

outcome_keeps : (cat : Catalog) (spaces : List ℕ) (found : Option (Walk ErrorValue Choice)) (answer : Answer) → ((check : Walk ErrorValue Choice) → found ≡ Some check → KeepsValid check) → IsValid cat
    → TakesSpaces cat (takes_space (done_of (choice_in (option_map (run (all_of cat)) found)) answer)) spaces
    → IsValid (catalog_behind (space_in spaces) (done_of (choice_in (option_map (run (all_of cat)) found)) answer) cat)
outcome_keeps cat spaces None answer kept valid taken = same_stays cat (space_in spaces) answer valid
outcome_keeps cat spaces (Some check) answer kept valid taken = check_keeps cat spaces check answer (kept check (λ i. Some check)) valid taken

-- ## Names of sessions

same_named : (session : SessionState) (answer : Answer) → session_is_named session ≡ true → session_is_named (session_behind (done_of Same answer) session) ≡ true
same_named session Done named = named
same_named session (Rows listing) named = named
same_named session (Error error) named = named
same_named session Memory named = named
same_named session (NoSpaceId next) named = named

choice_named : (session : SessionState) (choice : Choice) (answer : Answer) → session_is_named session ≡ true → session_is_named (session_behind choice session) ≡ true
    → session_is_named (session_behind (done_of choice answer) session) ≡ true
choice_named session choice Done named behind = behind
choice_named session choice (Rows listing) named behind = named
choice_named session choice (Error error) named behind = named
choice_named session choice Memory named behind = named
choice_named session choice (NoSpaceId next) named behind = named

check_named : (session : SessionState) (cat : Catalog) (check : Walk ErrorValue Choice) (answer : Answer) → KeepsNamed session check → session_is_named session ≡ true
    → session_is_named (session_behind (done_of (choice_found (run (all_of cat) check)) answer) session) ≡ true
check_named session cat check answer kept named = on (run (all_of cat) check) (λ choice is. kept.named (all_of cat) choice named is)
  where
    on : (found : Found ErrorValue Choice) → ((choice : Choice) → found ≡ fine choice → session_is_named (session_behind choice session) ≡ true)
        → session_is_named (session_behind (done_of (choice_found found) answer) session) ≡ true
    on (fine choice) each = choice_named session choice answer named (each choice (λ i. fine choice))
    on (refused error) each = same_named session answer named
    on (needs key) each = same_named session answer named

outcome_named_behind : (session : SessionState) (cat : Catalog) (found : Option (Walk ErrorValue Choice)) (answer : Answer)
    → ((check : Walk ErrorValue Choice) → found ≡ Some check → KeepsNamed session check) → session_is_named session ≡ true
    → session_is_named (session_behind (done_of (choice_in (option_map (run (all_of cat)) found)) answer) session) ≡ true
outcome_named_behind session cat None answer kept named = same_named session answer named
outcome_named_behind session cat (Some check) answer kept named = check_named session cat check answer (kept check (λ i. Some check)) named

abbrev AreNamed : (ℕ → SessionState) → Type 0
AreNamed sessions = (s : ℕ) → session_is_named (sessions s) ≡ true

session_named : (test : Bool) (behind session : SessionState) → (test ≡ true → session_is_named behind ≡ true) → session_is_named session ≡ true → session_is_named (if test then behind else session) ≡ true
session_named true behind session own other = own refl
session_named false behind session own other = other

named_after : (cat : Catalog) (sessions : ℕ → SessionState) (e : Entry) → says_names e.statement ≡ true → AreNamed sessions → AreNamed (sessions_after cat sessions e)
named_after cat sessions e says named s =
    let own : session_is_named (session_behind (effect cat sessions e) (sessions e.session)) ≡ true =
    outcome_named_behind (sessions e.session) cat (outcome (sessions e.session) e.statement) e.answer (outcome_named (sessions e.session) e.statement says) (named e.session) in
    session_named (s == e.session) (session_behind (effect cat sessions e) (sessions s)) (sessions s)
    (λ test. let same : s ≡ e.session = grind (arith, nat_tests, test) in subst (λ (n : ℕ). session_is_named (session_behind (effect cat sessions e) (sessions n)) ≡ true) (sym same) own) (named s)

pub steps_keep : (cat : Catalog) (sessions : ℕ → SessionState) (history : List Entry) → IsValid cat → AreNamed sessions → AllSayNames history → StepByStep cat sessions history → IsValid (catalog_left cat sessions history)
steps_keep cat sessions [] valid named says steps = valid
steps_keep cat sessions (e ∷ history) valid named says steps =
    steps_keep (catalog_after cat sessions e) (sessions_after cat sessions e) history
    (outcome_keeps cat e.spaces (outcome (sessions e.session) e.statement) e.answer (λ check is. outcome_kept (sessions e.session) e.statement check says.0 (named e.session) is) valid steps.0.spaces)
    (named_after cat sessions e says.0 named) says.1 steps.1
