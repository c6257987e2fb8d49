-- The numbers that an entry draws, and the spaces of the tables behind it.
use Rattle.std.specs.Prelude.{◌≡◌, ◌⊎◌, ◌<◌, ◌≤◌, ℕ, Bool, true, false, ◌||◌, List, [], ◌∷◌, Option, Some, None}
use Rattle.std.specs.List.{list_any}
use Rattle.std.specs.Option.{option_map}
use Rattle.std.proofs.Common.{sym, subst, refl, arith, inl, inr}
use Rattle.dd_errors.specs.Errors.{ErrorValue}
use Rattle.sql_ast.specs.declared.session.SessionState.{SessionState}
use Rattle.sql_ast.specs.declared.statement.Statement.{Statement}
use Rattle.dd_catalog.specs.Catalog.{Catalog, all_of}
use Rattle.dd_catalog.specs.Valid.{IsValid}
use Rattle.dd_catalog.specs.Walks.{Walk, Found, fine, refused, needs, run}
use Rattle.rules_outcome.specs.Choices.{After, Gone, NewSchema, FreshTable, KeptTable, NewView, KeptView, Change, Choice, Same, Changes, Lists, catalog_behind, makes_space, takes_space, draws, takes_number}
use Rattle.rules_valid.specs.Keeps.{HasSpace, MakesOneSpace}
use Rattle.rules_decide.specs.Outcome.{outcome}
use Rattle.rules_decide.proofs.Kept.{outcome_makes}
use Rattle.dd_engine.specs.declared.history.Answer.{Answer}
use Rattle.dd_engine.specs.declared.history.Answer.TheVariants.{Done, Rows, Error, Memory, NoSpaceId}
use Rattle.dd_engine.specs.Drawn.{behind, spaces_of}
use Rattle.dd_engine.specs.Engine.{AreBelow}
use Rattle.dd_engine.specs.History.{TakesSpaces, choice_found, done_of, space_in}

-- ## Numbers

one_draws : (after : After) (rest more : Bool) → (rest ≡ true → more ≡ true) → (makes_space after || rest) ≡ true → (takes_number after || more) ≡ true
one_draws Gone rest more go e = go e
one_draws NewSchema rest more go e = refl
one_draws (FreshTable parts) rest more go e = refl
one_draws (KeptTable space parts) rest more go e = go e
one_draws (NewView parts) rest more go e = refl
one_draws (KeptView parts) rest more go e = go e

changes_draw : (changes : List Change) → list_any (λ (c : Change). makes_space c.after) changes ≡ true → list_any (λ (c : Change). takes_number c.after) changes ≡ true
changes_draw [] e = e
changes_draw (c ∷ changes) e = one_draws c.after (list_any (λ (c : Change). makes_space c.after) changes) (list_any (λ (c : Change). takes_number c.after) changes) (changes_draw changes) e

-- what takes a tablespace draws a number
pub space_draws : (choice : Choice) → takes_space choice ≡ true → draws choice ≡ true
space_draws Same e = e
space_draws (Changes changes session) e = changes_draw changes e
space_draws (Lists listing) e = e

pub not_less : (drawn : Bool) (next : ℕ) → next ≤ behind drawn next
not_less false next = omega arith
not_less true next = omega arith

pub one_more : (drawn : Bool) (next : ℕ) → drawn ≡ true → next < behind drawn next
one_more true next e = omega arith
one_more false next e = cc

pub in_range : (drawn : Bool) (next : ℕ) → (drawn ≡ true → next < 4294967295) → next ≤ 4294967295 → behind drawn next ≤ 4294967295
in_range false next room least = least
in_range true next room least = omega (arith, room refl)

not_itself : (n : ℕ) → n < n → ⊥
not_itself n h = omega (arith, h)

-- the next number is new
pub taken : (cat : Catalog) (takes : Bool) (next : ℕ) → (takes ≡ true → next < 4294967295) → 1 ≤ next → AreBelow cat next → TakesSpaces cat takes (spaces_of takes next)
taken cat false next room least below = refl
taken cat true next room least below =
    (next, refl, record { least = least; greatest = omega (arith, room refl); new = λ name parts has. not_itself next (below.below name next parts has) })

-- the space taken is the next number
pub space_taken : (takes : Bool) (next new : ℕ) → (takes ≡ true → next < new) → takes ≡ true → space_in (spaces_of takes next) < new
space_taken true next new less e = less e
space_taken false next new less e = cc

-- ## Spaces

more_below : (cat : Catalog) (next new : ℕ) → AreBelow cat next → next ≤ new → AreBelow cat new
more_below cat next new below less = record { below = λ name space parts has. omega (arith, below.below name space parts has, less) }

held_below : (cat : Catalog) (choice : Choice) (held space next new : ℕ) → AreBelow cat next → next ≤ new → (takes_space choice ≡ true → space < new)
    → HasSpace cat held ⊎ ((takes_space choice ≡ true) × (held ≡ space)) → held < new
held_below cat choice held space next new below less room (inl old) = omega (arith, below.below old.name held old.parts old.has, less)
held_below cat choice held space next new below less room (inr taken) = subst (λ n. n < new) (sym taken.1) (room taken.0)

check_below : (cat : Catalog) (check : Walk ErrorValue Choice) (choice : Choice) (space next new : ℕ) → MakesOneSpace check → IsValid cat → run (all_of cat) check ≡ fine choice
    → AreBelow cat next → next ≤ new → (takes_space choice ≡ true → space < new) → AreBelow (catalog_behind space choice cat) new
check_below cat check choice space next new makes valid is below less room =
    record { below = λ name held parts has. held_below cat choice held space next new below less room (makes.made cat space choice valid is name held parts has) }

found_below : (cat : Catalog) (check : Walk ErrorValue Choice) (found : Found ErrorValue Choice) (answer : Answer) (space next new : ℕ) → MakesOneSpace check → IsValid cat → run (all_of cat) check ≡ found
    → AreBelow cat next → next ≤ new → (takes_space (done_of (choice_found found) answer) ≡ true → space < new) → AreBelow (catalog_behind space (done_of (choice_found found) answer) cat) new
found_below cat check (fine choice) Done space next new makes valid is below less room = check_below cat check choice space next new makes valid is below less room
found_below cat check (refused error) Done space next new makes valid is below less room = more_below cat next new below less
found_below cat check (needs key) Done space next new makes valid is below less room = more_below cat next new below less
found_below cat check found (Rows listing) space next new makes valid is below less room = more_below cat next new below less
found_below cat check found (Error error) space next new makes valid is below less room = more_below cat next new below less
found_below cat check found Memory space next new makes valid is below less room = more_below cat next new below less
found_below cat check found (NoSpaceId number) space next new makes valid is below less room = more_below cat next new below less

some_is : {A : Type 0} {x y : A} → ◌≡◌ {A = Option A} (Some x) (Some y) → x ≡ y
some_is e = cc

outcome_below : (cat : Catalog) (check : Option (Walk ErrorValue Choice)) (found : Found ErrorValue Choice) (answer : Answer) (space next new : ℕ)
    → ((one : Walk ErrorValue Choice) → check ≡ Some one → MakesOneSpace one) → IsValid cat → option_map (run (all_of cat)) check ≡ Some found
    → AreBelow cat next → next ≤ new → (takes_space (done_of (choice_found found) answer) ≡ true → space < new) → AreBelow (catalog_behind space (done_of (choice_found found) answer) cat) new
outcome_below cat None found answer space next new makes valid is below less room = cc
outcome_below cat (Some check) found answer space next new makes valid is below less room =
    found_below cat check found answer space next new (makes check refl) valid (some_is is) below less room

-- behind an entry each table's space is below the next number
pub spaces_below : (cat : Catalog) (session : SessionState) (statement : Statement) (found : Found ErrorValue Choice) (answer : Answer) (space next new : ℕ) → IsValid cat
    → option_map (run (all_of cat)) (outcome session statement) ≡ Some found → AreBelow cat next → next ≤ new → (takes_space (done_of (choice_found found) answer) ≡ true → space < new)
    → AreBelow (catalog_behind space (done_of (choice_found found) answer) cat) new
spaces_below cat session statement found answer space next new valid is below less room =
    outcome_below cat (outcome session statement) found answer space next new (outcome_makes session statement) valid is below less room
