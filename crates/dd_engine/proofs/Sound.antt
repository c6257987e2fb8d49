-- A sound dictionary stays so by one entry more.
use Rattle.std.proofs.Common.{◌≡◌, ℕ, ◌==◌, ◌<◌, ◌≤◌, ◌+◌, true, List, [], ◌∷◌, ◌++◌, length, refl, ap, sym, ◌∙◌, subst, if◌then◌else◌, arith}
use Rattle.std.proofs.lemmas.Bool.{true≢false}
use Rattle.std.proofs.lemmas.List.Sums.{sum_by_push}
use Rattle.std.specs.Prelude.{Option, Some, None, is_some}
use Rattle.std.specs.FinMap as finite_map
use Rattle.dd_names.specs.declared.object_name.ObjName.{ObjName}
use Rattle.dd_errors.specs.Errors.{ErrorValue}
use Rattle.sql_ast.specs.Names.{says_names}
use Rattle.sql_ast.specs.declared.session.SessionState.{SessionState}
use Rattle.dd_catalog.specs.Catalog.{Catalog, Placed, Table, empty_catalog, object_cmp}
use Rattle.dd_catalog.specs.Valid.{Has, IsValid}
use Rattle.dd_catalog.specs.Walks.{Found}
use Rattle.rules_outcome.specs.Choices.{Choice, catalog_behind, session_behind, takes_space, draws}
use Rattle.rules_decide.specs.Outcome.{outcome_over}
use Rattle.rules_valid.proofs.Readings.{empty_valid}
use Rattle.dd_engine.specs.declared.history.Entry.{Entry}
use Rattle.dd_engine.specs.declared.state.State.{State}
use Rattle.dd_engine.specs.Catalog.{new_session}
use Rattle.dd_engine.specs.Drawn.{DrawsNext, behind, next_left, spaces_of}
use Rattle.dd_engine.specs.Engine.{Answered, AreBelow, IsPlain, IsPlainHistory, IsSound, Stands, Steps}
use Rattle.dd_engine.specs.Listed.{answer_size, entry_size, listed_size}
use Rattle.dd_engine.specs.History.{Answers, choice_found, choice_in, done_of, TakesSpaces, space_in, effect, Step, LegalHistory, after_all, sessions_left}
use Rattle.dd_engine.proofs.Numbers.{space_draws, not_less, one_more, in_range, taken, space_taken, spaces_below}
use Rattle.dd_engine.proofs.Steps.{StepByStep-push, catalog_left-push, sessions_left-push, next_left-push, ArePlainFrom-push, AllSayNames-push, DrawsFrom-push}
use Rattle.dd_engine.proofs.Valid.{steps_keep}

-- what is done
abbrev done_by : Found ErrorValue Choice → Entry → Choice
done_by found e = done_of (choice_found found) e.answer

-- what one more entry is
pub record IsNext (old : State) (history : List Entry) (e : Entry) (new : State) : Type 0 where
  pub plain : IsPlain (length history) e
  pub named : says_names e.statement ≡ true
  pub answered : Answered old e.statement e.answer new e.spaces

-- the effect of the entry behind the history
record IsEffect (history : List Entry) (e : Entry) (found : Found ErrorValue Choice) : Type 0 where
  pub outcome : outcome_over (after_all empty_catalog history) (sessions_left empty_catalog new_session history e.session) e.statement ≡ Some found
  pub does : effect (after_all empty_catalog history) (sessions_left empty_catalog new_session history) e ≡ done_by found e

effect_is : (old new : State) (history : List Entry) (e : Entry) → Stands history old → (n : IsNext old history e new) → IsEffect history e n.answered.found
effect_is old new history e stands n =
    let cat = after_all empty_catalog history in
    let sessions = sessions_left empty_catalog new_session history in
    let is_ses : sessions e.session ≡ old.session = ap sessions n.plain.session ∙ stands.session in
    let here : outcome_over cat (sessions e.session) e.statement ≡ Some n.answered.found = (λ i. outcome_over (stands.catalog i) (is_ses i) e.statement) ∙ n.answered.is in
    record { outcome = here; does = ap (λ o. done_of (choice_in o) e.answer) here }

-- the entry has its numbers
numbers_are : (old new : State) (history : List Entry) (e : Entry) → Stands history old → (n : IsNext old history e new)
    → TakesSpaces (after_all empty_catalog history) (takes_space (done_by n.answered.found e)) e.spaces
numbers_are old new history e stands n =
    let leaves = n.answered.settles.leaves in
    let choice : Choice = done_by n.answered.found e in
    let here : TakesSpaces old.catalog (takes_space choice) (spaces_of (takes_space choice) old.next) =
    taken old.catalog (takes_space choice) old.next (λ takes. leaves.room (space_draws choice takes)) stands.least stands.spaces in
    let with_spaces : TakesSpaces old.catalog (takes_space choice) e.spaces = subst (λ (spaces : List ℕ). TakesSpaces old.catalog (takes_space choice) spaces) (sym leaves.taken) here in
    subst (λ (cat : Catalog). TakesSpaces cat (takes_space choice) e.spaces) (sym stands.catalog) with_spaces

is_step : (old new : State) (history : List Entry) (e : Entry) → Stands history old → (n : IsNext old history e new)
    → Step (after_all empty_catalog history) (sessions_left empty_catalog new_session history) e
is_step old new history e stands n =
    let is : IsEffect history e n.answered.found = effect_is old new history e stands n in
    record {
      answers = subst (λ o. Answers o e.answer) (sym is.outcome) n.answered.settles.answers;
      spaces = subst (λ (choice : Choice). TakesSpaces (after_all empty_catalog history) (takes_space choice) e.spaces) (sym is.does) (numbers_are old new history e stands n);
    }

old_valid : (history : List Entry) (old : State) → IsPlainHistory history → Stands history old → IsValid old.catalog
old_valid history old said stands = subst IsValid stands.catalog (steps_keep empty_catalog new_session history empty_valid (λ s. refl) said.named said.legal)

-- each table's space is below the next number
are_below : (old new : State) (history : List Entry) (e : Entry) → IsPlainHistory history → Stands history old → IsNext old history e new → AreBelow new.catalog new.next
are_below old new history e said stands n =
    let leaves = n.answered.settles.leaves in
    let choice : Choice = done_by n.answered.found e in
    let more : old.next ≤ new.next = subst (λ m. old.next ≤ m) (sym leaves.next) (not_less (draws choice) old.next) in
    let drawn : takes_space choice ≡ true → old.next < new.next = λ takes. subst (λ m. old.next < m) (sym leaves.next) (one_more (draws choice) old.next (space_draws choice takes)) in
    let room : takes_space choice ≡ true → space_in e.spaces < new.next =
    subst (λ (spaces : List ℕ). takes_space choice ≡ true → space_in spaces < new.next) (sym leaves.taken) (space_taken (takes_space choice) old.next new.next drawn) in
    subst (λ (cat : Catalog). AreBelow cat new.next) leaves.catalog
    (spaces_below old.catalog old.session e.statement n.answered.found e.answer (space_in e.spaces) old.next new.next (old_valid history old said stands) n.answered.is stands.spaces more room)

-- what is listed has room
has_room : (old new : State) (history : List Entry) (e : Entry) → Stands history old → IsNext old history e new → listed_size (history ++ e ∷ []) + new.room ≡ 536870912
has_room old new history e stands n =
    let more : listed_size (history ++ e ∷ []) ≡ listed_size history + answer_size e.answer = sum_by_push entry_size history e in
    omega (arith, more, n.answered.settles.room, stands.room)

now_stands : (old new : State) (history : List Entry) (e : Entry) → IsPlainHistory history → Stands history old → IsNext old history e new → Stands (history ++ e ∷ []) new
now_stands old new history e said stands n =
    let cat = after_all empty_catalog history in
    let sessions = sessions_left empty_catalog new_session history in
    let leaves = n.answered.settles.leaves in
    let choice : Choice = done_by n.answered.found e in
    let is : IsEffect history e n.answered.found = effect_is old new history e stands n in
    let more : old.next ≤ new.next = subst (λ m. old.next ≤ m) (sym leaves.next) (not_less (draws choice) old.next) in
    record {
      catalog = catalog_left-push empty_catalog new_session history e ∙ (λ i. catalog_behind (space_in e.spaces) (is.does i) (stands.catalog i)) ∙ leaves.catalog;
      session = ap (λ (f : ℕ → SessionState). f 0) (sessions_left-push empty_catalog new_session history e)
          ∙ ap (λ (s : ℕ). if 0 == s then session_behind (effect cat sessions e) (sessions 0) else sessions 0) n.plain.session
          ∙ (λ i. session_behind (is.does i) (stands.session i)) ∙ leaves.session;
      next = next_left-push empty_catalog new_session 1 history e ∙ (λ i. behind (draws (is.does i)) (stands.next i)) ∙ sym leaves.next;
      least = omega (arith, stands.least, more);
      greatest = subst (λ m. m ≤ 4294967295) (sym leaves.next) (in_range (draws choice) old.next leaves.room stands.greatest);
      spaces = are_below old new history e said stands n;
      room = has_room old new history e stands n;
    }

-- the entry takes the next number
draws_next : (old new : State) (history : List Entry) (e : Entry) → Stands history old → (n : IsNext old history e new)
    → DrawsNext (next_left empty_catalog new_session 1 history) (effect (after_all empty_catalog history) (sessions_left empty_catalog new_session history) e) e
draws_next old new history e stands n =
    let is : IsEffect history e n.answered.found = effect_is old new history e stands n in
    let settles = n.answered.settles in
    let here : DrawsNext old.next (done_by n.answered.found e) e = record { spaces = settles.leaves.taken; out = settles.out } in
    subst (λ next. DrawsNext next (effect (after_all empty_catalog history) (sessions_left empty_catalog new_session history) e) e) (sym stands.next)
    (subst (λ (choice : Choice). DrawsNext old.next choice e) (sym is.does) here)

pub sound_push : (old new : State) (history : List Entry) (e : Entry) → IsSound (Some old) history → IsNext old history e new → IsSound (Some new) (history ++ e ∷ [])
sound_push old new history e sound n = record {
  said = record {
    legal = StepByStep-push empty_catalog new_session history e sound.said.legal (is_step old new history e sound.stands n);
    plain = ArePlainFrom-push 0 history e sound.said.plain (subst (λ k. IsPlain k e) (omega arith) n.plain);
    named = AllSayNames-push history e sound.said.named n.named;
    numbers = DrawsFrom-push empty_catalog new_session 1 history e sound.said.numbers (draws_next old new history e sound.stands n);
    listed = omega (arith, has_room old new history e sound.stands n);
  };
  stands = now_stands old new history e sound.said sound.stands n;
}

-- a statement is answered only over a state that is kept
pub sound_step : (old new : Option State) (history : List Entry) (e : Entry) → IsSound old history → IsPlain (length history) e → says_names e.statement ≡ true → Steps old e.statement e.answer new e.spaces → IsSound new (history ++ e ∷ [])
sound_step None new history e sound plain named steps = absurd steps
sound_step (Some old) None history e sound plain named steps = absurd steps
sound_step (Some old) (Some new) history e sound plain named steps = sound_push old new history e sound (record { plain = plain; named = named; answered = steps })

nothing_there : (name : ObjName) (placed : Placed) → Has empty_catalog name placed → ⊥
nothing_there name placed has = true≢false (ap is_some (sym has.is) ∙ ap is_some (finite_map.get-empty object_cmp name))

-- what a dictionary begins with
pub begins : (state : State) → state.catalog ≡ empty_catalog → state.session ≡ new_session 0 → state.next ≡ 1 → state.room ≡ 536870912 → IsSound (Some state) []
begins state catalog session next room = record {
  said = record { legal = tt; plain = tt; named = tt; numbers = tt; listed = omega arith };
  stands = record {
    catalog = sym catalog;
    session = sym session;
    next = sym next;
    least = omega (arith, next);
    greatest = omega (arith, next);
    spaces = record { below = λ name space parts has. absurd (nothing_there name (Table space parts) (subst (λ (cat : Catalog). Has cat name (Table space parts)) catalog has)) };
    room = omega (arith, room);
  };
}
