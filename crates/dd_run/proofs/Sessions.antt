-- The history of one session, as the history of all sessions.
use Rattle.std.proofs.Common.{◌≡◌, ℕ, ◌+◌, ◌<◌, ◌≤◌, ◌==◌, Bool, true, false, cond, List, [], ◌∷◌, ◌++◌, map, take, length, get_or, refl, sym, ◌∙◌, ap, subst, arith}
use Rattle.std.specs.List.{AllByRecursion}
use Rattle.std.proofs.lemmas.Bool.Decides.{nat_tests}
use Rattle.std.proofs.lemmas.List.{length_push, map_push, take_at}
use Rattle.sql_ast.specs.declared.statement.Statement.{Statement}
use Rattle.dd_engine.specs.declared.history.Entry.{Entry}
use Rattle.dd_catalog.specs.Catalog.{empty_catalog}
use Rattle.dd_engine.specs.Catalog.{new_session}
use Rattle.dd_engine.specs.Engine.{Adds, ArePlainFrom, IsPlainHistory}
use Rattle.dd_engine.specs.History.{part, NumberedFrom}
use Rattle.dd_engine.proofs.Drawn.{had_numbers}
use Rattle.script_read.specs.declared.script.Script.{Script}
use Rattle.dd_run.specs.Ending.{statement_of_entry}
use Rattle.dd_run.specs.Headline.{IsHistoryOf, AllAnswered, FirstAnswered, answered}

-- all entries are of the only session
whole_part : (n : ℕ) (history : List Entry) → ArePlainFrom n history → part history 0 ≡ history
whole_part n [] plain = refl
whole_part n (e ∷ history) plain =
    ap (λ (s : ℕ). cond (s == 0) (e ∷ part history 0) (part history 0)) plain.0.session ∙ ap (λ (l : List Entry). e ∷ l) (whole_part (n + 1) history plain.1)

numbered : (n : ℕ) (history : List Entry) → ArePlainFrom n history → NumberedFrom n history
numbered n [] plain = tt
numbered n (e ∷ history) plain = (plain.0.number, numbered (n + 1) history plain.1)

-- and none of another
no_part : (n s : ℕ) (history : List Entry) → (0 == s) ≡ false → ArePlainFrom n history → part history s ≡ []
no_part n s [] other plain = refl
no_part n s (e ∷ history) other plain =
    ap (λ (b : Bool). cond b (e ∷ part history s) (part history s)) (ap (λ (t : ℕ). t == s) plain.0.session ∙ other) ∙ no_part (n + 1) s history other plain.1

each_numbered : (history : List Entry) → ArePlainFrom 0 history → (s : ℕ) → NumberedFrom 0 (part history s)
each_numbered history plain s = elim (0 == s) as (λ b. (0 == s) ≡ b → NumberedFrom 0 (part history s)) [
  | true ↦ λ same. let zero : 0 ≡ s = grind (arith, nat_tests) in
      subst (λ k. NumberedFrom 0 (part history k)) zero (subst (λ l. NumberedFrom 0 l) (sym (whole_part 0 history plain)) (numbered 0 history plain))
  | false ↦ λ other. subst (λ l. NumberedFrom 0 l) (sym (no_part 0 s history other plain)) tt
] refl

within : (n : ℕ) (history : List Entry) → ArePlainFrom n history → AllByRecursion (λ e. e.session < 1) history
within n [] plain = tt
within n (e ∷ history) plain = (omega (arith, plain.0.session), within (n + 1) history plain.1)

-- ## One entry more

told_one_more : (old new : List Entry) (statement : Statement) → Adds old new statement → map statement_of_entry new ≡ map statement_of_entry old ++ statement ∷ []
told_one_more old new statement adds =
    ap (λ (l : List Entry). map statement_of_entry l) adds.last ∙ map_push statement_of_entry old adds.entry
    ∙ ap (λ (s : Statement). map statement_of_entry old ++ s ∷ []) adds.same

-- the statements so far have their entries, and then the next one has
pub next_told : (old new : List Entry) (statements : List Statement) (statement : Statement) → map statement_of_entry old ≡ statements → Adds old new statement → map statement_of_entry new ≡ statements ++ statement ∷ []
next_told old new statements statement told adds = told_one_more old new statement adds ∙ ap (λ (l : List Statement). l ++ statement ∷ []) told

-- the statements of which the first have their entries
pub first_told : (history : List Entry) (statements front back : List Statement) → map statement_of_entry history ≡ front → statements ≡ front ++ back → (n : ℕ) × (map statement_of_entry history ≡ take n statements)
first_told history statements front back told is = (length front, told ∙ sym (take_at front back (length front) refl) ∙ ap (λ (l : List Statement). take (length front) l) (sym is))

pub one_longer : (old new : List Entry) (statement : Statement) → Adds old new statement → length new ≡ length old + 1
one_longer old new statement adds = ap (λ (l : List Entry). length l) adds.last ∙ length_push old adds.entry

pub nothing_said : IsPlainHistory []
nothing_said = record { legal = tt; plain = tt; named = tt; numbers = tt; listed = omega arith }

-- ## One session

module _ (scripts : List Script) (script : Script) (is : scripts ≡ script ∷ []) (history : List Entry) (said : IsPlainHistory history) where
  pub history_of : IsHistoryOf scripts history
  history_of = subst (λ l. IsHistoryOf l history) (sym is) (record {
    legal = said.legal;
    numbered = each_numbered history said.plain;
    within = within 0 history said.plain;
    numbers = λ less. had_numbers empty_catalog new_session 1 history said.legal said.numbers (omega (arith, less));
    listed = said.listed;
  })

  own : answered history 0 ≡ map statement_of_entry history
  own = ap (λ (l : List Entry). map statement_of_entry l) (whole_part 0 history said.plain)

  pub all_answered : map statement_of_entry history ≡ script.statements → AllAnswered scripts history
  all_answered told = subst (λ l. AllAnswered l history) (sym is) (own ∙ told, tt)

  pub first_answered : (n : ℕ) → map statement_of_entry history ≡ take n script.statements → FirstAnswered scripts history
  first_answered n told = subst (λ l. FirstAnswered l history) (sym is) ((n, own ∙ told), tt)

-- without sessions there is no entry
pub no_history : IsHistoryOf [] []
no_history = record { legal = tt; numbered = λ s. tt; within = tt; numbers = λ less. tt; listed = omega arith }
