-- The pieces of what is printed.
use Rattle.std.proofs.Common.{◌≡◌, ℕ, ◌+◌, ◌<◌, ◌≤◌, ◌==◌, true, false, cond, List, [], ◌∷◌, ◌++◌, length, drop, get_or, refl, sym, ◌∙◌, ap, subst, Option, Result}
use Rattle.std.specs.List.{flat_map}
use Rattle.std.proofs.lemmas.List.{append-nil, drop_more, drop_all}
use Rattle.dd_engine.specs.declared.history.Entry.{Entry}
use Rattle.dd_engine.specs.History.{part}
use Rattle.dd_run.specs.declared.print.PrintFault.{PrintFault}
use Rattle.dd_run.specs.Printed.{entry_text, answers_text, session_text, printed_from}
use Rattle.dd_run.specs.Writes.{Writes}

at_item : {A : Type 0} (xs : List A) (i : ℕ) (x : A) → i < length xs → x ≡ get_or xs i x → drop i xs ≡ x ∷ drop (i + 1) xs
at_item xs i x lt is = drop_more xs i x lt ∙ ap (λ y. y ∷ drop (i + 1) xs) (sym is)

one_answer : (e : Entry) (history : List Entry) (s : ℕ) → answers_text (e ∷ history) s ≡ answers_text (e ∷ []) s ++ answers_text history s
one_answer e history s = elim (e.session == s) as (λ b. flat_map entry_text (cond b (e ∷ part history s) (part history s)) ≡ flat_map entry_text (cond b (e ∷ []) []) ++ answers_text history s) [
  | true ↦ ap (λ (l : List ℕ). l ++ answers_text history s) (sym (append-nil (entry_text e)))
  | false ↦ refl
]

-- the entry at a place, and those behind it
pub answers_from : (history : List Entry) (i s : ℕ) (e : Entry) → i < length history → e ≡ get_or history i e
    → answers_text (drop i history) s ≡ answers_text (e ∷ []) s ++ answers_text (drop (i + 1) history) s
answers_from history i s e lt is = ap (λ (l : List Entry). answers_text l s) (at_item history i e lt is) ∙ one_answer e (drop (i + 1) history) s

pub no_answers : (history : List Entry) (i s : ℕ) → length history ≤ i → answers_text (drop i history) s ≡ []
no_answers history i s le = ap (λ (l : List Entry). answers_text l s) (drop_all i history le)

-- the session at a place, and those behind it
pub sessions_from : (names : List (List ℕ)) (history : List Entry) (i : ℕ) (name : List ℕ) → i < length names → name ≡ get_or names i name
    → printed_from i (drop i names) history ≡ session_text name i history ++ printed_from (i + 1) (drop (i + 1) names) history
sessions_from names history i name lt is = ap (λ (l : List (List ℕ)). printed_from i l history) (at_item names i name lt is)

pub no_sessions : (names : List (List ℕ)) (history : List Entry) (i : ℕ) → length names ≤ i → printed_from i (drop i names) history ≡ []
no_sessions names history i le = ap (λ (l : List (List ℕ)). printed_from i l history) (drop_all i names le)

-- the name that was read, and the number that was counted
pub session_text_is : (a b : Option (List ℕ)) (p q : ℕ) (result : Result (Unit {0}) PrintFault) (name is_name : List ℕ) (s i : ℕ) (history : List Entry) → name ≡ is_name → s ≡ i
    → Writes a b p q (session_text name s history) result → Writes a b p q (session_text is_name i history) result
session_text_is a b p q result name is_name s i history same number w = subst (λ l. Writes a b p q l result) (λ k. session_text (same k) (number k) history) w
