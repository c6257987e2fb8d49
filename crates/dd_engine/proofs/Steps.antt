-- A history that goes on by one entry.
use Rattle.std.proofs.Common.{◌≡◌, ℕ, ◌+◌, true, List, [], ◌∷◌, ◌++◌, length, refl, subst, arith}
use Rattle.dd_engine.specs.declared.history.Entry.{Entry}
use Rattle.sql_ast.specs.Names.{says_names}
use Rattle.sql_ast.specs.declared.session.SessionState.{SessionState}
use Rattle.dd_catalog.specs.Catalog.{Catalog}
use Rattle.rules_outcome.specs.Choices.{draws}
use Rattle.dd_engine.specs.History.{AllSayNames, Step, StepByStep, catalog_left, sessions_left, catalog_after, sessions_after, effect}
use Rattle.dd_engine.specs.Drawn.{DrawsFrom, DrawsNext, behind, next_left}
use Rattle.dd_engine.specs.Engine.{IsPlain, ArePlainFrom}

pub StepByStep-push : (cat : Catalog) (sessions : ℕ → SessionState) (history : List Entry) (e : Entry) → StepByStep cat sessions history
    → Step (catalog_left cat sessions history) (sessions_left cat sessions history) e → StepByStep cat sessions (history ++ e ∷ [])
StepByStep-push cat sessions [] e steps step = (step, tt)
StepByStep-push cat sessions (f ∷ history) e steps step = (steps.0, StepByStep-push (catalog_after cat sessions f) (sessions_after cat sessions f) history e steps.1 step)

pub catalog_left-push : (cat : Catalog) (sessions : ℕ → SessionState) (history : List Entry) (e : Entry)
    → catalog_left cat sessions (history ++ e ∷ []) ≡ catalog_after (catalog_left cat sessions history) (sessions_left cat sessions history) e
catalog_left-push cat sessions [] e = refl
catalog_left-push cat sessions (f ∷ history) e = catalog_left-push (catalog_after cat sessions f) (sessions_after cat sessions f) history e

pub sessions_left-push : (cat : Catalog) (sessions : ℕ → SessionState) (history : List Entry) (e : Entry)
    → sessions_left cat sessions (history ++ e ∷ []) ≡ sessions_after (catalog_left cat sessions history) (sessions_left cat sessions history) e
sessions_left-push cat sessions [] e = refl
sessions_left-push cat sessions (f ∷ history) e = sessions_left-push (catalog_after cat sessions f) (sessions_after cat sessions f) history e

pub ArePlainFrom-push : (n : ℕ) (history : List Entry) (e : Entry) → ArePlainFrom n history → IsPlain (n + length history) e → ArePlainFrom n (history ++ e ∷ [])
ArePlainFrom-push n [] e plain is = (subst (λ k. IsPlain k e) (omega arith) is, tt)
ArePlainFrom-push n (f ∷ history) e plain is = (plain.0, ArePlainFrom-push (n + 1) history e plain.1 (subst (λ k. IsPlain k e) (omega arith) is))

pub next_left-push : (cat : Catalog) (sessions : ℕ → SessionState) (next : ℕ) (history : List Entry) (e : Entry)
    → next_left cat sessions next (history ++ e ∷ []) ≡ behind (draws (effect (catalog_left cat sessions history) (sessions_left cat sessions history) e)) (next_left cat sessions next history)
next_left-push cat sessions next [] e = refl
next_left-push cat sessions next (f ∷ history) e = next_left-push (catalog_after cat sessions f) (sessions_after cat sessions f) (behind (draws (effect cat sessions f)) next) history e

pub DrawsFrom-push : (cat : Catalog) (sessions : ℕ → SessionState) (next : ℕ) (history : List Entry) (e : Entry) → DrawsFrom cat sessions next history
    → DrawsNext (next_left cat sessions next history) (effect (catalog_left cat sessions history) (sessions_left cat sessions history) e) e → DrawsFrom cat sessions next (history ++ e ∷ [])
DrawsFrom-push cat sessions next [] e drawn here = (here, tt)
DrawsFrom-push cat sessions next (f ∷ history) e drawn here =
    (drawn.0, DrawsFrom-push (catalog_after cat sessions f) (sessions_after cat sessions f) (behind (draws (effect cat sessions f)) next) history e drawn.1 here)

pub AllSayNames-push : (history : List Entry) (e : Entry) → AllSayNames history → says_names e.statement ≡ true → AllSayNames (history ++ e ∷ [])
AllSayNames-push [] e all here = (here, tt)
AllSayNames-push (f ∷ history) e all here = (all.0, AllSayNames-push history e all.1 here)
