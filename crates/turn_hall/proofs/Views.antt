-- What the rule says of all views, where some change.
use Rattle.std.proofs.Common.{◌≡◌, ◌≢◌, ℕ, List, [], ◌∷◌, ◌++◌, set, sym, ap, ◌∙◌, subst}
use mathlib.Core.Option.{some, some-injective}
use mathlib.Core.Logic.{dite}
use native.Mathlib.Decide.{ℕ_discrete}
use lib.ListN.{get_elem?}
use Rattle.atomic_table.proofs.Lists.{set_else, at_longer}
use Rattle.turn_hall.specs.declared.view.View.{View}
use Rattle.turn_hall.specs.declared.view.Stage.TheVariants.{Idle, Out}
use Rattle.turn_hall.specs.Numbers.{Has}
use Rattle.turn_hall.specs.Rule.{Desk, home, away, Owned, Knows, Taken}
use Rattle.turn_hall.proofs.Lists.{there}

module _ {T E Q : Type 0} where
  -- one place has one view
  pub one_view : (views : List (View T E Q)) (i j : ℕ) (v u : View T E Q) → get_elem? views i ≡ some v → get_elem? views j ≡ some u → j ≡ i → v ≡ u
  one_view views i j v u at_i at_j e = some-injective v u (sym at_i ∙ (ap (get_elem? views) (sym e) ∙ at_j))

  -- a view changes that keeps its numbers
  pub owned_set : (views : List (View T E Q)) (owner : ℕ → ℕ) (id : ℕ) (v w : View T E Q) (n : ℕ) → get_elem? views id ≡ some v → ((q : Q) → Has v.held n q → (q' : Q) × Has w.held n q')
      → Owned views owner n → Owned (set views id w) owner n
  owned_set views owner id v w n at keeps o = dite (ℕ_discrete (owner n) id)
      (λ e. let same : v ≡ o.0 = one_view views id (owner n) v o.0 at o.1 e in
      let kept = keeps o.2 (subst (λ (z : View T E Q). Has z.held n o.2) (sym same) o.3) in (w, ap (get_elem? (set views id w)) e ∙ there views id w v at, kept.0, kept.1))
      (λ ne. (o.0, set_else views id (owner n) w ne ∙ o.1, o.2, o.3))

  pub owned_more : (views : List (View T E Q)) (owner : ℕ → ℕ) (w : View T E Q) (n : ℕ) → Owned views owner n → Owned (views ++ w ∷ []) owner n
  owned_more views owner w n o = (o.0, at_longer views (w ∷ []) (owner n) o.0 o.1, o.2, o.3)

  -- a view changes that keeps its numbers and what it has seen
  pub known_set : (views : List (View T E Q)) (knower : ℕ) (now : List E) (id : ℕ) (w v : View T E Q) → get_elem? views id ≡ some v → (v.held ≢ [] → w.held ≢ []) → w.seen ≡ v.seen → Knows views knower now → Knows (set views id w) knower now
  known_set views knower now id w v at kept same k = dite (ℕ_discrete knower id)
      (λ e. let is : v ≡ k.0 = one_view views id knower v k.0 at k.1 e in (
        w,
        ap (get_elem? (set views id w)) e ∙ there views id w v at,
        kept (λ none. k.2 (ap (λ (z : View T E Q). z.held) (sym is) ∙ none)),
        same ∙ (ap (λ (z : View T E Q). z.seen) is ∙ k.3),
      ))
      (λ ne. (k.0, set_else views id knower w ne ∙ k.1, k.2, k.3))

  pub known_more : (views : List (View T E Q)) (knower : ℕ) (now : List E) (w : View T E Q) → Knows views knower now → Knows (views ++ w ∷ []) knower now
  known_more views knower now w k = (k.0, at_longer views (w ∷ []) knower k.0 k.1, k.2, k.3)

  -- another view than the holder's changes
  pub taken_set : (d : Desk T) (views : List (View T E Q)) (id : ℕ) (w v : View T E Q) → get_elem? views id ≡ some v → ((x : T) → v.stage ≡ Out x → ⊥) → Taken views d → Taken (set views id w) d
  taken_set (home x) views id w v at not h = tt
  taken_set (away j x) views id w v at not h =
      let other : j ≢ id = λ e. not x (ap (λ (z : View T E Q). z.stage) (one_view views id j v h.0 at h.1 e) ∙ h.2) in (h.0, set_else views id j w other ∙ h.1, h.2)

  pub taken_more : (d : Desk T) (views : List (View T E Q)) (w : View T E Q) → Taken views d → Taken (views ++ w ∷ []) d
  taken_more (home x) views w h = tt
  taken_more (away j x) views w h = (h.0, at_longer views (w ∷ []) j h.0 h.1, h.2)

  pub not_out : (v : View T E Q) → v.stage ≡ Idle → (x : T) → v.stage ≡ Out x → ⊥
  not_out v idle x e = let z : Idle ≡ Out x = sym idle ∙ e in cc
