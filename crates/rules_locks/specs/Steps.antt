-- The steps of a check: the keys at which it looks, one after another, each with what it sees there.
use Rattle.std.specs.Prelude.{◌≡◌, List, [], ◌∷◌, Option, Some, None}
use Rattle.std.specs.List.{AllByRecursion}
use Rattle.dd_names.specs.declared.object_name.ObjectKey.{ObjectKey}
use Rattle.dd_catalog.specs.Sights.{Sight}
use Rattle.dd_catalog.specs.Walks.{Walk, done, refuse, ask}
use Rattle.dd_catalog.specs.WalkLaws.{Look}

pub record Step : Type 0 where
  pub key : ObjectKey
  pub seen : Sight

abbrev pub step : ObjectKey → Sight → Step
step key seen = record { key = key; seen = seen }

-- the first steps of the check, and what is left of it behind them
abbrev pub Leads : {E A : Type 0} → Walk E A → List Step → Walk E A → Type 0
Leads check [] rest = check ≡ rest
Leads {E = E} {A = A} check (s ∷ steps) rest = (go : Sight → Walk E A) × (check ≡ ask s.key go) × Leads (go s.seen) steps rest

-- what each step saw stands there
abbrev pub AllStand : (ObjectKey → Sight) → List Step → Type 0
AllStand full steps = AllByRecursion (λ (s : Step). full s.key ≡ s.seen) steps

-- ## Over what is known

abbrev pub steps_after : Option Sight → ObjectKey → (Sight → List Step) → List Step
steps_after None key go = []
steps_after (Some seen) key go = step key seen ∷ go seen

-- the steps up to the first key at which nothing is known
abbrev pub steps : {E A : Type 0} → Look → Walk E A → List Step
steps look (done x) = []
steps look (refuse e) = []
steps look (ask key go) = steps_after (look key) key (λ seen. steps look (go seen))

abbrev pub rest_after : {E A : Type 0} → Option Sight → Walk E A → (Sight → Walk E A) → Walk E A
rest_after None check go = check
rest_after (Some seen) check go = go seen

-- what is left of the check behind them
abbrev pub rest : {E A : Type 0} → Look → Walk E A → Walk E A
rest look (done x) = done x
rest look (refuse e) = refuse e
rest look (ask key go) = rest_after (look key) (ask key go) (λ seen. rest look (go seen))
