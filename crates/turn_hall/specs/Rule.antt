-- The rule: what holds of the words, the slot and the views between any two steps.
use Rattle.std.specs.Prelude.{◌≡◌, ◌≢◌, ℕ, ◌+◌, ◌<◌, ◌≤◌, List, [], ◌∷◌, length, Option, Some}
use mathlib.Core.Option.{some, none}
use mathlib.Core.Option as maybe
use lib.ListN.{get_elem?}
use Rattle.atomic_table.specs.Table.{State}
use Rattle.turn_hall.specs.declared.view.View.{View}
use Rattle.turn_hall.specs.declared.view.Stage.{Stage}
use Rattle.turn_hall.specs.declared.view.Stage.TheVariants.{Idle, Out}
use Rattle.turn_hall.specs.Prefixes.{IsPrefix}
use Rattle.turn_hall.specs.Numbers.{Has}

-- where the value is: at home, or away with the holder, a seat that took it out so
pub data Desk (T : Type 0) : Type 0 where
  home : T → Desk T
  away : ℕ → T → Desk T

-- the door is open from this number on, and shut below it
abbrev pub first_open : ℕ
first_open = 3

module _ {T : Type 0} where
  -- the slot
  abbrev pub homes_of : Desk T → List (maybe.Option (Option T))
  homes_of (home x) = some (Some x) ∷ []
  homes_of (away j x) = none ∷ []

  -- the value whose parts count
  abbrev pub value_at : Desk T → T
  value_at (home x) = x
  value_at (away j x) = x

  -- the door is shut while the value is away, and open else
  abbrev pub Kept : ℕ → Desk T → Type 0
  Kept door (home x) = first_open ≤ door
  Kept door (away j x) = door < first_open

module _ {T E Q : Type 0} where
  -- the seat of a view that holds the number
  abbrev pub Owned : List (View T E Q) → (ℕ → ℕ) → ℕ → Type 0
  Owned views owner n = (v : View T E Q) × (get_elem? views (owner n) ≡ some v) × (q : Q) × Has v.held n q

  -- the seat of a view that holds a number and has seen the whole list
  abbrev pub Knows : List (View T E Q) → ℕ → List E → Type 0
  Knows views knower now = (v : View T E Q) × (get_elem? views knower ≡ some v) × (v.held ≢ []) × (v.seen ≡ now)

  -- the holder's view has the value out
  abbrev pub Taken : List (View T E Q) → Desk T → Type 0
  Taken views (home x) = Unit {0}
  Taken views (away j x) = (v : View T E Q) × (get_elem? views j ≡ some v) × (v.stage ≡ Out x)

module _ {T E Q : Type 0} (history : T → List E) (part_of : T → ℕ → Q) where
  -- the present list is that of a value at home. The holder's view has it while the value is away
  abbrev pub Shows : Desk T → List E → Type 0
  Shows (home x) now = now ≡ history x
  Shows (away j x) now = Unit {0}

  module _ (desk : Desk T) (now : List E) (j : ℕ) (seen : List E) where
    -- The one seat that has the value out has seen the list that it took out with what it has added.
    abbrev pub InStage : Stage T → Type 0
    InStage Idle = Unit {0}
    InStage (Out x) = (desk ≡ away j x) × (seen ≡ now) × IsPrefix (history x) seen

  -- what holds of the view of the seat j
  pub record Fits (numbers : ℕ) (desk : Desk T) (now : List E) (owner : ℕ → ℕ) (j : ℕ) (v : View T E Q) : Type 0 where
    pub stage : InStage desk now j v.seen v.stage
    -- every list that it has seen begins the present one
    pub seen : IsPrefix v.seen now
    pub told : IsPrefix v.told now
    pub heard : IsPrefix v.heard now
    -- a number is in no other view, since `owner` says whose it is, and its part is that of the value at home, or as the holder took it out
    pub held : (n : ℕ) (q : Q) → Has v.held n q → (n < numbers) × (owner n ≡ j) × (q ≡ part_of (value_at desk) n)
    -- without numbers the value isn't out
    pub bare : v.held ≡ [] → v.stage ≡ Idle

  pub record Turns (numbers first : ℕ) (s : State (Option T) (View T E Q)) : Type 0 where
    pub desk : Desk T
    -- the present list
    pub now : List E
    pub door : ℕ
    -- the seats of the numbers
    pub owner : ℕ → ℕ
    pub knower : ℕ
    -- the history word is the first number plus the length of the present list
    pub words : s.words ≡ (first + length now) ∷ door ∷ []
    pub homes : s.homes ≡ homes_of desk
    pub shows : Shows desk now
    pub kept : Kept door desk
    pub taken : Taken s.views desk
    pub each : (j : ℕ) (v : View T E Q) → get_elem? s.views j ≡ some v → Fits numbers desk now owner j v
    -- each number is in a view
    pub owned : (n : ℕ) → n < numbers → Owned s.views owner n
    -- some view with a number has seen all
    pub known : Knows s.views knower now
