-- What each step does to the view of the seat that makes it.
use Rattle.std.specs.Prelude.{◌≡◌, ◌≢◌, ℕ, List, [], ◌∷◌, ◌++◌, Option, Some}
use Rattle.atomic_table.specs.Table.{Me, Step}
use Rattle.turn_hall.specs.declared.view.View.{View}
use Rattle.turn_hall.specs.declared.view.Stage.TheVariants.{Idle, Out}
use Rattle.turn_hall.specs.Prefixes.{IsPrefix, longer}
use Rattle.turn_hall.specs.Numbers.{AreParts, table_of, without, alone, refreshed}

abbrev Seated : Type 0 → Type 0 → Type 0 → Type 0
Seated T E Q = Me (Option T) (View T E Q)

module _ {T E Q : Type 0} where
  -- a view that has no value out
  abbrev pub quiet : List E → List (ℕ × Q) → View T E Q
  quiet xs ps = record { stage = Idle; seen = xs; held = ps; told = []; heard = [] }

  abbrev pub with_seen : List E → View T E Q → View T E Q
  with_seen xs v = record v { seen = xs }

  -- nothing changes for the seat
  abbrev pub same : Step (Option T) → Seated T E Q → ℕ → Seated T E Q → Type 0
  same st m r m' = m' ≡ m

  -- how a seat's view is cut, and what the new seat has
  abbrev pub cut : ℕ → View T E Q → View T E Q
  cut n v = record v { held = without n v.held }

  abbrev pub given : ℕ → View T E Q → View T E Q
  given n v = quiet v.seen (alone n v.held)

  abbrev pub copied : View T E Q → View T E Q
  copied v = quiet v.seen []

  -- the longer list, the numbers of both, and both lists as old ones
  abbrev pub joined : View T E Q → View T E Q → View T E Q
  joined v w = record { stage = v.stage; seen = longer v.seen w.seen; held = v.held ++ w.held; told = v.seen; heard = w.seen }

  -- both old lists begin the one that is seen
  abbrev pub learned : Step (Option T) → Seated T E Q → ℕ → Seated T E Q → Type 0
  learned st m r m' = (m' ≡ m) × IsPrefix m.0.told m.0.seen × IsPrefix m.0.heard m.0.seen

module _ {T E Q : Type 0} (history : T → List E) (part_of : T → ℕ → Q) where
  -- the first seat, of a value whose numbers are below n
  abbrev pub first_view : ℕ → T → View T E Q
  first_view n x = quiet (history x) (table_of (part_of x) n)

  abbrev pub took : T → View T E Q → View T E Q
  took x v = record v { stage = Out x; seen = history x }

  -- the seat has taken the value, whose list begins with what it had seen, and which keeps the parts of its numbers
  abbrev pub HasTaken : Seated T E Q → Seated T E Q → Type 0
  HasTaken m m' = (x : T) × (m' ≡ (took x m.0, (0, Some x) ∷ m.1)) × IsPrefix m.0.seen (history x) × AreParts (part_of x) m.0.held

  -- the door was as expected, and the seat has taken the value; or it was another
  abbrev pub tried : Step (Option T) → Seated T E Q → ℕ → Seated T E Q → Type 0
  tried st m r m' = (r ≡ st.first → HasTaken m m') × (r ≢ st.first → m' ≡ m)

  -- the seat has seen the list of the value that it will put back
  abbrev pub added : Step (Option T) → Seated T E Q → ℕ → Seated T E Q → Type 0
  added st m r m' = (y : T) × (m.1 ≡ (0, Some y) ∷ []) × (m' ≡ (with_seen (history y) m.0, m.1))

  abbrev pub rested : T → View T E Q → View T E Q
  rested y v = record v { stage = Idle; held = refreshed (part_of y) v.held }

  abbrev pub handed : Step (Option T) → Seated T E Q → ℕ → Seated T E Q → Type 0
  handed st m r m' = (y : T) × (m.1 ≡ (0, Some y) ∷ []) × (m' ≡ (rested y m.0, []))
