-- What clauses say of a hall, its passes and its notes.
use Rattle.std.specs.Prelude.{◌≡◌, ℕ, ◌<◌, List, [], ◌∷◌, Option, None}
use Rattle.atomic_table.specs.declared.shared.Seat.{Seat}
use Rattle.turn_hall.specs.declared.view.View.{View}
use Rattle.turn_hall.specs.declared.view.Stage.TheVariants.{Idle, Out}
use Rattle.turn_hall.specs.declared.hall.Hall.{Hall}
use Rattle.turn_hall.specs.declared.hall.Note.{Note}
use Rattle.turn_hall.specs.declared.stands.Stands.{Ghosts}
use Rattle.turn_hall.specs.Numbers.{Has}

abbrev pub Pass : Type 0 → Type 0 → Type 0 → Type 0
Pass T E Q = Seat (Option T) (View T E Q)

module _ {T E Q : Type 0} where
  abbrev pub IsPassOf : Hall T E Q → Pass T E Q → Type 0
  IsPassOf hall p = p.table_id ≡ hall.row.shared.table_id

  abbrev pub IsSamePass : Pass T E Q → Pass T E Q → Type 0
  IsSamePass old new = (new.table_id ≡ old.table_id) × (new.id ≡ old.id)

  -- the list that the pass has seen
  abbrev pub seen_by : Pass T E Q → List E
  seen_by p = p.me.0.seen

  -- its numbers, each with its part
  abbrev pub held_by : Pass T E Q → List (ℕ × Q)
  held_by p = p.me.0.held

  -- the pass holds the number, with this part
  abbrev pub Holds : Pass T E Q → ℕ → Q → Type 0
  Holds p n q = Has (held_by p) n q

  abbrev pub HoldsNumber : Pass T E Q → ℕ → Type 0
  HoldsNumber p n = (q : Q) × Holds p n q

  abbrev pub HoldsSome : Pass T E Q → Type 0
  HoldsSome p = (n : ℕ) × HoldsNumber p n

  -- the pass has no value out
  abbrev pub Rests : Pass T E Q → Type 0
  Rests p = (p.me.0.stage ≡ Idle) × (p.me.1 ≡ [])

  -- the value is out with the pass, which took it as x and has seen its list
  abbrev pub IsOut : (T → List E) → Pass T E Q → T → Type 0
  IsOut history p x = (p.me.0.stage ≡ Out x) × (p.me.1 ≡ (0, None) ∷ []) × (seen_by p ≡ history x)

  -- the parts of the numbers that the pass doesn't hold, of those below a count, are the same
  abbrev pub KeepsOthers : (T → ℕ → Q) → ℕ → Pass T E Q → T → T → Type 0
  KeepsOthers part_of count p x y = (n : ℕ) → n < count → (HoldsNumber p n → ⊥) → part_of y n ≡ part_of x n

  -- the number from which the history word counts
  abbrev pub first_of : Hall T E Q → ℕ
  first_of hall = hall.row.shared.key.first

  -- how many numbers the hall has: those of the value that it was made with
  abbrev pub numbers_of : (T → ℕ) → Hall T E Q → ℕ
  numbers_of numbers hall = numbers hall.row.shared.key.value.value

module _ {T E Q : Type 0} {g : Ghosts T E Q} where
  abbrev pub IsNoteOf : Hall T E Q → Note T E Q g → Type 0
  IsNoteOf hall note = IsPassOf hall note.seat

  -- the list that the note has
  abbrev pub told_by : Note T E Q g → List E
  told_by note = note.seat.me.0.seen
