-- Which of what stands at a key behind a statement takes a number, and which takes one for a tablespace.
use Rattle.std.specs.Prelude.{◌≡◌, ℕ, Bool, true, false, List, [], ◌∷◌, map}
use Rattle.dd_definitions.specs.declared.parts.TableParts.{TableParts}
use Rattle.dd_definitions.specs.declared.view_parts.ViewParts.{ViewParts}
use Rattle.rules_outcome.specs.Choices.{After, Gone, NewSchema, FreshTable, KeptTable, NewView, KeptView, takes_number, makes_space}

-- what stands behind a statement, whether it takes a number, and whether a tablespace is made
pub record NumberCase : Type 0 where
  pub after : After
  pub takes : Bool
  pub makes : Bool

abbrev pub case : After → Bool → Bool → NumberCase
case after takes makes = record { after = after; takes = takes; makes = makes }

-- each takes a number, and makes a tablespace, as it says
pub record AreNumbered (cases : List NumberCase) : Type 0 where
  pub takes : map (λ (c : NumberCase). takes_number c.after) cases ≡ map (λ (c : NumberCase). c.takes) cases
  pub makes : map (λ (c : NumberCase). makes_space c.after) cases ≡ map (λ (c : NumberCase). c.makes) cases

-- what is new takes a number, a view too, and what was there takes none; a table with a new tablespace makes one
abbrev pub numbered : ℕ → TableParts → ViewParts → List NumberCase
numbered space table view =
    case Gone false false
    ∷ case NewSchema true false
    ∷ case (FreshTable table) true true
    ∷ case (KeptTable space table) false false
    ∷ case (NewView view) true false
    ∷ case (KeptView view) false false
    ∷ []
