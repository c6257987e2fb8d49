-- A text beside what it is.
use Rattle.std.specs.Prelude.{◌≡◌, ℕ, List, map, codes}
use Prim.Native.String.{String}

pub record TextCase : Type 0 where
  pub text : List ℕ
  pub wanted : String

infix 4 ◌spells◌
abbrev pub ◌spells◌ : List ℕ → String → TextCase
text spells wanted = record { text = text; wanted = wanted }

-- each text is what stands beside it
abbrev pub AllSpelled : List TextCase → Type 0
AllSpelled cases = map (λ c. c.text) cases ≡ map (λ c. codes c.wanted) cases
