-- Errors as values: which numbers there are, how many arguments each takes, its state and its text.
use Rattle.std.specs.Prelude.{ℕ, ◌≡◌, ◌==◌, List, [], ◌∷◌, ◌++◌, length, Option, None, Some, is_some, option_map, IsTrue, count_by}
use Rattle.std.specs.List.{find, before_first, after_first}
use Rattle.std.specs.Option.{option_or}
use Rattle.dd_errors.specs.Table.{ErrorForm, Row, from_1007, from_1064, from_1113, from_1701}

-- an error's number and the arguments of its text
pub record ErrorValue : Type 0 where
  pub number : ℕ
  pub args : List (List ℕ)

-- the first of the rows that has the number
abbrev pub form_among : List Row → ℕ → Option ErrorForm
form_among rows number = option_map (λ row. row.1) (find (λ row. row.0 == number) rows)

unfoldable pub form_from_1007 : ℕ → Option ErrorForm
form_from_1007 number = form_among from_1007 number

unfoldable pub form_from_1064 : ℕ → Option ErrorForm
form_from_1064 number = form_among from_1064 number

unfoldable pub form_from_1113 : ℕ → Option ErrorForm
form_from_1113 number = form_among from_1113 number

unfoldable pub form_from_1701 : ℕ → Option ErrorForm
form_from_1701 number = form_among from_1701 number

-- what the table has for a number: one of its four parts tells
unfoldable pub form_of : ℕ → Option ErrorForm
form_of number =
    option_or (option_or (option_or (form_among from_1007 number) (form_among from_1064 number)) (form_among from_1113 number)) (form_among from_1701 number)

abbrev pub state_in : Option ErrorForm → List ℕ
state_in None = []
state_in (Some form) = form.state

abbrev pub template_in : Option ErrorForm → List ℕ
template_in None = []
template_in (Some form) = form.template

-- how many arguments a text has places for
abbrev pub places : List ℕ → ℕ
places template = count_by (λ c. c == 37) template

-- the table has the number, and its text has that many places
pub record IsInTable (number : ℕ) (args : List (List ℕ)) : Type 0 where
  pub known : IsTrue (is_some (form_of number))
  pub arity : length args ≡ places (template_in (form_of number))

-- a text with the arguments in its places, in order
abbrev pub filled : List ℕ → List (List ℕ) → List ℕ
filled template [] = template
filled template (arg ∷ args) =
    before_first (λ c. c == 37) template ++ arg ++ filled (after_first (λ c. c == 37) template) args

-- five characters that tell the class of the error
abbrev pub error_state : ErrorValue → List ℕ
error_state error = state_in (form_of error.number)

-- the message, with the arguments in their places
abbrev pub error_text : ErrorValue → List ℕ
error_text error = filled (template_in (form_of error.number)) error.args
