-- The table is its four parts.
use Rattle.std.proofs.Common.{◌≡◌, ℕ, refl}
use Rattle.std.specs.Option.{option_or}
use Rattle.dd_errors.specs.Errors.{form_of, form_from_1007, form_from_1064, form_from_1113, form_from_1701}

pub form_by_parts : (number : ℕ) → form_of number
    ≡ option_or (option_or (option_or (form_from_1007 number) (form_from_1064 number)) (form_from_1113 number)) (form_from_1701 number)
unfolding form_of form_from_1007 form_from_1064 form_from_1113 form_from_1701
form_by_parts number = refl
