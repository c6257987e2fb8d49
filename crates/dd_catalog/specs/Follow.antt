-- What a function answers, beside what a check comes to.
use Rattle.std.specs.Prelude.{◌≡◌, Option, Result, Ok, Err}
use Rattle.std.specs.Option.{option_map}
use Rattle.dd_names.specs.declared.object_name.ObjectKey.{ObjectKey}
use Rattle.dd_errors.specs.Errors.{ErrorValue}
use Rattle.dd_catalog.specs.declared.object.Object.{Object}
use Rattle.dd_catalog.specs.declared.stop.Stop.{Stop}
use Rattle.dd_catalog.specs.declared.stop.Stop.TheVariants as stops
use Rattle.dd_catalog.specs.Sights.{Sight, sight}
use Rattle.dd_catalog.specs.Walks.{Found, fine, refused, needs}

-- what is seen of what is known
abbrev pub sights : (ObjectKey → Option Object) → ObjectKey → Option Sight
sights known key = option_map sight (known key)

-- the check comes to this stop; want of memory may come at any time
abbrev pub Stops : {A : Type 0} → Stop → Found ErrorValue A → Type 0
Stops (stops.Refused error) found = found ≡ refused error
Stops (stops.Need key) found = found ≡ needs key
Stops stops.Memory found = Unit {0}

-- the check comes to the answer as it is seen, or to the stop
abbrev pub Follows : {X A : Type 0} → (X → A) → Result X Stop → Found ErrorValue A → Type 0
Follows seen (Ok x) found = found ≡ fine (seen x)
Follows seen (Err stop) found = Stops stop found
