-- What is known while a statement is decided over a whole catalog.
use Rattle.std.specs.Prelude.{◌<◌, ℕ, length, Option, Some, None, Result}
use Rattle.std.specs.Option.{option_map}
use Rattle.dd_errors.specs.Errors.{ErrorValue}
use Rattle.dd_catalog.specs.Catalog.{Catalog, sight_of, all_of}
use Rattle.dd_catalog.specs.Walks.{Walk, asked, run}
use Rattle.dd_catalog.specs.WalkLaws.{Look, IsOf, left}
use Rattle.dd_catalog.specs.Follow.{sights}
use Rattle.rules_outcome.specs.Choices.{Choice}
use Rattle.dd_catalog.specs.declared.stop.Stop.{Stop}
use Rattle.rules_outcome.specs.declared.decided.Decided.{Decided}
use Rattle.rules_decide.specs.Outcome.{DecidesIf}
use Rattle.plain_catalog.specs.declared.part.Part.{Part}
use Rattle.plain_catalog.specs.Known.{known_in}

-- what is seen of what is known
abbrev pub seen_in : Part → Look
seen_in part = sights (known_in part)

-- what is known of the catalog stands there
abbrev pub IsKnown : Catalog → Part → Type 0
IsKnown cat part = IsOf (sight_of cat) (seen_in part)

-- of the keys at which the check looks, the number of those at which nothing is known
abbrev pub left_in : Catalog → Option (Walk ErrorValue Choice) → Part → ℕ
left_in cat None part = 0
left_in cat (Some check) part = left (sight_of cat) (seen_in part) check

-- the number of looks of the check over the whole catalog
abbrev pub looks_of : Catalog → Option (Walk ErrorValue Choice) → ℕ
looks_of cat None = 0
looks_of cat (Some check) = length (asked (all_of cat) check)

-- it comes to an end, which is the one over the whole catalog, or one more key is known
abbrev pub Turned : Catalog → Option (Walk ErrorValue Choice) → Part → Part → Option (Result Decided Stop) → Type 0
Turned cat check old new (Some outcome) = DecidesIf outcome (option_map (run (all_of cat)) check)
Turned cat check old new None = IsKnown cat new × (left_in cat check new < left_in cat check old)
