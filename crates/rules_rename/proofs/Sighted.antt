-- Checks that look at one object and go on by it.
use Rattle.std.specs.Prelude.{◌≡◌, ◌≢◌, Bool, true, false, not, refl}
use Rattle.std.proofs.Common.{sym, ◌∙◌, ap}
use Rattle.dd_names.specs.declared.object_name.ObjName.{ObjName}
use Rattle.dd_names.specs.declared.object_name.ObjectKey.TheVariants as keys
use Rattle.dd_errors.specs.Errors.{ErrorValue}
use Rattle.dd_catalog.specs.declared.stop.Stop.{Stop}
use Rattle.dd_catalog.specs.declared.object.Object.{Object}
use Rattle.dd_catalog.specs.declared.object.Object.TheVariants as objects
use Rattle.dd_catalog.specs.Sights.{Sight, sight}
use Rattle.dd_catalog.specs.Walks.{done, fine, run, look_at, refuse_if}
use Rattle.dd_catalog.specs.WalkLaws.{Look, run_fine}
use Rattle.dd_catalog.specs.Follow.{Stops}
use Rattle.rules_outcome.specs.Choices.{After}
use Rattle.rules_named.specs.Named.{is_nothing}
use Rattle.rules_refusals.specs.Refusals.{table_exists}
use Rattle.rules_rename.specs.Renames.{child_after, renamed_child, name_is_free}
use Rattle.rules_rename.proofs.Steps.{stops_first}

pub name_stops : (look : Look) (to : ObjName) (stop : Stop) → Stops stop (run {E = ErrorValue} look (look_at (keys.Object to))) → Stops stop (run look (name_is_free to))
unfolding name_is_free
name_stops look to stop is = stops_first look (look_at (keys.Object to)) _ stop is

pub name_tested : (look : Look) (to : ObjName) (seen : Sight) (nothing : Bool) → run {E = ErrorValue} look (look_at (keys.Object to)) ≡ fine seen → is_nothing seen ≡ nothing → run look (name_is_free to) ≡ run look (refuse_if (not nothing) (table_exists to.name))
unfolding name_is_free
name_tested look to seen nothing is test = run_fine look (look_at (keys.Object to)) _ seen is ∙ ap (λ b. run look (refuse_if (not b) (table_exists to.name))) test

pub child_stops : (look : Look) (from to child : ObjName) (stop : Stop) → Stops stop (run {E = ErrorValue} look (look_at (keys.Object child))) → Stops stop (run look (renamed_child from to child))
unfolding renamed_child
child_stops look from to child stop is = stops_first look (look_at (keys.Object child)) (λ seen. done (child, child_after from to seen)) stop is

pub child_made : (look : Look) (from to child : ObjName) (seen : Sight) → run {E = ErrorValue} look (look_at (keys.Object child)) ≡ fine seen → run look (renamed_child from to child) ≡ fine (child, child_after from to seen)
unfolding renamed_child
child_made look from to child seen is = run_fine look (look_at (keys.Object child)) (λ s. done (child, child_after from to s)) seen is

-- an object that is there is seen
pub something : (object : Object) → object ≢ objects.Absent → is_nothing (sight object) ≡ false
something (objects.Schema id) is = refl
something (objects.Table id schema space parts) is = refl
something (objects.View id schema parts) is = refl
something objects.Absent is = absurd (is refl)
something (objects.Schemas names) is = refl
something (objects.Objects names) is = refl
something (objects.Children tables) is = refl
something (objects.Constraint table) is = refl
