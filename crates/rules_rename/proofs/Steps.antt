-- Checks that stop, and the foreign keys of a renamed table.
use Rattle.std.specs.Prelude.{◌≡◌, List, [], map}
use Rattle.std.proofs.Common.{sym, ◌∙◌}
use Rattle.dd_names.specs.declared.object_name.ObjName.{ObjName}
use Rattle.dd_errors.specs.Errors.{ErrorValue}
use Rattle.dd_definitions.specs.declared.foreign_keys.ForeignKeyDef.{ForeignKeyDef}
use Rattle.dd_catalog.specs.declared.stop.Stop.{Stop}
use Rattle.dd_catalog.specs.Walks.{Walk, fine, run, every, over, ◌>>=◌}
use Rattle.dd_catalog.specs.WalkLaws.{Look, run_bind, run_fine}
use Rattle.dd_catalog.specs.Follow.{Stops}
use Rattle.dd_catalog.specs.LoopLaws.{stops_all}
use Rattle.rules_rename.specs.Renames.{renamed_key, fits_in_name, one_free, in_order, renamed_keys}

-- where the first check stops, both do
pub stops_first : {A B : Type 0} (look : Look) (check : Walk ErrorValue A) (next : A → Walk ErrorValue B) (stop : Stop) → Stops stop (run look check) → Stops stop (run look (check >>= next))
stops_first look check next stop is = stops_all stop (run look check) (λ x. run look (next x)) _ is (sym (run_bind look check next))

pub keys_unfit : (look : Look) (from to : ObjName) (keys : List ForeignKeyDef) (stop : Stop) → Stops stop (run look (every fits_in_name (map (renamed_key from to) keys))) → Stops stop (run look (renamed_keys from to keys))
unfolding renamed_keys
keys_unfit look from to keys stop is = stops_first look (every fits_in_name (map (renamed_key from to) keys)) _ stop is

pub keys_taken : (look : Look) (from to : ObjName) (keys renamed : List ForeignKeyDef) (stop : Stop) → renamed ≡ map (renamed_key from to) keys → run look (every fits_in_name (map (renamed_key from to) keys)) ≡ fine tt
    → Stops stop (run look (over (one_free from to) [] renamed)) → Stops stop (run look (renamed_keys from to keys))
unfolding renamed_keys
keys_taken look from to keys renamed stop same fit is =
    rw (run_fine look (every fits_in_name (map (renamed_key from to) keys)) _ tt fit) (stops_first look (over (one_free from to) [] (map (renamed_key from to) keys)) _ stop (rw (← same) is))

pub keys_made : (look : Look) (from to : ObjName) (keys renamed free : List ForeignKeyDef) → renamed ≡ map (renamed_key from to) keys → run look (every fits_in_name (map (renamed_key from to) keys)) ≡ fine tt
    → run look (over (one_free from to) [] renamed) ≡ fine free → run look (renamed_keys from to keys) ≡ fine (in_order free)
unfolding renamed_keys
keys_made look from to keys renamed free same fit is =
    run_fine look (every fits_in_name (map (renamed_key from to) keys)) _ tt fit ∙ run_fine look (over (one_free from to) [] (map (renamed_key from to) keys)) _ free (rw (← same) is)
