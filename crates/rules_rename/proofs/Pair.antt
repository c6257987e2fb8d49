-- What one pair changes, check by check.
use Rattle.std.specs.Prelude.{◌≡◌, ℕ, List, [], ◌∷◌, ◌++◌, map, not, Option, IsTrue}
use Rattle.std.specs.Str.{bytes_eq}
use Rattle.std.proofs.Common.{sym, ◌∙◌, ap, subst}
use Rattle.dd_names.specs.declared.object_name.ObjName.{ObjName}
use Rattle.dd_names.specs.declared.object_name.ObjectKey.{ObjectKey}
use Rattle.dd_names.specs.declared.object_name.ObjectKey.TheVariants as keys
use Rattle.dd_errors.specs.Errors.{ErrorValue}
use Rattle.dd_definitions.specs.declared.foreign_keys.ForeignKeyDef.{ForeignKeyDef}
use Rattle.dd_definitions.specs.declared.parts.TableParts.{TableParts}
use Rattle.dd_definitions.specs.declared.view_parts.ViewParts.{ViewParts}
use Rattle.dd_catalog.specs.declared.object.Object.{Object}
use Rattle.dd_catalog.specs.declared.object.Object.TheVariants as objects
use Rattle.dd_catalog.specs.declared.stop.Stop.{Stop}
use Rattle.dd_catalog.specs.Sights.{Sight, ChildrenThere, sight}
use Rattle.dd_catalog.specs.Walks.{fine, run, look_at, refuse_if, each}
use Rattle.dd_catalog.specs.WalkLaws.{Look, run_fine}
use Rattle.dd_catalog.specs.Follow.{Stops, sights}
use Rattle.rules_outcome.specs.Choices.{Gone, KeptTable, KeptView}
use Rattle.rules_refusals.specs.Refusals.{forbid_schema_change}
use Rattle.rules_rename.specs.Overlays.{Overlay, behind_changes}
use Rattle.rules_rename.specs.Renames.{name_is_free, renamed_keys, renamed_child, renamed_table, renamed_view, renamed_seen, renamed_object, one_pair, with_all}
use Rattle.rules_rename.specs.Puts.{Put, entry_of, are_in_order, overlay_of, behind, put_all}
use Rattle.rules_rename.specs.Pairs.{renamed_of, moved_to}
use Rattle.rules_rename.specs.declared.pairs.Renamed.{Renamed}
use Rattle.rules_rename.proofs.Behind.{run_behind}
use Rattle.rules_rename.proofs.Puts.{overlay_all}
use Rattle.rules_rename.proofs.Steps.{stops_first}

-- ## An object

pub object_stops : (look : Look) (from to : ObjName) (stop : Stop) → Stops stop (run {E = ErrorValue} look (look_at (keys.Object from))) → Stops stop (run look (renamed_object from to))
unfolding renamed_object
object_stops look from to stop is = stops_first look (look_at (keys.Object from)) (renamed_seen from to) stop is

pub object_goes_on : (look : Look) (from to : ObjName) (seen : Sight) → run {E = ErrorValue} look (look_at (keys.Object from)) ≡ fine seen → run look (renamed_object from to) ≡ run look (renamed_seen from to seen)
unfolding renamed_object
object_goes_on look from to seen is = run_fine look (look_at (keys.Object from)) (renamed_seen from to) seen is

-- ## A table

pub table_not_free : (look : Look) (from to : ObjName) (space : ℕ) (parts : TableParts) (stop : Stop) → Stops stop (run look (name_is_free to)) → Stops stop (run look (renamed_table from to space parts))
unfolding renamed_table
table_not_free look from to space parts stop is = stops_first look (name_is_free to) _ stop is

pub table_keys_stop : (look : Look) (from to : ObjName) (space : ℕ) (parts : TableParts) (stop : Stop) → run look (name_is_free to) ≡ fine tt → Stops stop (run look (renamed_keys from to parts.foreign_keys)) → Stops stop (run look (renamed_table from to space parts))
unfolding renamed_table
table_keys_stop look from to space parts stop free is = rw (run_fine look (name_is_free to) _ tt free) (stops_first look (renamed_keys from to parts.foreign_keys) _ stop is)

pub table_look_stops : (look : Look) (from to : ObjName) (space : ℕ) (parts : TableParts) (foreign_keys : List ForeignKeyDef) (stop : Stop) → run look (name_is_free to) ≡ fine tt → run look (renamed_keys from to parts.foreign_keys) ≡ fine foreign_keys
    → Stops stop (run {E = ErrorValue} look (look_at (keys.Children from))) → Stops stop (run look (renamed_table from to space parts))
unfolding renamed_table
table_look_stops look from to space parts foreign_keys stop free keys_are is =
    rw (run_fine look (name_is_free to) _ tt free, run_fine look (renamed_keys from to parts.foreign_keys) _ foreign_keys keys_are) (stops_first look (look_at (keys.Children from)) _ stop is)

pub table_child_stops : (look : Look) (from to : ObjName) (space : ℕ) (parts : TableParts) (foreign_keys : List ForeignKeyDef) (children : List ObjName) (stop : Stop) → run look (name_is_free to) ≡ fine tt → run look (renamed_keys from to parts.foreign_keys) ≡ fine foreign_keys
    → run {E = ErrorValue} look (look_at (keys.Children from)) ≡ fine (ChildrenThere children) → Stops stop (run look (each (renamed_child from to) children)) → Stops stop (run look (renamed_table from to space parts))
unfolding renamed_table
table_child_stops look from to space parts foreign_keys children stop free keys_are seen is =
    rw (run_fine look (name_is_free to) _ tt free, run_fine look (renamed_keys from to parts.foreign_keys) _ foreign_keys keys_are, run_fine {E = ErrorValue} look (look_at (keys.Children from)) _ (ChildrenThere children) seen)
    (stops_first look (each (renamed_child from to) children) _ stop is)

pub table_made : (look : Look) (from to : ObjName) (space : ℕ) (parts renamed : TableParts) (id schema : ℕ) (children : List ObjName) (others changes : List Put) → run look (name_is_free to) ≡ fine tt
    → run look (renamed_keys from to parts.foreign_keys) ≡ fine renamed.foreign_keys → renamed ≡ record parts { name = to; foreign_keys = renamed.foreign_keys }
    → run {E = ErrorValue} look (look_at (keys.Children from)) ≡ fine (ChildrenThere children) → run look (each (renamed_child from to) children) ≡ fine (map entry_of others)
    → changes ≡ moved_to from to (objects.Table id schema space renamed) ++ others
    → run look (renamed_table from to space parts) ≡ fine (renamed_of (record { changes = changes; children = children }))
unfolding renamed_table
table_made look from to space parts renamed id schema children others changes is_free keys_are parts_are seen each_is changed =
    run_fine look (name_is_free to) _ tt is_free ∙ run_fine look (renamed_keys from to parts.foreign_keys) _ renamed.foreign_keys keys_are
    ∙ run_fine {E = ErrorValue} look (look_at (keys.Children from)) _ (ChildrenThere children) seen ∙ run_fine look (each (renamed_child from to) children) _ (map entry_of others) each_is
    ∙ ap (λ (p : TableParts). fine (record { changes = (from, Gone) ∷ (to, KeptTable space p) ∷ map entry_of others; children = children })) (sym parts_are)
    ∙ ap (λ (cs : List Put). fine (record { changes = map entry_of cs; children = children })) (sym changed)

-- ## A view

pub view_stays : (look : Look) (from to : ObjName) (parts : ViewParts) (stop : Stop) → Stops stop (run look (refuse_if (not (bytes_eq from.schema to.schema)) (forbid_schema_change from.schema to.schema))) → Stops stop (run look (renamed_view from to parts))
unfolding renamed_view
view_stays look from to parts stop is = stops_first look (refuse_if (not (bytes_eq from.schema to.schema)) (forbid_schema_change from.schema to.schema)) _ stop is

pub view_not_free : (look : Look) (from to : ObjName) (parts : ViewParts) (stop : Stop) → run look (refuse_if (not (bytes_eq from.schema to.schema)) (forbid_schema_change from.schema to.schema)) ≡ fine tt → Stops stop (run look (name_is_free to)) → Stops stop (run look (renamed_view from to parts))
unfolding renamed_view
view_not_free look from to parts stop same is = rw (run_fine look (refuse_if (not (bytes_eq from.schema to.schema)) (forbid_schema_change from.schema to.schema)) _ tt same) (stops_first look (name_is_free to) _ stop is)

pub view_made : (look : Look) (from to : ObjName) (parts renamed : ViewParts) (id schema : ℕ) (changes : List Put) → run look (refuse_if (not (bytes_eq from.schema to.schema)) (forbid_schema_change from.schema to.schema)) ≡ fine tt → run look (name_is_free to) ≡ fine tt
    → renamed ≡ record parts { name = to } → changes ≡ moved_to from to (objects.View id schema renamed)
    → run look (renamed_view from to parts) ≡ fine (renamed_of (record { changes = changes; children = [] }))
unfolding renamed_view
view_made look from to parts renamed id schema changes same is_free parts_are changed =
    run_fine look (refuse_if (not (bytes_eq from.schema to.schema)) (forbid_schema_change from.schema to.schema)) _ tt same ∙ run_fine look (name_is_free to) _ tt is_free
    ∙ ap (λ (p : ViewParts). fine (record { changes = (from, Gone) ∷ (to, KeptView p) ∷ []; children = [] })) (sym parts_are)
    ∙ ap (λ (cs : List Put). fine (record { changes = map entry_of cs; children = [] })) (sym changed)

-- ## A pair behind the changes so far

pub pair_stops : (known : ObjectKey → Option Object) (puts : List Put) (children : List ObjName) (pair : ObjName × ObjName) (stop : Stop) → Stops stop (run (behind known puts) (renamed_object pair.0 pair.1))
    → Stops stop (run (sights known) (one_pair (record { overlay = overlay_of puts; children = children }) pair))
unfolding one_pair
pair_stops known puts children pair stop is =
    stops_first (sights known) (behind_changes (overlay_of puts) (renamed_object pair.0 pair.1)) _ stop (subst (Stops stop) (sym (run_behind known puts (renamed_object pair.0 pair.1))) is)

pub pair_made : (known : ObjectKey → Option Object) (puts after : List Put) (children all : List ObjName) (pair : ObjName × ObjName) (renamed : Renamed) → IsTrue (are_in_order puts) → run (behind known puts) (renamed_object pair.0 pair.1) ≡ fine (renamed_of renamed)
    → after ≡ put_all renamed.changes puts → all ≡ with_all children renamed.children
    → run (sights known) (one_pair (record { overlay = overlay_of puts; children = children }) pair) ≡ fine (record { overlay = overlay_of after; children = all })
unfolding one_pair
pair_made known puts after children all pair renamed ordered is changed added =
    run_fine (sights known) (behind_changes (overlay_of puts) (renamed_object pair.0 pair.1)) _ (renamed_of renamed) (run_behind known puts (renamed_object pair.0 pair.1) ∙ is)
    ∙ ap (λ (o : Overlay). fine (record { overlay = o; children = with_all children renamed.children })) (sym (overlay_all renamed.changes puts ordered) ∙ ap overlay_of (sym changed))
    ∙ ap (λ (cs : List ObjName). fine (record { overlay = overlay_of after; children = cs })) (sym added)
