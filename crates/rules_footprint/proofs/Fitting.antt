-- What was told of a key is what its step saw.
use Rattle.std.specs.Prelude.{◌≡◌, Bool, true, false, List, [], ◌∷◌, map, Option, Some, Result, Ok, Err, if◌then◌else◌, refl}
use Rattle.std.specs.List.{AllByRecursion}
use Rattle.std.proofs.Common.{ap, append_assoc, sym, ◌∙◌, ◌++◌}
use Rattle.dd_names.specs.declared.object_name.ObjName.{ObjName}
use Rattle.dd_names.specs.declared.object_name.ObjectKey.{ObjectKey}
use Rattle.dd_names.specs.declared.object_name.ObjectKey.TheVariants as keys
use Rattle.dd_catalog.specs.Sights.{sight}
use Rattle.dd_catalog.specs.declared.object.Object.{Object}
use Rattle.dd_catalog.specs.declared.object.Object.TheVariants as objects
use Rattle.dd_catalog.specs.declared.stop.Stop.{Stop}
use Rattle.rules_outcome.specs.Decided.{IsBefore, there}
use Rattle.rules_outcome.specs.declared.decided.Decided.{Decided}
use Rattle.rules_outcome.specs.declared.decided.Decided.TheVariants as decided
use Rattle.rules_outcome.specs.declared.decided.Edit.{Edit}
use Rattle.rules_locks.specs.Claims.{Claim}
use Rattle.rules_locks.specs.Locks.{is_at, keys_before, keys_seen}
use Rattle.rules_locks.specs.Told.{is_same_place}
use Rattle.rules_footprint.specs.Footprints.{IsFitting}
use Rattle.rules_footprint.specs.Plans.{AreTold, Fits, FitsAt, keys_of, told_at}
use Rattle.rules_footprint.specs.Steps.{step_of}
use Rattle.rules_footprint.specs.declared.footprints.Told.{Told}

seen_there : (object : Object) → keys_seen (sight object) ≡ keys_of (there object)
seen_there (objects.Schema id) = refl
seen_there (objects.Table id schema space parts) = refl
seen_there (objects.View id schema parts) = refl
seen_there objects.Absent = refl
seen_there (objects.Schemas names) = refl
seen_there (objects.Objects names) = refl
seen_there (objects.Children names) = refl
seen_there (objects.Constraint table) = refl

same_place : (key : ObjectKey) (object : ObjName) → is_same_place key (keys.Object object) ≡ is_at object key
same_place keys.Schemas object = refl
same_place (keys.Schema name) object = refl
same_place (keys.Objects schema) object = refl
same_place (keys.Object other) object = refl
same_place (keys.Children parent) object = refl
same_place (keys.Constraint schema folded) object = refl

keys_told : (told : List Told) (object : ObjName) (before : Option Object) → IsBefore (told_at told (keys.Object object)) before → keys_before (map step_of told) object ≡ keys_of before
keys_told [] object before is = absurd is
keys_told (t ∷ told) object before is = on (is_same_place t.key.now (keys.Object object)) (same_place t.key.now object) (keys_told told object before) is
  where
    on : (b : Bool) → b ≡ is_at object t.key.now → (IsBefore (told_at told (keys.Object object)) before → keys_before (map step_of told) object ≡ keys_of before)
        → IsBefore (if b then Some t.object.now else told_at told (keys.Object object)) before → keys_before (map step_of (t ∷ told)) object ≡ keys_of before
    on true here later is = rw (sym here) (seen_there t.object.now ∙ ap keys_of (sym is))
    on false apart later is = rw (sym apart) (later is)

edit_fits : (told : List Told) (edit : Edit) → IsBefore (told_at told edit.key) edit.before → Fits (map step_of told) edit
edit_fits told edit is = at edit.key is
  where
    at : (key : ObjectKey) → IsBefore (told_at told key) edit.before → FitsAt (map step_of told) key edit.before
    at keys.Schemas is = tt
    at (keys.Schema name) is = tt
    at (keys.Objects schema) is = tt
    at (keys.Object object) is = keys_told told object edit.before is
    at (keys.Children parent) is = tt
    at (keys.Constraint schema folded) is = tt

edits_fit : (told : List Told) (edits : List Edit) → AllByRecursion (λ (edit : Edit). IsBefore (told_at told edit.key) edit.before) edits → AllByRecursion (Fits (map step_of told)) edits
edits_fit told [] all = tt
edits_fit told (edit ∷ edits) all = (edit_fits told edit all.0, edits_fit told edits all.1)

pub told_fits : (told : List Told) (found : Result Decided Stop) → AreTold told found → IsFitting (map step_of told) found
told_fits told (Ok (decided.Edits edits)) are = edits_fit told edits.puts are
told_fits told (Ok decided.Same) are = tt
told_fits told (Ok (decided.Rows listing)) are = tt
told_fits told (Err stop) are = tt

-- claims that are added one part after another
pub joined : (start one two three text looks ends : List Claim) → start ≡ [] → one ≡ start ++ text → two ≡ one ++ looks → three ≡ two ++ ends → three ≡ text ++ (looks ++ ends)
joined start one two three text looks ends none first second third =
    third ∙ ap (λ (l : List Claim). l ++ ends) (second ∙ ap (λ (l : List Claim). l ++ looks) (first ∙ ap (λ (l : List Claim). l ++ text) none)) ∙ append_assoc text looks ends
