-- The edits that are told are the changes.
use Rattle.std.specs.Prelude.{◌≡◌, true, List, [], ◌∷◌, map, Option, Some, None, is_some, IsTrue, refl}
use Rattle.std.specs.FinMap as finite_map
use Rattle.std.specs.List.{AllByRecursion}
use Rattle.std.proofs.Common.{sym, ◌∙◌, ap}
use Rattle.std.proofs.lemmas.List.{nil_from_length}
use Rattle.dd_names.specs.declared.object_name.ObjectKey.{ObjectKey}
use Rattle.dd_names.specs.declared.object_name.ObjectKey.TheVariants as keys
use Rattle.dd_catalog.specs.declared.object.Object.{Object}
use Rattle.rules_outcome.specs.declared.decided.Edit.{Edit}
use Rattle.rules_outcome.specs.Decided.{change_of, IsBefore}
use Rattle.rules_rename.specs.Overlays.{Overlay, changes_in}
use Rattle.rules_rename.specs.Puts.{Put, entry_of, are_in_order, overlay_of, AreKnown}
use Rattle.rules_rename.specs.Pairs.{before_at, edit_of}
use Rattle.rules_rename.proofs.Puts.{entries_are}

listed : (known : ObjectKey → Option Object) (puts : List Put) → map change_of (map (edit_of known) puts) ≡ changes_in (map entry_of puts)
listed known [] = refl
listed known (put ∷ puts) = ap (λ cs. change_of (edit_of known put) ∷ cs) (listed known puts)

pub changes_told : (known : ObjectKey → Option Object) (puts : List Put) → IsTrue (are_in_order puts) → map change_of (map (edit_of known) puts) ≡ changes_in (finite_map.entries (overlay_of puts))
changes_told known puts ordered = listed known puts ∙ ap changes_in (sym (entries_are puts ordered))

was_known : (known before : Option Object) → is_some known ≡ true → before ≡ before_at known → IsBefore known before
was_known None before is same = absurd cc
was_known (Some object) before is same = same

pub edits_known : (known : ObjectKey → Option Object) (puts : List Put) → AreKnown known puts → AllByRecursion (λ (edit : Edit). IsBefore (known edit.key) edit.before) (map (edit_of known) puts)
edits_known known [] all = tt
edits_known known (put ∷ puts) all = (was_known (known (keys.Object put.0)) _ all.0 refl, edits_known known puts all.1)

abbrev no_changes : Overlay
no_changes = finite_map.empty

pub overlay_of_none : overlay_of [] ≡ finite_map.empty
overlay_of_none =
    finite_map.same_entries_map (overlay_of []) no_changes (entries_are [] refl ∙ sym (nil_from_length (finite_map.entries no_changes) (sym (finite_map.len-entries no_changes) ∙ finite_map.len-empty _ _)))
