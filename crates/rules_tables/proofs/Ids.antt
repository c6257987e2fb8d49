-- The ids of a table that is emptied.
use Rattle.std.specs.Prelude.{◌≡◌, ℕ, Option, Some, refl}
use Rattle.std.proofs.Common.{inl, inr}
use Rattle.dd_names.specs.declared.object_name.ObjName.{ObjName}
use Rattle.dd_names.specs.declared.object_name.ObjectKey.{ObjectKey}
use Rattle.dd_names.specs.declared.object_name.ObjectKey.TheVariants as keys
use Rattle.dd_definitions.specs.declared.parts.TableParts.{TableParts}
use Rattle.dd_catalog.specs.declared.object.Object.{Object}
use Rattle.dd_catalog.specs.declared.object.Object.TheVariants as objects
use Rattle.rules_outcome.specs.Decided.{HasIds}
use Rattle.rules_outcome.specs.declared.decided.After.TheVariants as after

pub emptied_has_ids : (known : ObjectKey → Option Object) (table : ObjName) (id schema space : ℕ) (parts : TableParts) → known (keys.Object table) ≡ Some (objects.Table id schema space parts)
    → HasIds known (keys.Object table) (after.RebuiltTable id schema parts)
emptied_has_ids known table id schema space parts there =
    (inr (inl (table, refl, id, space, parts, there)), (schema, space, record { name = table; parts = parts; is = there }))
