use Rattle.std.proofs.Common.{◌≡◌, ◌∙◌, List, ap, subst, sym, Bor}
use Rattle.std.specs.Prelude.{Option, Some, None, MatchOption, IsTrue}
use Rattle.std.specs.Option.{option_copied, option_map}
use Rattle.std.specs.BTreeMap.{is_at}
use Rattle.std.specs.Map.{lookup}
use Rattle.dd_names.specs.declared.object_name.ObjName.{ObjName}
use Rattle.dd_names.specs.declared.object_name.ObjectKey.{ObjectKey}
use Rattle.dd_catalog.specs.declared.object.Object.{Object}
use Rattle.dd_catalog.specs.Catalog.{object_cmp}
use Rattle.rules_outcome.specs.Decided.{HasIdsAt}
use Rattle.rules_rename.specs.Left.{after_left, kept}
use Rattle.rules_rename.specs.Puts.{Put, after_at}
use Rattle.rules_rename.specs.Ids.{AreWithIds}
use Rattle.rules_rename.proofs.InOrder.{found}
use Rattle.rules_rename.proofs.Ids.{ids_at}
use Rattle.rules_rename.proofs.overlay.Overlay.left_at.Goals as goal

pub returns-clause-left : goal.returns-clause-left
returns-clause-left c =
    let name = c.args.name.now in
    ap (option_map after_left) c.get.ensures.value ∙ found c.self.inside.left.entries name ∙ ap (λ (puts : List Put). after_at puts name) c.self.view_is

with_ids : (known : ObjectKey → Option Object) (puts : List Put) (name : ObjName) (found : Option (Bor Object)) → option_copied found ≡ lookup (is_at (object_cmp name)) puts → AreWithIds known puts → MatchOption found (Unit {0}) (λ left. HasIdsAt known name (kept left.now))
with_ids known puts name None is all = tt
with_ids known puts name (Some left) is all = ids_at known puts name left.now is all

pub returns-clause-ids : goal.returns-clause-ids
returns-clause-ids c known all = with_ids known c.self.inside.left.entries c.args.name.now c.get.result c.get.ensures.value (subst (AreWithIds known) (sym c.self.view_is) all)
