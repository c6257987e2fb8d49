use Rattle.std.proofs.Common.{◌<◌, ◌++◌, ◌∷◌, [], List, Bool, not, length, ap, arith, append-nil, if◌then◌else◌}
use Rattle.std.proofs.lemmas.Grind.{common_steps}
use Rattle.std.proofs.lemmas.List.Elements.{filter_more}
use Rattle.dd_names.specs.declared.object_name.ObjName.{ObjName}
use Rattle.rules_schema.specs.Drops.{is_left_out}
use Rattle.rules_schema.proofs.drops.left_out.Goals as goal

pub objects-preserved : goal.objects-preserved
objects-preserved c =
    let objects = c.args.objects.now in
    let lt : c.objects.object-index < length objects = omega arith in
    let same = ap (λ (leaves : ObjName → Bool). leaves c.object-item.result) c.in_ok-names.ensures in
    grind (arith, common_steps, same, filter_more (is_left_out c.args.tables.now) objects c.objects.object-index c.object-item.result lt, append-nil)
