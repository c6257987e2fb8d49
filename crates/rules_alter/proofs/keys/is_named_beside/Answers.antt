use Rattle.std.proofs.Common.{not, sym, ◌∙◌}
use Rattle.dd_names.specs.Names.{same}
use Rattle.dd_definitions.specs.declared.indexes.IndexDef.{IndexDef}
use Rattle.rules_alter.proofs.Others.{any_other}
use Rattle.rules_alter.proofs.keys.is_named_beside.Goals as goal

pub returns : goal.returns
returns c =
    c.is_named_other.ensures ∙ sym (any_other (λ (index : IndexDef). not (same index.name c.args.one.now)) (λ (index : IndexDef). same index.name c.args.name.now) c.args.indexes.now)
