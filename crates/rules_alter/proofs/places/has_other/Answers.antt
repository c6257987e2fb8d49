use Rattle.std.proofs.Common.{not, sym, ◌∙◌}
use Rattle.dd_names.specs.Names.{same}
use Rattle.dd_definitions.specs.declared.columns.ColumnDef.{ColumnDef}
use Rattle.rules_alter.proofs.Others.{any_other}
use Rattle.rules_alter.proofs.places.has_other.Goals as goal

pub returns : goal.returns
returns c =
    c.has_named_other.ensures ∙ sym (any_other (λ (column : ColumnDef). not (same column.name c.args.one.now)) (λ (column : ColumnDef). same column.name c.args.name.now) c.args.columns.now)
