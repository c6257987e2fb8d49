-- The edits of a statement.
use Rattle.std.specs.Prelude.{List, Option}
use Rattle.std.specs.List.{AllByRecursion}
use Rattle.dd_names.specs.declared.object_name.ObjectKey.{ObjectKey}
use Rattle.dd_catalog.specs.declared.object.Object.{Object}
use Rattle.rules_outcome.specs.declared.decided.Edit.{Edit}
use Rattle.rules_outcome.specs.Decided.{IsBefore, HasIds}

-- each edit has what is known to stand at its key
abbrev pub AllBefore : (ObjectKey → Option Object) → List Edit → Type 0
AllBefore known edits = AllByRecursion (λ (edit : Edit). IsBefore (known edit.key) edit.before) edits

-- each edit leaves ids that are known
abbrev pub AllIds : (ObjectKey → Option Object) → List Edit → Type 0
AllIds known edits = AllByRecursion (λ (edit : Edit). HasIds known edit.key edit.after) edits
