use Rattle.std.proofs.Common.{◌≡◌, ◌∙◌, ◌++◌, ◌∷◌, [], OnOk, map, subst}
use Rattle.dd_names.specs.declared.object_name.ObjectKey.TheVariants as keys
use Rattle.rules_outcome.specs.Choices.{Change, change}
use Rattle.rules_outcome.specs.Decided.{change_of}
use Rattle.rules_alter.specs.Statements.{table_behind}
use Rattle.rules_alter_statements.proofs.changes.add_table.Goals as goal

pub returns-clause-changes : goal.returns-clause-changes
returns-clause-changes g c =
    let (space, rebuilt, def) = c.in_ok-shape_of.ensures in
    let made : change_of c.in_ok-edit.edit ≡ change (keys.Object c.args.parts.name) (table_behind c.args.space c.args.is_rebuilt c.args.parts) =
    c.in_ok-edit.ensures.made ∙ (λ i. change (keys.Object (c.in_ok-name.ensures i)) (table_behind (space i) (rebuilt i) (def i))) in
    subst (λ (more : Change). OnOk c.add_edit.result (map change_of c.add_edit.new.edits ≡ map change_of c.args.edits.now ++ more ∷ [])) made c.add_edit.ensures.changes
