use Rattle.std.proofs.Common.{sym, ap, ◌∙◌}
use Rattle.std.specs.List.{find}
use Rattle.dd_definitions.specs.declared.foreign_keys.ForeignKeyDef.{ForeignKeyDef}
use Rattle.dd_definitions.specs.declared.parts.TableParts.{TableParts}
use Rattle.dd_catalog.specs.Catalog.{is_same_object}
use Rattle.dd_catalog.specs.Sights.{sight}
use Rattle.rules_schema.specs.Drops.{name_of_key, constraint_on}
use Rattle.rules_schema.proofs.children.constraint_on.Goals as goal

pub returns-in-Table : goal.returns-in-Table
returns-in-Table c =
    let table = c.args.table.now in
    c.name_of_key.ensures ∙ ap name_of_key c.key_on.ensures
    ∙ ap (λ keys. name_of_key (find (λ (key : ForeignKeyDef). is_same_object key.parent table) keys)) (c.as_slice.ensures ∙ ap (λ (parts : TableParts). parts.foreign_keys) c.parts.ensures)
    ∙ sym (ap (λ child. constraint_on table (sight child)) c.in-Table.is)
