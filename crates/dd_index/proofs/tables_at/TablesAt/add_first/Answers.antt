use Rattle.std.proofs.Common.{◌≡◌, sym, subst}
use Rattle.std.specs.Prelude.{None}
use Rattle.std.specs.BTreeMap as tree
use Rattle.dd_names.specs.declared.object_name.ObjectKey.{ObjectKey}
use Rattle.dd_index.specs.Keys.{key_cmp}
use Rattle.dd_index.specs.declared.tables_at.TablesAt.{TablesAt}
use Rattle.dd_index.proofs.Kept.{first_kept}
use Rattle.dd_index.proofs.tables_at.TablesAt.add_first.Goals as goal

pub returns-clause-kept : goal.returns-clause-kept
returns-clause-kept c none =
    let new : TablesAt = record { tables = c.insert.new.self } in
    first_kept c.args.self.now new c.in_ok-copy.field-0 c.in_ok-tables.tables (subst (λ (k : ObjectKey). tree.get key_cmp c.args.self.now.tables k ≡ None) (sym c.in_ok-copy.ensures) none) (record { at = c.in_ok-insert.ensures.updates.0 })
