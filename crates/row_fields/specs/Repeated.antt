-- Kinds that come again and again.
use Rattle.std.specs.Prelude.{ℕ, zero, suc, List, [], ◌++◌}
use Rattle.row_fields.specs.declared.fields.Kind.{Kind}

-- so many groups of these kinds, one after the other
abbrev pub repeated : ℕ → List Kind → List Kind
repeated zero kinds = []
repeated (suc count) kinds = repeated count kinds ++ kinds
