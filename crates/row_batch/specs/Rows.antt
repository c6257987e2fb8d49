-- Rows as a map from keys to values, and what operations make of them.
use Rattle.std.specs.Prelude.{ℕ, Bool, not, nat_eq, List, [], ◌∷◌}
use Rattle.std.specs.List.{starts_with}
use Rattle.std.specs.Ordering.{eq_by_cmp}
use Rattle.std.specs.FinMap as finite_map
use Rattle.row_batch.specs.declared.operation.Operation.{Operation}
use Rattle.row_batch.specs.declared.operation.Operation.TheVariants.{Delete, DeletePrefix, Put}
use Rattle.row_batch.specs.Order.{key_cmp}

-- values under keys, in byte order
abbrev pub Rows : Type 0
Rows = finite_map.FinMap key_cmp (List ℕ)

abbrev pub no_rows : Rows
no_rows = finite_map.empty

-- two keys are one
abbrev pub is_key : List ℕ → List ℕ → Bool
is_key a b = eq_by_cmp key_cmp a b

-- a key begins with a prefix
abbrev pub is_under : List ℕ → List ℕ → Bool
is_under prefix key = starts_with nat_eq key prefix

-- the rows after an operation
abbrev pub after : Operation → Rows → Rows
after (Delete key) rows = finite_map.remove rows key
after (DeletePrefix prefix) rows = finite_map.retain_keys rows (λ key. not (is_under prefix key))
after (Put key value) rows = finite_map.insert rows key value

-- the rows after all the operations, in their order
abbrev pub applied : List Operation → Rows → Rows
applied [] rows = rows
applied (x ∷ xs) rows = applied xs (after x rows)
