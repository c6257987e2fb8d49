-- Owners that go and owners that come, and what a batch of their rows means.
use Rattle.std.specs.Prelude.{◌≡◌, ◌⊎◌, ℕ, Bool, false, ◌||◌, List, [], ◌∷◌, Option, Some, None, if◌then◌else◌}
use Rattle.std.specs.List.{list_any}
use Rattle.std.specs.FinMap as finite_map
use Rattle.row_batch.specs.declared.operation.Operation.{Operation}
use Rattle.row_batch.specs.Rows.{Rows, is_key, is_under}
use Rattle.row_batch.specs.Meaning.{Means, made_of}
use Rattle.row_fields.specs.Fields.{fields_bytes}
use Rattle.row_fields.specs.declared.fields.Field.TheVariants.{Long}
use Rattle.dd_catalog.specs.Catalog.{Placed, Table, View}
use Rattle.catalog_rows.specs.Owners.{Owner, SchemaIs, ObjectIs, Row, key_of, key_bytes, named_row}
use Rattle.catalog_rows.specs.Lists.{links_of, rows_of_all}
use Rattle.catalog_rows.specs.Stands.{Numbered, Has, counter_key, next_bytes}

-- ## Puts

abbrev pub no_put : List ℕ → Option (List ℕ)
no_put key = None

abbrev pub with_put : Row → (List ℕ → Option (List ℕ)) → List ℕ → Option (List ℕ)
with_put row puts key = if is_key key (key_bytes row.key) then Some (fields_bytes row.value) else puts key

-- the puts of rows behind others
abbrev pub put_behind : List Row → (List ℕ → Option (List ℕ)) → List ℕ → Option (List ℕ)
put_behind [] puts = puts
put_behind (row ∷ rows) puts = put_behind rows (with_put row puts)

-- and that of the counter, if it is put
abbrev pub with_counter : Option ℕ → (List ℕ → Option (List ℕ)) → List ℕ → Option (List ℕ)
with_counter None puts key = puts key
with_counter (Some next) puts key = if is_key key counter_key then Some (next_bytes next) else puts key

-- ## Erasures

abbrev pub is_among : List ℕ → List Row → Bool
is_among key rows = list_any (λ (row : Row). is_key key (key_bytes row.key)) rows

-- a key under a tag and an id
abbrev pub is_of : ℕ → ℕ → List ℕ → Bool
is_of tag id key = is_under (key_bytes (key_of tag (Long id ∷ []))) key

-- the tags under which the object has rows by its id
abbrev pub inside_tags : Placed → List ℕ
inside_tags (Table space parts) = 3 ∷ 4 ∷ 5 ∷ 6 ∷ 7 ∷ []
inside_tags (View parts) = 8 ∷ []

abbrev pub is_inside : Owner → List ℕ → Bool
is_inside (SchemaIs name id) key = false
is_inside (ObjectIs name schema id placed) key = list_any (λ tag. is_of tag id key) (inside_tags placed)

-- an erasure of the owner takes away what stands under its id, the row of its name, and the rows that others look up
abbrev pub is_erased : Owner → List ℕ → Bool
is_erased owner key = is_inside owner key || is_among key (named_row owner ∷ links_of owner)

abbrev pub are_erased : List Owner → List ℕ → Bool
are_erased owners key = list_any (λ (owner : Owner). is_erased owner key) owners

-- ## Changes

-- the operations take away the rows of the one list of owners, and put those of the other, and the counter if there is one
abbrev pub Exchanges : List Operation → List Owner → List Owner → Option ℕ → Type 0
Exchanges operations gone come counter = Means operations (are_erased gone) (with_counter counter (put_behind (rows_of_all come) no_put))

-- the next number behind a batch with the counter or without
abbrev pub next_after : Option ℕ → ℕ → ℕ
next_after None next = next
next_after (Some new) next = new

abbrev pub IsOne : Owner → List Owner → Type 0
IsOne owner [] = ⊥
IsOne owner (x ∷ xs) = (x ≡ owner) ⊎ IsOne owner xs

-- the second has what the first has, with the same ids, but for those that go and those that come
pub record Follows (n next : Numbered) (gone come : List Owner) : Type 0 where
  pub had : (owner : Owner) → IsOne owner gone → Has n owner
  pub keeps : (owner : Owner) → Has n owner → Has next owner ⊎ IsOne owner gone
  pub new : (owner : Owner) → Has next owner → (Has n owner × (IsOne owner gone → ⊥)) ⊎ IsOne owner come
  pub comes : (owner : Owner) → IsOne owner come → Has next owner

-- the rows behind the operations are what these make of the rows before
pub record MakesOf (operations : List Operation) (rows after : Rows) : Type 0 where
  pub is : (key : List ℕ) → finite_map.get after key ≡ made_of operations key (finite_map.get rows key)
