-- The rows behind a batch, by what it takes away and what it puts.
use Rattle.std.proofs.Common.{◌≡◌, ◌⊎◌, inl, inr, ℕ, Bool, true, false, cond, List, ◌∷◌, Option, Some, None, refl, sym, ap, ◌∙◌}
use Rattle.std.specs.Option.{option_or}
use Rattle.std.specs.FinMap as finite_map
use Rattle.row_batch.specs.declared.operation.Operation.{Operation}
use Rattle.row_batch.specs.Rows.{Rows}
use Rattle.row_batch.specs.Meaning.{made_of}
use Rattle.row_fields.specs.Fields.{fields_bytes}
use Rattle.catalog_rows.specs.Owners.{Owner, SchemaIs, ObjectIs, Row, key_bytes, Column, Index, IndexColumn, ForeignKey, KeyColumn, Query, Place, Named, Under, Child, Constraint, row_at, HasRow}
use Rattle.catalog_rows.specs.Stands.{Numbered, Has, RowsAre, is_others}
use Rattle.catalog_rows.specs.Changes.{MakesOf}
use Rattle.catalog_rows_laws.proofs.Keys.{tag_at, object_tag, schema_only}

-- a key has one value, whosever it is
pub record OneValue (n : Numbered) : Type 0 where
  pub one : (a b : Owner) (key value other : List ℕ) → Has n a → Has n b → HasRow a key value → HasRow b key other → value ≡ other

-- from the one catalog to the other, by keys that go and values that come
pub record Leads (n next : Numbered) (gone : List ℕ → Bool) (puts : List ℕ → Option (List ℕ)) : Type 0 where
  -- who keeps a row stays
  pub stays : (owner : Owner) (key value : List ℕ) → Has n owner → HasRow owner key value → gone key ≡ false → Has next owner
  -- what is put is a row of one who is there then
  pub puts_are : (key value : List ℕ) → puts key ≡ Some value → (owner : Owner) × Has next owner × HasRow owner key value
  -- each row then is put, or was there and stays
  pub rows_are : (owner : Owner) (key value : List ℕ) → Has next owner → HasRow owner key value → (puts key ≡ Some value) ⊎ (Has n owner × (gone key ≡ false))

no_others : (place : Place) (rest : List ℕ) → is_others (tag_at place ∷ rest) ≡ false
no_others Named rest = refl
no_others (Under (Column i)) rest = refl
no_others (Under (Index i)) rest = refl
no_others (Under (IndexColumn i j)) rest = refl
no_others (Under (ForeignKey i)) rest = refl
no_others (Under (KeyColumn i j)) rest = refl
no_others (Under Query) rest = refl
no_others (Child i) rest = refl
no_others (Constraint i) rest = refl

own_key : (owner : Owner) (place : Place) (at : Row) → row_at owner place ≡ Some at → is_others (key_bytes at.key) ≡ false
own_key (SchemaIs name id) place at e = ap (λ (r : Row). is_others (key_bytes r.key)) (sym (schema_only name id place at e).1)
own_key (ObjectIs name schema id placed) place at e =
    ap (λ (tag : ℕ). is_others (tag ∷ fields_bytes at.key.fields)) (object_tag name schema id placed place at e) ∙ no_others place (fields_bytes at.key.fields)

-- the key of an owner's row is neither a record's nor the counter's
pub ours : (owner : Owner) (key value : List ℕ) → HasRow owner key value → is_others key ≡ false
ours owner key value row = ap is_others row.key_is ∙ own_key owner row.place row.at row.is

-- what operations mean for the rows of owners
abbrev pub MeansOurs : List Operation → (List ℕ → Bool) → (List ℕ → Option (List ℕ)) → Type 0
MeansOurs operations gone puts = (q : List ℕ) → is_others q ≡ false → (old : Option (List ℕ)) → made_of operations q old ≡ option_or (puts q) (cond (gone q) None old)

pub changed : (operations : List Operation) (rows after : Rows) (n next : Numbered) (gone : List ℕ → Bool) (puts : List ℕ → Option (List ℕ))
    → MakesOf operations rows after → MeansOurs operations gone puts → Leads n next gone puts → OneValue next → RowsAre rows n → RowsAre after next
changed operations rows after n next gone puts makes means leads one are = record { all = all; only = only }
  where
    is : (key : List ℕ) → is_others key ≡ false → finite_map.get after key ≡ option_or (puts key) (cond (gone key) None (finite_map.get rows key))
    is key own = makes.is key ∙ means key own (finite_map.get rows key)

    stayed : (owner : Owner) (key value : List ℕ) (put : Option (List ℕ)) → puts key ≡ put → Has next owner → HasRow owner key value → Has n owner → gone key ≡ false
        → option_or put (cond (gone key) None (finite_map.get rows key)) ≡ Some value
    stayed owner key value None e has row had keeps = ap (λ b. cond b None (finite_map.get rows key)) keeps ∙ are.all owner key value had row
    stayed owner key value (Some new) e has row had keeps =
        let other = leads.puts_are key new e in
        ap Some (one.one other.0 owner key new value other.1 has other.2 row)

    by : (owner : Owner) (key value : List ℕ) → Has next owner → HasRow owner key value → (puts key ≡ Some value) ⊎ (Has n owner × (gone key ≡ false)) → finite_map.get after key ≡ Some value
    by owner key value has row (inl put) = is key (ours owner key value row) ∙ ap (λ p. option_or p (cond (gone key) None (finite_map.get rows key))) put
    by owner key value has row (inr old) = is key (ours owner key value row) ∙ stayed owner key value (puts key) refl has row old.0 old.1

    all : (owner : Owner) (key value : List ℕ) → Has next owner → HasRow owner key value → finite_map.get after key ≡ Some value
    all owner key value has row = by owner key value has row (leads.rows_are owner key value has row)

    found : (key value : List ℕ) (put : Option (List ℕ)) (away : Bool) → puts key ≡ put → gone key ≡ away → is_others key ≡ false → option_or put (cond away None (finite_map.get rows key)) ≡ Some value → (owner : Owner) × Has next owner × HasRow owner key value
    found key value (Some new) away e g own h = leads.puts_are key value (e ∙ h)
    found key value None true e g own h = absurd cc
    found key value None false e g own h =
        let old = are.only key value own h in
        (old.0, leads.stays old.0 key value old.1 old.2 g, old.2)

    only : (key value : List ℕ) → is_others key ≡ false → finite_map.get after key ≡ Some value → (owner : Owner) × Has next owner × HasRow owner key value
    only key value own h = found key value (puts key) (gone key) refl refl own (ap (λ b. option_or (puts key) (cond b None (finite_map.get rows key))) refl ∙ sym (is key own) ∙ h)
