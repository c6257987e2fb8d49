-- Ids stay apart, and below the next number.
use Rattle.std.proofs.Common.{◌≡◌, ◌⊎◌, inl, inr, ℕ, ◌≤◌, List, Some, refl, sym, ap, subst, ◌∙◌, arith}
use Rattle.dd_names.specs.declared.object_name.ObjName.{ObjName}
use Rattle.dd_catalog.specs.Catalog.{Catalog, Placed, Table, View}
use Rattle.catalog_rows.specs.Owners.{Owner, SchemaIs, ObjectIs}
use Rattle.catalog_rows.specs.Stands.{Numbered, Has, IsApart, IsSpaceBelow, IsBelow}
use Rattle.catalog_rows.specs.Changes.{IsOne, Follows}
use Rattle.catalog_rows_laws.specs.Changing.{IsOwnerBelow, SharesId, IsDrawn, IsNumberedFrom, ComeNumbered, LeadsTo}
use Rattle.catalog_rows_laws.proofs.Owned.{same_id, same_owner, owner_of}
use Rattle.catalog_rows_laws.proofs.Erased.{fits_follow}

-- ## Below the next number

owner_below : (n : Numbered) (next : ℕ) → IsBelow n next → (owner : Owner) → Has n owner → IsOwnerBelow next owner
owner_below n next b (SchemaIs name id) has = b.schemas name id has
owner_below n next b (ObjectIs name schema id placed) has = (b.objects name (record { id = id; placed = placed }) has.1, b.spaces name (record { id = id; placed = placed }) has.1)

space_rises : (next behind : ℕ) (placed : Placed) → next ≤ behind → IsSpaceBelow next placed → IsSpaceBelow behind placed
space_rises next behind (Table space parts) up low = omega arith
space_rises next behind (View parts) up low = tt

below_rises : (next behind : ℕ) (owner : Owner) → next ≤ behind → IsOwnerBelow next owner → IsOwnerBelow behind owner
below_rises next behind (SchemaIs name id) up low = omega arith
below_rises next behind (ObjectIs name schema id placed) up low = (let first = low.0 in omega arith, space_rises next behind placed up low.1)

each_below : (n next : Numbered) (before behind : ℕ) (gone come : List Owner) → Follows n next gone come → IsBelow n before → ComeNumbered before behind gone come → (owner : Owner) → Has next owner → IsOwnerBelow behind owner
each_below n next before behind gone come f b c owner has = by (f.new owner has)
  where
    by : (Has n owner × (IsOne owner gone → ⊥)) ⊎ IsOne owner come → IsOwnerBelow behind owner
    by (inl old) = below_rises before behind owner c.rises (owner_below n before b owner old.0)
    by (inr one) = c.below owner one

pub stays_below : (n next : Numbered) (before behind : ℕ) (now : Catalog) (gone come : List Owner) → LeadsTo n next now gone come → IsBelow n before → ComeNumbered before behind gone come → IsBelow next behind
stays_below n next before behind now gone come l b c = record {
  some = let low = b.some in let up = c.rises in omega arith;
  fits = c.room;
  schemas = λ name id e. each (SchemaIs name id) e;
  objects = λ name st e. let h = owner_of next now l.of l.valid name st e in (each (ObjectIs name h.0 st.id st.placed) h.1).0;
  spaces = λ name st e. let h = owner_of next now l.of l.valid name st e in (each (ObjectIs name h.0 st.id st.placed) h.1).1;
}
  where
    each : (owner : Owner) → Has next owner → IsOwnerBelow behind owner
    each = each_below n next before behind gone come l.follows b c

-- ## Apart

-- in a catalog whose ids are apart, what shares an id is the same
one_id : (n : Numbered) → IsApart n → (a b : Owner) → Has n a → Has n b → SharesId a b → a ≡ b
one_id n apart (SchemaIs x id) (SchemaIs y other) has had e =
    let names : x ≡ y = apart.schemas x y id has (had ∙ ap Some (sym e)) in
    λ i. SchemaIs (names i) (e i)
one_id n apart (ObjectIs a s id placed) (ObjectIs b t other with) has had e =
    same_owner n a b s t id other placed with has had (same_id n apart a b s t id other placed with has had e)
one_id n apart (SchemaIs x id) (ObjectIs b t other with) has had e = absurd e
one_id n apart (ObjectIs a s id placed) (SchemaIs y other) has had e = absurd e

share_turned : (a b : Owner) → SharesId a b → SharesId b a
share_turned (SchemaIs x id) (SchemaIs y other) e = sym e
share_turned (ObjectIs a s id placed) (ObjectIs b t other with) e = sym e
share_turned (SchemaIs x id) (ObjectIs b t other with) e = absurd e
share_turned (ObjectIs a s id placed) (SchemaIs y other) e = absurd e

-- where two share the id of a third, they share it
share_through : (a b c : Owner) → SharesId a c → SharesId b c → SharesId a b
share_through (SchemaIs x id) (SchemaIs y other) (SchemaIs z more) e f = e ∙ sym f
share_through (ObjectIs a s id placed) (ObjectIs b t other with) (ObjectIs c u more beside) e f = e ∙ sym f
share_through (SchemaIs x id) (ObjectIs b t other with) (SchemaIs z more) e f = absurd f
share_through (ObjectIs a s id placed) (SchemaIs y other) (ObjectIs c u more beside) e f = absurd f
share_through (SchemaIs x id) b (ObjectIs c u more beside) e f = absurd e
share_through (ObjectIs a s id placed) b (SchemaIs z more) e f = absurd e

-- a drawn id is no id below
none_drawn : (next : ℕ) (a b : Owner) → IsOwnerBelow next a → IsDrawn next b → SharesId a b → ⊥
none_drawn next (SchemaIs x id) (SchemaIs y other) low drawn e = omega (arith, e)
none_drawn next (ObjectIs a s id placed) (ObjectIs b t other with) low drawn e = let first = low.0 in omega (arith, e)
none_drawn next (SchemaIs x id) (ObjectIs b t other with) low drawn e = e
none_drawn next (ObjectIs a s id placed) (SchemaIs y other) low drawn e = e

-- what stays shares no id with what comes
none_shared : (n next : Numbered) (before behind : ℕ) (gone come : List Owner) → IsApart n → Follows n next gone come → IsBelow n before → ComeNumbered before behind gone come
    → (a b : Owner) → Has n a → (IsOne a gone → ⊥) → IsOne b come → SharesId a b → ⊥
none_shared n next before behind gone come apart f b c x y has stays one e = by (c.from y one)
  where
    by : IsNumberedFrom before gone y → ⊥
    by (inl drawn) = none_drawn before x y (owner_below n before b x has) drawn e
    by (inr old) =
        let same : old.0 ≡ x = one_id n apart old.0 x (f.had old.0 old.1) has (share_through old.0 x y old.2 e) in
        stays (subst (λ (o : Owner). IsOne o gone) same old.1)

each_apart : (n next : Numbered) (before behind : ℕ) (gone come : List Owner) → IsApart n → Follows n next gone come → IsBelow n before → ComeNumbered before behind gone come
    → (a b : Owner) → Has next a → Has next b → SharesId a b → a ≡ b
each_apart n next before behind gone come apart f b c x y has had e = by (f.new x has) (f.new y had)
  where
    by : (Has n x × (IsOne x gone → ⊥)) ⊎ IsOne x come → (Has n y × (IsOne y gone → ⊥)) ⊎ IsOne y come → x ≡ y
    by (inl p) (inl q) = one_id n apart x y p.0 q.0 e
    by (inl p) (inr q) = absurd (none_shared n next before behind gone come apart f b c x y p.0 p.1 q e)
    by (inr p) (inl q) = absurd (none_shared n next before behind gone come apart f b c y x q.0 q.1 p (share_turned x y e))
    by (inr p) (inr q) = c.apart x y p q e

abbrev schema_in : Owner → List ℕ
schema_in (SchemaIs name id) = name
schema_in (ObjectIs name schema id placed) = name.schema

abbrev name_in : ObjName → Owner → ObjName
name_in none (SchemaIs name id) = none
name_in none (ObjectIs name schema id placed) = name

pub stays_apart : (n next : Numbered) (before behind : ℕ) (now : Catalog) (gone come : List Owner) → LeadsTo n next now gone come → IsApart n → IsBelow n before → ComeNumbered before behind gone come → IsApart next
stays_apart n next before behind now gone come l apart b c = record {
  schemas = λ x y id e f. ap schema_in (each (SchemaIs x id) (SchemaIs y id) e f refl);
  objects = λ x y one other e f same.
      let p = owner_of next now l.of l.valid x one e in
      let q = owner_of next now l.of l.valid y other f in
      ap (name_in x) (each (ObjectIs x p.0 one.id one.placed) (ObjectIs y q.0 other.id other.placed) p.1 q.1 same);
  fits = fits_follow n next gone come apart l.follows c.fits;
}
  where
    each : (a b : Owner) → Has next a → Has next b → SharesId a b → a ≡ b
    each = each_apart n next before behind gone come apart l.follows b c
