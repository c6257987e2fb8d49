-- What an erasure takes away: all rows of its owner, and of no other. So a batch of some that go and some that come
-- leads from rows that stand for a catalog to rows that stand for the one that follows.
use Rattle.std.proofs.Common.{◌≡◌, ◌⊎◌, inl, inr, ℕ, ◌<◌, ◌^◌, Bool, true, false, cond, List, [], ◌∷◌, ◌++◌, Option, Some, None, refl, sym, ap, subst, ◌∙◌, arith}
use Rattle.std.specs.Prelude.{nat_eq, ◌||◌, ◌&&◌, length}
use Rattle.std.specs.List.{list_any, AllByRecursion, starts_with}
use Rattle.std.specs.Option.{option_or}
use Rattle.std.specs.FinMap as finite_map
use Rattle.std.proofs.lemmas.Cmp.{nat_eq_equiv}
use Rattle.std.proofs.lemmas.Bool.{eqb-true, and_parts}
use Rattle.std.proofs.lemmas.List.Concat.{flat_map-append}
use Rattle.std.proofs.lemmas.Bool.Decides.{nat_tests}
use Rattle.dd_names.specs.declared.object_name.ObjName.{ObjName}
use Rattle.dd_catalog.specs.Catalog.{Catalog, Placed, Table, View}
use Rattle.dd_catalog.specs.Valid.{IsValid}
use Rattle.row_batch.specs.declared.operation.Operation.{Operation}
use Rattle.row_batch.specs.Rows.{Rows, is_key, is_under}
use Rattle.row_batch.proofs.Meanings.{is_key_same, is_key_itself}
use Rattle.row_fields.specs.declared.fields.Field.{Field}
use Rattle.row_fields.specs.declared.fields.Field.TheVariants.{Long}
use Rattle.row_fields.specs.Fields.{field_bytes, fields_bytes}
use Rattle.row_fields.proofs.Again.{same_fields}
use Rattle.catalog_rows.specs.Owners.{Owner, SchemaIs, ObjectIs, Row, key_bytes, named_row, Inside, Column, Index, IndexColumn, ForeignKey, KeyColumn, Query, tag_of, numbers_of, inside_row, value_at, Place, Named, Under, Child, Constraint, row_at, HasRow}
use Rattle.catalog_rows.specs.Lists.{links_of, rows_of, rows_of_all}
use Rattle.catalog_rows.specs.Stands.{Numbered, Has, IsOf, FitsOwner, IsApart, is_others, counter_key, next_bytes, Counts, IsBelow, StandsWith}
use Rattle.catalog_rows.specs.Changes.{no_put, put_behind, with_counter, is_among, is_of, inside_tags, is_inside, is_erased, are_erased, Exchanges, next_after, IsOne, Follows, MakesOf}
use Rattle.catalog_rows_laws.specs.Beside.{is_record, ExchangesBeside}
use Rattle.catalog_rows_laws.proofs.Lists.{Among, among_first, among_second, among_either, some_of, Stood, stood, named_stood, link_stood, child_linked, constraint_linked, listed, PutFrom, put_is, row_put, among_key, key_among}
use Rattle.catalog_rows_laws.proofs.Keys.{some_is, head_of, object_tag, schema_only}
use Rattle.catalog_rows_laws.proofs.Owned.{IsWith, same_id, same_owner, one_row}
use Rattle.catalog_rows_laws.proofs.Changed.{OneValue, Leads, MeansOurs, ours, changed}

-- ## Prefixes

under_more : (p r : List ℕ) → is_under p (p ++ r) ≡ true
under_more [] r = starts_nothing r
  where
    starts_nothing : (r : List ℕ) → starts_with nat_eq r [] ≡ true
    starts_nothing [] = refl
    starts_nothing (c ∷ r) = refl
under_more (c ∷ p) r = rw (nat_eq_equiv.refl c) (under_more p r)

pub under_split : (p q : List ℕ) → is_under p q ≡ true → (rest : List ℕ) × (q ≡ p ++ rest)
under_split [] q e = (q, refl)
under_split (c ∷ p) [] e = absurd cc
under_split (c ∷ p) (d ∷ q) e =
    let h = and_parts (nat_eq c d) (starts_with nat_eq q p) e in
    let rest = under_split p q h.1 in
    let same : d ≡ c = sym (eqb-true c d h.0) in
    (rest.0, λ i. same i ∷ rest.1 i)

-- a key whose first field is an id is under its tag and that id
of_id : (tag id : ℕ) (more : List Field) → is_of tag id (tag ∷ fields_bytes (Long id ∷ more)) ≡ true
of_id tag id more =
    let split : fields_bytes (Long id ∷ more) ≡ fields_bytes (Long id ∷ []) ++ fields_bytes more = flat_map-append field_bytes (Long id ∷ []) more in
    ap (λ (bytes : List ℕ). is_of tag id (tag ∷ bytes)) split ∙ under_more (tag ∷ fields_bytes (Long id ∷ [])) (fields_bytes more)

-- and under no other
only_id : (tag other id own : ℕ) (more : List Field) → own < 2 ^ 32 → id < 2 ^ 32 → is_of other id (tag ∷ fields_bytes (Long own ∷ more)) ≡ true → (tag ≡ other) × (own ≡ id)
only_id tag other id own more fit fits e =
    let at = under_split (other ∷ fields_bytes (Long id ∷ [])) (tag ∷ fields_bytes (Long own ∷ more)) e in
    let split : fields_bytes (Long own ∷ more) ≡ fields_bytes (Long own ∷ []) ++ fields_bytes more = flat_map-append field_bytes (Long own ∷ []) more in
    let tags : tag ≡ other = ap head_of at.1 in
    let behind : fields_bytes (Long own ∷ more) ≡ fields_bytes (Long id ∷ []) ++ at.0 = rest tag other (fields_bytes (Long own ∷ more)) (fields_bytes (Long id ∷ []) ++ at.0) at.1 in
    let same = same_fields (Long own ∷ []) (Long id ∷ []) (fields_bytes more) at.0 refl (fit, tt) (fits, tt) (sym split ∙ behind) in
    let first : Long own ∷ [] ≡ Long id ∷ [] = same.0 in
    let ids : own ≡ id = cc in
    (tags, ids)
  where
    rest : (a b : ℕ) (xs ys : List ℕ) → a ∷ xs ≡ b ∷ ys → xs ≡ ys
    rest a b xs ys e = cc

pub under_tag : (tag id : ℕ) (q : List ℕ) → is_of tag id q ≡ true → head_of q ≡ tag
under_tag tag id q e = let at = under_split (tag ∷ fields_bytes (Long id ∷ [])) q e in ap head_of at.1

-- ## Tests

left_or : (a b : Bool) → a ≡ true → (a || b) ≡ true
left_or true b e = refl
left_or false b e = absurd cc

right_or : (a b : Bool) → b ≡ true → (a || b) ≡ true
right_or true b e = refl
right_or false b e = e

either_or : (a b : Bool) → (a || b) ≡ true → (a ≡ true) ⊎ (b ≡ true)
either_or true b e = inl refl
either_or false b e = inr e

any_some : {P : ℕ → Type 0} (test : ℕ → Bool) (xs : List ℕ) → AllByRecursion P xs → list_any test xs ≡ true → (x : ℕ) × P x × (test x ≡ true)
any_some test [] all e = absurd cc
any_some {P = P} test (x ∷ xs) all e = by (either_or (test x) (list_any test xs) e) (any_some test xs all.1)
  where
    by : (test x ≡ true) ⊎ (list_any test xs ≡ true) → (list_any test xs ≡ true → (y : ℕ) × P y × (test y ≡ true)) → (y : ℕ) × P y × (test y ≡ true)
    by (inl h) rest = (x, all.0, h)
    by (inr h) rest = rest h

abbrev IsInsideTag : ℕ → Type 0
IsInsideTag tag = (2 < tag) × (tag < 9)

tags_inside : (placed : Placed) → AllByRecursion IsInsideTag (inside_tags placed)
tags_inside (Table space parts) =
    ((omega arith, omega arith), ((omega arith, omega arith), ((omega arith, omega arith), ((omega arith, omega arith), ((omega arith, omega arith), tt)))))
tags_inside (View parts) = ((omega arith, omega arith), tt)

-- what has a row under an id has its tag
tag_erased : (test : ℕ → Bool) (placed : Placed) (u : Inside) (value : List Field) → value_at placed u ≡ Some value → test (tag_of u) ≡ true → list_any test (inside_tags placed) ≡ true
unfolding value_at
tag_erased test (Table space parts) (Column i) value e h = left_or (test 3) _ h
tag_erased test (Table space parts) (Index i) value e h = right_or (test 3) _ (left_or (test 4) _ h)
tag_erased test (Table space parts) (IndexColumn i j) value e h = right_or (test 3) _ (right_or (test 4) _ (left_or (test 5) _ h))
tag_erased test (Table space parts) (ForeignKey i) value e h = right_or (test 3) _ (right_or (test 4) _ (right_or (test 5) _ (left_or (test 6) _ h)))
tag_erased test (Table space parts) (KeyColumn i j) value e h = right_or (test 3) _ (right_or (test 4) _ (right_or (test 5) _ (right_or (test 6) _ (left_or (test 7) _ h))))
tag_erased test (Table space parts) Query value e h = absurd cc
tag_erased test (View parts) (Column i) value e h = absurd cc
tag_erased test (View parts) (Index i) value e h = absurd cc
tag_erased test (View parts) (IndexColumn i j) value e h = absurd cc
tag_erased test (View parts) (ForeignKey i) value e h = absurd cc
tag_erased test (View parts) (KeyColumn i j) value e h = absurd cc
tag_erased test (View parts) Query value e h = left_or (test 8) _ h

-- ## One owner

covered : (owner : Owner) (place : Place) (at : Row) → row_at owner place ≡ Some at → is_erased owner (key_bytes at.key) ≡ true
unfolding row_at
covered (SchemaIs name id) place at e =
    right_or false _ (among_key (named_row (SchemaIs name id) ∷ []) at (key_bytes at.key) (inl (schema_only name id place at e).1) refl)
covered (ObjectIs name schema id placed) Named at e =
    right_or (is_inside (ObjectIs name schema id placed) (key_bytes at.key)) _ (among_key (named_row (ObjectIs name schema id placed) ∷ links_of (ObjectIs name schema id placed)) at (key_bytes at.key) (inl (some_is (named_row (ObjectIs name schema id placed)) at e)) refl)
covered (ObjectIs name schema id placed) (Under u) at e =
    let x = some_of (inside_row id u) (value_at placed u) at e in
    let own : is_of (tag_of u) id (key_bytes at.key) ≡ true = subst (λ (r : Row). is_of (tag_of u) id (key_bytes r.key) ≡ true) x.2 (of_id (tag_of u) id (numbers_of u)) in
    left_or (is_inside (ObjectIs name schema id placed) (key_bytes at.key)) _ (tag_erased (λ tag. is_of tag id (key_bytes at.key)) placed u x.0 x.1 own)
covered (ObjectIs name schema id placed) (Child i) at e =
    right_or (is_inside (ObjectIs name schema id placed) (key_bytes at.key)) _ (among_key (named_row (ObjectIs name schema id placed) ∷ links_of (ObjectIs name schema id placed)) at (key_bytes at.key) (inr (child_linked name schema id placed i at e)) refl)
covered (ObjectIs name schema id placed) (Constraint i) at e =
    right_or (is_inside (ObjectIs name schema id placed) (key_bytes at.key)) _ (among_key (named_row (ObjectIs name schema id placed) ∷ links_of (ObjectIs name schema id placed)) at (key_bytes at.key) (inr (constraint_linked name schema id placed i at e)) refl)

-- each row of the owner goes
pub covers : (owner : Owner) (q value : List ℕ) → HasRow owner q value → is_erased owner q ≡ true
covers owner q value r = ap (is_erased owner) r.key_is ∙ covered owner r.place r.at r.is

-- the rows that an erasure names by their whole keys are the owner's
own_row : (owner : Owner) (at : Row) → Among at (named_row owner ∷ links_of owner) → Stood owner at
own_row owner at (inl e) = named_stood owner at e
own_row (SchemaIs name id) at (inr h) = absurd h
own_row (ObjectIs name schema id placed) at (inr h) = link_stood name schema id placed at h

whole_row : (owner : Owner) (q : List ℕ) → is_among q (named_row owner ∷ links_of owner) ≡ true → (value : List ℕ) × HasRow owner q value
whole_row owner q e =
    let k = key_among (named_row owner ∷ links_of owner) q e in
    let own = own_row owner k.row k.among in
    (fields_bytes k.row.value, record { place = own.place; at = k.row; is = own.is; key_is = k.key; value_is = refl })

-- a row under a tag of 3 to 8 and an id is one of an object with that id
under_id : (b : ObjName) (t other : ℕ) (with : Placed) (place : Place) (at : Row) → row_at (ObjectIs b t other with) place ≡ Some at → other < 2 ^ 32 → (tag id : ℕ) → id < 2 ^ 32 → is_of tag id (key_bytes at.key) ≡ true → (2 < tag) → (tag < 9) → other ≡ id
unfolding row_at
under_id b t other with Named at e own tag id fits is low high =
    absurd (let first : at.key.tag ≡ tag = under_tag tag id (key_bytes at.key) is in let here : at.key.tag ≡ 2 = object_tag b t other with Named at e in omega arith)
under_id b t other with (Under u) at e own tag id fits is low high =
    let x = some_of (inside_row other u) (value_at with u) at e in
    let here : is_of tag id (key_bytes (inside_row other u x.0).key) ≡ true = subst (λ (r : Row). is_of tag id (key_bytes r.key) ≡ true) (sym x.2) is in
    (only_id (tag_of u) tag id other (numbers_of u) own fits here).1
under_id b t other with (Child i) at e own tag id fits is low high =
    absurd (let first : at.key.tag ≡ tag = under_tag tag id (key_bytes at.key) is in let here : at.key.tag ≡ 11 = object_tag b t other with (Child i) at e in omega arith)
under_id b t other with (Constraint i) at e own tag id fits is low high =
    absurd (let first : at.key.tag ≡ tag = under_tag tag id (key_bytes at.key) is in let here : at.key.tag ≡ 12 = object_tag b t other with (Constraint i) at e in omega arith)

-- what stands under a tag and the id of an object is the object's
pub under_owner : (n : Numbered) (cat : Catalog) → IsWith n cat → (a : ObjName) (s id : ℕ) (placed : Placed) → Has n (ObjectIs a s id placed) → (tag : ℕ) → (2 < tag) → (tag < 9) → (q value : List ℕ) → is_of tag id q ≡ true
    → (other : Owner) → Has n other → HasRow other q value → ObjectIs a s id placed ≡ other
under_owner n cat w a s id placed p tag low high q value e (SchemaIs y more) r row =
    let one = schema_only y more row.place row.at row.is in
    let first : head_of q ≡ 1 = ap head_of row.key_is ∙ ap (λ (r : Row). r.key.tag) (sym one.1) in
    let is = under_tag tag id q e in
    absurd (omega arith)
under_owner n cat w a s id placed p tag low high q value e (ObjectIs b t more with) r row =
    let ids : more ≡ id =
    under_id b t more with row.place row.at row.is (w.apart.fits (ObjectIs b t more with) r).id_fits tag id (w.apart.fits (ObjectIs a s id placed) p).id_fits (ap (is_of tag id) (sym row.key_is) ∙ e) low high in
    same_owner n a b s t id more placed with p r (same_id n w.apart a b s t id more placed with p r (sym ids))

-- what an erasure of one takes away is no other's
pub erases_own : (n : Numbered) (cat : Catalog) → IsWith n cat → (owner other : Owner) → Has n owner → Has n other → (q value : List ℕ) → HasRow other q value → is_erased owner q ≡ true → owner ≡ other
erases_own n cat w owner other p r q value row e = by owner p (either_or (is_inside owner q) (is_among q (named_row owner ∷ links_of owner)) e)
  where
    inside : (owner : Owner) → Has n owner → is_inside owner q ≡ true → owner ≡ other
    inside (SchemaIs name id) p h = absurd cc
    inside (ObjectIs a s id placed) p h =
        let tag = any_some (λ tag. is_of tag id q) (inside_tags placed) (tags_inside placed) h in
        under_owner n cat w a s id placed p tag.0 tag.1.0 tag.1.1 q value tag.2 other r row

    by : (owner : Owner) → Has n owner → (is_inside owner q ≡ true) ⊎ (is_among q (named_row owner ∷ links_of owner) ≡ true) → owner ≡ other
    by owner p (inl h) = inside owner p h
    by owner p (inr h) =
        let own = whole_row owner q h in
        (one_row n cat w owner other q own.0 value p r own.1 row).0

-- an erasure takes away rows of owners alone
pub erased_ours : (owner : Owner) (q : List ℕ) → is_erased owner q ≡ true → is_others q ≡ false
erased_ours owner q e = by (either_or (is_inside owner q) (is_among q (named_row owner ∷ links_of owner)) e)
  where
    no_others : (tag : ℕ) (rest : List ℕ) → (tag < 9) → is_others (tag ∷ rest) ≡ false
    no_others tag rest high = grind (arith, nat_tests)

    inside : (owner : Owner) → is_inside owner q ≡ true → is_others q ≡ false
    inside (SchemaIs name id) h = absurd cc
    inside (ObjectIs a s id placed) h =
        let tag = any_some (λ tag. is_of tag id q) (inside_tags placed) (tags_inside placed) h in
        let at = under_split (tag.0 ∷ fields_bytes (Long id ∷ [])) q tag.2 in
        ap is_others at.1 ∙ no_others tag.0 (fields_bytes (Long id ∷ []) ++ at.0) tag.1.1

    by : (is_inside owner q ≡ true) ⊎ (is_among q (named_row owner ∷ links_of owner) ≡ true) → is_others q ≡ false
    by (inl h) = inside owner h
    by (inr h) = let own = whole_row owner q h in ours owner q own.0 own.1

-- ## Several owners

all_gone : (owners : List Owner) (owner : Owner) (q : List ℕ) → IsOne owner owners → is_erased owner q ≡ true → are_erased owners q ≡ true
all_gone [] owner q h e = absurd h
all_gone (x ∷ owners) owner q (inl same) e = left_or (is_erased x q) (are_erased owners q) (ap (λ (o : Owner). is_erased o q) same ∙ e)
all_gone (x ∷ owners) owner q (inr h) e = right_or (is_erased x q) (are_erased owners q) (all_gone owners owner q h e)

pub one_gone : (owners : List Owner) (q : List ℕ) → are_erased owners q ≡ true → (owner : Owner) × IsOne owner owners × (is_erased owner q ≡ true)
one_gone [] q e = absurd cc
one_gone (x ∷ owners) q e = by (either_or (is_erased x q) (are_erased owners q) e) (one_gone owners q)
  where
    by : (is_erased x q ≡ true) ⊎ (are_erased owners q ≡ true) → (are_erased owners q ≡ true → (owner : Owner) × IsOne owner owners × (is_erased owner q ≡ true)) → (owner : Owner) × IsOne owner (x ∷ owners) × (is_erased owner q ≡ true)
    by (inl e) rest = (x, inl refl, e)
    by (inr e) rest = let r = rest e in (r.0, inr r.1, r.2)

pub row_of_one : (owners : List Owner) (at : Row) → Among at (rows_of_all owners) → (owner : Owner) × IsOne owner owners × Among at (rows_of owner)
row_of_one [] at h = absurd h
row_of_one (x ∷ owners) at h = by (among_either at (rows_of x) (rows_of_all owners) h) (row_of_one owners at)
  where
    by : Among at (rows_of x) ⊎ Among at (rows_of_all owners) → (Among at (rows_of_all owners) → (owner : Owner) × IsOne owner owners × Among at (rows_of owner)) → (owner : Owner) × IsOne owner (x ∷ owners) × Among at (rows_of owner)
    by (inl h) rest = (x, inl refl, h)
    by (inr h) rest = let r = rest h in (r.0, inr r.1, r.2)

pub row_of_all : (owners : List Owner) (owner : Owner) (at : Row) → IsOne owner owners → Among at (rows_of owner) → Among at (rows_of_all owners)
row_of_all [] owner at h a = absurd h
row_of_all (x ∷ owners) owner at (inl same) a = among_first at (rows_of x) (rows_of_all owners) (subst (λ (o : Owner). Among at (rows_of o)) (sym same) a)
row_of_all (x ∷ owners) owner at (inr h) a = among_second at (rows_of x) (rows_of_all owners) (row_of_all owners owner at h a)

pub one_value : (n : Numbered) (cat : Catalog) → IsWith n cat → OneValue n
one_value n cat w = record { one = λ a b key value other p q r s. (one_row n cat w a b key value other p q r s).1 }

-- erasing the rows of some and putting those of others leads to the catalog that has these in their place
leads : (n next : Numbered) (cat now : Catalog) (gone come : List Owner) → IsWith n cat → IsWith next now → Follows n next gone come → Leads n next (are_erased gone) (put_behind (rows_of_all come) no_put)
leads n next cat now gone come w v f = record { stays = stays; puts_are = puts_are; rows_are = rows_are }
  where
    stays : (owner : Owner) (key value : List ℕ) → Has n owner → HasRow owner key value → are_erased gone key ≡ false → Has next owner
    stays owner key value has row e = by (f.keeps owner has)
      where
        by : Has next owner ⊎ IsOne owner gone → Has next owner
        by (inl there) = there
        by (inr one) = absurd (let away = all_gone gone owner key one (covers owner key value row) in cc)

    puts_are : (key value : List ℕ) → put_behind (rows_of_all come) no_put key ≡ Some value → (owner : Owner) × Has next owner × HasRow owner key value
    puts_are key value e = by (put_is (rows_of_all come) no_put key value e)
      where
        by : PutFrom (rows_of_all come) key value ⊎ (no_put key ≡ Some value) → (owner : Owner) × Has next owner × HasRow owner key value
        by (inl p) =
            let one = row_of_one come p.row p.among in
            let at = stood one.0 p.row one.2 in
            (one.0, f.comes one.0 one.1, record { place = at.place; at = p.row; is = at.is; key_is = p.key; value_is = p.is })
        by (inr e) = absurd cc

    rows_are : (owner : Owner) (key value : List ℕ) → Has next owner → HasRow owner key value → (put_behind (rows_of_all come) no_put key ≡ Some value) ⊎ (Has n owner × (are_erased gone key ≡ false))
    rows_are owner key value has row = by (f.new owner has)
      where
        kept : (b : Bool) → are_erased gone key ≡ b → Has n owner → (IsOne owner gone → ⊥) → are_erased gone key ≡ false
        kept false e had stays = e
        kept true e had stays =
            let one = one_gone gone key e in
            let same : one.0 ≡ owner = erases_own n cat w one.0 owner (f.had one.0 one.1) had key value row one.2 in
            absurd (stays (subst (λ (o : Owner). IsOne o gone) same one.1))

        by : (Has n owner × (IsOne owner gone → ⊥)) ⊎ IsOne owner come → (put_behind (rows_of_all come) no_put key ≡ Some value) ⊎ (Has n owner × (are_erased gone key ≡ false))
        by (inl h) = inr (h.0, kept (are_erased gone key) refl h.0 h.1)
        by (inr one) =
            let put = row_put (rows_of_all come) no_put row.at key (row_of_all come owner row.at one (listed owner row.place row.at row.is)) row.key_is in
            let there = puts_are key put.value put.is in
            let same : put.value ≡ value = (one_value next now v).one there.0 owner key put.value value there.1 has there.2 row in
            inl (put.is ∙ ap Some same)

-- ## The counter

counter_no_key : (q : List ℕ) → is_others q ≡ false → is_key q counter_key ≡ false
counter_no_key q own = at (is_key q counter_key) refl
  where
    at : (b : Bool) → is_key q counter_key ≡ b → b ≡ false
    at false e = refl
    at true e =
        let same : q ≡ counter_key = is_key_same q counter_key e in
        let counter : is_others q ≡ true = ap is_others same in
        absurd cc

no_record : (q : List ℕ) → is_others q ≡ false → is_record q ≡ false
no_record [] own = refl
no_record (tag ∷ rest) own = by (nat_eq tag 9) own
  where
    by : (b : Bool) → (b || (nat_eq tag 10 && nat_eq (length rest) 0)) ≡ false → b ≡ false
    by false e = refl
    by true e = absurd cc

without_counter : (operations : List Operation) (gone come : List Owner) (counter : Option ℕ) → ExchangesBeside operations gone come counter → MeansOurs operations (are_erased gone) (put_behind (rows_of_all come) no_put)
without_counter operations gone come None means = λ q own old. means.is q (no_record q own) old
without_counter operations gone come (Some next) means = λ q own old.
    means.is q (no_record q own) old ∙ ap (λ b. option_or (cond b (Some (next_bytes next)) (put_behind (rows_of_all come) no_put q)) (cond (are_erased gone q) None old)) (counter_no_key q own)

-- owners put nothing under the key of a record or of the counter
pub no_put_there : (come : List Owner) (q : List ℕ) → is_others q ≡ true → put_behind (rows_of_all come) no_put q ≡ None
no_put_there come q others = at (put_behind (rows_of_all come) no_put q) refl
  where
    by : (value : List ℕ) → PutFrom (rows_of_all come) q value ⊎ (no_put q ≡ Some value) → ⊥
    by value (inl p) =
        let one = row_of_one come p.row p.among in
        let s = stood one.0 p.row one.2 in
        let own : is_others q ≡ false = ours one.0 q value (record { place = s.place; at = p.row; is = s.is; key_is = p.key; value_is = p.is }) in
        let same : ◌≡◌ {A = Bool} true false = sym others ∙ own in
        cc
    by value (inr e) = cc

    at : (o : Option (List ℕ)) → put_behind (rows_of_all come) no_put q ≡ o → o ≡ None
    at None e = refl
    at (Some value) e = absurd (by value (put_is (rows_of_all come) no_put q value e))

-- nor take it away
not_gone : (gone : List Owner) (q : List ℕ) → is_others q ≡ true → are_erased gone q ≡ false
not_gone gone q others = at (are_erased gone q) refl
  where
    at : (b : Bool) → are_erased gone q ≡ b → b ≡ false
    at false e = refl
    at true e =
        let one = one_gone gone q e in
        let own : is_others q ≡ false = erased_ours one.0 q one.2 in
        let same : ◌≡◌ {A = Bool} true false = sym others ∙ own in
        absurd cc

counted : (operations : List Operation) (rows after : Rows) (before : ℕ) (gone come : List Owner) (counter : Option ℕ) → MakesOf operations rows after → ExchangesBeside operations gone come counter
    → Counts before (finite_map.get rows counter_key) → Counts (next_after counter before) (finite_map.get after counter_key)
counted operations rows after before gone come (Some new) makes means c =
    let own : is_key counter_key counter_key ≡ true = is_key_itself counter_key in
    let is : finite_map.get after counter_key ≡ Some (next_bytes new) =
    makes.is counter_key ∙ means.is counter_key refl (finite_map.get rows counter_key)
    ∙ ap (λ b. option_or (cond b (Some (next_bytes new)) (put_behind (rows_of_all come) no_put counter_key)) (cond (are_erased gone counter_key) None (finite_map.get rows counter_key))) own in
    subst (Counts new) (sym is) refl
counted operations rows after before gone come None makes means c =
    let is : finite_map.get after counter_key ≡ finite_map.get rows counter_key =
    makes.is counter_key ∙ means.is counter_key refl (finite_map.get rows counter_key)
    ∙ ap (λ p. option_or p (cond (are_erased gone counter_key) None (finite_map.get rows counter_key))) (no_put_there come counter_key refl)
    ∙ ap (λ b. cond b None (finite_map.get rows counter_key)) (not_gone gone counter_key refl) in
    subst (Counts before) (sym is) c

-- ## Records of the log

record_other : (q : List ℕ) → is_record q ≡ true → is_others q ≡ true
record_other [] e = absurd cc
record_other (tag ∷ rest) e = left_or (nat_eq tag 9) (nat_eq tag 10 && nat_eq (length rest) 0) e

record_no_counter : (q : List ℕ) → is_record q ≡ true → is_key q counter_key ≡ false
record_no_counter q e = at (is_key q counter_key) refl
  where
    at : (b : Bool) → is_key q counter_key ≡ b → b ≡ false
    at false f = refl
    at true f =
        let counter : is_record counter_key ≡ true = ap is_record (sym (is_key_same q counter_key f)) ∙ e in
        absurd cc

without_next : (counter : Option ℕ) (puts : List ℕ → Option (List ℕ)) (q : List ℕ) → is_record q ≡ true → with_counter counter puts q ≡ puts q
without_next None puts q e = refl
without_next (Some next) puts q e = ap (λ b. cond b (Some (next_bytes next)) (puts q)) (record_no_counter q e)

-- an exchange leaves the records as they are
pub records_stay : (operations : List Operation) (rows after : Rows) (gone come : List Owner) (counter : Option ℕ) → Exchanges operations gone come counter → MakesOf operations rows after → (q : List ℕ) → is_record q ≡ true
    → finite_map.get after q ≡ finite_map.get rows q
records_stay operations rows after gone come counter means makes q e =
    makes.is q ∙ means.is q (finite_map.get rows q)
    ∙ (λ i. option_or (put i) (cond (not_gone gone q (record_other q e) i) None (finite_map.get rows q)))
  where
    put : with_counter counter (put_behind (rows_of_all come) no_put) q ≡ None
    put = without_next counter (put_behind (rows_of_all come) no_put) q e ∙ no_put_there come q (record_other q e)

-- ## The law of changes

pub stands_follow : (operations : List Operation) (rows after : Rows) (n next : Numbered) (before : ℕ) (cat now : Catalog) (gone come : List Owner) (counter : Option ℕ)
    → StandsWith rows n before cat → Follows n next gone come → IsOf next now → IsValid now → IsApart next → IsBelow next (next_after counter before) → ExchangesBeside operations gone come counter → MakesOf operations rows after
    → StandsWith after next (next_after counter before) now
stands_follow operations rows after n next before cat now gone come counter stands f of valid apart below means makes =
    let w : IsWith n cat = record { of = stands.numbered; valid = stands.valid; apart = stands.apart } in
    let v : IsWith next now = record { of = of; valid = valid; apart = apart } in
    record {
      numbered = of;
      valid = valid;
      apart = apart;
      are = changed operations rows after n next (are_erased gone) (put_behind (rows_of_all come) no_put) makes (without_counter operations gone come counter means) (leads n next cat now gone come w v f) (one_value next now v) stands.are;
      counter = counted operations rows after before gone come counter makes means stands.counter;
      below = below;
    }

-- where those that come fit, so do all then
pub fits_follow : (n next : Numbered) (gone come : List Owner) → IsApart n → Follows n next gone come → ((owner : Owner) → IsOne owner come → FitsOwner owner) → (owner : Owner) → Has next owner → FitsOwner owner
fits_follow n next gone come apart f new owner has = by (f.new owner has)
  where
    by : (Has n owner × (IsOne owner gone → ⊥)) ⊎ IsOne owner come → FitsOwner owner
    by (inl old) = apart.fits owner old.0
    by (inr one) = new owner one
