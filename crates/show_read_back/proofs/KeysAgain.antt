-- The indexes of a table that fits together, made again from what its text says.
use Rattle.std.specs.Prelude.{◌≡◌, ℕ, ◌==◌, Bool, true, false, cond, ◌&&◌, ◌||◌, not, nat_le, nat_lt, List, [], ◌∷◌, ◌++◌, map, length, Option, Some, None, if◌then◌else◌, refl}
use Rattle.std.specs.List.{list_any, list_all}
use Rattle.std.specs.Str.{bytes_eq}
use Rattle.std.proofs.Common.{sym, ◌∙◌, ap, subst}
use Rattle.std.proofs.lemmas.Bool.{and_parts, and_from, or_parts, or_from, not-true, cond-false}
use Rattle.std.proofs.lemmas.List.{append-nil, append_assoc}
use Rattle.dd_names.specs.Names.{same}
use Rattle.dd_errors.specs.Errors.{ErrorValue}
use Rattle.sql_types.specs.declared.choices.IndexClass.{IndexClass}
use Rattle.sql_types.specs.declared.choices.IndexClass.TheVariants as classes
use Rattle.sql_types.specs.declared.words.ColumnWords.{ColumnWords}
use Rattle.dd_definitions.specs.Columns.{is_same_column, is_column, is_nullable, are_key_columns}
use Rattle.dd_definitions.specs.Distinct.{are_distinct}
use Rattle.dd_definitions.specs.Indexes.{is_primary_class, is_primary, is_secondary, primary_name, is_same_index, is_primary_first, has_nullable, is_well_named, is_never_null, is_index_formed}
use Rattle.dd_definitions.specs.declared.columns.ColumnDef.{ColumnDef}
use Rattle.dd_definitions.specs.declared.indexes.IndexDef.{IndexDef}
use Rattle.dd_definitions.specs.declared.parts.TableParts.{TableParts}
use Rattle.dd_catalog.specs.Walks.{Walk, done, refuse, refuse_if, over}
use Rattle.rules_elements.specs.Keys.{key_columns, has_index_named, constraint_taken, first_given, allowed_name, key_name, key_of}
use Rattle.rules_refusals.specs.Refusals.{multiple_pri_key, wrong_name_for_index, too_many_key_parts, dup_keyname, key_column_does_not_exist}
use Rattle.rules_refusals.specs.Refusals as refusals
use Rattle.rules_create.specs.Tables.{is_null, is_true, is_null_written, never_null, with_index, one_key}
use Rattle.rules_create.proofs.Lists.{any_map, none_stronger}
use Rattle.rules_create.proofs.Names.{bytes_are}
use Rattle.show_text_laws.specs.Said.{null_said, default_said, column_said, name_said, index_said}
use Rattle.show_read_back.proofs.ColumnsAgain.{not_over, not_none}
use Rattle.show_read_back.proofs.Lists.{apart_before, all_at}
use Rattle.show_read_back.proofs.NamesAgain.{names_again, never_null_named}
use Rattle.show_read_back.proofs.Steps.{goes, passes}

-- ## The columns of a key

pub record AreKeyColumns (columns : List ColumnDef) (names : List (List ℕ)) : Type 0 where
  pub some : nat_le 1 (length names) ≡ true
  pub few : nat_le (length names) 16 ≡ true
  pub distinct : are_distinct bytes_eq names ≡ true
  pub there : list_all (is_column columns) names ≡ true

pub key_parts : (columns : List ColumnDef) (names : List (List ℕ)) → are_key_columns columns names ≡ true → AreKeyColumns columns names
unfolding are_key_columns
key_parts columns names is =
    let (three, there) = and_parts (nat_le 1 (length names) && nat_le (length names) 16 && are_distinct bytes_eq names) (list_all (is_column columns) names) is in
    let (two, distinct) = and_parts (nat_le 1 (length names) && nat_le (length names) 16) (are_distinct bytes_eq names) three in
    let (some, few) = and_parts (nat_le 1 (length names)) (nat_le (length names) 16) two in
    record { some = some; few = few; distinct = distinct; there = there }

-- ## An index by itself

pub record IsIndexFormed (columns : List ColumnDef) (index : IndexDef) : Type 0 where
  pub fits : AreKeyColumns columns index.columns
  pub named : is_well_named index ≡ true
  pub never : is_never_null columns index ≡ true

index_parts : (columns : List ColumnDef) (index : IndexDef) → is_index_formed columns index ≡ true → IsIndexFormed columns index
unfolding is_index_formed
index_parts columns index is =
    let (two, never) = and_parts (are_key_columns columns index.columns && is_well_named index) (is_never_null columns index) is in
    let (fits, named) = and_parts (are_key_columns columns index.columns) (is_well_named index) two in
    record { fits = key_parts columns index.columns fits; named = named; never = never }

-- ## Its name

abbrev is_named_well : IndexClass → List ℕ → Bool
is_named_well class name = if is_primary_class class then bytes_eq name primary_name else not (same name primary_name)

abbrev given_again : IndexClass → List ℕ → Option (List ℕ)
given_again class name = first_given (name_said class name) (constraint_taken class None)

allowed_again : (class : IndexClass) (name : List ℕ) → is_named_well class name ≡ true → allowed_name (is_primary_class class) (given_again class name) ≡ done tt
allowed_again classes.Primary name named = refl
allowed_again classes.Unique name named = ap (λ (b : Bool). refuse_if b (wrong_name_for_index name)) (not-true (same name primary_name) named)
allowed_again classes.Plain name named = ap (λ (b : Bool). refuse_if b (wrong_name_for_index name)) (not-true (same name primary_name) named)

name_again : (parts : TableParts) (class : IndexClass) (name : List ℕ) (columns : List (List ℕ)) → is_named_well class name ≡ true → has_index_named parts.indexes name ≡ false
    → key_name parts (is_primary_class class) (given_again class name) columns ≡ done name
unfolding key_name
name_again parts classes.Primary name columns named apart = let made : List ℕ → Walk ErrorValue (List ℕ) = λ x. done x in ap made (sym (bytes_are name primary_name named))
name_again parts classes.Unique name columns named apart = cond-false (has_index_named parts.indexes name) (refuse (dup_keyname name)) (done name) apart
name_again parts classes.Plain name columns named apart = cond-false (has_index_named parts.indexes name) (refuse (dup_keyname name)) (done name) apart

well_named : (index : IndexDef) → is_well_named index ≡ true → is_named_well index.class index.name ≡ true
unfolding is_well_named
well_named index named = named

key_again : (parts : TableParts) (i : IndexDef) → are_distinct is_same_column parts.columns ≡ true → IsIndexFormed parts.columns i → (is_primary i && list_any is_primary parts.indexes) ≡ false
    → has_index_named parts.indexes i.name ≡ false → key_of parts (index_said i) ≡ done i
unfolding key_of
key_again parts i distinct formed single apart =
    let named = well_named i formed.named in
    passes (is_primary i && list_any is_primary parts.indexes) multiple_pri_key _ single
    ∙ goes (allowed_name (is_primary i) (given_again i.class i.name)) _ tt (allowed_again i.class i.name named)
    ∙ passes (nat_lt 16 (length i.columns)) too_many_key_parts _ (not_over 16 (length i.columns) formed.fits.few)
    ∙ goes (key_columns parts.columns i.columns) _ i.columns (names_again parts.columns i.columns distinct formed.fits.distinct formed.fits.there)
    ∙ goes (key_name parts (is_primary i) (given_again i.class i.name) i.columns) _ i.name (name_again parts i.class i.name i.columns named apart)

-- ## Columns of a primary key are never NULL

null_needs : (nullable auto : Bool) (default : Option (List ℕ)) → (is_true (null_said nullable) || is_null (default_said auto nullable default)) ≡ true → nullable ≡ true
null_needs true auto default is = refl
null_needs false true default is = absurd cc
null_needs false false (Some text) is = absurd cc
null_needs false false None is = absurd cc

-- what is written for a column that is never NULL
none_written : (columns : List ColumnDef) (name : List ℕ) → are_distinct is_same_column columns ≡ true → is_column columns name ≡ true → is_nullable columns name ≡ false
    → is_null_written (map column_said columns) name ≡ false
unfolding is_column is_nullable
none_written columns name distinct is never =
    any_map (λ (words : ColumnWords). same words.name name && (is_true words.nullable || is_null words.default)) column_said columns
    ∙ none_stronger (λ (c : ColumnDef). same c.name name && c.nullable) (λ (c : ColumnDef). same c.name name && (is_true (null_said c.nullable) || is_null (default_said c.auto c.nullable c.default)))
    (λ c h. let (alike, null) = and_parts (same c.name name) (is_true (null_said c.nullable) || is_null (default_said c.auto c.nullable c.default)) h in
    and_from (same c.name name) c.nullable alike (null_needs c.nullable c.auto c.default null))
    columns (never_null_named columns name distinct is never)

each_none_written : (columns : List ColumnDef) (names : List (List ℕ)) → are_distinct is_same_column columns ≡ true → list_all (is_column columns) names ≡ true → list_any (is_nullable columns) names ≡ false
    → list_any (is_null_written (map column_said columns)) names ≡ false
each_none_written columns [] distinct is never = refl
each_none_written columns (name ∷ names) distinct is never =
    let (here, later) = and_parts (is_column columns name) (list_all (is_column columns) names) is in
    let (one, others) = or_parts (is_nullable columns name) (list_any (is_nullable columns) names) never in
    or_from (is_null_written (map column_said columns) name) (list_any (is_null_written (map column_said columns)) names) (none_written columns name distinct here one)
    (each_none_written columns names distinct later others)

-- the primary key has no column that may be NULL
primary_never : (columns : List ColumnDef) (i : IndexDef) → is_never_null columns i ≡ true → is_primary i ≡ true → list_any (is_nullable columns) i.columns ≡ false
unfolding is_never_null has_nullable
primary_never columns i never primary =
    not-true (list_any (is_nullable columns) i.columns) (ap (λ (b : Bool). not b || not (list_any (is_nullable columns) i.columns)) (sym primary) ∙ never)

no_null : (columns : List ColumnDef) (i : IndexDef) → are_distinct is_same_column columns ≡ true → IsIndexFormed columns i → (is_primary i && list_any (is_null_written (map column_said columns)) i.columns) ≡ false
no_null columns i distinct formed = on (is_primary i) refl
  where
    on : (b : Bool) → is_primary i ≡ b → (b && list_any (is_null_written (map column_said columns)) i.columns) ≡ false
    on true primary = each_none_written columns i.columns distinct formed.fits.there (primary_never columns i formed.never primary)
    on false secondary = refl

-- ## So its columns stay

stays : (names : List (List ℕ)) (c : ColumnDef) → list_any (λ (n : List ℕ). bytes_eq c.name n && c.nullable) names ≡ false → never_null names c ≡ c
stays names c never = on c.nullable refl never
  where
    on : (b : Bool) → c.nullable ≡ b → list_any (λ (n : List ℕ). bytes_eq c.name n && b) names ≡ false → never_null names c ≡ c
    on true null never =
        cond-false (list_any (bytes_eq c.name) names) (record c { nullable = false }) c
        (none_stronger (λ (n : List ℕ). bytes_eq c.name n && true) (bytes_eq c.name) (λ n h. and_from (bytes_eq c.name n) true h refl) names never)
    on false null never = either_is (list_any (bytes_eq c.name) names)
      where
        either_is : (b : Bool) → cond b (record c { nullable = false }) c ≡ c
        either_is true = ap (λ (x : Bool). record c { nullable = x }) (sym null)
        either_is false = refl

abbrev null_in : List ColumnDef → List ℕ → Bool
null_in columns name = list_any (λ (c : ColumnDef). bytes_eq c.name name && c.nullable) columns

first_none : (a b : Bool) → a ≡ true → (a || b) ≡ true
first_none true b e = refl
first_none false b e = absurd cc

second_none : (a b : Bool) → b ≡ true → (a || b) ≡ true
second_none true b e = refl
second_none false b e = e

all_stay : (names : List (List ℕ)) (columns : List ColumnDef) → list_any (null_in columns) names ≡ false → map (never_null names) columns ≡ columns
all_stay names [] never = refl
all_stay names (c ∷ cs) never =
    let here = none_stronger (null_in (c ∷ cs)) (λ (n : List ℕ). bytes_eq c.name n && c.nullable) (λ n h. first_none (bytes_eq c.name n && c.nullable) (null_in cs n) h) names never in
    let later = none_stronger (null_in (c ∷ cs)) (null_in cs) (λ n h. second_none (bytes_eq c.name n && c.nullable) (null_in cs n) h) names never in
    λ i. stays names c here i ∷ all_stay names cs later i

primary_stay : (columns : List ColumnDef) (names : List (List ℕ)) → list_any (is_nullable columns) names ≡ false → map (never_null names) columns ≡ columns
unfolding is_nullable
primary_stay columns names never = all_stay names columns never

with_it : (parts : TableParts) (i : IndexDef) → IsIndexFormed parts.columns i → with_index parts i ≡ record parts { indexes = parts.indexes ++ i ∷ [] }
unfolding with_index
with_it parts i formed = on (is_primary i) refl
  where
    on : (b : Bool) → is_primary i ≡ b → record parts { indexes = parts.indexes ++ i ∷ []; columns = if b then map (never_null i.columns) parts.columns else parts.columns } ≡ record parts { indexes = parts.indexes ++ i ∷ [] }
    on true primary = ap (λ (cs : List ColumnDef). record parts { indexes = parts.indexes ++ i ∷ []; columns = cs }) (primary_stay parts.columns i.columns (primary_never parts.columns i formed.never primary))
    on false secondary = refl

-- ## All indexes

one_again : (parts : TableParts) (i : IndexDef) → are_distinct is_same_column parts.columns ≡ true → IsIndexFormed parts.columns i → (is_primary i && list_any is_primary parts.indexes) ≡ false
    → has_index_named parts.indexes i.name ≡ false → one_key (map column_said parts.columns) parts (index_said i) ≡ done (record parts { indexes = parts.indexes ++ i ∷ [] })
unfolding one_key
one_again parts i distinct formed single apart =
    passes (length i.columns == 0) (key_column_does_not_exist []) _ (not_none (length i.columns) formed.fits.some)
    ∙ goes (key_of parts (index_said i)) _ i (key_again parts i distinct formed single apart)
    ∙ passes (is_primary i && list_any (is_null_written (map column_said parts.columns)) i.columns) refusals.primary_cant_have_null _ (no_null parts.columns i distinct formed)
    ∙ (let made : TableParts → Walk ErrorValue TableParts = λ x. done x in ap made (with_it parts i formed))

-- behind the first index none is primary
single_before : (before : List IndexDef) (i : IndexDef) (is : List IndexDef) → is_primary_first (before ++ i ∷ is) ≡ true → (is_primary i && list_any is_primary before) ≡ false
unfolding is_primary_first
single_before [] i is first = neither (is_primary i)
  where
    neither : (b : Bool) → (b && false) ≡ false
    neither true = refl
    neither false = refl
single_before (b ∷ bs) i is first = none (is_primary i) (not-true (is_primary i) (all_at is_secondary bs i is first))
  where
    none : (p : Bool) → p ≡ false → (p && list_any is_primary (b ∷ bs)) ≡ false
    none true e = absurd cc
    none false e = refl

keys_from : (parts : TableParts) (is : List IndexDef) → are_distinct is_same_column parts.columns ≡ true → list_all (is_index_formed parts.columns) is ≡ true → is_primary_first (parts.indexes ++ is) ≡ true
    → are_distinct is_same_index (parts.indexes ++ is) ≡ true
    → over {E = ErrorValue} (one_key (map column_said parts.columns)) parts (map index_said is) ≡ done (record parts { indexes = parts.indexes ++ is })
keys_from parts [] distinct formed first names = let made : List IndexDef → Walk ErrorValue TableParts = λ xs. done (record parts { indexes = xs }) in ap made (sym (append-nil parts.indexes))
keys_from parts (i ∷ is) distinct formed first names =
    let (here, later) = and_parts (is_index_formed parts.columns i) (list_all (is_index_formed parts.columns) is) formed in
    let same_list = append_assoc parts.indexes (i ∷ []) is in
    let more : TableParts = record parts { indexes = parts.indexes ++ i ∷ [] } in
    let rest = keys_from more is distinct later (subst (λ (xs : List IndexDef). is_primary_first xs ≡ true) (sym same_list) first) (subst (λ (xs : List IndexDef). are_distinct is_same_index xs ≡ true) (sym same_list) names) in
    goes (one_key (map column_said parts.columns) parts (index_said i)) _ more
    (one_again parts i distinct (index_parts parts.columns i here) (single_before parts.indexes i is first) (apart_before is_same_index parts.indexes i is names))
    ∙ subst (λ (xs : List IndexDef). over {E = ErrorValue} (one_key (map column_said parts.columns)) more (map index_said is) ≡ done (record parts { indexes = xs })) same_list rest

-- the indexes of a table beside its columns alone
pub keys_again : (bare : TableParts) (is : List IndexDef) → bare.indexes ≡ [] → are_distinct is_same_column bare.columns ≡ true → list_all (is_index_formed bare.columns) is ≡ true → is_primary_first is ≡ true
    → are_distinct is_same_index is ≡ true → over {E = ErrorValue} (one_key (map column_said bare.columns)) bare (map index_said is) ≡ done (record bare { indexes = is })
keys_again bare is none distinct formed first names =
    subst (λ (xs : List IndexDef). over {E = ErrorValue} (one_key (map column_said bare.columns)) bare (map index_said is) ≡ done (record bare { indexes = xs ++ is })) none
    (keys_from bare is distinct formed (subst (λ (xs : List IndexDef). is_primary_first (xs ++ is) ≡ true) (sym none) first) (subst (λ (xs : List IndexDef). are_distinct is_same_index (xs ++ is) ≡ true) (sym none) names))
