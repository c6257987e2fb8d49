-- The catalog behind a table that is altered in its place.
use Rattle.std.specs.Prelude.{◌≡◌, ◌⊎◌, ℕ, Bool, true, false, cond, List, [], ◌∷◌, map, filter, Option, Some, refl}
use Rattle.std.specs.List.{list_all, AllByRecursion}
use Rattle.std.specs.FinMap as finite_map
use Rattle.std.proofs.Common.{sym, ◌∙◌, ap, subst, inl, inr}
use Rattle.std.proofs.lemmas.Bool.{true≢false}
use Rattle.dd_names.specs.declared.object_name.ObjName.{ObjName}
use Rattle.dd_names.specs.declared.object_name.ObjectKey.TheVariants as keys
use Rattle.dd_definitions.specs.Named.{has_names}
use Rattle.dd_definitions.specs.declared.foreign_keys.ForeignKeyDef.{ForeignKeyDef}
use Rattle.dd_definitions.specs.declared.parts.TableParts.{TableParts}
use Rattle.dd_catalog.proofs.ObjectNames.{get_inserted, same_object}
use Rattle.dd_catalog.specs.Catalog.{Catalog, Placed, Table, NameSet, all_of, children_among, is_same_object, refers_to}
use Rattle.dd_catalog.specs.Valid.{IsValid, is_parent_fit, is_placed_named}
use Rattle.rules_outcome.specs.Choices.{applied, applied_at, IsNewSpace}
use Rattle.rules_create.specs.Leaves.{IsTableAt}
use Rattle.rules_alter.specs.Statements.{Found, child_of, table_behind, child_change, is_child_changed, changes_in_place, start_of}
use Rattle.rules_alter.specs.declared.states.Altering.{Altering}
use Rattle.rules_alter.specs.declared.states.Child.{Child}
use Rattle.rules_alter_laws.proofs.Leaves.{IsAltered}
use Rattle.rules_alter_keys_laws.specs.Children.{IsChildOf, AreChildrenOf}
use Rattle.rules_alter_keys_laws.specs.Grounds.{IsGrounded, is_child_paired, is_grounded}
use Rattle.rules_alter_keys_laws.specs.Led.{are_led, IsLed}
use Rattle.rules_alter_keys_laws.proofs.Whole.{IsWhole}
use Rattle.rules_valid.specs.Keeps.{HasSpace}
use Rattle.rules_valid.proofs.AlteredPlaces.{IsFrom, IsAt, IsInPlace, in_place_sound}
use Rattle.rules_valid.proofs.AlteredStart.{children_at, IsStart, each_starts, referring_there, all_led, all_grounded, each_named, children_led}
use Rattle.rules_valid.proofs.RenamedLists.{IsIn, in_filter, filter_in}
use Rattle.rules_valid.proofs.RenamedNames.{is_same, same_or_not}
use Rattle.rules_valid.proofs.RenamedPlaces.{Places}
use Rattle.rules_valid.proofs.RenamedSound.{IsSound, schemas_of, to_valid}

-- ## Items of lists

pub all_in : {X : Type 0} (P : X → Type 0) (x : X) (xs : List X) → AllByRecursion P xs → IsIn x xs → P x
all_in P x [] all is = absurd is
all_in P x (y ∷ ys) all (inl here) = subst P (sym here) all.0
all_in P x (y ∷ ys) all (inr later) = all_in P x ys all.1 later

record IsBefore (table : ObjName) (starts : List Child) (child : Child) : Type 0 where
  start : Child
  there : IsIn start starts
  of : IsChildOf table start child

child_before : (table : ObjName) (starts children : List Child) (child : Child) → AreChildrenOf table starts children → IsIn child children → IsBefore table starts child
child_before table [] [] child all is = absurd is
child_before table [] (b ∷ children) child all is = absurd all
child_before table (a ∷ starts) [] child all is = absurd is
child_before table (a ∷ starts) (b ∷ children) child all (inl here) = record { start = a; there = inl refl; of = subst (IsChildOf table a) (sym here) all.0 }
child_before table (a ∷ starts) (b ∷ children) child all (inr later) =
    let rest : IsBefore table starts child = child_before table starts children child all.1 later in
    record { start = rest.start; there = inr rest.there; of = rest.of }

record IsAfter (table : ObjName) (children : List Child) (start : Child) : Type 0 where
  child : Child
  there : IsIn child children
  of : IsChildOf table start child

child_after : (table : ObjName) (starts children : List Child) (start : Child) → AreChildrenOf table starts children → IsIn start starts → IsAfter table children start
child_after table [] [] start all is = absurd is
child_after table [] (b ∷ children) start all is = absurd is
child_after table (a ∷ starts) [] start all is = absurd all
child_after table (a ∷ starts) (b ∷ children) start all (inl here) = record { child = b; there = inl refl; of = subst (λ (c : Child). IsChildOf table c b) (sym here) all.0 }
child_after table (a ∷ starts) (b ∷ children) start all (inr later) =
    let rest : IsAfter table children start = child_after table starts children start all.1 later in
    record { child = rest.child; there = inr rest.there; of = rest.of }

-- ## The changes, one after another

abbrev put_children : ℕ → List Child → Catalog → Catalog
put_children space children cat = applied space (map child_change children) cat

-- the last child of the name, or what was there
record IsPut (children : List Child) (next : Option Placed) (name : ObjName) : Type 0 where
  child : Child
  there : IsIn child children
  named : child.name ≡ name
  is : next ≡ Some (Table child.space child.parts)

record IsNotPut (children : List Child) (before next : Option Placed) (name : ObjName) : Type 0 where
  none : (child : Child) → IsIn child children → child.name ≡ name → ⊥
  is : next ≡ before

child_put : (space : ℕ) (children : List Child) (cat : Catalog) (name : ObjName)
    → IsPut children (finite_map.get (put_children space children cat).objects name) name ⊎ IsNotPut children (finite_map.get cat.objects name) (finite_map.get (put_children space children cat).objects name) name
child_put space [] cat name = inr (record { none = λ child is _. is; is = refl })
child_put space (c ∷ children) cat name =
    let with_one : Catalog = record cat { objects = finite_map.insert cat.objects c.name (Table c.space c.parts) } in
    let here : finite_map.get with_one.objects name ≡ cond (is_same_object name c.name) (Some (Table c.space c.parts)) (finite_map.get cat.objects name) = get_inserted cat.objects c.name (Table c.space c.parts) name in
    elim (child_put space children with_one name) [
      | inl put ↦ inl (record { child = put.child; there = inr put.there; named = put.named; is = put.is })
      | inr rest ↦ on (is_same_object name c.name) refl rest.none (rest.is ∙ here)
    ]
  where
    after : Option Placed
    after = finite_map.get (put_children space children (record cat { objects = finite_map.insert cat.objects c.name (Table c.space c.parts) })).objects name

    on : (b : Bool) → is_same_object name c.name ≡ b → ((child : Child) → IsIn child children → child.name ≡ name → ⊥) → after ≡ cond b (Some (Table c.space c.parts)) (finite_map.get cat.objects name)
        → IsPut (c ∷ children) after name ⊎ IsNotPut (c ∷ children) (finite_map.get cat.objects name) after name
    on true same none is = inl (record { child = c; there = inl refl; named = sym (same_object name c.name same); is = is })
    on false apart none is = inr (record {
      none = λ child there named. elim there [
        | inl first ↦ true≢false (sym (is_same name c.name (sym named ∙ ap (λ (d : Child). d.name) first)) ∙ apart)
        | inr later ↦ none child later named
      ];
      is = is;
    })

children_schemas : (space : ℕ) (children : List Child) (cat : Catalog) → (put_children space children cat).schemas ≡ cat.schemas
children_schemas space [] cat = refl
children_schemas space (c ∷ children) cat = children_schemas space children (record cat { objects = finite_map.insert cat.objects c.name (Table c.space c.parts) })

-- the space that the table holds
abbrev pub held_of : ℕ → ℕ → Altering → ℕ
held_of space old state = cond state.is_rebuilt space old

table_put : (space old : ℕ) (is_rebuilt : Bool) (parts : TableParts) (cat : Catalog) → applied_at space (keys.Object parts.name) (table_behind old is_rebuilt parts) cat ≡ record cat { objects = finite_map.insert cat.objects parts.name (Table (cond is_rebuilt space old) parts) }
table_put space old true parts cat = refl
table_put space old false parts cat = refl

abbrev pub in_place_catalog : ℕ → ℕ → Altering → Catalog → Catalog
in_place_catalog space old state cat = put_children space (filter is_child_changed state.children) (record cat { objects = finite_map.insert cat.objects state.parts.name (Table (held_of space old state) state.parts) })

pub catalog_is : (space old : ℕ) (state : Altering) (cat : Catalog) → applied space (changes_in_place old state) cat ≡ in_place_catalog space old state cat
catalog_is space old state cat = ap (put_children space (filter is_child_changed state.children)) (table_put space old state.is_rebuilt state.parts cat)

-- ## All that is known

abbrev pub starts_of : Catalog → ObjName → List Child
starts_of cat table = children_at cat (children_among table (finite_map.entries cat.objects))

-- a child of the name, or none
child_or_none : (name : ObjName) (children : List Child) → ((child : Child) × IsIn child children × (child.name ≡ name)) ⊎ ((child : Child) → IsIn child children → child.name ≡ name → ⊥)
child_or_none name [] = inr (λ child is _. is)
child_or_none name (c ∷ children) = elim (same_or_not c.name name) [
  | inl same ↦ inl (c, inl refl, same)
  | inr apart ↦ elim (child_or_none name children) [
    | inl found ↦ inl (found.0, inr found.1, found.2)
    | inr none ↦ inr (λ child is named. elim is [
      | inl here ↦ apart (sym (ap (λ (d : Child). d.name) here) ∙ named)
      | inr later ↦ none child later named
    ])
  ]
]

-- what the actions have made of a table that stands in the catalog
pub record IsMade (cat : Catalog) (table : ObjName) (found : Found) (state : Altering) : Type 0 where
  pub was : finite_map.get cat.objects table ≡ Some (Table found.space found.parts)
  pub altered : IsAltered table state
  pub whole : IsWhole (all_of cat) (start_of found.parts (starts_of cat table)) state

module _ (cat : Catalog) (valid : IsValid cat) (table : ObjName) (space : ℕ) (found : Found) (state : Altering) (made : IsMade cat table found state) where
  named : found.parts.name ≡ table
  named = valid.names_carried table (Table found.space found.parts) (record { is = made.was })

  fits : list_all (λ (key : ForeignKeyDef). is_parent_fit found.parts key (finite_map.get cat.objects key.parent)) found.parts.foreign_keys ≡ true
  fits = valid.parents_fit table found.space found.parts (record { is = made.was })

  start_led : IsLed (start_of found.parts (starts_of cat table))
  start_led = record {
    own = ap (λ n. are_led n found.parts.indexes found.parts.foreign_keys) named ∙ all_led cat table found.space found.parts found.parts found.parts.foreign_keys made.was fits;
    children = subst (λ n. AllByRecursion (λ (child : Child). are_led n found.parts.indexes child.parts.foreign_keys ≡ true) (starts_of cat table)) (sym named)
        (children_led cat valid table found.space found.parts (starts_of cat table) made.was (each_starts cat table));
  }

  start_grounded : IsGrounded (all_of cat) (start_of found.parts (starts_of cat table))
  start_grounded = record {
    own = ap (λ n. list_all (is_grounded (all_of cat) n) found.parts.foreign_keys) named ∙ all_grounded cat valid table found.space found.parts found.parts.foreign_keys made.was fits (each_named found.parts.foreign_keys);
  }

  led : IsLed state
  led = made.whole.follows.led start_led

  grounded : IsGrounded (all_of cat) state
  grounded = made.whole.follows.grounded start_grounded

  own_name_is : state.parts.name ≡ table
  own_name_is = made.altered.stands.named

  of_start : AreChildrenOf table (starts_of cat table) state.children
  of_start = subst (λ n. AreChildrenOf n (starts_of cat table) state.children) named made.whole.follows.children

  from : (child : Child) → IsIn child state.children → IsFrom cat table child
  from child is =
      let before : IsBefore table (starts_of cat table) child = child_before table (starts_of cat table) state.children child of_start is in
      let start : IsStart cat table before.start = each_starts cat table before.start before.there in
      record {
        before = before.start.parts;
        was = ap (finite_map.get cat.objects) before.of.name ∙ start.was ∙ ap (λ n. Some (Table n before.start.parts)) (sym before.of.space);
        parts = before.of.parts;
        same = before.of.keys;
        unchanged = before.of.unchanged;
        other = λ e. start.other (sym before.of.name ∙ e);
      }

  closed : (name : ObjName) (s : ℕ) (parts : TableParts) → finite_map.get cat.objects name ≡ Some (Table s parts) → refers_to table (Table s parts) ≡ true → (name ≡ table → ⊥) → (child : Child) × IsIn child state.children × (child.name ≡ name)
  closed name s parts there refers apart =
      let after : IsAfter table state.children (child_of name s parts) = child_after table (starts_of cat table) state.children (child_of name s parts) of_start (referring_there cat table name s parts there refers apart) in
      (after.child, after.there, after.of.name)

  next : Places
  next = finite_map.get (in_place_catalog space found.space state cat).objects

  with_own : Catalog
  with_own = record cat { objects = finite_map.insert cat.objects state.parts.name (Table (held_of space found.space state) state.parts) }

  untouched : (name : ObjName) → ((child : Child) → IsIn child (filter is_child_changed state.children) → child.name ≡ name → ⊥) → (is_same_object name state.parts.name ≡ false) → finite_map.get (in_place_catalog space found.space state cat).objects name ≡ finite_map.get cat.objects name
      → IsAt cat table (held_of space found.space state) state (finite_map.get (in_place_catalog space found.space state cat).objects) name
  untouched name none apart is = elim (child_or_none name state.children) [
    | inl there ↦
        let child : Child = there.0 in
        let its : IsFrom cat table child = from there.0 there.1 in
        let kept : child.is_changed ≡ false = on child.is_changed refl (λ changed. none there.0 (in_filter is_child_changed there.0 state.children changed there.1) there.2) in
        inr (inl (record {
          child = child;
          there = there.1;
          named = there.2;
          is = is ∙ ap (finite_map.get cat.objects) (sym there.2) ∙ its.was ∙ ap (λ (p : TableParts). Some (Table child.space p)) (sym (its.unchanged kept));
        }))
    | inr no_child ↦ inr (inr (record { apart = λ e. true≢false (sym (is_same name state.parts.name (e ∙ sym own_name_is)) ∙ apart); none = no_child; is = is }))
  ]
    where
      on : (b : Bool) {c : Bool} → c ≡ b → (c ≡ true → ⊥) → c ≡ false
      on true same never = absurd (never same)
      on false same never = same

  at : (name : ObjName) → IsAt cat table (held_of space found.space state) state (finite_map.get (in_place_catalog space found.space state cat).objects) name
  at name = elim (child_put space (filter is_child_changed state.children) (record cat { objects = finite_map.insert cat.objects state.parts.name (Table (held_of space found.space state) state.parts) }) name) [
    | inl put ↦ inr (inl (record { child = put.child; there = (filter_in is_child_changed put.child state.children put.there).1; named = put.named; is = put.is }))
    | inr rest ↦ on (is_same_object name state.parts.name) refl rest.none (rest.is ∙ get_inserted cat.objects state.parts.name (Table (held_of space found.space state) state.parts) name)
  ]
    where
      on : (b : Bool) → is_same_object name state.parts.name ≡ b → ((child : Child) → IsIn child (filter is_child_changed state.children) → child.name ≡ name → ⊥)
          → finite_map.get (in_place_catalog space found.space state cat).objects name ≡ cond b (Some (Table (held_of space found.space state) state.parts)) (finite_map.get cat.objects name)
          → IsAt cat table (held_of space found.space state) state (finite_map.get (in_place_catalog space found.space state cat).objects) name
      on true same none is = inl (record { same = same_object name state.parts.name same ∙ own_name_is; is = is })
      on false apart none is = untouched name none apart is

  held_is : (state.is_rebuilt ≡ true → IsNewSpace cat space) → (b : Bool) → state.is_rebuilt ≡ b → (cond b space found.space ≡ found.space) ⊎ IsNewSpace cat (cond b space found.space)
  held_is new true is = inr (new is)
  held_is new false is = inl refl

  -- where the number for its tablespace is new
  pub in_place : (state.is_rebuilt ≡ true → IsNewSpace cat space) → IsInPlace cat table found.space (held_of space found.space state) state (finite_map.get (in_place_catalog space found.space state cat).objects)
  in_place new = record {
    before = found.parts;
    was = made.was;
    space = held_is new state.is_rebuilt refl;
    stands = made.altered.stands;
    led = ap (λ n. are_led n state.parts.indexes state.parts.foreign_keys) (sym own_name_is) ∙ led.own;
    grounded = ap (λ n. list_all (is_grounded (all_of cat) n) state.parts.foreign_keys) (sym own_name_is) ∙ grounded.own;
    paired = made.whole.paired.own;
    from = from;
    formed = λ child is. all_in (λ (c : Child). IsTableAt c.name c.parts) child state.children made.altered.children is;
    child_led = λ child is. ap (λ n. are_led n state.parts.indexes child.parts.foreign_keys) (sym own_name_is) ∙ all_in (λ (c : Child). are_led state.parts.name state.parts.indexes c.parts.foreign_keys ≡ true) child state.children led.children is;
    child_paired = λ child is. all_in (λ (c : Child). list_all (is_child_paired state.parts c.parts) c.parts.foreign_keys ≡ true) child state.children made.whole.paired.children is;
    closed = closed;
    at = at;
  }

  -- where the names in the table and in its children are names, the catalog is valid
  pub in_place_valid : (state.is_rebuilt ≡ true → IsNewSpace cat space) → has_names state.parts ≡ true → AllByRecursion (λ (child : Child). has_names child.parts ≡ true) state.children → IsValid (in_place_catalog space found.space state cat)
  in_place_valid new own_names child_names = to_valid (in_place_catalog space found.space state cat)
      (λ name there. valid.own_schemas name (still name there)) (λ name there. valid.schemas_named name (still name there))
      (subst (λ (schemas : NameSet). IsSound (λ name. finite_map.contains_key schemas name) (finite_map.get (in_place_catalog space found.space state cat).objects)) (sym schemas_same)
      (in_place_sound cat valid table found.space (held_of space found.space state) state (finite_map.get (in_place_catalog space found.space state cat).objects) (in_place new)))
      (record { all = λ name placed is. names_at name placed is (at name) })
    where
      schemas_same : (in_place_catalog space found.space state cat).schemas ≡ cat.schemas
      schemas_same = children_schemas space (filter is_child_changed state.children) (record cat { objects = finite_map.insert cat.objects state.parts.name (Table (held_of space found.space state) state.parts) })

      still : (name : List ℕ) → schemas_of (in_place_catalog space found.space state cat) name ≡ true → schemas_of cat name ≡ true
      still name there = sym (ap (λ (schemas : NameSet). finite_map.contains_key schemas name) schemas_same) ∙ there

      placed_same : {x y : Placed} → ◌≡◌ {A = Option Placed} (Some x) (Some y) → x ≡ y
      placed_same e = cc

      names_at : (name : ObjName) (placed : Placed) → finite_map.get (in_place_catalog space found.space state cat).objects name ≡ Some placed
          → IsAt cat table (held_of space found.space state) state (finite_map.get (in_place_catalog space found.space state cat).objects) name → is_placed_named placed ≡ true
      names_at name placed is (inl own) = ap is_placed_named (placed_same (sym is ∙ own.is)) ∙ own_names
      names_at name placed is (inr (inl there)) = ap is_placed_named (placed_same (sym is ∙ there.is)) ∙ all_in (λ (c : Child). has_names c.parts ≡ true) there.child state.children child_names there.there
      names_at name placed is (inr (inr other)) = valid.named name placed (record { is = sym other.is ∙ is })

  -- each table has the space of one of the catalog, or the number
  pub in_place_spaces : (name : ObjName) (held : ℕ) (parts : TableParts) → finite_map.get (in_place_catalog space found.space state cat).objects name ≡ Some (Table held parts) → HasSpace cat held ⊎ ((state.is_rebuilt ≡ true) × (held ≡ space))
  in_place_spaces name held parts is = on (at name)
    where
      space_same : {a b : ℕ} {p q : TableParts} → ◌≡◌ {A = Option Placed} (Some (Table a p)) (Some (Table b q)) → a ≡ b
      space_same e = cc

      own : (b : Bool) → state.is_rebuilt ≡ b → held ≡ cond b space found.space → HasSpace cat held ⊎ ((state.is_rebuilt ≡ true) × (held ≡ space))
      own true rebuilt same = inr (rebuilt, same)
      own false rebuilt same = inl (record { name = table; parts = found.parts; has = record { is = made.was ∙ ap (λ n. Some (Table n found.parts)) (sym same) } })

      on : IsAt cat table (held_of space found.space state) state (finite_map.get (in_place_catalog space found.space state cat).objects) name → HasSpace cat held ⊎ ((state.is_rebuilt ≡ true) × (held ≡ space))
      on (inl there) = own state.is_rebuilt refl (space_same (sym is ∙ there.is))
      on (inr (inl there)) =
          let its : IsFrom cat table there.child = from there.child there.there in
          inl (record { name = there.child.name; parts = its.before; has = record { is = its.was ∙ ap (λ n. Some (Table n its.before)) (space_same (sym there.is ∙ is)) } })
      on (inr (inr other)) = inl (record { name = name; parts = parts; has = record { is = sym other.is ∙ is } })
