-- One pair keeps what stands behind the changes valid.
use Rattle.std.specs.Prelude.{◌≡◌, ◌⊎◌, ℕ, Bool, true, false, ◌||◌, not, List, [], ◌∷◌, ◌++◌, map, Option, Some, None, refl}
use Rattle.std.specs.FinMap as finite_map
use Rattle.std.specs.List.{AllByRecursion, list_any, list_all}
use Rattle.std.specs.Option.{option_map}
use Rattle.std.specs.Str.{bytes_eq}
use Rattle.std.proofs.Common.{sym, ◌∙◌, ap, subst, inl, inr}
use Rattle.std.proofs.lemmas.Bool.{true≢false, or_parts, not-true, not-false, not_from_false}
use Rattle.dd_names.specs.Names.{fold}
use Rattle.dd_names.specs.declared.object_name.ObjName.{ObjName}
use Rattle.dd_names.specs.declared.object_name.ObjectKey.TheVariants as keys
use Rattle.dd_definitions.specs.Named.{is_object_named, is_foreign_key_named}
use Rattle.dd_definitions.specs.declared.foreign_keys.ForeignKeyDef.{ForeignKeyDef}
use Rattle.dd_definitions.specs.declared.parts.TableParts.{TableParts}
use Rattle.dd_definitions.specs.declared.view_parts.ViewParts.{ViewParts}
use Rattle.dd_catalog.specs.Sights.{Sight}
use Rattle.dd_catalog.specs.Catalog.{Catalog, Placed, Table, View, refers_to, has_constraint, object_seen, sight_of, all_of}
use Rattle.dd_catalog.specs.Valid.{are_columns_paired, is_parent_fit}
use Rattle.dd_catalog.specs.Walks.{done, fine, run, refuse_if, each, every, over}
use Rattle.dd_catalog.specs.WalkLaws.{Look}
use Rattle.dd_catalog.specs.Asked.{fine_is, bind_fine}
use Rattle.rules_outcome.specs.Choices.{After, Gone, KeptTable, KeptView}
use Rattle.rules_elements.specs.ForeignKeys.{is_owned_elsewhere, has_constraint_named}
use Rattle.rules_refusals.specs.Refusals.{fk_dup_name}
use Rattle.rules_named.specs.Named.{is_nothing}
use Rattle.rules_refusals.specs.Refusals.{forbid_schema_change, table_exists}
use Rattle.rules_create.proofs.Lists.{all_map, all_weaker, all_push, some_passes}
use Rattle.rules_create.proofs.Names.{bytes_are, not_refused}
use Rattle.rules_rename.specs.Overlays.{Overlay, seen_behind, with_changes}
use Rattle.rules_rename.specs.Renames.{renamed_constraint, renamed_key, fits_in_name, one_free, renamed_keys, child_after, renamed_child, name_is_free, Renamed, renamed_table, renamed_view, renamed_seen, renamed_object}
use Rattle.rules_rename_laws.proofs.ForeignKeys.{AreFree, over_free, in_order_all, table_is_formed}
use Rattle.rules_rename_laws.proofs.Leaves.{view_keeps}
use Rattle.rules_rename.specs.Behind.{look_behind}
use Rattle.rules_valid.proofs.RenamedLists.{IsIn}
use Rattle.rules_valid.proofs.RenamedNames.{same_or_not}
use Rattle.rules_valid.proofs.RenamedPlaces.{Places, placed_after, places_behind}
use Rattle.rules_valid.proofs.RenamedBehind.{names_of, behind_all, IsKeeping}
use Rattle.rules_valid.proofs.RenamedSound.{IsSound, ArePlacedNamed, KeepSpaces, have_parents, schemas_of}
use Rattle.rules_valid.proofs.RenamedNamed.{is_short, all_short, renamed_keys_named, new_table_named, new_view_named}
use Rattle.rules_valid.proofs.MadeNamed.{named_of}
use Rattle.rules_valid.proofs.RenamedMoved.{moved, moved_stays, no_view_is_parent}
use Rattle.rules_valid.proofs.RenamedTables.{Renames, MayStand, HasParents, key_fits, renames_keep_spaces, renames_named, renames_sound}
use Rattle.rules_valid.proofs.RenamedSeen.{object_is_seen, IsOwner, owner_is_seen, IsChild, seen_children, seen_are_children, children_are_seen}

-- what stands behind the changes to a catalog
abbrev pub now_of : Catalog → Overlay → Places
now_of cat overlay = places_behind overlay (finite_map.get cat.objects)

-- a check behind them knows all that stands there
abbrev pub look_of : Catalog → Overlay → Look
look_of cat overlay = look_behind overlay (all_of cat)

-- ## The new name is free

nothing_placed : (known : Option Placed) → is_nothing (object_seen known) ≡ true → known ≡ None
nothing_placed None is = refl
nothing_placed (Some (Table space parts)) is = cc
nothing_placed (Some (View parts)) is = cc

free_name : (cat : Catalog) (overlay : Overlay) (to : ObjName) (x : Unit {0}) → run (look_of cat overlay) (name_is_free to) ≡ fine x → now_of cat overlay to ≡ None
unfolding name_is_free
free_name cat overlay to x is =
    let seen : Sight = seen_behind overlay (keys.Object to) (sight_of cat (keys.Object to)) in
    let nothing : is_nothing seen ≡ true = not-false (is_nothing seen) (not_refused (look_of cat overlay) (not (is_nothing seen)) (table_exists to.name) x is) in
    nothing_placed (now_of cat overlay to) (sym (ap is_nothing (object_is_seen cat overlay to)) ∙ nothing)

-- ## Constraints that no other table has

-- no other table than `from` is seen to have the constraint
abbrev is_unowned : Catalog → Overlay → ObjName → ObjName → ForeignKeyDef → Bool
is_unowned cat overlay from to key = not (is_owned_elsewhere from (seen_behind overlay (keys.Constraint to.schema (fold key.name)) (sight_of cat (keys.Constraint to.schema (fold key.name)))))

one_unowned : (cat : Catalog) (overlay : Overlay) (from to : ObjName) (before : List ForeignKeyDef) (key : ForeignKeyDef) (next : List ForeignKeyDef) → run (look_of cat overlay) (one_free from to before key) ≡ fine next
    → (is_unowned cat overlay from to key ≡ true) × (before ++ key ∷ [] ≡ next)
unfolding one_free
one_unowned cat overlay from to before key next is =
    let owner : Sight = seen_behind overlay (keys.Constraint to.schema (fold key.name)) (sight_of cat (keys.Constraint to.schema (fold key.name))) in
    let (_, free, last) = bind_fine (look_of cat overlay) (refuse_if (is_owned_elsewhere from owner || has_constraint_named before key.name) (fk_dup_name key.name)) (λ _. done (before ++ key ∷ [])) next is in
    let (unowned, _) = or_parts (is_owned_elsewhere from owner) (has_constraint_named before key.name) (not_refused (look_of cat overlay) (is_owned_elsewhere from owner || has_constraint_named before key.name) (fk_dup_name key.name) tt free) in
    (not_from_false (is_owned_elsewhere from owner) unowned, fine_is last)

all_unowned : (cat : Catalog) (overlay : Overlay) (from to : ObjName) (before keys free : List ForeignKeyDef) → list_all (is_unowned cat overlay from to) before ≡ true → run (look_of cat overlay) (over (one_free from to) before keys) ≡ fine free
    → list_all (is_unowned cat overlay from to) free ≡ true
all_unowned cat overlay from to before [] free all is = subst (λ (ks : List ForeignKeyDef). list_all (is_unowned cat overlay from to) ks ≡ true) (fine_is is) all
all_unowned cat overlay from to before (key ∷ rest) free all is =
    let (next, one, others) = bind_fine (look_of cat overlay) (one_free from to before key) (λ state. over (one_free from to) state rest) free is in
    let (unowned, next_is) = one_unowned cat overlay from to before key next one in
    all_unowned cat overlay from to next rest free (subst (λ (ks : List ForeignKeyDef). list_all (is_unowned cat overlay from to) ks ≡ true) next_is (all_push (is_unowned cat overlay from to) before key all unowned)) others

-- what is known of the new foreign keys
record AreMade (cat : Catalog) (overlay : Overlay) (from to : ObjName) (own made : List ForeignKeyDef) : Type 0 where
  passing : (p : ForeignKeyDef → Bool) → list_all (λ (key : ForeignKeyDef). p (renamed_key from to key)) own ≡ true → list_all p made ≡ true
  unowned : list_all (is_unowned cat overlay from to) made ≡ true
  short : list_all is_short (map (renamed_key from to) own) ≡ true

are_made : (cat : Catalog) (overlay : Overlay) (from to : ObjName) (own made : List ForeignKeyDef) → run (look_of cat overlay) (renamed_keys from to own) ≡ fine made → AreMade cat overlay from to own made
unfolding renamed_keys
are_made cat overlay from to own made is =
    let look : Look = look_of cat overlay in
    let (x, fit, after_names) = bind_fine look (every fits_in_name (map (renamed_key from to) own)) _ made is in
    let (free, found, last) = bind_fine look (over (one_free from to) [] (map (renamed_key from to) own)) _ made after_names in
    let all : AreFree (map (renamed_key from to) own) free = over_free look from to [] (map (renamed_key from to) own) free refl found in
    let unowned : list_all (is_unowned cat overlay from to) free ≡ true = all_unowned cat overlay from to [] (map (renamed_key from to) own) free refl found in
    record {
      passing = λ p passes. subst (λ (ks : List ForeignKeyDef). list_all p ks ≡ true) (fine_is last)
          (in_order_all p free (subst (λ (ks : List ForeignKeyDef). list_all p ks ≡ true) all.all (all_map p (renamed_key from to) own ∙ passes)));
      unowned = subst (λ (ks : List ForeignKeyDef). list_all (is_unowned cat overlay from to) ks ≡ true) (fine_is last) (in_order_all (is_unowned cat overlay from to) free unowned);
      short = all_short look (map (renamed_key from to) own) x fit;
    }

-- no other table has a constraint of a new name
made_unowned : (cat : Catalog) (overlay : Overlay) (from to : ObjName) (own made : List ForeignKeyDef) → IsSound (schemas_of cat) (finite_map.get cat.objects) → IsSound (schemas_of cat) (now_of cat overlay) → AreMade cat overlay from to own made
    → (folded : List ℕ) (o : ObjName) (placed : Placed) → list_any (λ (key : ForeignKeyDef). bytes_eq (fold key.name) folded) made ≡ true → now_of cat overlay o ≡ Some placed → o.schema ≡ to.schema → (o ≡ from → ⊥) → has_constraint folded placed ≡ true → ⊥
made_unowned cat overlay from to own made before sound are folded o placed has there schema_is apart also =
    let (key, unowned, named) = some_passes (is_unowned cat overlay from to) (λ (k : ForeignKeyDef). bytes_eq (fold k.name) folded) made are.unowned has in
    let same_name : fold key.name ≡ folded = bytes_are (fold key.name) folded named in
    let owner : IsOwner to.schema folded (now_of cat overlay) o = record { placed = placed; there = there; schema_is = schema_is; has = also } in
    let elsewhere : is_owned_elsewhere from (seen_behind overlay (keys.Constraint to.schema folded) (sight_of cat (keys.Constraint to.schema folded))) ≡ true = owner_is_seen (schemas_of cat) cat overlay before sound to.schema folded from o owner apart in
    let not_elsewhere : is_owned_elsewhere from (seen_behind overlay (keys.Constraint to.schema folded) (sight_of cat (keys.Constraint to.schema folded))) ≡ false =
    subst (λ (n : List ℕ). is_owned_elsewhere from (seen_behind overlay (keys.Constraint to.schema n) (sight_of cat (keys.Constraint to.schema n))) ≡ false) same_name
    (not-true (is_owned_elsewhere from (seen_behind overlay (keys.Constraint to.schema (fold key.name)) (sight_of cat (keys.Constraint to.schema (fold key.name))))) unowned) in
    true≢false (sym elsewhere ∙ not_elsewhere)

-- ## What is to stand behind a pair

-- at one name
record StandsAt (from to : ObjName) (new : Placed) (now : Places) (name : ObjName) (then_there : Option Placed) : Type 0 where
  gone : name ≡ from → then_there ≡ None
  there : name ≡ to → then_there ≡ Some new
  others : (name ≡ from → ⊥) → (name ≡ to → ⊥) → then_there ≡ option_map (moved from to) (now name)

renames_of : (from to : ObjName) (new : Placed) (now next : Places) → ((name : ObjName) → StandsAt from to new now name (next name)) → Renames from to new now next
renames_of from to new now next all = record {
  gone = (all from).gone refl;
  there = (all to).there refl;
  others = λ o not_from not_to. (all o).others not_from not_to;
}

at_old : (from to : ObjName) (new : Placed) (now : Places) → (from ≡ to → ⊥) → StandsAt from to new now from None
at_old from to new now apart = record { gone = λ _. refl; there = λ same. absurd (apart same); others = λ not_from _. absurd (not_from refl) }

at_new : (from to : ObjName) (new : Placed) (now : Places) → (from ≡ to → ⊥) → StandsAt from to new now to (Some new)
at_new from to new now apart = record { gone = λ same. absurd (apart (sym same)); there = λ _. refl; others = λ _ not_to. absurd (not_to refl) }

at_other : (from to : ObjName) (new : Placed) (now : Places) (name : ObjName) (then_there : Option Placed) → (name ≡ from → ⊥) → (name ≡ to → ⊥) → then_there ≡ option_map (moved from to) (now name) → StandsAt from to new now name then_there
at_other from to new now name then_there not_from not_to is = record { gone = λ same. absurd (not_from same); there = λ same. absurd (not_to same); others = λ _ _. is }

-- what doesn't refer to the table stays as it is
stays : (from to : ObjName) (now : Places) (name : ObjName) (known : Option Placed) → now name ≡ known → ((placed : Placed) → known ≡ Some placed → refers_to from placed ≡ false) → now name ≡ option_map (moved from to) (now name)
stays from to now name None there none = there ∙ sym (ap (option_map (moved from to)) there)
stays from to now name (Some placed) there none = there ∙ ap (λ x. Some x) (sym (moved_stays from to placed (none placed refl))) ∙ sym (ap (option_map (moved from to)) there)

two_names : (from to : ObjName) (now : Places) (old : Placed) → now from ≡ Some old → now to ≡ None → from ≡ to → ⊥
two_names from to now old was free same = let both : Some old ≡ None = sym was ∙ ap now same ∙ free in cc

-- ## A table

-- the table at its new name, with its new foreign keys
abbrev parts_at : ObjName → TableParts → List ForeignKeyDef → TableParts
parts_at to parts made = record parts { name = to; foreign_keys = made }

abbrev table_changes : ObjName → ObjName → ℕ → TableParts → List ForeignKeyDef → List (ObjName × After) → List (ObjName × After)
table_changes from to space parts made changes = (from, Gone) ∷ (to, KeptTable space (parts_at to parts made)) ∷ changes

abbrev table_at : ObjName → ℕ → TableParts → List ForeignKeyDef → Placed
table_at to space parts made = Table space (parts_at to parts made)

child_stands : (from to : ObjName) (known : Option Placed) → placed_after (child_after from to (object_seen known)) ≡ option_map (moved from to) known
child_stands from to None = refl
child_stands from to (Some (Table space parts)) = refl
child_stands from to (Some (View parts)) = refl

child_keeps : (from to : ObjName) (known : Option Placed) → IsKeeping (child_after from to (object_seen known))
child_keeps from to None = tt
child_keeps from to (Some (Table space parts)) = tt
child_keeps from to (Some (View parts)) = tt

-- the changes of the children, in their order
record AreChildren (cat : Catalog) (overlay : Overlay) (from to : ObjName) (children : List ObjName) (changes : List (ObjName × After)) : Type 0 where
  names : names_of changes ≡ children
  all : AllByRecursion (λ (c : ObjName × After). child_after from to (object_seen (now_of cat overlay c.0)) ≡ c.1) changes

-- what holds of each child as it is then holds of the changes
children_hold : (Q : ObjName → After → Type 0) (cat : Catalog) (overlay : Overlay) (from to : ObjName) (changes : List (ObjName × After))
    → ((child : ObjName) → IsIn child (names_of changes) → Q child (child_after from to (object_seen (now_of cat overlay child)))) → AllByRecursion (λ (c : ObjName × After). child_after from to (object_seen (now_of cat overlay c.0)) ≡ c.1) changes
    → AllByRecursion (λ (c : ObjName × After). Q c.0 c.1) changes
children_hold Q cat overlay from to [] holds all = tt
children_hold Q cat overlay from to (c ∷ changes) holds all = (subst (Q c.0) all.0 (holds c.0 (inl refl)), children_hold Q cat overlay from to changes (λ child there. holds child (inr there)) all.1)

one_child : (cat : Catalog) (overlay : Overlay) (from to child : ObjName) (made : ObjName × After) → run (look_of cat overlay) (renamed_child from to child) ≡ fine made → (child, child_after from to (object_seen (now_of cat overlay child))) ≡ made
unfolding renamed_child
one_child cat overlay from to child made is = ap (λ (seen : Sight). (child, child_after from to seen)) (sym (object_is_seen cat overlay child)) ∙ fine_is is

all_children : (cat : Catalog) (overlay : Overlay) (from to : ObjName) (children : List ObjName) (changes : List (ObjName × After)) → run (look_of cat overlay) (each (renamed_child from to) children) ≡ fine changes → AreChildren cat overlay from to children changes
all_children cat overlay from to [] changes is = subst (AreChildren cat overlay from to []) (fine_is is) (record { names = refl; all = tt })
all_children cat overlay from to (child ∷ children) changes is =
    let (one, made, after_one) = bind_fine (look_of cat overlay) (renamed_child from to child) _ changes is in
    let (rest, others, last) = bind_fine (look_of cat overlay) (each (renamed_child from to) children) _ changes after_one in
    let later : AreChildren cat overlay from to children rest = all_children cat overlay from to children rest others in
    let first : (child, child_after from to (object_seen (now_of cat overlay child))) ≡ one = one_child cat overlay from to child one made in
    subst (AreChildren cat overlay from to (child ∷ children)) (ap (λ (c : ObjName × After). c ∷ rest) first ∙ fine_is last) (record {
      names = ap (λ (names : List ObjName). child ∷ names) later.names;
      all = (refl, later.all);
    })

-- ## A pair

-- what stands behind the pair is valid, and no tablespace is made
pub record KeepsValid (cat : Catalog) (overlay : Overlay) (to : ObjName) (renamed : Renamed) : Type 0 where
  pub sound : IsSound (schemas_of cat) (now_of cat (with_changes overlay renamed.changes))
  pub keeping : AllByRecursion (λ (c : ObjName × After). IsKeeping c.1) renamed.changes
  pub spaces : KeepSpaces (now_of cat overlay) (now_of cat (with_changes overlay renamed.changes))
  pub named : is_object_named to ≡ true → ArePlacedNamed (now_of cat overlay) → ArePlacedNamed (now_of cat (with_changes overlay renamed.changes))

-- what a pair begins with
pub record Begins (cat : Catalog) (overlay : Overlay) : Type 0 where
  pub before : IsSound (schemas_of cat) (finite_map.get cat.objects)
  pub sound : IsSound (schemas_of cat) (now_of cat overlay)

new_parents : (cat : Catalog) (overlay : Overlay) (from to : ObjName) (space : ℕ) (parts : TableParts) (made : List ForeignKeyDef) → Begins cat overlay → AreMade cat overlay from to parts.foreign_keys made
    → MayStand (schemas_of cat) from to (Table space parts) (table_at to space parts made) (now_of cat overlay) → HasParents from to (table_at to space parts made) (now_of cat overlay)
unfolding are_columns_paired renamed_key
new_parents cat overlay from to space parts made begins are stand = record {
  fit = λ next renames n p is.
      let same_parts : parts_at to parts made ≡ p = cc in
      let fits : have_parents (now_of cat overlay) parts parts.foreign_keys ≡ true = begins.sound.parents_fit from space parts stand.was in
      let each_fits : list_all (λ (key : ForeignKeyDef). is_parent_fit parts (renamed_key from to key) (next (renamed_key from to key).parent)) parts.foreign_keys ≡ true =
      all_weaker (λ (key : ForeignKeyDef). is_parent_fit parts key (now_of cat overlay key.parent)) (λ (key : ForeignKeyDef). is_parent_fit parts (renamed_key from to key) (next (renamed_key from to key).parent))
      (λ key fit. key_fits (schemas_of cat) from to (Table space parts) (table_at to space parts made) (now_of cat overlay) next stand renames parts (record key { name = renamed_constraint from.name to.name key.name }) fit) parts.foreign_keys fits in
      subst (λ (q : TableParts). have_parents next q q.foreign_keys ≡ true) same_parts (are.passing (λ (key : ForeignKeyDef). is_parent_fit parts key (next key.parent)) each_fits);
}

-- what is no child stays
child_or_stays : (cat : Catalog) (overlay : Overlay) (from to name : ObjName) → (name ≡ from → ⊥) → (known : Option Placed) → now_of cat overlay name ≡ known
    → (now_of cat overlay name ≡ option_map (moved from to) (now_of cat overlay name)) ⊎ IsIn name (seen_children cat overlay from)
child_or_stays cat overlay from to name apart None there = inl (there ∙ sym (ap (option_map (moved from to)) there))
child_or_stays cat overlay from to name apart (Some placed) there = on (refers_to from placed) refl
  where
    on : (b : Bool) → refers_to from placed ≡ b → (now_of cat overlay name ≡ option_map (moved from to) (now_of cat overlay name)) ⊎ IsIn name (seen_children cat overlay from)
    on true refers = inr (children_are_seen cat overlay from name (record { placed = placed; there = there; refers = refers; other = apart }))
    on false none = inl (there ∙ ap (λ x. Some x) (sym (moved_stays from to placed none)) ∙ sym (ap (option_map (moved from to)) there))

children_stand : (cat : Catalog) (overlay : Overlay) (from to : ObjName) (new : Placed) → now_of cat overlay to ≡ None → (child : ObjName) → IsIn child (seen_children cat overlay from)
    → StandsAt from to new (now_of cat overlay) child (placed_after (child_after from to (object_seen (now_of cat overlay child))))
children_stand cat overlay from to new free child there =
    let is_child : IsChild from (now_of cat overlay) child = seen_are_children cat overlay from child there in
    let not_to : child ≡ to → ⊥ = λ same. let both : Some is_child.placed ≡ None = sym is_child.there ∙ ap (now_of cat overlay) same ∙ free in cc in
    at_other from to new (now_of cat overlay) child (placed_after (child_after from to (object_seen (now_of cat overlay child)))) is_child.other not_to (child_stands from to (now_of cat overlay child))

table_before : (cat : Catalog) (overlay : Overlay) (from to : ObjName) (new : Placed) (changes : List (ObjName × After)) → AreChildren cat overlay from to (seen_children cat overlay from) changes → (name : ObjName)
    → StandsAt from to new (now_of cat overlay) name (now_of cat overlay name) ⊎ IsIn name (from ∷ to ∷ names_of changes)
table_before cat overlay from to new changes children name = elim (same_or_not name from) [
  | inl same ↦ inr (inl same)
  | inr not_from ↦ elim (same_or_not name to) [
    | inl same ↦ inr (inr (inl same))
    | inr not_to ↦ elim (child_or_stays cat overlay from to name not_from (now_of cat overlay name) refl) [
      | inl is ↦ inl (at_other from to new (now_of cat overlay) name (now_of cat overlay name) not_from not_to is)
      | inr child ↦ inr (inr (inr (subst (λ (names : List ObjName). IsIn name names) (sym children.names) child)))
    ]
  ]
]

table_all : (cat : Catalog) (overlay : Overlay) (from to : ObjName) (space : ℕ) (parts : TableParts) (made : List ForeignKeyDef) (changes : List (ObjName × After)) → Begins cat overlay → schemas_of cat to.schema ≡ true
    → now_of cat overlay from ≡ Some (Table space parts) → now_of cat overlay to ≡ None → run (look_of cat overlay) (renamed_keys from to parts.foreign_keys) ≡ fine made → AreChildren cat overlay from to (seen_children cat overlay from) changes
    → KeepsValid cat overlay to (record { changes = table_changes from to space parts made changes; children = seen_children cat overlay from })
table_all cat overlay from to space parts made changes begins schema was free keys_made children =
    let are : AreMade cat overlay from to parts.foreign_keys made = are_made cat overlay from to parts.foreign_keys made keys_made in
    let apart : from ≡ to → ⊥ = two_names from to (now_of cat overlay) (Table space parts) was free in
    let stand : MayStand (schemas_of cat) from to (Table space parts) (table_at to space parts made) (now_of cat overlay) = record {
      was = was;
      free = free;
      schema = schema;
      named = refl;
      formed = table_is_formed (look_of cat overlay) from to parts made (begins.sound.formed from (Table space parts) was) keys_made;
      kept = (refl, refl, refl);
      unowned = made_unowned cat overlay from to parts.foreign_keys made begins.before begins.sound are;
    } in
    let stands = behind_all (StandsAt from to (table_at to space parts made) (now_of cat overlay)) (finite_map.get cat.objects) overlay
    (table_changes from to space parts made changes)
    (table_before cat overlay from to (table_at to space parts made) changes children) (
      at_old from to (table_at to space parts made) (now_of cat overlay) apart,
      (
        at_new from to (table_at to space parts made) (now_of cat overlay) apart,
        children_hold (λ child change. StandsAt from to (table_at to space parts made) (now_of cat overlay) child (placed_after change)) cat overlay from to changes
            (λ child there. children_stand cat overlay from to (table_at to space parts made) free child (subst (λ (names : List ObjName). IsIn child names) children.names there)) children.all,
      ),
    ) in
    record {
      sound = renames_sound (schemas_of cat) from to (Table space parts) (table_at to space parts made) (now_of cat overlay)
          (now_of cat (with_changes overlay (table_changes from to space parts made changes))) begins.sound stand (new_parents cat overlay from to space parts made begins are stand)
          (renames_of from to (table_at to space parts made) (now_of cat overlay) (now_of cat (with_changes overlay (table_changes from to space parts made changes))) stands);
      keeping = (tt, (tt, children_hold (λ _ change. IsKeeping change) cat overlay from to changes (λ child _. child_keeps from to (now_of cat overlay child)) children.all));
      spaces = renames_keep_spaces (schemas_of cat) from to (Table space parts) (table_at to space parts made) (now_of cat overlay)
          (now_of cat (with_changes overlay (table_changes from to space parts made changes))) stand
          (renames_of from to (table_at to space parts made) (now_of cat overlay) (now_of cat (with_changes overlay (table_changes from to space parts made changes))) stands);
      named = λ to_named named.
          let (_, own) = named_of parts (named.all from (Table space parts) was) in
          renames_named from to (table_at to space parts made) (now_of cat overlay) (now_of cat (with_changes overlay (table_changes from to space parts made changes))) to_named
          (new_table_named to parts made to_named (named.all from (Table space parts) was) (are.passing is_foreign_key_named (renamed_keys_named from to parts.foreign_keys to_named own.foreign_keys are.short))) named
          (renames_of from to (table_at to space parts made) (now_of cat overlay) (now_of cat (with_changes overlay (table_changes from to space parts made changes))) stands);
    }

table_keeps : (cat : Catalog) (overlay : Overlay) (from to : ObjName) (space : ℕ) (parts : TableParts) (renamed : Renamed) → Begins cat overlay → schemas_of cat to.schema ≡ true → now_of cat overlay from ≡ Some (Table space parts)
    → run (look_of cat overlay) (renamed_table from to space parts) ≡ fine renamed → KeepsValid cat overlay to renamed
unfolding renamed_table seen_behind
table_keeps cat overlay from to space parts renamed begins schema was is =
    let (x, free, after_free) = bind_fine (look_of cat overlay) (name_is_free to) _ renamed is in
    let (made, keys_made, after_keys) = bind_fine (look_of cat overlay) (renamed_keys from to parts.foreign_keys) _ renamed after_free in
    let (changes, each_made, last) = bind_fine (look_of cat overlay) (each (renamed_child from to) (seen_children cat overlay from)) _ renamed after_keys in
    subst (KeepsValid cat overlay to) (fine_is last)
    (table_all cat overlay from to space parts made changes begins schema was (free_name cat overlay to x free) keys_made (all_children cat overlay from to (seen_children cat overlay from) changes each_made))

-- ## A view

abbrev view_changes : ObjName → ObjName → ViewParts → List (ObjName × After)
view_changes from to parts = (from, Gone) ∷ (to, KeptView (record parts { name = to })) ∷ []

abbrev view_at : ObjName → ViewParts → Placed
view_at to parts = View (record parts { name = to })

view_stays : (cat : Catalog) (overlay : Overlay) (from to : ObjName) (parts : ViewParts) → Begins cat overlay → now_of cat overlay from ≡ Some (View parts) → (name : ObjName) → now_of cat overlay name ≡ option_map (moved from to) (now_of cat overlay name)
view_stays cat overlay from to parts begins was name = stays from to (now_of cat overlay) name (now_of cat overlay name) refl (λ placed there. no_view_is_parent from parts (now_of cat overlay) placed was
    (λ n p is. begins.sound.parents_fit name n p (there ∙ ap (λ x. Some x) is)))

view_before : (cat : Catalog) (overlay : Overlay) (from to : ObjName) (parts : ViewParts) (new : Placed) → Begins cat overlay → now_of cat overlay from ≡ Some (View parts) → (name : ObjName)
    → StandsAt from to new (now_of cat overlay) name (now_of cat overlay name) ⊎ IsIn name (from ∷ to ∷ [])
view_before cat overlay from to parts new begins was name = elim (same_or_not name from) [
  | inl same ↦ inr (inl same)
  | inr not_from ↦ elim (same_or_not name to) [
    | inl same ↦ inr (inr (inl same))
    | inr not_to ↦ inl (at_other from to new (now_of cat overlay) name (now_of cat overlay name) not_from not_to (view_stays cat overlay from to parts begins was name))
  ]
]

view_all : (cat : Catalog) (overlay : Overlay) (from to : ObjName) (parts : ViewParts) → Begins cat overlay → schemas_of cat to.schema ≡ true → now_of cat overlay from ≡ Some (View parts) → now_of cat overlay to ≡ None
    → KeepsValid cat overlay to (record { changes = view_changes from to parts; children = [] })
view_all cat overlay from to parts begins schema was free =
    let apart : from ≡ to → ⊥ = two_names from to (now_of cat overlay) (View parts) was free in
    let stand : MayStand (schemas_of cat) from to (View parts) (view_at to parts) (now_of cat overlay) = record {
      was = was;
      free = free;
      schema = schema;
      named = refl;
      formed = view_keeps to parts (begins.sound.formed from (View parts) was);
      kept = tt;
      unowned = λ folded o placed has _ _ _ _. true≢false (sym has);
    } in
    let parents : HasParents from to (view_at to parts) (now_of cat overlay) = record { fit = λ next renames n p is. cc } in
    let stands = behind_all (StandsAt from to (view_at to parts) (now_of cat overlay)) (finite_map.get cat.objects) overlay (view_changes from to parts)
    (view_before cat overlay from to parts (view_at to parts) begins was)
    (at_old from to (view_at to parts) (now_of cat overlay) apart, (at_new from to (view_at to parts) (now_of cat overlay) apart, tt)) in
    record {
      sound = renames_sound (schemas_of cat) from to (View parts) (view_at to parts) (now_of cat overlay) (now_of cat (with_changes overlay (view_changes from to parts))) begins.sound stand parents
          (renames_of from to (view_at to parts) (now_of cat overlay) (now_of cat (with_changes overlay (view_changes from to parts))) stands);
      keeping = (tt, (tt, tt));
      spaces = renames_keep_spaces (schemas_of cat) from to (View parts) (view_at to parts) (now_of cat overlay) (now_of cat (with_changes overlay (view_changes from to parts))) stand
          (renames_of from to (view_at to parts) (now_of cat overlay) (now_of cat (with_changes overlay (view_changes from to parts))) stands);
      named = λ to_named named. renames_named from to (view_at to parts) (now_of cat overlay) (now_of cat (with_changes overlay (view_changes from to parts))) to_named (new_view_named to parts to_named (named.all from (View parts) was)) named
          (renames_of from to (view_at to parts) (now_of cat overlay) (now_of cat (with_changes overlay (view_changes from to parts))) stands);
    }

one_view_keeps : (cat : Catalog) (overlay : Overlay) (from to : ObjName) (parts : ViewParts) (renamed : Renamed) → Begins cat overlay → schemas_of cat to.schema ≡ true → now_of cat overlay from ≡ Some (View parts)
    → run (look_of cat overlay) (renamed_view from to parts) ≡ fine renamed → KeepsValid cat overlay to renamed
unfolding renamed_view
one_view_keeps cat overlay from to parts renamed begins schema was is =
    let (_, _, after_schema) = bind_fine (look_of cat overlay) (refuse_if (not (bytes_eq from.schema to.schema)) (forbid_schema_change from.schema to.schema)) _ renamed is in
    let (x, free, last) = bind_fine (look_of cat overlay) (name_is_free to) _ renamed after_schema in
    subst (KeepsValid cat overlay to) (fine_is last) (view_all cat overlay from to parts begins schema was (free_name cat overlay to x free))

-- ## Either

seen_keeps : (cat : Catalog) (overlay : Overlay) (from to : ObjName) (renamed : Renamed) → Begins cat overlay → schemas_of cat to.schema ≡ true → (known : Option Placed) → now_of cat overlay from ≡ known
    → run (look_of cat overlay) (renamed_seen from to (object_seen known)) ≡ fine renamed → KeepsValid cat overlay to renamed
seen_keeps cat overlay from to renamed begins schema None was is = cc
seen_keeps cat overlay from to renamed begins schema (Some (Table space parts)) was is = table_keeps cat overlay from to space parts renamed begins schema was is
seen_keeps cat overlay from to renamed begins schema (Some (View parts)) was is = one_view_keeps cat overlay from to parts renamed begins schema was is

pub pair_keeps : (cat : Catalog) (overlay : Overlay) (from to : ObjName) (renamed : Renamed) → Begins cat overlay → schemas_of cat to.schema ≡ true → run (look_of cat overlay) (renamed_object from to) ≡ fine renamed → KeepsValid cat overlay to renamed
unfolding renamed_object
pair_keeps cat overlay from to renamed begins schema is =
    seen_keeps cat overlay from to renamed begins schema (now_of cat overlay from) refl (subst (λ (seen : Sight). run (look_of cat overlay) (renamed_seen from to seen) ≡ fine renamed) (object_is_seen cat overlay from) is)
