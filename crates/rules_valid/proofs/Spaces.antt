-- Statements but RENAME TABLE keep no tablespace under a changed name, so that each table that they make has a new one.
use Rattle.std.specs.Prelude.{◌≡◌, ◌⊎◌, ℕ, Bool, true, false, cond, ◌||◌, nat_lt, List, [], ◌∷◌, map, filter, length, Option, Some, None, if◌then◌else◌, refl}
use Rattle.std.specs.FinMap as finite_map
use Rattle.std.specs.List.{AllByRecursion, list_any}
use Rattle.std.proofs.Common.{sym, ◌∙◌, subst, inl, inr}
use Rattle.dd_names.specs.declared.object_name.ObjName.{ObjName}
use Rattle.dd_names.specs.declared.object_name.ObjectKey.{ObjectKey}
use Rattle.dd_names.specs.declared.object_name.ObjectKey.TheVariants as keys
use Rattle.dd_errors.specs.Errors.{ErrorValue}
use Rattle.sql_types.specs.declared.words.ObjRef.{ObjRef}
use Rattle.dd_definitions.specs.declared.parts.TableParts.{TableParts}
use Rattle.dd_definitions.specs.declared.view_parts.ViewParts.{ViewParts}
use Rattle.sql_ast.specs.declared.session.SessionState.{SessionState}
use Rattle.sql_ast.specs.declared.element.Element.{Element}
use Rattle.dd_catalog.specs.Catalog.{Catalog, Table, View, is_same_object, sight_of}
use Rattle.dd_catalog.specs.Sights.{Sight}
use Rattle.dd_catalog.specs.Valid.{Has}
use Rattle.dd_catalog.specs.Walks.{Walk, done, refuse, ask, ◌>>=◌, fine, told, run, refuse_if, refuse_some, every, picked}
use Rattle.dd_catalog.specs.WalkLaws.{Look}
use Rattle.dd_catalog.specs.Asked.{fine_is}
use Rattle.dd_catalog.proofs.ObjectNames.{get_inserted, get_without}
use Rattle.rules_elements.specs.Keys.{first_given}
use Rattle.rules_outcome.specs.Choices.{After, Gone, NewSchema, FreshTable, KeptTable, NewView, KeptView, Change, change, Choice, Same, Changes, Lists, applied, applied_at, catalog_behind, makes_space, takes_space}
use Rattle.rules_named.specs.Named.{is_nothing, schema_there, one_named, all_named, unless}
use Rattle.rules_refusals.specs.Refusals.{db_create_exists, db_drop_exists, beyond_limit}
use Rattle.rules_refusals.specs.Refusals as refusals
use Rattle.rules_schema.specs.Drops.{is_among, first_twice, twice_refused, is_there, gone, is_left_out, unknown_refused, no_child_stays, tables_gone, drop_table}
use Rattle.rules_schema.specs.Listings.{names_seen, chosen_schema, show_databases, show_tables}
use Rattle.rules_schema.specs.Schemas.{is_schema_present, may_go, all_gone, schema_gone, create_database, drop_database}
use Rattle.rules_schema.specs.Sessions.{use_schema, set_tries}
use Rattle.rules_create.specs.Tables.{table_of, table_made, create_table}
use Rattle.rules_valid.specs.Keeps.{HasSpace, MakesOneSpace}

-- ## What a check ends with

abbrev pub Ends : {E A : Type 0} → (A → Type 0) → Walk E A → Type 0
Ends P (done x) = P x
Ends P (refuse e) = Unit {0}
Ends P (ask key go) = (seen : Sight) → Ends P (go seen)

pub ends_after : {E A B : Type 0} (P : B → Type 0) (check : Walk E A) (next : A → Walk E B) → ((x : A) → Ends P (next x)) → Ends P (check >>= next)
ends_after P (done x) next all = all x
ends_after P (refuse e) next all = tt
ends_after P (ask key go) next all = λ seen. ends_after P (go seen) next all

pub ends_so : {E A : Type 0} (P : A → Type 0) (look : Look) (check : Walk E A) (x : A) → Ends P check → run look check ≡ fine x → P x
ends_so P look (done y) x ends is = subst P (fine_is is) ends
ends_so P look (refuse e) x ends is = cc
ends_so {E = E} {A = A} P look (ask key go) x ends is =
    elim (look key) as (λ known. told {E = E} {A = A} known key (λ seen. run look (go seen)) ≡ fine x → P x) [
      | None ↦ λ e. cc
      | Some seen ↦ λ e. ends_so P look (go seen) x (ends seen) e
    ] is

-- ## Choices that keep no tablespace under a changed name

abbrev pub keeps_none : After → Bool
keeps_none Gone = true
keeps_none NewSchema = true
keeps_none (FreshTable parts) = true
keeps_none (KeptTable space parts) = false
keeps_none (NewView parts) = true
keeps_none (KeptView parts) = true

abbrev pub KeepsNone : Choice → Type 0
KeepsNone Same = Unit {0}
KeepsNone (Changes changes session) = AllByRecursion (λ (c : Change). keeps_none c.after ≡ true) changes
KeepsNone (Lists listing) = Unit {0}

-- ## Catalogs behind them

abbrev IsHeld : Catalog → ℕ → ℕ → Bool → Type 0
IsHeld cat space held makes = HasSpace cat held ⊎ ((makes ≡ true) × (held ≡ space))

abbrev held_before : (cat : Catalog) (name : ObjName) (held : ℕ) (parts : TableParts) → finite_map.get cat.objects name ≡ Some (Table held parts) → HasSpace cat held
held_before cat name held parts is = record { name = name; parts = parts; has = record { is = is } }

at_view : (cat : Catalog) (space : ℕ) (object : ObjName) (made : ViewParts) (name : ObjName) (held : ℕ) (parts : TableParts)
    → finite_map.get (finite_map.insert cat.objects object (View made)) name ≡ Some (Table held parts) → IsHeld cat space held false
at_view cat space object made name held parts is = on (is_same_object name object) (sym (get_inserted cat.objects object (View made) name) ∙ is)
  where
    on : (b : Bool) → cond b (Some (View made)) (finite_map.get cat.objects name) ≡ Some (Table held parts) → IsHeld cat space held false
    on true is = cc
    on false is = inl (held_before cat name held parts is)

at_object : (cat : Catalog) (space : ℕ) (object : ObjName) (after : After) → keeps_none after ≡ true → (name : ObjName) (held : ℕ) (parts : TableParts)
    → finite_map.get (applied_at space (keys.Object object) after cat).objects name ≡ Some (Table held parts) → IsHeld cat space held (makes_space after)
at_object cat space object Gone none name held parts is = on (is_same_object name object) (sym (get_without cat.objects object name) ∙ is)
  where
    on : (b : Bool) → cond b None (finite_map.get cat.objects name) ≡ Some (Table held parts) → IsHeld cat space held false
    on true is = cc
    on false is = inl (held_before cat name held parts is)
at_object cat space object NewSchema none name held parts is = inl (held_before cat name held parts is)
at_object cat space object (FreshTable made) none name held parts is = on (is_same_object name object) (sym (get_inserted cat.objects object (Table space made) name) ∙ is)
  where
    on : (b : Bool) → cond b (Some (Table space made)) (finite_map.get cat.objects name) ≡ Some (Table held parts) → IsHeld cat space held true
    on true is = let same : held ≡ space = cc in inr (refl, same)
    on false is = inl (held_before cat name held parts is)
at_object cat space object (KeptTable kept made) none name held parts is = cc
at_object cat space object (NewView made) none name held parts is = at_view cat space object made name held parts is
at_object cat space object (KeptView made) none name held parts is = at_view cat space object made name held parts is

at_key : (cat : Catalog) (space : ℕ) (key : ObjectKey) (after : After) → keeps_none after ≡ true → (name : ObjName) (held : ℕ) (parts : TableParts)
    → finite_map.get (applied_at space key after cat).objects name ≡ Some (Table held parts) → IsHeld cat space held (makes_space after)
at_key cat space keys.Schemas after none name held parts is = inl (held_before cat name held parts is)
at_key cat space (keys.Schema schema) Gone none name held parts is = inl (held_before cat name held parts is)
at_key cat space (keys.Schema schema) NewSchema none name held parts is = inl (held_before cat name held parts is)
at_key cat space (keys.Schema schema) (FreshTable made) none name held parts is = inl (held_before cat name held parts is)
at_key cat space (keys.Schema schema) (KeptTable kept made) none name held parts is = inl (held_before cat name held parts is)
at_key cat space (keys.Schema schema) (NewView made) none name held parts is = inl (held_before cat name held parts is)
at_key cat space (keys.Schema schema) (KeptView made) none name held parts is = inl (held_before cat name held parts is)
at_key cat space (keys.Objects schema) after none name held parts is = inl (held_before cat name held parts is)
at_key cat space (keys.Object object) after none name held parts is = at_object cat space object after none name held parts is
at_key cat space (keys.Children parent) after none name held parts is = inl (held_before cat name held parts is)
at_key cat space (keys.Constraint schema folded) after none name held parts is = inl (held_before cat name held parts is)

first_or_rest : (cat : Catalog) (space held : ℕ) (one rest : Bool) → HasSpace cat held ⊎ (((one ≡ true) × (held ≡ space)) ⊎ ((rest ≡ true) × (held ≡ space))) → IsHeld cat space held (one || rest)
first_or_rest cat space held one rest (inl before) = inl before
first_or_rest cat space held true rest (inr (inl made)) = inr (refl, made.1)
first_or_rest cat space held false rest (inr (inl made)) = cc
first_or_rest cat space held true rest (inr (inr made)) = inr (refl, made.1)
first_or_rest cat space held false rest (inr (inr made)) = inr made

at_all : (cat : Catalog) (space : ℕ) (changes : List Change) → AllByRecursion (λ (c : Change). keeps_none c.after ≡ true) changes → (name : ObjName) (held : ℕ) (parts : TableParts)
    → finite_map.get (applied space changes cat).objects name ≡ Some (Table held parts) → IsHeld cat space held (list_any (λ (c : Change). makes_space c.after) changes)
at_all cat space [] none name held parts is = inl (held_before cat name held parts is)
at_all cat space (c ∷ changes) none name held parts is =
    first_or_rest cat space held (makes_space c.after) (list_any (λ (d : Change). makes_space d.after) changes) (on (at_all (applied_at space c.key c.after cat) space changes none.1 name held parts is))
  where
    first : HasSpace (applied_at space c.key c.after cat) held → HasSpace cat held ⊎ (((makes_space c.after ≡ true) × (held ≡ space)) ⊎ ((list_any (λ (d : Change). makes_space d.after) changes ≡ true) × (held ≡ space)))
    first there = elim (at_key cat space c.key c.after none.0 there.name held there.parts there.has.is) [ inl before ↦ inl before | inr made ↦ inr (inl made) ]

    on : IsHeld (applied_at space c.key c.after cat) space held (list_any (λ (d : Change). makes_space d.after) changes)
        → HasSpace cat held ⊎ (((makes_space c.after ≡ true) × (held ≡ space)) ⊎ ((list_any (λ (d : Change). makes_space d.after) changes ≡ true) × (held ≡ space)))
    on (inl there) = first there
    on (inr made) = inr (inr made)

behind_choice : (cat : Catalog) (space : ℕ) (choice : Choice) → KeepsNone choice → (name : ObjName) (held : ℕ) (parts : TableParts) → Has (catalog_behind space choice cat) name (Table held parts) → IsHeld cat space held (takes_space choice)
behind_choice cat space Same none name held parts has = inl (held_before cat name held parts has.is)
behind_choice cat space (Changes changes session) none name held parts has = at_all cat space changes none name held parts has.is
behind_choice cat space (Lists listing) none name held parts has = inl (held_before cat name held parts has.is)

pub makes_one : (check : Walk ErrorValue Choice) → Ends KeepsNone check → MakesOneSpace check
makes_one check ends = record { made = λ cat space choice valid found name held parts has. behind_choice cat space choice (ends_so KeepsNone (λ key. Some (sight_of cat key)) check choice ends found) name held parts has }

-- ## Each statement

pub unless_ends : (skipped : Bool) (error : ErrorValue) → Ends KeepsNone (unless skipped error)
unless_ends true error = tt
unless_ends false error = tt

create_database_ends : (session : SessionState) (if_not_exists : Bool) (name : List ℕ) → Ends KeepsNone (create_database session if_not_exists name)
unfolding create_database
create_database_ends session if_not_exists name = ends_after KeepsNone (is_schema_present name) _ on
  where
    on : (present : Bool) → Ends KeepsNone (if present then unless if_not_exists (db_create_exists name) else done (Changes (change (keys.Schema name) NewSchema ∷ []) session))
    on true = unless_ends if_not_exists (db_create_exists name)
    on false = (refl, tt)

all_gone_keep : (schema : List ℕ) (names : List (List ℕ)) → AllByRecursion (λ (c : Change). keeps_none c.after ≡ true) (all_gone schema names)
all_gone_keep schema [] = (refl, tt)
all_gone_keep schema (name ∷ names) = (refl, all_gone_keep schema names)

schema_gone_ends : (session : SessionState) (name : List ℕ) → Ends KeepsNone (schema_gone session name)
unfolding schema_gone
schema_gone_ends session name = λ seen.
    ends_after KeepsNone (refuse_if (nat_lt 65536 (length (names_seen seen))) (beyond_limit "65536")) _ (λ _. ends_after KeepsNone (every (may_go name) (names_seen seen)) _ (λ _. all_gone_keep name (names_seen seen)))

drop_database_ends : (session : SessionState) (if_exists : Bool) (name : List ℕ) → Ends KeepsNone (drop_database session if_exists name)
unfolding drop_database
drop_database_ends session if_exists name = λ seen. on (is_nothing seen)
  where
    on : (absent : Bool) → Ends KeepsNone (if absent then unless if_exists (db_drop_exists name) else schema_gone session name)
    on true = unless_ends if_exists (db_drop_exists name)
    on false = schema_gone_ends session name

use_ends : (session : SessionState) (name : List ℕ) → Ends KeepsNone (use_schema session name)
unfolding use_schema
use_ends session name = ends_after KeepsNone (schema_there name) _ (λ _. tt)

set_ends : (session : SessionState) (value : ℕ) → Ends KeepsNone (set_tries session value)
unfolding set_tries
set_ends session value = tt

databases_end : Ends KeepsNone show_databases
unfolding show_databases
databases_end = λ seen. tt

tables_end : (session : SessionState) (named : Option (List ℕ)) → Ends KeepsNone (show_tables session named)
unfolding show_tables
tables_end session named = ends_after KeepsNone (chosen_schema (first_given named session.current)) _ (λ schema. ends_after KeepsNone (schema_there schema) _ (λ _ seen. tt))

gone_keep : (tables : List ObjName) → AllByRecursion (λ (c : Change). keeps_none c.after ≡ true) (map gone tables)
gone_keep [] = tt
gone_keep (table ∷ tables) = (refl, gone_keep tables)

tables_gone_keep : (session : SessionState) (tables : List ObjName) → KeepsNone (tables_gone session tables)
tables_gone_keep session [] = tt
tables_gone_keep session (table ∷ tables) = gone_keep (table ∷ tables)

drop_table_ends : (session : SessionState) (if_exists : Bool) (refs : List ObjRef) → Ends KeepsNone (drop_table session if_exists refs)
unfolding drop_table
drop_table_ends session if_exists refs =
    ends_after KeepsNone (all_named session.current refs) _ (λ objects.
    ends_after KeepsNone (refuse_if (nat_lt 65536 (length objects)) (beyond_limit "65536")) _ (λ _.
    ends_after KeepsNone (refuse_some (twice_refused (first_twice [] objects))) _ (λ _.
    ends_after KeepsNone (picked is_there objects) _ (λ tables.
    ends_after KeepsNone (refuse_some (if if_exists then None else unknown_refused (filter (is_left_out tables) objects))) _ (λ _.
    ends_after KeepsNone (every (no_child_stays (is_among tables)) tables) _ (λ _. tables_gone_keep session tables))))))

create_table_ends : (session : SessionState) (if_not_exists : Bool) (ref : ObjRef) (elements : List Element) → Ends KeepsNone (create_table session if_not_exists ref elements)
unfolding create_table
create_table_ends session if_not_exists ref elements = ends_after KeepsNone (one_named session.current ref) _ (λ table seen. on table (is_nothing seen))
  where
    on : (table : ObjName) (free : Bool) → Ends KeepsNone (if free then (table_of table elements >>= λ parts. done (table_made session table parts)) else unless if_not_exists (refusals.table_exists table.name))
    on table true = ends_after KeepsNone (table_of table elements) _ (λ parts. (refl, tt))
    on table false = unless_ends if_not_exists (refusals.table_exists table.name)

pub create_database_makes : (session : SessionState) (if_not_exists : Bool) (name : List ℕ) → MakesOneSpace (create_database session if_not_exists name)
create_database_makes session if_not_exists name = makes_one _ (create_database_ends session if_not_exists name)

pub drop_database_makes : (session : SessionState) (if_exists : Bool) (name : List ℕ) → MakesOneSpace (drop_database session if_exists name)
drop_database_makes session if_exists name = makes_one _ (drop_database_ends session if_exists name)

pub use_makes : (session : SessionState) (name : List ℕ) → MakesOneSpace (use_schema session name)
use_makes session name = makes_one _ (use_ends session name)

pub set_makes : (session : SessionState) (value : ℕ) → MakesOneSpace (set_tries session value)
set_makes session value = makes_one _ (set_ends session value)

pub databases_make : MakesOneSpace show_databases
databases_make = makes_one _ databases_end

pub tables_make : (session : SessionState) (named : Option (List ℕ)) → MakesOneSpace (show_tables session named)
tables_make session named = makes_one _ (tables_end session named)

pub drop_table_makes : (session : SessionState) (if_exists : Bool) (refs : List ObjRef) → MakesOneSpace (drop_table session if_exists refs)
drop_table_makes session if_exists refs = makes_one _ (drop_table_ends session if_exists refs)

pub create_table_makes : (session : SessionState) (if_not_exists : Bool) (ref : ObjRef) (elements : List Element) → MakesOneSpace (create_table session if_not_exists ref elements)
create_table_makes session if_not_exists ref elements = makes_one _ (create_table_ends session if_not_exists ref elements)
