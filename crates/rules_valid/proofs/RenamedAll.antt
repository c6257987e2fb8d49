-- RENAME TABLE keeps a valid catalog valid.
use Rattle.std.specs.Prelude.{◌≡◌, ℕ, Bool, true, false, nat_lt, List, [], ◌∷◌, length, Option, refl}
use Rattle.std.specs.FinMap as finite_map
use Rattle.std.specs.List.{AllByRecursion, list_all}
use Rattle.std.proofs.Common.{sym, ◌∙◌, ap, subst}
use Rattle.std.proofs.lemmas.Bool.{and_parts, and_from}
use Rattle.dd_names.specs.declared.object_name.ObjName.{ObjName}
use Rattle.sql_ast.specs.Names.{is_named, is_pair_named, session_is_named}
use Rattle.sql_ast.specs.Names as says
use Rattle.sql_ast.specs.declared.session.SessionState.{SessionState}
use Rattle.sql_ast.specs.declared.table.RenamePair.{RenamePair}
use Rattle.dd_definitions.specs.Named.{is_object_named}
use Rattle.dd_catalog.specs.Catalog.{Catalog, NameSet, object_cmp, schema_seen, all_of}
use Rattle.dd_catalog.specs.Valid.{IsValid}
use Rattle.dd_catalog.specs.Walks.{fine, run, refuse_if, each, every, over}
use Rattle.dd_catalog.specs.WalkLaws.{Look}
use Rattle.dd_catalog.specs.Asked.{fine_is, bind_fine}
use Rattle.rules_outcome.specs.Choices.{Choice, Changes, applied, catalog_behind}
use Rattle.rules_named.specs.Named.{is_nothing, resolved, schema_there, own_schema_there}
use Rattle.rules_refusals.specs.Refusals.{bad_db, beyond_limit}
use Rattle.rules_create.proofs.Names.{not_refused}
use Rattle.rules_rename.specs.Overlays.{Overlay, behind_changes, with_changes, changes_in}
use Rattle.rules_rename.specs.Renames.{renamed_object, Renaming, one_pair, named_pair, schemas_there, rename}
use Rattle.rules_rename.specs.Behind.{run_behind}
use Rattle.rules_valid.proofs.Resolved.{resolved_named}
use Rattle.rules_valid.proofs.RenamedPlaces.{placed_over}
use Rattle.rules_valid.proofs.RenamedBehind.{KeepsSpaces, none_keeps, more_keep, all_schemas, catalog_places}
use Rattle.rules_valid.proofs.RenamedSound.{IsSound, ArePlacedNamed, KeepSpaces, keep_all, keep_both, keep_alike, alike_named, schemas_of, from_valid, alike_sound, to_valid}
use Rattle.rules_valid.proofs.RenamedPair.{now_of, look_of, KeepsValid, pair_keeps}

-- ## Schemas

schema_known : (present : Bool) → is_nothing (schema_seen present) ≡ false → present ≡ true
schema_known true is = refl
schema_known false is = cc

known_schema : (cat : Catalog) (name : List ℕ) (x : Unit {0}) → run (all_of cat) (schema_there name) ≡ fine x → schemas_of cat name ≡ true
unfolding schema_there
known_schema cat name x is = schema_known (schemas_of cat name) (not_refused (all_of cat) (is_nothing (schema_seen (schemas_of cat name))) (bad_db name) x is)

new_schema : (cat : Catalog) (pair : ObjName × ObjName) (x : Unit {0}) → run (all_of cat) (schemas_there pair) ≡ fine x → schemas_of cat pair.1.schema ≡ true
unfolding schemas_there
new_schema cat pair x is =
    let (_, _, last) = bind_fine (all_of cat) (own_schema_there pair.0) (λ _. own_schema_there pair.1) x is in
    known_schema cat pair.1.schema x last

all_known : (cat : Catalog) (pairs : List (ObjName × ObjName)) (x : Unit {0}) → run (all_of cat) (every schemas_there pairs) ≡ fine x → AllByRecursion (λ (pair : ObjName × ObjName). schemas_of cat pair.1.schema ≡ true) pairs
all_known cat [] x is = tt
all_known cat (pair ∷ pairs) x is =
    let (y, one, rest) = bind_fine (all_of cat) (schemas_there pair) (λ _. every schemas_there pairs) x is in
    (new_schema cat pair y one, all_known cat pairs x rest)

-- ## All pairs

-- the pair's new name is one
abbrev is_to_named : ObjName × ObjName → Bool
is_to_named pair = is_object_named pair.1

one_to_named : (look : Look) (current : Option (List ℕ)) (pair : RenamePair) (named : ObjName × ObjName) → is_named current ≡ true → is_pair_named pair ≡ true → run look (named_pair current pair) ≡ fine named → is_to_named named ≡ true
unfolding named_pair
one_to_named look current pair named current_is said is =
    let (_, to_said) = and_parts (says.is_object_named pair.from) (says.is_object_named pair.to) said in
    let (from, _, after_from) = bind_fine look (resolved current pair.from) _ named is in
    let (to, found, last) = bind_fine look (resolved current pair.to) _ named after_from in
    ap is_to_named (sym (fine_is last)) ∙ resolved_named look current pair.to to current_is to_said found

all_to_named : (look : Look) (current : Option (List ℕ)) (pairs : List RenamePair) (named : List (ObjName × ObjName)) → is_named current ≡ true → list_all is_pair_named pairs ≡ true → run look (each (named_pair current) pairs) ≡ fine named → list_all is_to_named named ≡ true
all_to_named look current [] named current_is said is = ap (list_all is_to_named) (sym (fine_is is))
all_to_named look current (pair ∷ pairs) named current_is said is =
    let (here, later) = and_parts (is_pair_named pair) (list_all is_pair_named pairs) said in
    let (one, found, after_one) = bind_fine look (named_pair current pair) _ named is in
    let (rest, others, last) = bind_fine look (each (named_pair current) pairs) _ named after_one in
    ap (list_all is_to_named) (sym (fine_is last))
    ∙ and_from (is_to_named one) (list_all is_to_named rest) (one_to_named look current pair one current_is here found) (all_to_named look current pairs rest current_is later others)

-- what stands behind the pairs so far is valid, and has names where the statement says names
record IsKeptValid (cat : Catalog) (Names : Type 0) (renaming : Renaming) : Type 0 where
  sound : IsSound (schemas_of cat) (now_of cat renaming.overlay)
  keeping : KeepsSpaces renaming.overlay
  spaces : KeepSpaces (finite_map.get cat.objects) (now_of cat renaming.overlay)
  named : Names → ArePlacedNamed (now_of cat renaming.overlay)

one_keeps : (cat : Catalog) (Names : Type 0) → IsValid cat → (before : Renaming) (pair : ObjName × ObjName) (next : Renaming) → schemas_of cat pair.1.schema ≡ true → (Names → is_to_named pair ≡ true) → IsKeptValid cat Names before → run (all_of cat) (one_pair before pair) ≡ fine next → IsKeptValid cat Names next
unfolding one_pair
one_keeps cat Names valid before pair next schema to_named kept is =
    let (renamed, made, last) = bind_fine (all_of cat) (behind_changes before.overlay (renamed_object pair.0 pair.1)) _ next is in
    let behind : run (look_of cat before.overlay) (renamed_object pair.0 pair.1) ≡ fine renamed = sym (run_behind before.overlay (all_of cat) (renamed_object pair.0 pair.1)) ∙ made in
    let after : KeepsValid cat before.overlay pair.1 renamed = pair_keeps cat before.overlay pair.0 pair.1 renamed (record { before = from_valid cat valid; sound = kept.sound }) schema behind in
    subst (IsKeptValid cat Names) (fine_is last) (record {
      sound = after.sound;
      keeping = more_keep before.overlay renamed.changes kept.keeping after.keeping;
      spaces = keep_both (finite_map.get cat.objects) (now_of cat before.overlay) (now_of cat (with_changes before.overlay renamed.changes)) kept.spaces after.spaces;
      named = λ names. after.named (to_named names) (kept.named names);
    })

all_keep : (cat : Catalog) (Names : Type 0) → IsValid cat → (before : Renaming) (pairs : List (ObjName × ObjName)) (end : Renaming) → AllByRecursion (λ (pair : ObjName × ObjName). schemas_of cat pair.1.schema ≡ true) pairs → (Names → list_all is_to_named pairs ≡ true) → IsKeptValid cat Names before
    → run (all_of cat) (over one_pair before pairs) ≡ fine end → IsKeptValid cat Names end
all_keep cat Names valid before [] end schemas to_named kept is = subst (IsKeptValid cat Names) (fine_is is) kept
all_keep cat Names valid before (pair ∷ pairs) end schemas to_named kept is =
    let (next, one, rest) = bind_fine (all_of cat) (one_pair before pair) (λ state. over one_pair state pairs) end is in
    all_keep cat Names valid next pairs end schemas.1 (λ names. (and_parts (is_to_named pair) (list_all is_to_named pairs) (to_named names)).1)
    (one_keeps cat Names valid before pair next schemas.0 (λ names. (and_parts (is_to_named pair) (list_all is_to_named pairs) (to_named names)).0) kept one) rest

abbrev no_changes : Overlay
no_changes = finite_map.empty

at_first : (cat : Catalog) (Names : Type 0) → IsValid cat → IsKeptValid cat Names (record { overlay = finite_map.empty; children = [] })
at_first cat Names valid =
    let alike = λ (name : ObjName). ap (λ known. placed_over known (finite_map.get cat.objects name)) (sym (finite_map.get-empty object_cmp name)) in
    record {
      sound = alike_sound (schemas_of cat) (finite_map.get cat.objects) (now_of cat no_changes) alike (from_valid cat valid);
      keeping = none_keeps;
      spaces = keep_alike (finite_map.get cat.objects) (finite_map.get cat.objects) (now_of cat no_changes) alike (keep_all (finite_map.get cat.objects));
      named = λ _. alike_named (finite_map.get cat.objects) (now_of cat no_changes) alike (record { all = λ name placed is. valid.named name placed (record { is = is }) });
    }

-- the catalog that the changes make is valid
catalog_valid : (cat : Catalog) (space : ℕ) (overlay : Overlay) → IsValid cat → IsSound (schemas_of cat) (now_of cat overlay) → ArePlacedNamed (now_of cat overlay) → KeepsSpaces overlay → IsValid (applied space (changes_in (finite_map.entries overlay)) cat)
catalog_valid cat space overlay valid sound named keeping = to_valid (applied space (changes_in (finite_map.entries overlay)) cat)
    (λ name there. valid.own_schemas name (still name there)) (λ name there. valid.schemas_named name (still name there))
    (subst (λ (schemas : NameSet). IsSound (λ name. finite_map.contains_key schemas name) (finite_map.get (applied space (changes_in (finite_map.entries overlay)) cat).objects)) (sym (all_schemas space (finite_map.entries overlay) cat))
    (alike_sound (schemas_of cat) (now_of cat overlay) (finite_map.get (applied space (changes_in (finite_map.entries overlay)) cat).objects) (λ name. sym (catalog_places space overlay cat name keeping)) sound))
    (alike_named (now_of cat overlay) (finite_map.get (applied space (changes_in (finite_map.entries overlay)) cat).objects) (λ name. sym (catalog_places space overlay cat name keeping)) named)
  where
    still : (name : List ℕ) → schemas_of (applied space (changes_in (finite_map.entries overlay)) cat) name ≡ true → schemas_of cat name ≡ true
    still name there = sym (ap (λ (schemas : NameSet). finite_map.contains_key schemas name) (all_schemas space (finite_map.entries overlay) cat)) ∙ there

-- the pairs say names, and the session's current schema is one if there is one
abbrev SaysNames : SessionState → List RenamePair → Type 0
SaysNames session pairs = (session_is_named session ≡ true) × (list_all is_pair_named pairs ≡ true)

-- what all pairs change, over a valid catalog
record IsRenaming (cat : Catalog) (session : SessionState) (Names : Type 0) (choice : Choice) : Type 0 where
  renaming : Renaming
  kept : IsKeptValid cat Names renaming
  is : Changes (changes_in (finite_map.entries renaming.overlay)) session ≡ choice

renaming_of : (cat : Catalog) (session : SessionState) (pairs : List RenamePair) (choice : Choice) → IsValid cat → run (all_of cat) (rename session pairs) ≡ fine choice → IsRenaming cat session (SaysNames session pairs) choice
unfolding rename
renaming_of cat session pairs choice valid is =
    let (named, found, after_names) = bind_fine (all_of cat) (each (named_pair session.current) pairs) _ choice is in
    let (x, schemas, after_schemas) = bind_fine (all_of cat) (every schemas_there named) _ choice after_names in
    let (_, _, after_pairs) = bind_fine (all_of cat) (refuse_if (nat_lt 4096 (length named)) (beyond_limit "4096")) _ choice after_schemas in
    let (renaming, made, after_all) = bind_fine (all_of cat) (over one_pair (record { overlay = finite_map.empty; children = [] }) named) _ choice after_pairs in
    let (_, _, last) = bind_fine (all_of cat) (refuse_if (nat_lt 4096 (length renaming.children)) (beyond_limit "4096")) _ choice after_all in
    record {
      renaming = renaming;
      kept = all_keep cat (SaysNames session pairs) valid (record { overlay = finite_map.empty; children = [] }) named renaming (all_known cat named x schemas)
          (λ names. all_to_named (all_of cat) session.current pairs named names.0 names.1 found) (at_first cat (SaysNames session pairs) valid) made;
      is = fine_is last;
    }

pub rename_keeps : (cat : Catalog) (space : ℕ) (session : SessionState) (pairs : List RenamePair) (choice : Choice) → session_is_named session ≡ true → list_all is_pair_named pairs ≡ true → IsValid cat → run (all_of cat) (rename session pairs) ≡ fine choice → IsValid (catalog_behind space choice cat)
rename_keeps cat space session pairs choice current said valid is =
    let made : IsRenaming cat session (SaysNames session pairs) choice = renaming_of cat session pairs choice valid is in
    subst (λ (c : Choice). IsValid (catalog_behind space c cat)) made.is (catalog_valid cat space made.renaming.overlay valid made.kept.sound (made.kept.named (current, said)) made.kept.keeping)

-- each table behind it has the space of a table that was there
pub rename_keeps_spaces : (cat : Catalog) (space : ℕ) (session : SessionState) (pairs : List RenamePair) (choice : Choice) → IsValid cat → run (all_of cat) (rename session pairs) ≡ fine choice
    → KeepSpaces (finite_map.get cat.objects) (finite_map.get (catalog_behind space choice cat).objects)
rename_keeps_spaces cat space session pairs choice valid is =
    let made : IsRenaming cat session (SaysNames session pairs) choice = renaming_of cat session pairs choice valid is in
    subst (λ (c : Choice). KeepSpaces (finite_map.get cat.objects) (finite_map.get (catalog_behind space c cat).objects)) made.is
    (keep_alike (finite_map.get cat.objects) (now_of cat made.renaming.overlay) (finite_map.get (applied space (changes_in (finite_map.entries made.renaming.overlay)) cat).objects) (λ name. sym (catalog_places space made.renaming.overlay cat name made.kept.keeping)) made.kept.spaces)
