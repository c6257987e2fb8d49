-- RENAME TABLE leaves formed objects.
use Rattle.std.specs.Prelude.{◌≡◌, ℕ, true, not, nat_lt, List, [], ◌∷◌, length, Option, Some, None, refl}
use Rattle.std.specs.FinMap as finite_map
use Rattle.std.specs.List.{AllByRecursion}
use Rattle.std.specs.Str.{bytes_eq}
use Rattle.std.proofs.Common.{sym, ◌∙◌, ap, subst}
use Rattle.dd_names.specs.declared.object_name.ObjName.{ObjName}
use Rattle.dd_names.specs.declared.object_name.ObjectKey.{ObjectKey}
use Rattle.dd_names.specs.declared.object_name.ObjectKey.TheVariants as keys
use Rattle.dd_errors.specs.Errors.{ErrorValue}
use Rattle.dd_definitions.specs.Views.{is_view_formed}
use Rattle.dd_definitions.specs.declared.parts.TableParts.{TableParts}
use Rattle.dd_definitions.specs.declared.view_parts.ViewParts.{ViewParts}
use Rattle.sql_ast.specs.declared.session.SessionState.{SessionState}
use Rattle.sql_ast.specs.declared.table.RenamePair.{RenamePair}
use Rattle.dd_catalog.specs.Sights.{Sight, Nothing, SchemaThere, TableThere, ViewThere, NamesThere, ChildrenThere, OwnerThere}
use Rattle.dd_catalog.specs.Walks.{Walk, done, fine, told, run, look_at, refuse_if, each, every, over}
use Rattle.dd_catalog.specs.WalkLaws.{Look}
use Rattle.dd_catalog.specs.Asked.{fine_is, bind_fine, over_keeps}
use Rattle.rules_outcome.specs.Choices.{After, Change, Choice, Changes}
use Rattle.rules_refusals.specs.Refusals.{forbid_schema_change, beyond_limit}
use Rattle.rules_schema.specs.Drops.{children_seen}
use Rattle.rules_create.specs.Leaves.{IsTableAt, IsViewAt, SeesFormed, IsFormedAt, IsFormedBehind, LeavesFormed}
use Rattle.rules_rename.specs.Overlays.{behind_changes, changes_in}
use Rattle.rules_rename.specs.Behind.{look_behind, run_behind}
use Rattle.rules_rename.specs.Renames.{renamed_keys, child_after, renamed_child, name_is_free, Renamed, renamed_table, renamed_view, renamed_seen, renamed_object, Renaming, one_pair, named_pair, schemas_there, rename}
use Rattle.rules_rename_laws.proofs.ForeignKeys.{child_is_formed, table_is_formed}
use Rattle.rules_rename_laws.proofs.Overlays.{IsFormedOver, none_over, more_formed, behind_sees_formed}

-- what is seen at a key is what is known there
known_there : (look : Look) (key : ObjectKey) (seen : Sight) → run {E = ErrorValue} look (look_at key) ≡ fine seen → look key ≡ Some seen
known_there look key seen is = on (look key) is
  where
    on : (known : Option Sight) → told {E = ErrorValue} known key (λ s. fine s) ≡ fine seen → known ≡ Some seen
    on None is = cc
    on (Some s) is = ap (λ x. Some x) (fine_is is)

each_holds : {A B : Type 0} (P : B → Type 0) (look : Look) (check : A → Walk ErrorValue B) → ((x : A) (y : B) → run look (check x) ≡ fine y → P y) → (xs : List A) (ys : List B) → run look (each check xs) ≡ fine ys → AllByRecursion P ys
each_holds P look check gives [] ys is = subst (AllByRecursion P) (fine_is is) tt
each_holds P look check gives (x ∷ xs) ys is =
    let (y, one, after_one) = bind_fine look (check x) _ ys is in
    let (rest, others, last) = bind_fine look (each check xs) _ ys after_one in
    subst (AllByRecursion P) (fine_is last) (gives x y one, each_holds P look check gives xs rest others)

-- ## One pair

abbrev IsGood : ObjName × After → Type 0
IsGood c = IsFormedAt c.0 c.1

child_stays : (look : Look) (from to child : ObjName) (seen : Sight) → SeesFormed look → look (keys.Object child) ≡ Some seen → IsFormedAt child (child_after from to seen)
child_stays look from to child Nothing sees known = tt
child_stays look from to child SchemaThere sees known = tt
child_stays look from to child (TableThere space parts) sees known =
    let here : IsTableAt child parts = sees.tables child space parts known in
    record { formed = child_is_formed from to parts here.formed; named = here.named }
child_stays look from to child (ViewThere parts) sees known = sees.views child parts known
child_stays look from to child (NamesThere names) sees known = tt
child_stays look from to child (ChildrenThere tables) sees known = tt
child_stays look from to child (OwnerThere owner) sees known = tt

child_good : (look : Look) (from to : ObjName) → SeesFormed look → (child : ObjName) (made : ObjName × After) → run look (renamed_child from to child) ≡ fine made → IsGood made
unfolding renamed_child
child_good look from to sees child made is =
    let (seen, there, last) = bind_fine look (look_at (keys.Object child)) (λ s. done (child, child_after from to s)) made is in
    subst IsGood (fine_is last) (child_stays look from to child seen sees (known_there look (keys.Object child) seen there))

record AreGood (renamed : Renamed) : Type 0 where
  all : AllByRecursion IsGood renamed.changes

table_good : (look : Look) (from to : ObjName) (space : ℕ) (parts : TableParts) (renamed : Renamed) → SeesFormed look → IsTableAt from parts → run look (renamed_table from to space parts) ≡ fine renamed → AreGood renamed
unfolding renamed_table
table_good look from to space parts renamed sees here is =
    let (_, _, after_free) = bind_fine look (name_is_free to) _ renamed is in
    let (made, keys_made, after_keys) = bind_fine look (renamed_keys from to parts.foreign_keys) _ renamed after_free in
    let (seen, there, after_look) = bind_fine look (look_at (keys.Children from)) _ renamed after_keys in
    let (children, each_made, last) = bind_fine look (each (renamed_child from to) (children_seen seen)) _ renamed after_look in
    subst AreGood (fine_is last) (record {
      all = (tt, (record { formed = table_is_formed look from to parts made here.formed keys_made; named = refl }, each_holds IsGood look (renamed_child from to) (child_good look from to sees) (children_seen seen) children each_made));
    })

pub view_keeps : (to : ObjName) (parts : ViewParts) → is_view_formed parts ≡ true → is_view_formed (record parts { name = to }) ≡ true
unfolding is_view_formed
view_keeps to parts formed = formed

view_good : (look : Look) (from to : ObjName) (parts : ViewParts) (renamed : Renamed) → IsViewAt from parts → run look (renamed_view from to parts) ≡ fine renamed → AreGood renamed
unfolding renamed_view
view_good look from to parts renamed here is =
    let (_, _, after_schema) = bind_fine look (refuse_if (not (bytes_eq from.schema to.schema)) (forbid_schema_change from.schema to.schema)) _ renamed is in
    let (_, _, last) = bind_fine look (name_is_free to) _ renamed after_schema in
    subst AreGood (fine_is last) (record { all = (tt, (record { formed = view_keeps to parts here.formed; named = refl }, tt)) })

seen_good : (look : Look) (from to : ObjName) (seen : Sight) (renamed : Renamed) → SeesFormed look → look (keys.Object from) ≡ Some seen → run look (renamed_seen from to seen) ≡ fine renamed → AreGood renamed
seen_good look from to Nothing renamed sees known is = cc
seen_good look from to SchemaThere renamed sees known is = cc
seen_good look from to (TableThere space parts) renamed sees known is = table_good look from to space parts renamed sees (sees.tables from space parts known) is
seen_good look from to (ViewThere parts) renamed sees known is = view_good look from to parts renamed (sees.views from parts known) is
seen_good look from to (NamesThere names) renamed sees known is = cc
seen_good look from to (ChildrenThere tables) renamed sees known is = cc
seen_good look from to (OwnerThere owner) renamed sees known is = cc

object_good : (look : Look) (from to : ObjName) (renamed : Renamed) → SeesFormed look → run look (renamed_object from to) ≡ fine renamed → AreGood renamed
unfolding renamed_object
object_good look from to renamed sees is =
    let (seen, there, last) = bind_fine look (look_at (keys.Object from)) _ renamed is in
    seen_good look from to seen renamed sees (known_there look (keys.Object from) seen there) last

-- ## All pairs

record AreAllGood (renaming : Renaming) : Type 0 where
  over : IsFormedOver renaming.overlay

pair_keeps : (look : Look) → SeesFormed look → (before : Renaming) (pair : ObjName × ObjName) (next : Renaming) → AreAllGood before → run look (one_pair before pair) ≡ fine next → AreAllGood next
unfolding one_pair
pair_keeps look sees before pair next good is =
    let (renamed, made, last) = bind_fine look (behind_changes before.overlay (renamed_object pair.0 pair.1)) _ next is in
    let behind : run (look_behind before.overlay look) (renamed_object pair.0 pair.1) ≡ fine renamed = sym (run_behind before.overlay look (renamed_object pair.0 pair.1)) ∙ made in
    let one : AreGood renamed = object_good (look_behind before.overlay look) pair.0 pair.1 renamed (behind_sees_formed before.overlay look good.over sees) behind in
    subst AreAllGood (fine_is last) (record { over = more_formed before.overlay renamed.changes good.over one.all })

changes_good : (changes : List (ObjName × After)) → AllByRecursion IsGood changes → AllByRecursion (λ (c : Change). IsFormedBehind c.key c.after) (changes_in changes)
changes_good [] all = tt
changes_good (c ∷ changes) all = (all.0, changes_good changes all.1)

pub rename_leaves_formed : (look : Look) (session : SessionState) (pairs : List RenamePair) (choice : Choice) → SeesFormed look → run look (rename session pairs) ≡ fine choice → LeavesFormed choice
unfolding rename
rename_leaves_formed look session pairs choice sees is =
    let (named, _, after_names) = bind_fine look (each (named_pair session.current) pairs) _ choice is in
    let (_, _, after_schemas) = bind_fine look (every schemas_there named) _ choice after_names in
    let (_, _, after_pairs) = bind_fine look (refuse_if (nat_lt 4096 (length named)) (beyond_limit "4096")) _ choice after_schemas in
    let (renaming, made, after_all) = bind_fine look (over one_pair (record { overlay = finite_map.empty; children = [] }) named) _ choice after_pairs in
    let (_, _, last) = bind_fine look (refuse_if (nat_lt 4096 (length renaming.children)) (beyond_limit "4096")) _ choice after_all in
    let all : AreAllGood renaming = over_keeps AreAllGood look one_pair (pair_keeps look sees) (record { overlay = finite_map.empty; children = [] }) named renaming (record { over = none_over }) made in
    subst LeavesFormed {x = Changes (changes_in (finite_map.entries renaming.overlay)) session} (fine_is last) (changes_good (finite_map.entries renaming.overlay) all.over.all)
