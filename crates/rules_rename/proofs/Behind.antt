-- What is seen behind the changes that are kept.
use Rattle.std.specs.Prelude.{◌≡◌, ℕ, Bool, not, List, filter, Option, Some, None, is_some, IsTrue, if◌then◌else◌, refl}
use Rattle.std.specs.FinMap as finite_map
use Rattle.std.specs.List.{flat_map}
use Rattle.std.specs.Option.{option_map, unwrap_or}
use Rattle.std.proofs.Common.{sym, ◌∙◌, ap}
use Rattle.dd_names.specs.declared.object_name.ObjName.{ObjName}
use Rattle.dd_names.specs.declared.object_name.ObjectKey.{ObjectKey}
use Rattle.dd_names.specs.declared.object_name.ObjectKey.TheVariants as keys
use Rattle.dd_errors.specs.Errors.{ErrorValue}
use Rattle.dd_catalog.specs.declared.object.Object.{Object}
use Rattle.dd_catalog.specs.declared.stop.Stop.{Stop}
use Rattle.dd_catalog.specs.declared.stop.Stop.TheVariants as stops
use Rattle.dd_catalog.specs.Catalog.{children_among, owner_among}
use Rattle.dd_catalog.specs.Sights.{Sight, Nothing, SchemaThere, TableThere, ViewThere, NamesThere, ChildrenThere, OwnerThere, sight}
use Rattle.dd_catalog.specs.Walks.{Walk, fine, told, run, look_at}
use Rattle.dd_catalog.specs.Follow.{Stops, sights}
use Rattle.rules_outcome.specs.Choices.{After}
use Rattle.rules_elements.specs.ForeignKeys.{is_owned_elsewhere}
use Rattle.rules_schema.specs.Drops.{children_seen}
use Rattle.rules_rename.specs.Overlays as overlays
use Rattle.rules_rename.specs.Overlays.{placed_of, after_seen, object_behind, seen_behind, behind_changes, put_names, owner_before, or_before}
use Rattle.rules_rename.specs.Behind as walks
use Rattle.rules_rename.specs.Puts.{Put, entry_of, are_in_order, overlay_of, behind, after_at, is_changed, placed, owner_left, owned_by, owned_found}
use Rattle.rules_rename.proofs.Puts.{entries_are, got_at}

-- a check behind the changes
pub run_behind : {A : Type 0} (known : ObjectKey → Option Object) (puts : List Put) (check : Walk ErrorValue A) → run (sights known) (behind_changes (overlay_of puts) check) ≡ run (behind known puts) check
unfolding behind
run_behind known puts check = walks.run_behind (overlay_of puts) (sights known) check

-- what is seen at a key of which something is known
pub sees : (known : ObjectKey → Option Object) (puts : List Put) (key : ObjectKey) (object : Object) → known key ≡ Some object → run {E = ErrorValue} (behind known puts) (look_at key) ≡ fine (seen_behind (overlay_of puts) key (sight object))
unfolding behind
sees known puts key object is = ap (λ (k : Option Object). told {E = ErrorValue} (option_map (seen_behind (overlay_of puts) key) (option_map sight k)) key (λ s. fine s)) is

-- where the look stops, it stops behind the changes
pub stops_too : (known : ObjectKey → Option Object) (puts : List Put) (key : ObjectKey) (stop : Stop) → Stops stop (run {E = ErrorValue} (sights known) (look_at key)) → Stops stop (run {E = ErrorValue} (behind known puts) (look_at key))
unfolding behind
stops_too known puts key stop is = on (known key) stop is
  where
    on : (k : Option Object) (stop : Stop) → Stops stop (told {E = ErrorValue} (option_map sight k) key (λ s. fine s)) → Stops stop (told {E = ErrorValue} (option_map (seen_behind (overlay_of puts) key) (option_map sight k)) key (λ s. fine s))
    on None stop is = is
    on (Some object) (stops.Refused error) is = cc
    on (Some object) (stops.Need needed) is = cc
    on (Some object) stops.Memory is = tt

-- ## At each kind of key

pub object_seen : (puts : List Put) (name : ObjName) (seen : Sight) → IsTrue (are_in_order puts) → seen_behind (overlay_of puts) (keys.Object name) seen ≡ object_behind (after_at puts name) seen
unfolding seen_behind
object_seen puts name seen ordered = ap (λ after. object_behind after seen) (got_at puts name ordered)

pub children_behind : (puts : List Put) (parent : ObjName) (seen : Sight) → IsTrue (are_in_order puts)
    → seen_behind (overlay_of puts) (keys.Children parent) seen ≡ ChildrenThere (put_names (children_among parent (placed puts)) (filter (λ child. not (is_changed puts child)) (children_seen seen)))
unfolding seen_behind
children_behind puts parent seen ordered =
    let same_test : (λ (child : ObjName). not (overlays.is_changed (overlay_of puts) child)) ≡ (λ (child : ObjName). not (is_changed puts child)) = λ i child. not (is_some (got_at puts child ordered i)) in
    ap (λ es. ChildrenThere (put_names (children_among parent (flat_map placed_of es)) (filter (λ child. not (overlays.is_changed (overlay_of puts) child)) (children_seen seen)))) (entries_are puts ordered)
    ∙ ap (λ (test : ObjName → Bool). ChildrenThere (put_names (children_among parent (placed puts)) (filter test (children_seen seen)))) same_test

left_before : (puts : List Put) (seen : Sight) → IsTrue (are_in_order puts) → owner_before (overlay_of puts) seen ≡ owner_left puts seen
left_before puts (OwnerThere owner) ordered = ap (λ (after : Option After). if is_some after then Nothing else OwnerThere owner) (got_at puts owner ordered)
left_before puts Nothing ordered = refl
left_before puts SchemaThere ordered = refl
left_before puts (TableThere space parts) ordered = refl
left_before puts (ViewThere parts) ordered = refl
left_before puts (NamesThere names) ordered = refl
left_before puts (ChildrenThere tables) ordered = refl

pub owner_behind : (puts : List Put) (schema folded : List ℕ) (seen : Sight) → IsTrue (are_in_order puts)
    → seen_behind (overlay_of puts) (keys.Constraint schema folded) seen ≡ or_before (owner_among schema folded (placed puts)) (owner_left puts seen)
unfolding seen_behind
owner_behind puts schema folded seen ordered =
    ap (λ es. or_before (owner_among schema folded (flat_map placed_of es)) (owner_before (overlay_of puts) seen)) (entries_are puts ordered)
    ∙ ap (λ s. or_before (owner_among schema folded (placed puts)) s) (left_before puts seen ordered)

-- ## What a function tells

pub object_kept : (known : ObjectKey → Option Object) (puts : List Put) (name : ObjName) (before : Object) → IsTrue (are_in_order puts) → known (keys.Object name) ≡ Some before → None ≡ after_at puts name
    → run {E = ErrorValue} (behind known puts) (look_at (keys.Object name)) ≡ fine (sight before)
object_kept known puts name before ordered is kept =
    sees known puts (keys.Object name) before is ∙ ap (λ (s : Sight). fine s) (object_seen puts name (sight before) ordered ∙ ap (λ after. object_behind after (sight before)) (sym kept))

pub object_left : (known : ObjectKey → Option Object) (puts : List Put) (name : ObjName) (before : Object) (after : After) → IsTrue (are_in_order puts) → known (keys.Object name) ≡ Some before → Some after ≡ after_at puts name
    → run {E = ErrorValue} (behind known puts) (look_at (keys.Object name)) ≡ fine (after_seen after)
object_left known puts name before after ordered is left =
    sees known puts (keys.Object name) before is ∙ ap (λ (s : Sight). fine s) (object_seen puts name (sight before) ordered ∙ ap (λ after. object_behind after (sight before)) (sym left))

pub children_told : (known : ObjectKey → Option Object) (puts : List Put) (parent : ObjName) (object : Object) → IsTrue (are_in_order puts) → known (keys.Children parent) ≡ Some object
    → run {E = ErrorValue} (behind known puts) (look_at (keys.Children parent)) ≡ fine (ChildrenThere (put_names (children_among parent (placed puts)) (filter (λ child. not (is_changed puts child)) (children_seen (sight object)))))
children_told known puts parent object ordered is = sees known puts (keys.Children parent) object is ∙ ap (λ (s : Sight). fine s) (children_behind puts parent (sight object) ordered)

by_found : (table : ObjName) (found before : Sight) → is_owned_elsewhere table (or_before found before) ≡ unwrap_or (owned_by table found) (is_owned_elsewhere table before)
by_found table Nothing before = refl
by_found table SchemaThere before = refl
by_found table (TableThere space parts) before = refl
by_found table (ViewThere parts) before = refl
by_found table (NamesThere names) before = refl
by_found table (ChildrenThere tables) before = refl
by_found table (OwnerThere owner) before = refl

pub owner_told : (known : ObjectKey → Option Object) (puts : List Put) (table : ObjName) (schema folded : List ℕ) (object : Object) (found : Option Bool) (owned : Bool) → IsTrue (are_in_order puts) → known (keys.Constraint schema folded) ≡ Some object
    → found ≡ owned_by table (owner_among schema folded (placed puts)) → owned ≡ unwrap_or found (is_owned_elsewhere table (owner_left puts (sight object)))
    → owned_found table (run {E = ErrorValue} (behind known puts) (look_at (keys.Constraint schema folded))) ≡ fine owned
owner_told known puts table schema folded object found owned ordered is found_is owned_is =
    ap (owned_found table) (sees known puts (keys.Constraint schema folded) object is ∙ ap (λ (s : Sight). fine s) (owner_behind puts schema folded (sight object) ordered))
    ∙ ap (λ (b : Bool). fine b) (by_found table (owner_among schema folded (placed puts)) (owner_left puts (sight object))
    ∙ ap (λ f. unwrap_or f (is_owned_elsewhere table (owner_left puts (sight object)))) (sym found_is) ∙ sym owned_is)

pub children_all : (known : ObjectKey → Option Object) (puts : List Put) (parent : ObjName) (object : Object) (changed kept found : List ObjName) → IsTrue (are_in_order puts) → known (keys.Children parent) ≡ Some object
    → changed ≡ children_among parent (placed puts) → kept ≡ filter (λ child. not (is_changed puts child)) (children_seen (sight object)) → found ≡ put_names changed kept
    → run {E = ErrorValue} (behind known puts) (look_at (keys.Children parent)) ≡ fine (ChildrenThere found)
children_all known puts parent object changed kept found ordered is changed_is kept_is found_is =
    children_told known puts parent object ordered is
    ∙ ap (λ (l : List ObjName). fine (ChildrenThere l)) (ap (put_names (children_among parent (placed puts))) (sym kept_is) ∙ ap (λ l. put_names l kept) (sym changed_is) ∙ sym found_is)
