-- What ALTER TABLE, CREATE INDEX and DROP INDEX change is well formed and has its name.
use Rattle.std.specs.Prelude.{◌≡◌, ℕ, Bool, true, false, List, [], ◌∷◌, ◌++◌, map, filter, length, nat_lt, Option, Some, None, if◌then◌else◌, refl}
use Rattle.std.specs.List.{AllByRecursion}
use Rattle.std.proofs.Common.{sym, ◌∙◌, ap, subst}
use Rattle.dd_names.specs.declared.object_name.ObjName.{ObjName}
use Rattle.dd_names.specs.declared.object_name.ObjectKey.{ObjectKey}
use Rattle.dd_names.specs.declared.object_name.ObjectKey.TheVariants as keys
use Rattle.dd_errors.specs.Errors.{ErrorValue}
use Rattle.sql_types.specs.declared.words.ObjRef.{ObjRef}
use Rattle.sql_ast.specs.declared.action.AlterAction.{AlterAction}
use Rattle.sql_ast.specs.declared.action.AlterAction.TheVariants as actions
use Rattle.sql_ast.specs.declared.session.SessionState.{SessionState}
use Rattle.dd_definitions.specs.WellFormed.{is_well_formed}
use Rattle.dd_definitions.specs.declared.parts.TableParts.{TableParts}
use Rattle.dd_catalog.specs.Sights.{Sight, Nothing, SchemaThere, TableThere, ViewThere, NamesThere, ChildrenThere, OwnerThere}
use Rattle.dd_catalog.specs.Walks.{done, ◌>>=◌, told, fine, run, look_at, refuse_if, over}
use Rattle.dd_catalog.specs.WalkLaws.{Look}
use Rattle.dd_catalog.specs.Asked.{fine_is, bind_fine, over_keeps}
use Rattle.rules_outcome.specs.Choices.{Change, Choice, Changes}
use Rattle.rules_refusals.specs.Refusals.{beyond_limit}
use Rattle.rules_schema.specs.Drops.{children_seen}
use Rattle.rules_create.specs.Leaves.{IsTableAt, SeesFormed, IsFormedAt, IsFormedBehind, LeavesFormed}
use Rattle.rules_rename.specs.Renames.{name_is_free, renamed_keys}
use Rattle.rules_rename_laws.proofs.ForeignKeys.{table_is_formed, child_is_formed}
use Rattle.rules_alter.specs.Actions.{one_action}
use Rattle.rules_alter.specs.Statements.{names_of, table_seen, Found, child_seen, one_child, children_of, within_limits, table_behind, child_change, is_child_changed, changes_in_place, child_moved, changes_moved, changes_of, start_of, all_acted, altered, alter_table, last_of, create_index, drop_index, index_words}
use Rattle.rules_alter.specs.declared.states.Altering.{Altering}
use Rattle.rules_alter.specs.declared.states.Child.{Child}
use Rattle.rules_alter_laws.proofs.Actions.{actions_behind}
use Rattle.rules_alter_laws.proofs.Limits.{formed_stands, limits_form}
use Rattle.rules_alter_laws.proofs.Ordered.{AreChildrenFormed, IsBehind}

-- ## Behind all actions

-- the table of the name is well formed, and so are its children
pub record IsAltered (table : ObjName) (state : Altering) : Type 0 where
  pub stands : IsTableAt table state.parts
  pub children : AreChildrenFormed state

pub all_are_formed : (look : Look) (table : ObjName) (start : Altering) (acts : List AlterAction) (state : Altering) → IsAltered table start → run look (all_acted start acts) ≡ fine state → IsAltered table state
unfolding all_acted
all_are_formed look table start acts state good is =
    let (behind, acted, after_acts) = bind_fine look (over one_action start acts) _ state is in
    let (x, limits, last) = bind_fine look (within_limits behind) _ state after_acts in
    let kept : IsBehind start behind = actions_behind look start acts behind (formed_stands start.parts good.stands.formed) acted in
    subst (IsAltered table) (fine_is last) (record {
      stands = record { formed = limits_form look behind x kept.stands limits; named = kept.name ∙ good.stands.named };
      children = kept.children good.children;
    })

-- a well-formed table is so behind all actions
pub table_is_formed_behind : (look : Look) (start : Altering) (acts : List AlterAction) (state : Altering) → is_well_formed start.parts ≡ true → run look (all_acted start acts) ≡ fine state → is_well_formed state.parts ≡ true
unfolding all_acted
table_is_formed_behind look start acts state formed is =
    let (behind, acted, after_acts) = bind_fine look (over one_action start acts) _ state is in
    let (x, limits, last) = bind_fine look (within_limits behind) _ state after_acts in
    let kept : IsBehind start behind = actions_behind look start acts behind (formed_stands start.parts formed) acted in
    ap (λ (s : Altering). is_well_formed s.parts) (sym (fine_is last)) ∙ limits_form look behind x kept.stands limits

-- ## What is seen

looked_at : (look : Look) (key : ObjectKey) (seen : Sight) → run {E = ErrorValue} look (look_at key) ≡ fine seen → look key ≡ Some seen
looked_at look key seen is = on (look key) is
  where
    on : (known : Option Sight) → told {E = ErrorValue} known key (λ s. fine s) ≡ fine seen → known ≡ Some seen
    on None is = cc
    on (Some s) is = ap (λ x. Some x) (fine_is is)

table_is_seen : (look : Look) (table : ObjName) (seen : Sight) (found : Found) → run look (table_seen table seen) ≡ fine found → seen ≡ TableThere found.space found.parts
table_is_seen look table Nothing found is = cc
table_is_seen look table SchemaThere found is = cc
table_is_seen look table (TableThere space parts) found is = ap (λ (f : Found). TableThere f.space f.parts) (fine_is is)
table_is_seen look table (ViewThere parts) found is = cc
table_is_seen look table (NamesThere names) found is = cc
table_is_seen look table (ChildrenThere tables) found is = cc
table_is_seen look table (OwnerThere owner) found is = cc

all_append : {X : Type 0} (P : X → Type 0) (xs ys : List X) → AllByRecursion P xs → AllByRecursion P ys → AllByRecursion P (xs ++ ys)
all_append P [] ys one other = other
all_append P (x ∷ xs) ys one other = (one.0, all_append P xs ys one.1 other)

child_is_seen : (look : Look) (name : ObjName) (seen : Sight) → SeesFormed look → look (keys.Object name) ≡ Some seen → AllByRecursion (λ (child : Child). IsTableAt child.name child.parts) (child_seen name seen)
child_is_seen look name Nothing sees is = tt
child_is_seen look name SchemaThere sees is = tt
child_is_seen look name (TableThere space parts) sees is = (sees.tables name space parts is, tt)
child_is_seen look name (ViewThere parts) sees is = tt
child_is_seen look name (NamesThere names) sees is = tt
child_is_seen look name (ChildrenThere tables) sees is = tt
child_is_seen look name (OwnerThere owner) sees is = tt

abbrev AreFormed : List Child → Type 0
AreFormed children = AllByRecursion (λ (child : Child). IsTableAt child.name child.parts) children

one_more_child : (look : Look) → SeesFormed look → (before : List Child) (name : ObjName) (next : List Child) → AreFormed before → run look (one_child before name) ≡ fine next → AreFormed next
unfolding one_child
one_more_child look sees before name next so_far is =
    let (seen, there, last) = bind_fine look (look_at (keys.Object name)) (λ seen. done (before ++ child_seen name seen)) next is in
    subst AreFormed (fine_is last) (all_append (λ (child : Child). IsTableAt child.name child.parts) before (child_seen name seen) so_far (child_is_seen look name seen sees (looked_at look (keys.Object name) seen there)))

children_are_formed : (look : Look) (table : ObjName) (children : List Child) → SeesFormed look → run look (children_of table) ≡ fine children → AreFormed children
unfolding children_of
children_are_formed look table children sees is =
    let (seen, there, after_look) = bind_fine look (look_at (keys.Children table)) (λ seen. refuse_if (nat_lt 4096 (length (children_seen seen))) (beyond_limit "4096") >>= λ _. over one_child [] (children_seen seen)) children is in
    let (_, few, last) = bind_fine look (refuse_if (nat_lt 4096 (length (children_seen seen))) (beyond_limit "4096")) _ children after_look in
    over_keeps AreFormed look one_child (one_more_child look sees) [] (children_seen seen) children tt last

-- ## What changes

abbrev AreBehind : List Change → Type 0
AreBehind changes = AllByRecursion (λ (c : Change). IsFormedBehind c.key c.after) changes

table_left : (name : ObjName) (space : ℕ) (is_rebuilt : Bool) (parts : TableParts) → IsTableAt name parts → IsFormedAt name (table_behind space is_rebuilt parts)
table_left name space true parts at = at
table_left name space false parts at = at

children_left : (children : List Child) → AreFormed children → AreBehind (map child_change (filter is_child_changed children))
children_left [] all = tt
children_left (child ∷ children) all = on child.is_changed all.0 (children_left children all.1)
  where
    on : (b : Bool) → IsTableAt child.name child.parts → AreBehind (map child_change (filter is_child_changed children)) → AreBehind (map child_change (if b then child ∷ filter is_child_changed children else filter is_child_changed children))
    on true at rest = (at, rest)
    on false at rest = rest

children_moved : (from to : ObjName) (children : List Child) → AreFormed children → AreBehind (map (child_moved from to) children)
children_moved from to [] all = tt
children_moved from to (child ∷ children) all = (record { formed = child_is_formed from to child.parts all.0.formed; named = all.0.named }, children_moved from to children all.1)

changes_left : (look : Look) (table : ObjName) (space : ℕ) (state : Altering) (target : Option ObjName) (changes : List Change) → IsAltered table state → run look (changes_of space state target) ≡ fine changes → AreBehind changes
unfolding changes_moved
changes_left look table space state None changes good is =
    subst AreBehind {x = changes_in_place space state} (fine_is is) (table_left state.parts.name space state.is_rebuilt state.parts (record { formed = good.stands.formed; named = refl }), children_left state.children good.children)
changes_left look table space state (Some to) changes good is =
    let (_, free, after_name) = bind_fine look (name_is_free to) _ changes is in
    let (made, renamed, last) = bind_fine look (renamed_keys state.parts.name to state.parts.foreign_keys) _ changes after_name in
    let formed : is_well_formed (record state.parts { name = to; foreign_keys = made }) ≡ true = table_is_formed look state.parts.name to state.parts made good.stands.formed renamed in
    subst AreBehind (fine_is last)
    (tt, (table_left to space state.is_rebuilt (record state.parts { name = to; foreign_keys = made }) (record { formed = formed; named = refl }), children_moved state.parts.name to state.children good.children))

altered_left : (look : Look) (table : ObjName) (session : SessionState) (acts : List AlterAction) (target : Option ObjName) (found : Found) (children : List Child) (choice : Choice) → IsTableAt table found.parts → AreFormed children
    → run look (altered session acts target found children) ≡ fine choice → LeavesFormed choice
unfolding altered
altered_left look table session acts target found children choice at all is =
    let (state, acted, after_acts) = bind_fine look (all_acted (start_of found.parts children) acts) _ choice is in
    let (changes, made, last) = bind_fine look (changes_of found.space state target) _ choice after_acts in
    let behind : IsAltered table state = all_are_formed look table (start_of found.parts children) acts state (record { stands = at; children = all }) acted in
    subst LeavesFormed {x = Changes changes session} (fine_is last) (changes_left look table found.space state target changes behind made)

pub alter_table_leaves : (look : Look) (session : SessionState) (ref : ObjRef) (acts : List AlterAction) (choice : Choice) → SeesFormed look → run look (alter_table session ref acts) ≡ fine choice → LeavesFormed choice
unfolding alter_table
alter_table_leaves look session ref acts choice sees is =
    let (names, named, after_names) = bind_fine look (names_of session ref acts) _ choice is in
    let (seen, there, after_look) = bind_fine look (look_at (keys.Object names.table)) _ choice after_names in
    let (found, is_table, after_table) = bind_fine look (table_seen names.table seen) _ choice after_look in
    let (children, all, last) = bind_fine look (children_of names.table) _ choice after_table in
    let some : Sight → Option Sight = λ s. Some s in
    let known : look (keys.Object names.table) ≡ Some (TableThere found.space found.parts) = looked_at look (keys.Object names.table) seen there ∙ ap some (table_is_seen look names.table seen found is_table) in
    altered_left look names.table session acts (last_of names.targets) found children choice (sees.tables names.table found.space found.parts known) (children_are_formed look names.table children sees all) last

pub create_index_leaves : (look : Look) (session : SessionState) (is_unique : Bool) (name : List ℕ) (ref : ObjRef) (columns : List (List ℕ)) (choice : Choice) → SeesFormed look → run look (create_index session is_unique name ref columns) ≡ fine choice → LeavesFormed choice
create_index_leaves look session is_unique name ref columns choice sees is = alter_table_leaves look session ref (actions.AddKey (index_words is_unique name columns) ∷ []) choice sees is

pub drop_index_leaves : (look : Look) (session : SessionState) (name : List ℕ) (ref : ObjRef) (choice : Choice) → SeesFormed look → run look (drop_index session name ref) ≡ fine choice → LeavesFormed choice
drop_index_leaves look session name ref choice sees is = alter_table_leaves look session ref (actions.DropIndex name ∷ []) choice sees is
