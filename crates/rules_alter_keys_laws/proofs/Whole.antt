-- What all actions keep of foreign keys.
use Rattle.std.specs.Prelude.{◌≡◌, not, nat_lt, List, length}
use Rattle.std.specs.List.{count_by}
use Rattle.std.proofs.Common.{subst}
use Rattle.sql_ast.specs.declared.action.AlterAction.{AlterAction}
use Rattle.dd_definitions.specs.Indexes.{is_secondary}
use Rattle.dd_catalog.specs.Walks.{fine, run, refuse_if, over}
use Rattle.dd_catalog.specs.WalkLaws.{Look}
use Rattle.dd_catalog.specs.Asked.{fine_is, bind_fine, over_keeps}
use Rattle.rules_refusals.specs.Refusals.{too_many_fields, too_many_keys, wrong_auto_key}
use Rattle.rules_create.specs.Leaves.{SeesFormed}
use Rattle.rules_create.specs.Tables.{are_autos_led}
use Rattle.rules_alter.specs.Actions.{one_action}
use Rattle.rules_alter.specs.ForeignKeys.{all_keys_fit}
use Rattle.rules_alter.specs.Statements.{within_limits, all_acted}
use Rattle.rules_alter.specs.declared.states.Altering.{Altering}
use Rattle.rules_alter_laws.specs.Stands.{StandsInOrder}
use Rattle.rules_alter_laws.proofs.Actions.{action_behind}
use Rattle.rules_alter_laws.proofs.Ordered.{AreChildrenFormed, IsBehind}
use Rattle.rules_alter_keys_laws.proofs.Follows.{IsFollowed, followed_itself, followed_through}
use Rattle.rules_alter_keys_laws.specs.Grounds.{ArePaired}
use Rattle.rules_alter_keys_laws.proofs.Pairs.{all_are_paired}
use Rattle.rules_alter_keys_laws.proofs.Steps.{action_follows}

-- the table stands, its children are formed, and what is said of foreign keys follows
record IsRunning (look : Look) (start state : Altering) : Type 0 where
  stands : StandsInOrder state.parts
  children : AreChildrenFormed state
  follows : IsFollowed look start state

one_more : (look : Look) (start : Altering) → SeesFormed look → (state : Altering) (action : AlterAction) (next : Altering) → IsRunning look start state → run look (one_action state action) ≡ fine next → IsRunning look start next
one_more look start sees state action next so_far is =
    let behind : IsBehind state next = action_behind look action state next so_far.stands is in
    record {
      stands = behind.stands;
      children = behind.children so_far.children;
      follows = followed_through look start state next so_far.follows (action_follows look action state next sees so_far.stands so_far.children is);
    }

pub actions_follow : (look : Look) (start : Altering) (acts : List AlterAction) (state : Altering) → SeesFormed look → StandsInOrder start.parts → AreChildrenFormed start → run look (over one_action start acts) ≡ fine state → IsFollowed look start state
actions_follow look start acts state sees good formed is =
    (over_keeps (IsRunning look start) look one_action (one_more look start sees) start acts state (record { stands = good; children = formed; follows = followed_itself look start }) is).follows

limits_pair : (look : Look) (state : Altering) (x : Unit {0}) → run look (within_limits state) ≡ fine x → ArePaired look state
unfolding within_limits
limits_pair look state x is =
    let (_, columns, after_columns) = bind_fine look (refuse_if (nat_lt 1017 (length state.parts.columns)) too_many_fields) _ x is in
    let (_, indexes, after_indexes) = bind_fine look (refuse_if (nat_lt 64 (count_by is_secondary state.parts.indexes)) too_many_keys) _ x after_columns in
    let (_, led, after_led) = bind_fine look (refuse_if (not (are_autos_led state.parts)) wrong_auto_key) _ x after_indexes in
    let (_, fit, last) = bind_fine look (all_keys_fit state) _ x after_led in
    all_are_paired look state fit

-- behind all actions
pub record IsWhole (look : Look) (start state : Altering) : Type 0 where
  pub follows : IsFollowed look start state
  pub paired : ArePaired look state

pub all_follow : (look : Look) (start : Altering) (acts : List AlterAction) (state : Altering) → SeesFormed look → StandsInOrder start.parts → AreChildrenFormed start → run look (all_acted start acts) ≡ fine state → IsWhole look start state
unfolding all_acted
all_follow look start acts state sees good formed is =
    let (behind, acted, after_acts) = bind_fine look (over one_action start acts) _ state is in
    let (x, limits, last) = bind_fine look (within_limits behind) _ state after_acts in
    subst (IsWhole look start) (fine_is last) (record { follows = actions_follow look start acts behind sees good formed acted; paired = limits_pair look behind x limits })
