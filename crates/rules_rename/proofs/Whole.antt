-- RENAME TABLE, check by check.
use Rattle.std.specs.Prelude.{◌≡◌, ℕ, List, [], length, nat_lt, Option}
use Rattle.std.specs.FinMap as finite_map
use Rattle.std.proofs.Common.{sym, ◌∙◌, ap}
use Rattle.dd_names.specs.declared.object_name.ObjName.{ObjName}
use Rattle.dd_errors.specs.Errors.{ErrorValue}
use Rattle.sql_ast.specs.declared.session.SessionState.{SessionState}
use Rattle.sql_ast.specs.declared.table.RenamePair.{RenamePair}
use Rattle.dd_catalog.specs.declared.stop.Stop.{Stop}
use Rattle.dd_catalog.specs.Walks.{fine, run, refuse_if, each, every, over}
use Rattle.dd_catalog.specs.WalkLaws.{Look, run_fine}
use Rattle.dd_catalog.specs.Follow.{Stops}
use Rattle.rules_outcome.specs.Choices.{Changes}
use Rattle.rules_named.specs.Named.{resolved, own_schema_there}
use Rattle.rules_refusals.specs.Refusals.{beyond_limit}
use Rattle.rules_rename.specs.Overlays.{changes_in}
use Rattle.rules_rename.specs.Renames.{Renaming, named_pair, schemas_there, one_pair, rename}
use Rattle.rules_rename.proofs.Steps.{stops_first}

-- ## The names

pub from_unresolved : (look : Look) (current : Option (List ℕ)) (pair : RenamePair) (stop : Stop) → Stops stop (run look (resolved current pair.from)) → Stops stop (run look (named_pair current pair))
unfolding named_pair
from_unresolved look current pair stop is = stops_first look (resolved current pair.from) _ stop is

pub to_unresolved : (look : Look) (current : Option (List ℕ)) (pair : RenamePair) (from : ObjName) (stop : Stop) → run look (resolved current pair.from) ≡ fine from → Stops stop (run look (resolved current pair.to)) → Stops stop (run look (named_pair current pair))
unfolding named_pair
to_unresolved look current pair from stop from_is is = rw (run_fine look (resolved current pair.from) _ from from_is) (stops_first look (resolved current pair.to) _ stop is)

pub pair_named : (look : Look) (current : Option (List ℕ)) (pair : RenamePair) (from to : ObjName) → run look (resolved current pair.from) ≡ fine from → run look (resolved current pair.to) ≡ fine to → run look (named_pair current pair) ≡ fine (from, to)
unfolding named_pair
pair_named look current pair from to from_is to_is = run_fine look (resolved current pair.from) _ from from_is ∙ run_fine look (resolved current pair.to) _ to to_is

-- ## The statement

-- nothing is changed before the first pair
abbrev pub no_renaming : Renaming
no_renaming = record { overlay = finite_map.empty; children = [] }

pub pairs_unnamed : (look : Look) (session : SessionState) (pairs : List RenamePair) (stop : Stop) → Stops stop (run look (each (named_pair session.current) pairs)) → Stops stop (run look (rename session pairs))
unfolding rename
pairs_unnamed look session pairs stop is = stops_first look (each (named_pair session.current) pairs) _ stop is

pub schemas_stop : (look : Look) (session : SessionState) (pairs : List RenamePair) (named : List (ObjName × ObjName)) (stop : Stop) → run look (each (named_pair session.current) pairs) ≡ fine named
    → Stops stop (run look (every schemas_there named)) → Stops stop (run look (rename session pairs))
unfolding rename
schemas_stop look session pairs named stop named_are is = rw (run_fine look (each (named_pair session.current) pairs) _ named named_are) (stops_first look (every schemas_there named) _ stop is)

pub pairs_too_many : (look : Look) (session : SessionState) (pairs : List RenamePair) (named : List (ObjName × ObjName)) (stop : Stop) → run look (each (named_pair session.current) pairs) ≡ fine named → run look (every schemas_there named) ≡ fine tt
    → Stops stop (run look (refuse_if (nat_lt 4096 (length named)) (beyond_limit "4096"))) → Stops stop (run look (rename session pairs))
unfolding rename
pairs_too_many look session pairs named stop named_are schemas_are is =
    rw (run_fine look (each (named_pair session.current) pairs) _ named named_are, run_fine look (every schemas_there named) _ tt schemas_are) (stops_first look (refuse_if (nat_lt 4096 (length named)) (beyond_limit "4096")) _ stop is)

pub pairs_stop : (look : Look) (session : SessionState) (pairs : List RenamePair) (named : List (ObjName × ObjName)) (stop : Stop) → run look (each (named_pair session.current) pairs) ≡ fine named → run look (every schemas_there named) ≡ fine tt
    → run look (refuse_if (nat_lt 4096 (length named)) (beyond_limit "4096")) ≡ fine tt → Stops stop (run look (over one_pair no_renaming named)) → Stops stop (run look (rename session pairs))
unfolding rename
pairs_stop look session pairs named stop named_are schemas_are few is =
    rw (run_fine look (each (named_pair session.current) pairs) _ named named_are, run_fine look (every schemas_there named) _ tt schemas_are, run_fine look (refuse_if (nat_lt 4096 (length named)) (beyond_limit "4096")) _ tt few)
    (stops_first look (over one_pair no_renaming named) _ stop is)

pub children_too_many : (look : Look) (session : SessionState) (pairs : List RenamePair) (named : List (ObjName × ObjName)) (renaming : Renaming) (stop : Stop) → run look (each (named_pair session.current) pairs) ≡ fine named → run look (every schemas_there named) ≡ fine tt
    → run look (refuse_if (nat_lt 4096 (length named)) (beyond_limit "4096")) ≡ fine tt → run look (over one_pair no_renaming named) ≡ fine renaming
    → Stops stop (run look (refuse_if (nat_lt 4096 (length renaming.children)) (beyond_limit "4096"))) → Stops stop (run look (rename session pairs))
unfolding rename
children_too_many look session pairs named renaming stop named_are schemas_are few renamed is =
    rw (run_fine look (each (named_pair session.current) pairs) _ named named_are, run_fine look (every schemas_there named) _ tt schemas_are, run_fine look (refuse_if (nat_lt 4096 (length named)) (beyond_limit "4096")) _ tt few, run_fine look (over one_pair no_renaming named) _ renaming renamed)
    (stops_first look (refuse_if (nat_lt 4096 (length renaming.children)) (beyond_limit "4096")) _ stop is)

pub all_renamed : (look : Look) (session : SessionState) (pairs : List RenamePair) (named : List (ObjName × ObjName)) (renaming : Renaming) → run look (each (named_pair session.current) pairs) ≡ fine named → run look (every schemas_there named) ≡ fine tt
    → run look (refuse_if (nat_lt 4096 (length named)) (beyond_limit "4096")) ≡ fine tt → run look (over one_pair no_renaming named) ≡ fine renaming
    → run look (refuse_if (nat_lt 4096 (length renaming.children)) (beyond_limit "4096")) ≡ fine tt
    → run look (rename session pairs) ≡ fine (Changes (changes_in (finite_map.entries renaming.overlay)) session)
unfolding rename
all_renamed look session pairs named renaming named_are schemas_are few renamed few_children =
    run_fine look (each (named_pair session.current) pairs) _ named named_are ∙ run_fine look (every schemas_there named) _ tt schemas_are ∙ run_fine look (refuse_if (nat_lt 4096 (length named)) (beyond_limit "4096")) _ tt few
    ∙ run_fine look (over one_pair no_renaming named) _ renaming renamed ∙ run_fine look (refuse_if (nat_lt 4096 (length renaming.children)) (beyond_limit "4096")) _ tt few_children
