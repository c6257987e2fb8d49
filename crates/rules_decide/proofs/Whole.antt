-- Checks over a whole catalog.
use Rattle.std.specs.Prelude.{◌≡◌, Some, List, [], ◌∷◌, true, is_some, refl}
use Rattle.std.specs.List.{AllByRecursion}
use Rattle.std.proofs.Common.{ap}
use Rattle.dd_names.specs.declared.object_name.ObjectKey.{ObjectKey}
use Rattle.dd_errors.specs.Errors.{ErrorValue}
use Rattle.sql_ast.specs.declared.session.SessionState.{SessionState}
use Rattle.sql_ast.specs.declared.statement.Statement.{Statement}
use Rattle.sql_ast.specs.declared.statement.Statement.TheVariants as is
use Rattle.sql_ast.specs.declared.table.TableStatement.{TableStatement}
use Rattle.sql_ast.specs.declared.table.TableStatement.TheVariants as tables
use Rattle.dd_catalog.specs.Catalog.{Catalog, sight_of, all_of}
use Rattle.dd_catalog.specs.Sights.{Sight}
use Rattle.dd_catalog.specs.Walks.{Walk, done, refuse, ask, run, asked}
use Rattle.dd_catalog.specs.WalkLaws.{Look, IsOf, IsSettled, run_agrees, run_more}
use Rattle.rules_outcome.specs.Choices.{Choice}
use Rattle.rules_decide.specs.Outcome.{table_outcome, outcome, is_table_decided, is_decided}

-- no key of a whole catalog is unknown
pub settled : (cat : Catalog) (check : Walk ErrorValue Choice) → IsSettled (run (all_of cat) check)
settled cat (done choice) = tt
settled cat (refuse error) = tt
settled cat (ask key go) = settled cat (go (sight_of cat key))

keys_agree : (cat other : Catalog) (keys : List ObjectKey) → AllByRecursion (λ key. sight_of cat key ≡ sight_of other key) keys → AllByRecursion (λ key. all_of cat key ≡ all_of other key) keys
keys_agree cat other [] all = tt
keys_agree cat other (key ∷ keys) all = (ap (λ (seen : Sight). Some seen) all.0, keys_agree cat other keys all.1)

pub catalogs_agree : (cat other : Catalog) (check : Walk ErrorValue Choice) → AllByRecursion (λ key. sight_of cat key ≡ sight_of other key) (asked (all_of cat) check) → run (all_of cat) check ≡ run (all_of other) check
catalogs_agree cat other check all = run_agrees (all_of cat) (all_of other) check (keys_agree cat other (asked (all_of cat) check) all)

-- a part of a catalog extends to the whole
pub known_settles : (cat : Catalog) (look : Look) (check : Walk ErrorValue Choice) → IsOf (sight_of cat) look → IsSettled (run look check) → run (all_of cat) check ≡ run look check
known_settles cat look check of done_with = run_more look (all_of cat) check (record { keeps = λ key seen known. ap (λ (s : Sight). Some s) (of.stands key seen known) }) done_with

table_has_check : (session : SessionState) (statement : TableStatement) → is_table_decided statement ≡ true → is_some (table_outcome session statement) ≡ true
table_has_check session (tables.Create words) e = refl
table_has_check session (tables.Drop if_exists dropped) e = refl
table_has_check session (tables.Rename pairs) e = refl
table_has_check session (tables.Truncate table) e = refl
table_has_check session _ e = cc

pub decided_has_check : (session : SessionState) (statement : Statement) → is_decided statement ≡ true → is_some (outcome session statement) ≡ true
decided_has_check session (is.Schema statement) e = refl
decided_has_check session (is.Table statement) e = table_has_check session statement e
decided_has_check session (is.View statement) e = cc
decided_has_check session (is.Show statement) e = refl
decided_has_check session (is.Session statement) e = refl
decided_has_check session (is.Bad error) e = refl
