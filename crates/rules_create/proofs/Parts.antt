-- A foreign key is refused for its columns by themselves, or goes on with them, then with its name, then with the rest.
use Rattle.std.specs.Prelude.{◌≡◌, ℕ, ◌==◌, Bool, true, false, not, nat_lt, List, [], length, refl}
use Rattle.std.proofs.Common.{sym, ◌∙◌, ap, subst}
use Rattle.dd_errors.specs.Errors.{ErrorValue}
use Rattle.sql_types.specs.declared.words.FkWords.{FkWords}
use Rattle.dd_definitions.specs.declared.columns.ColumnDef.{ColumnDef}
use Rattle.dd_definitions.specs.declared.parts.TableParts.{TableParts}
use Rattle.dd_definitions.specs.declared.foreign_keys.ForeignKeyDef.{ForeignKeyDef}
use Rattle.dd_catalog.specs.declared.stop.Stop.{Stop}
use Rattle.dd_catalog.specs.Walks.{Walk, done, ◌>>=◌, Found, fine, refused, needs, run, refuse_if}
use Rattle.dd_catalog.specs.WalkLaws.{Look, go_on, run_bind, run_fine}
use Rattle.dd_catalog.specs.LoopLaws.{stops_all}
use Rattle.dd_catalog.specs.Follow.{Stops}
use Rattle.rules_refusals.specs.Refusals.{too_many_key_parts, key_column_does_not_exist}
use Rattle.rules_elements.specs.Keys.{key_columns}
use Rattle.rules_refusals.specs.Refusals as refusals
use Rattle.rules_create.specs.Tables.{some_columns, name_in_text, constraint_name, key_named, one_foreign_key}
use Rattle.rules_create.specs.Made.{allowed_columns, key_made, foreign_key_on, with_foreign_key}

-- ## The columns

abbrev came : {A : Type 0} → A → Found ErrorValue A
came x = fine x

abbrev by_columns : TableParts → FkWords → Walk ErrorValue TableParts
by_columns parts words = key_columns parts.columns words.columns >>= foreign_key_on parts words

-- three tests in front of a check
tests_first : (look : Look) (a b c : Bool) (x y z : ErrorValue) (rest : Walk ErrorValue TableParts)
    → run look (refuse_if a x >>= λ _. refuse_if b y >>= λ _. refuse_if c z >>= λ _. rest) ≡ go_on (run look (refuse_if a x >>= λ _. refuse_if b y >>= λ _. refuse_if c z)) (λ _. run look rest)
tests_first look true b c x y z rest = refl
tests_first look false true c x y z rest = refl
tests_first look false false true x y z rest = refl
tests_first look false false false x y z rest = refl

allowed_first : (look : Look) (parts : TableParts) (words : FkWords) → run look (one_foreign_key parts words) ≡ go_on (run look (allowed_columns words)) (λ _. run look (by_columns parts words))
unfolding one_foreign_key foreign_key_on with_foreign_key
allowed_first look parts words =
    tests_first look (not (length words.columns == length words.parent_columns)) (nat_lt 16 (length words.columns)) (length words.columns == 0)
    (refusals.wrong_fk_def (name_in_text words.constraint)) too_many_key_parts (key_column_does_not_exist []) (by_columns parts words)

pub allowed_stop : (stop : Stop) (look : Look) (parts : TableParts) (words : FkWords) → Stops stop (run look (allowed_columns words)) → Stops stop (run look (one_foreign_key parts words))
allowed_stop stop look parts words stopped = stops_all stop (run look (allowed_columns words)) (λ _. run look (by_columns parts words)) _ stopped (sym (allowed_first look parts words))

columns_next : (look : Look) (parts : TableParts) (words : FkWords) → run look (allowed_columns words) ≡ fine tt → run look (one_foreign_key parts words) ≡ go_on (run look (key_columns parts.columns words.columns)) (λ columns. run look (foreign_key_on parts words columns))
columns_next look parts words allowed =
    allowed_first look parts words ∙ ap (λ found. go_on found (λ _. run look (by_columns parts words))) allowed ∙ run_bind look (key_columns parts.columns words.columns) (foreign_key_on parts words)

pub columns_stop : (stop : Stop) (look : Look) (parts : TableParts) (words : FkWords) → run look (allowed_columns words) ≡ fine tt → Stops stop (run look (key_columns parts.columns words.columns)) → Stops stop (run look (one_foreign_key parts words))
columns_stop stop look parts words allowed stopped = stops_all stop (run look (key_columns parts.columns words.columns)) (λ columns. run look (foreign_key_on parts words columns)) _ stopped (sym (columns_next look parts words allowed))

pub columns_settled : (look : Look) (parts : TableParts) (words : FkWords) (columns : List (List ℕ)) → run look (allowed_columns words) ≡ fine tt → run look (key_columns parts.columns words.columns) ≡ fine columns → run look (one_foreign_key parts words) ≡ run look (foreign_key_on parts words columns)
columns_settled look parts words columns allowed found = columns_next look parts words allowed ∙ ap (λ f. go_on f (λ cs. run look (foreign_key_on parts words cs))) found

-- ## The name

named_first : (look : Look) (parts : TableParts) (words : FkWords) (columns : List (List ℕ)) → run look (foreign_key_on parts words columns) ≡ go_on (run look (key_made parts words columns)) (λ key. run look (with_foreign_key parts words key))
unfolding foreign_key_on
named_first look parts words columns =
    run_bind look (constraint_name parts words.constraint) _ ∙ at (run look (constraint_name parts words.constraint))
    ∙ ap (λ found. go_on found (λ key. run look (with_foreign_key parts words key))) (sym (run_bind look (constraint_name parts words.constraint) (λ name. done (key_named words parts.name name columns))))
  where
    at : (found : Found ErrorValue (List ℕ)) → go_on found (λ name. run look (with_foreign_key parts words (key_named words parts.name name columns))) ≡ go_on (go_on found (λ name. came (key_named words parts.name name columns))) (λ key. run look (with_foreign_key parts words key))
    at (fine name) = refl
    at (refused e) = refl
    at (needs key) = refl

pub name_stop : (stop : Stop) (look : Look) (parts : TableParts) (words : FkWords) (columns : List (List ℕ)) → Stops stop (run look (key_made parts words columns)) → Stops stop (run look (foreign_key_on parts words columns))
name_stop stop look parts words columns stopped = stops_all stop (run look (key_made parts words columns)) (λ key. run look (with_foreign_key parts words key)) _ stopped (sym (named_first look parts words columns))

pub name_settled : (look : Look) (parts : TableParts) (words : FkWords) (columns : List (List ℕ)) (key : ForeignKeyDef) → run look (key_made parts words columns) ≡ fine key → run look (foreign_key_on parts words columns) ≡ run look (with_foreign_key parts words key)
name_settled look parts words columns key made = named_first look parts words columns ∙ ap (λ found. go_on found (λ k. run look (with_foreign_key parts words k))) made

pub same_columns : (look : Look) (parts : TableParts) (words : FkWords) (own : List ColumnDef) (names : List (List ℕ)) → own ≡ parts.columns → names ≡ words.columns → run look (key_columns own names) ≡ run look (key_columns parts.columns words.columns)
same_columns look parts words own names same_own same_names = ap (λ (cs : List ColumnDef). run look (key_columns cs names)) same_own ∙ ap (λ ns. run look (key_columns parts.columns ns)) same_names

pub unnamed_stop : (stop : Stop) (look : Look) (parts : TableParts) (words : FkWords) (columns : List (List ℕ)) → Stops stop (run look (constraint_name parts words.constraint)) → Stops stop (run look (key_made parts words columns))
unnamed_stop stop look parts words columns stopped =
    stops_all stop (run look (constraint_name parts words.constraint)) (λ name. fine (key_named words parts.name name columns)) _ stopped (sym (run_bind look (constraint_name parts words.constraint) (λ name. done (key_named words parts.name name columns))))

pub named_fine : (look : Look) (parts : TableParts) (words : FkWords) (columns : List (List ℕ)) (name : List ℕ) (key : ForeignKeyDef) → run look (constraint_name parts words.constraint) ≡ fine name → key ≡ key_named words parts.name name columns → run look (key_made parts words columns) ≡ fine key
named_fine look parts words columns name key named is =
    run_fine look (constraint_name parts words.constraint) (λ name. done (key_named words parts.name name columns)) name named ∙ ap (λ k. came k) (sym is)

-- where what follows stops, all stops
pub rest_stop : (stop : Stop) (found total : Found ErrorValue TableParts) → total ≡ found → Stops stop found → Stops stop total
rest_stop stop found total is stopped = subst (Stops stop) (sym is) stopped
