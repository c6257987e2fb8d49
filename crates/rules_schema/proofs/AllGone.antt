-- The schema goes where each of its objects may go.
use Rattle.std.proofs.Common.{◌≡◌, ℕ, ◌≤◌, false, List, [], ◌∷◌, ◌++◌, length, map, sym, ◌∙◌, ap, subst, arith}
use Rattle.std.specs.Prelude.{nat_lt}
use Rattle.std.proofs.lemmas.Bool.Decides.{nat_tests}
use Rattle.dd_names.specs.declared.object_name.ObjectKey.TheVariants as keys
use Rattle.dd_errors.specs.Errors.{ErrorValue}
use Rattle.sql_ast.specs.declared.session.SessionState.{SessionState}
use Rattle.dd_catalog.specs.Sights.{Sight}
use Rattle.dd_catalog.specs.Walks.{Walk, done, ◌>>=◌, Found, fine, run, look_at, refuse_if, every}
use Rattle.dd_catalog.specs.WalkLaws.{Look, run_fine}
use Rattle.rules_outcome.specs.Choices.{Gone, Change, change, Choice, Changes}
use Rattle.rules_refusals.specs.Refusals.{beyond_limit}
use Rattle.rules_named.specs.Named.{object_in}
use Rattle.rules_schema.specs.Listings.{names_seen}
use Rattle.rules_schema.specs.Drops.{gone}
use Rattle.rules_schema.specs.Schemas.{may_go, without_schema, all_gone, schema_gone}

not_more : (n most : ℕ) → n ≤ most → nat_lt most n ≡ false
not_more n most le = grind (arith, nat_tests)

goes_on : (look : Look) (session : SessionState) (schema : List ℕ) (seen : Sight) → run {E = ErrorValue} look (look_at (keys.Objects schema)) ≡ fine seen → length (names_seen seen) ≤ 65536
    → run look (every (may_go schema) (names_seen seen)) ≡ fine tt → run look (schema_gone session schema) ≡ fine (Changes (all_gone schema (names_seen seen)) (without_schema session schema))
unfolding schema_gone
goes_on look session schema seen there few passed =
    let last : Sight → Unit {0} → Walk ErrorValue Choice = λ s _. done (Changes (all_gone schema (names_seen s)) (without_schema session schema)) in
    let objects : Sight → Unit {0} → Walk ErrorValue Choice = λ s _. every (may_go schema) (names_seen s) >>= last s in
    let all : Sight → Walk ErrorValue Choice = λ s. refuse_if (nat_lt 65536 (length (names_seen s))) (beyond_limit "65536") >>= objects s in
    let fits : run look (refuse_if (nat_lt 65536 (length (names_seen seen))) (beyond_limit "65536")) ≡ fine tt =
    ap (λ b. run look (refuse_if b (beyond_limit "65536"))) (not_more (length (names_seen seen)) 65536 few) in
    run_fine look (look_at (keys.Objects schema)) all seen there
    ∙ run_fine look (refuse_if (nat_lt 65536 (length (names_seen seen))) (beyond_limit "65536")) (objects seen) tt fits
    ∙ run_fine look (every (may_go schema) (names_seen seen)) (last seen) tt passed

pub all_go : (look : Look) (session : SessionState) (schema : List ℕ) (seen : Sight) (names : List (List ℕ)) (goes : List Change) (choice : Choice)
    → run {E = ErrorValue} look (look_at (keys.Objects schema)) ≡ fine seen → names ≡ names_seen seen → length names ≤ 65536
    → run look (every (may_go schema) names) ≡ fine tt → goes ≡ map (λ name. gone (object_in schema name)) names
    → choice ≡ Changes (goes ++ change (keys.Schema schema) Gone ∷ []) (without_schema session schema) → ◌≡◌ {A = Found ErrorValue Choice} (fine choice) (run look (schema_gone session schema))
all_go look session schema seen names goes choice there are few passed changes is =
    let answer : Choice → Found ErrorValue Choice = λ c. fine c in
    let few_seen = subst (λ (ns : List (List ℕ)). length ns ≤ 65536) are few in
    let passed_seen = subst (λ (ns : List (List ℕ)). run look (every (may_go schema) ns) ≡ fine tt) are passed in
    ap answer (is ∙ ap (λ cs. Changes (cs ++ change (keys.Schema schema) Gone ∷ []) (without_schema session schema)) (changes ∙ ap (map (λ name. gone (object_in schema name))) are))
    ∙ sym (goes_on look session schema seen there few_seen passed_seen)
