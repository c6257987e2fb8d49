-- A key is refused by itself, or it comes to its index.
use Rattle.std.proofs.Common.{◌≡◌, Bool, true, false, ◌&&◌, List, length, refl, sym, ◌∙◌, ap}
use Rattle.std.specs.Prelude.{nat_lt}
use Rattle.std.specs.List.{list_any}
use Rattle.dd_errors.specs.Errors.{ErrorValue}
use Rattle.sql_types.specs.declared.words.KeyWords.{KeyWords}
use Rattle.dd_definitions.specs.Indexes.{is_primary, is_primary_class}
use Rattle.dd_definitions.specs.declared.indexes.IndexDef.{IndexDef}
use Rattle.dd_definitions.specs.declared.parts.TableParts.{TableParts}
use Rattle.dd_catalog.specs.Walks.{Walk, ◌>>=◌, Found, fine, refused, needs, run, refuse_if}
use Rattle.dd_catalog.specs.WalkLaws.{Look, go_on, run_bind}
use Rattle.rules_refusals.specs.Refusals.{multiple_pri_key, too_many_key_parts}
use Rattle.rules_elements.specs.Keys.{given_name, allowed_name, allowed_key, index_of, key_of}

-- a check behind two others stands behind both together
regrouped : {E A B C : Type 0} (look : Look) (first : Walk E A) (second : A → Walk E B) (next : B → Walk E C) → run look (first >>= λ x. second x >>= next) ≡ run look ((first >>= second) >>= next)
regrouped {E = E} {A = A} look first second next =
    run_bind look first (λ x. second x >>= next) ∙ at (run look first)
    ∙ ap (λ found. go_on found (λ y. run look (next y))) (sym (run_bind look first second)) ∙ sym (run_bind look (first >>= second) next)
  where
    at : (found : Found E A) → go_on found (λ x. run look (second x >>= next)) ≡ go_on (go_on found (λ x. run look (second x))) (λ y. run look (next y))
    at (fine x) = run_bind look (second x) next
    at (refused e) = refl
    at (needs key) = refl

pub key_by_parts : (look : Look) (parts : TableParts) (key : KeyWords) → run look (key_of parts key) ≡ go_on (run look (allowed_key parts key)) (λ _. run look (index_of parts key))
unfolding key_of
key_by_parts look parts key =
    let primary = is_primary_class key.class in
    run_bind look (refuse_if (primary && list_any is_primary parts.indexes) multiple_pri_key) _
    ∙ ap (go_on (run look (refuse_if (primary && list_any is_primary parts.indexes) multiple_pri_key))) (λ i _. regrouped look (allowed_name primary (given_name key)) (λ _. refuse_if (nat_lt 16 (length key.columns)) too_many_key_parts) (λ _. index_of parts key) i)
    ∙ sym (run_bind look (refuse_if (primary && list_any is_primary parts.indexes) multiple_pri_key) (λ _. (allowed_name primary (given_name key) >>= λ _. refuse_if (nat_lt 16 (length key.columns)) too_many_key_parts) >>= λ _. index_of parts key))
    ∙ regrouped look (refuse_if (primary && list_any is_primary parts.indexes) multiple_pri_key) (λ _. allowed_name primary (given_name key) >>= λ _. refuse_if (nat_lt 16 (length key.columns)) too_many_key_parts) (λ _. index_of parts key)
    ∙ run_bind look (allowed_key parts key) (λ _. index_of parts key)
