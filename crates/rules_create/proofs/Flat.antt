-- Checks over the parts of items, one item after another.
use Rattle.std.proofs.Common.{◌≡◌, ℕ, ◌||◌, Bool, true, false, List, [], ◌∷◌, ◌++◌, refl, sym, ◌∙◌, ap}
use Rattle.std.specs.List.{flat_map, list_any}
use Rattle.std.proofs.lemmas.Grind.{flat_map-append}
use Rattle.dd_errors.specs.Errors.{ErrorValue}
use Rattle.sql_ast.specs.declared.element.Element.{Element}
use Rattle.dd_catalog.specs.Walks.{Walk, done, ◌>>=◌, Found, fine, refused, needs, run, over}
use Rattle.dd_catalog.specs.WalkLaws.{Look, go_on, run_bind}
use Rattle.rules_create.specs.Tables.{column_in, own_keys, is_null, is_true, is_null_written}
use Rattle.rules_create.specs.Made.{over_each, own_keys_in, is_null_of}

append_step : {E S A : Type 0} (look : Look) (check : S → A → Walk E S) (xs ys : List A) (found : Found E S) → ((state : S) → run look (over check state (xs ++ ys)) ≡ go_on (run look (over check state xs)) (λ t. run look (over check t ys)))
    → go_on found (λ n. run look (over check n (xs ++ ys))) ≡ go_on (go_on found (λ n. run look (over check n xs))) (λ t. run look (over check t ys))
append_step look check xs ys (fine n) rest = rest n
append_step look check xs ys (refused e) rest = refl
append_step look check xs ys (needs key) rest = refl

-- what two lists make of a state
pub over_append : {E S A : Type 0} (look : Look) (check : S → A → Walk E S) (state : S) (xs ys : List A) → run look (over check state (xs ++ ys)) ≡ go_on (run look (over check state xs)) (λ t. run look (over check t ys))
over_append look check state [] ys = refl
over_append look check state (x ∷ xs) ys =
    run_bind look (check state x) (λ n. over check n (xs ++ ys))
    ∙ append_step look check xs ys (run look (check state x)) (λ n. over_append look check n xs ys)
    ∙ sym (ap (λ found. go_on found (λ t. run look (over check t ys))) (run_bind look (check state x) (λ n. over check n xs)))

one_step : {E S : Type 0} (look : Look) (found : Found E S) → go_on found (λ t. run {E = E} look (done t)) ≡ found
one_step look (fine t) = refl
one_step look (refused e) = refl
one_step look (needs key) = refl

-- one item is what its check makes
pub over_one : {E S A : Type 0} (look : Look) (check : S → A → Walk E S) (state : S) (x : A) → run look (over check state (x ∷ [])) ≡ run look (check state x)
over_one look check state x = run_bind look (check state x) (λ n. done n) ∙ one_step look (run look (check state x))

flat_step : {E S A B : Type 0} (look : Look) (check : S → A → Walk E S) (parts : B → List A) (xs : List B) (found : Found E S) → ((state : S) → run look (over check state (flat_map parts xs)) ≡ run look (over (over_each check parts) state xs))
    → go_on found (λ t. run look (over check t (flat_map parts xs))) ≡ go_on found (λ t. run look (over (over_each check parts) t xs))
flat_step look check parts xs (fine t) rest = rest t
flat_step look check parts xs (refused e) rest = refl
flat_step look check parts xs (needs key) rest = refl

-- the parts of all items are taken item by item
pub over_flat : {E S A B : Type 0} (look : Look) (check : S → A → Walk E S) (parts : B → List A) (state : S) (xs : List B) → run look (over check state (flat_map parts xs)) ≡ run look (over (over_each check parts) state xs)
over_flat look check parts state [] = refl
over_flat look check parts state (x ∷ xs) =
    over_append look check state (parts x) (flat_map parts xs)
    ∙ flat_step look check parts xs (run look (over check state (parts x))) (λ t. over_flat look check parts t xs)
    ∙ sym (run_bind look (over check state (parts x)) (λ t. over (over_each check parts) t xs))

-- the keys of the columns are those of each element
pub own_keys_flat : (elements : List Element) → flat_map own_keys_in elements ≡ flat_map own_keys (flat_map column_in elements)
own_keys_flat [] = refl
own_keys_flat (element ∷ elements) = ap (λ keys. own_keys_in element ++ keys) (own_keys_flat elements) ∙ sym (flat_map-append own_keys (column_in element) (flat_map column_in elements))

any_append : {A : Type 0} (p : A → Bool) (xs ys : List A) → list_any p (xs ++ ys) ≡ (list_any p xs || list_any p ys)
any_append p [] ys = refl
any_append p (x ∷ xs) ys = at (p x) (any_append p xs ys)
  where
    at : (first : Bool) → list_any p (xs ++ ys) ≡ (list_any p xs || list_any p ys) → (first || list_any p (xs ++ ys)) ≡ ((first || list_any p xs) || list_any p ys)
    at true rest = refl
    at false rest = rest

pub any_flat : {A B : Type 0} (p : A → Bool) (parts : B → List A) (xs : List B) → list_any p (flat_map parts xs) ≡ list_any (λ x. list_any p (parts x)) xs
any_flat p parts [] = refl
any_flat p parts (x ∷ xs) = any_append p (parts x) (flat_map parts xs) ∙ ap (λ rest. list_any p (parts x) || rest) (any_flat p parts xs)

pub null_written_flat : (elements : List Element) (name : List ℕ) → is_null_written (flat_map column_in elements) name ≡ list_any (is_null_of name) elements
null_written_flat elements name = any_flat _ column_in elements
