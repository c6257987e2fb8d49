-- The elements that the text of a table says, by their kinds.
use Rattle.std.specs.Prelude.{◌≡◌, List, [], ◌∷◌, ◌++◌, map, refl}
use Rattle.std.specs.List.{flat_map}
use Rattle.std.proofs.Common.{sym, ◌∙◌, ap}
use Rattle.std.proofs.lemmas.List.{append-nil, append_assoc}
use Rattle.dd_definitions.specs.declared.parts.TableParts.{TableParts}
use Rattle.sql_ast.specs.declared.element.Element.{Element}
use Rattle.rules_create.specs.Tables.{column_in, key_in, foreign_key_in, own_keys, all_keys}
use Rattle.show_text_laws.specs.Said.{column_said, index_said, foreign_key_said, column_element, index_element, foreign_key_element, keys_said, elements_said}

flat_joined : {A B : Type 0} (f : A → List B) (xs ys : List A) → flat_map f (xs ++ ys) ≡ flat_map f xs ++ flat_map f ys
flat_joined f [] ys = refl
flat_joined f (x ∷ xs) ys = ap (λ zs. f x ++ zs) (flat_joined f xs ys) ∙ sym (append_assoc (f x) (flat_map f xs) (flat_map f ys))

-- each item gives one, or none
one_each : {A B C : Type 0} (f : B → List C) (g : A → B) (h : A → C) → ((x : A) → f (g x) ≡ h x ∷ []) → (xs : List A) → flat_map f (map g xs) ≡ map h xs
one_each f g h one [] = refl
one_each f g h one (x ∷ xs) = λ i. one x i ++ one_each f g h one xs i

none_each : {A B C : Type 0} (f : B → List C) (g : A → B) → ((x : A) → f (g x) ≡ []) → (xs : List A) → flat_map f (map g xs) ≡ []
none_each f g none [] = refl
none_each f g none (x ∷ xs) = λ i. none x i ++ none_each f g none xs i

-- what a kind of elements gives of the three parts
parts_of : {C : Type 0} (f : Element → List C) (parts : TableParts)
    → flat_map f (elements_said parts) ≡ flat_map f (map column_element parts.columns) ++ (flat_map f (map index_element parts.indexes) ++ flat_map f (map (foreign_key_element parts.name.schema) parts.foreign_keys))
parts_of f parts =
    flat_joined f (map column_element parts.columns) (keys_said parts)
    ∙ ap (λ zs. flat_map f (map column_element parts.columns) ++ zs) (flat_joined f (map index_element parts.indexes) (map (foreign_key_element parts.name.schema) parts.foreign_keys))

pub columns_are : (parts : TableParts) → flat_map column_in (elements_said parts) ≡ map column_said parts.columns
columns_are parts =
    parts_of column_in parts
    ∙ ap (λ cs. cs ++ (flat_map column_in (map index_element parts.indexes) ++ flat_map column_in (map (foreign_key_element parts.name.schema) parts.foreign_keys)))
    (one_each column_in column_element column_said (λ c. refl) parts.columns)
    ∙ ap (λ cs. map column_said parts.columns ++ (cs ++ flat_map column_in (map (foreign_key_element parts.name.schema) parts.foreign_keys))) (none_each column_in index_element (λ x. refl) parts.indexes)
    ∙ ap (λ cs. map column_said parts.columns ++ cs) (none_each column_in (foreign_key_element parts.name.schema) (λ x. refl) parts.foreign_keys)
    ∙ append-nil (map column_said parts.columns)

keys_are : (parts : TableParts) → flat_map key_in (elements_said parts) ≡ map index_said parts.indexes
keys_are parts =
    parts_of key_in parts
    ∙ ap (λ ks. ks ++ (flat_map key_in (map index_element parts.indexes) ++ flat_map key_in (map (foreign_key_element parts.name.schema) parts.foreign_keys)))
    (none_each key_in column_element (λ x. refl) parts.columns)
    ∙ ap (λ ks. ks ++ flat_map key_in (map (foreign_key_element parts.name.schema) parts.foreign_keys)) (one_each key_in index_element index_said (λ x. refl) parts.indexes)
    ∙ ap (λ ks. map index_said parts.indexes ++ ks) (none_each key_in (foreign_key_element parts.name.schema) (λ x. refl) parts.foreign_keys)
    ∙ append-nil (map index_said parts.indexes)

pub foreign_keys_are : (parts : TableParts) → flat_map foreign_key_in (elements_said parts) ≡ map (foreign_key_said parts.name.schema) parts.foreign_keys
foreign_keys_are parts =
    parts_of foreign_key_in parts
    ∙ ap (λ ks. ks ++ (flat_map foreign_key_in (map index_element parts.indexes) ++ flat_map foreign_key_in (map (foreign_key_element parts.name.schema) parts.foreign_keys)))
    (none_each foreign_key_in column_element (λ x. refl) parts.columns)
    ∙ ap (λ ks. ks ++ flat_map foreign_key_in (map (foreign_key_element parts.name.schema) parts.foreign_keys)) (none_each foreign_key_in index_element (λ x. refl) parts.indexes)
    ∙ one_each foreign_key_in (foreign_key_element parts.name.schema) (foreign_key_said parts.name.schema) (λ x. refl) parts.foreign_keys

-- no column says a key of its own
pub all_keys_are : (parts : TableParts) → all_keys (elements_said parts) ≡ map index_said parts.indexes
all_keys_are parts =
    ap (λ cs. flat_map own_keys cs ++ flat_map key_in (elements_said parts)) (columns_are parts)
    ∙ ap (λ ks. ks ++ flat_map key_in (elements_said parts)) (none_each own_keys column_said (λ c. refl) parts.columns)
    ∙ keys_are parts
