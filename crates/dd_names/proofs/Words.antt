-- The words of the program are the words of the definitions.
use Rattle.std.proofs.Common.{◌≡◌, ℕ, ◌||◌, Bool, List, [], ◌∷◌, refl, ◌∙◌, ap}
use Rattle.std.specs.Prelude.{map}
use Rattle.std.specs.List.{list_any}
use Rattle.dd_names.specs.Names.{same}
use Rattle.dd_names.specs.Reserved.{reserved_words, system_schemas, is_reserved, is_system_schema}
use Rattle.dd_names.specs.declared.reserved.TheConstants.{RESERVED, SYSTEM_SCHEMAS}

abbrev Word : Type 0
Word = record { now : List ℕ }

abbrev text : Word → List ℕ
text word = word.now

any_text : (test : List ℕ → Bool) (words : List Word) → list_any (λ other. test other.now) words ≡ list_any test (map text words)
any_text test [] = refl
any_text test (word ∷ words) = ap (λ rest. test word.now || rest) (any_text test words)

reserved : map text RESERVED ≡ reserved_words
reserved = refl

system : map text SYSTEM_SCHEMAS ≡ system_schemas
system = refl

pub among_reserved : (word : List ℕ) → list_any (λ other. same word other.now) RESERVED ≡ is_reserved word
unfolding is_reserved
among_reserved word = any_text (same word) RESERVED ∙ ap (list_any (same word)) reserved

pub among_system : (name : List ℕ) → list_any (λ other. same name other.now) SYSTEM_SCHEMAS ≡ is_system_schema name
unfolding is_system_schema
among_system name = any_text (same name) SYSTEM_SCHEMAS ∙ ap (list_any (same name)) system
