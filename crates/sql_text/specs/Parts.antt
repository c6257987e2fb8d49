-- The text of the small parts that statements are made of. Words of the grammar are capitals, each name stands in back
-- quotes, and a word or a sign that changes nothing is left out.
use Rattle.std.specs.Prelude.{ℕ, Bool, true, false, List, [], ◌∷◌, ◌++◌, Option, Some, None, flat_map, codes, decimal, nat_lt, ◌^◌, ◌&&◌}
use Rattle.std.specs.List.{list_all}
use Prim.Native.String.{String}
use Rattle.dd_names.specs.Names.{is_name}
use Rattle.sql_types.specs.declared.words.ObjRef.{ObjRef}
use Rattle.sql_pieces.specs.Pieces.{Piece, as_word, as_name, as_sign, as_digits}

-- ---- words, signs and lists

-- a word of the grammar
abbrev pub word : String → Piece
word k = as_word (codes k)

abbrev pub comma : Piece
comma = as_sign 44

abbrev pub opens : Piece
opens = as_sign 40

abbrev pub closes : Piece
closes = as_sign 41

-- each value behind a comma
abbrev pub behind_commas : {A : Type 0} → (A → List Piece) → List A → List Piece
behind_commas spell xs = flat_map (λ x. comma ∷ spell x) xs

-- values divided by commas
abbrev pub divided : {A : Type 0} → (A → List Piece) → List A → List Piece
divided spell [] = []
divided spell (x ∷ xs) = spell x ++ behind_commas spell xs

-- what is written where there is a value
abbrev pub where_some : {A : Type 0} → (A → List Piece) → Option A → List Piece
where_some spell None = []
where_some spell (Some x) = spell x

-- what is written where it is so
abbrev pub where_true : List Piece → Bool → List Piece
where_true ps false = []
where_true ps true = ps

-- ---- names and numbers

abbrev pub name_pieces : List ℕ → List Piece
name_pieces n = as_name n ∷ []

-- ( name {, name} )
abbrev pub names_pieces : List (List ℕ) → List Piece
names_pieces ns = opens ∷ divided name_pieces ns ++ closes ∷ []

-- ( number )
abbrev pub number_pieces : ℕ → List Piece
number_pieces n = opens ∷ as_digits (decimal n) ∷ closes ∷ []

abbrev pub schema_pieces : List ℕ → List Piece
schema_pieces n = as_name n ∷ as_sign 46 ∷ []

-- object = [name .] name
abbrev pub object_pieces : ObjRef → List Piece
object_pieces object = where_some schema_pieces object.schema ++ name_pieces object.name

-- [IF NOT EXISTS]
abbrev pub if_not_exists_pieces : Bool → List Piece
if_not_exists_pieces b = where_true (word "IF" ∷ word "NOT" ∷ word "EXISTS" ∷ []) b

-- [IF EXISTS]
abbrev pub if_exists_pieces : Bool → List Piece
if_exists_pieces b = where_true (word "IF" ∷ word "EXISTS" ∷ []) b

-- ---- which parts have a text

-- a number that 128 bits hold
abbrev pub is_number : ℕ → Bool
is_number n = nat_lt n (2 ^ 128)

-- where there is a value, it passes the test
abbrev pub if_some : {A : Type 0} → (A → Bool) → Option A → Bool
if_some test None = true
if_some test (Some x) = test x

-- there is a value, and each passes the test
abbrev pub some_each : {A : Type 0} → (A → Bool) → List A → Bool
some_each test [] = false
some_each test (x ∷ xs) = test x && list_all test xs

abbrev pub are_names : List (List ℕ) → Bool
are_names ns = some_each is_name ns

abbrev pub is_object : ObjRef → Bool
is_object object = if_some is_name object.schema && is_name object.name
