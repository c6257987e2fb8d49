-- The free name is free: of the names that are tried, which differ in more than case, one more is there than could be taken.
use Rattle.std.proofs.Common.{◌≡◌, ◌⊎◌, ℕ, zero, suc, ◌+◌, ◌*◌, ◌/◌, ◌%◌, ◌<◌, ◌≤◌, ◌^◌, Bool, true, false, ◌||◌, cond, List, [], ◌∷◌, ◌++◌, length, map, None, Some, Option, refl, sym, ◌∙◌, ap, arith}
use Rattle.std.specs.Prelude.{◌==◌}
use Rattle.std.specs.List.{list_any}
use Rattle.std.specs.Fmt.{digit_glyph, digits_onto, digits, decimal}
use Rattle.std.specs.Char.{to_ascii_lowercase}
use Rattle.std.specs.Str.{bytes_eq}
use Rattle.std.specs.Str.Parse.{AllDigits, digits_value}
use Rattle.std.proofs.lemmas.Bool.Decides.{nat_tests}
use Rattle.std.proofs.lemmas.Slice.Eq.{bytes_eq-Decides}
use Rattle.std.proofs.lemmas.List.{map-append, length-map, append_cancel_left}
use Rattle.std.proofs.lemmas.Fmt.{decimal_is_IsNumeral_wide}
use Rattle.std.proofs.lemmas.Str.Parse.{digit_from_value}
use Rattle.std.proofs.Common.{length-append, inl, inr}
use Rattle.std.proofs.Math.Nat.{pow-suc, one-le-pow}
use Rattle.std.proofs.lemmas.Bool.{cases_lt}
use Rattle.dd_names.specs.Names.{fold, same, name_fault}
use Rattle.dd_names.specs.declared.name.NameFault.{NameFault}
use Rattle.dd_names.proofs.Reading.{name_from_none}
use Rattle.dd_definitions.specs.Indexes.{primary_name}
use Rattle.dd_definitions.specs.declared.indexes.IndexDef.{IndexDef}
use Rattle.dd_catalog.specs.Asked.{fine_is}
use Rattle.dd_catalog.specs.Walks.{fine, run}
use Rattle.dd_catalog.specs.WalkLaws.{Look}
use Rattle.rules_elements.specs.Keys.{has_index_named, is_taken, numbered, free_from, free_name, name_unless, made_name}

-- ## Texts in a list

abbrev among : List (List ℕ) → List ℕ → Bool
among texts x = list_any (λ (t : List ℕ). bytes_eq t x) texts

abbrev without : List ℕ → List (List ℕ) → List (List ℕ)
without x [] = []
without x (t ∷ texts) = cond (bytes_eq t x) (without x texts) (t ∷ without x texts)

no_longer : (x : List ℕ) (texts : List (List ℕ)) → length (without x texts) ≤ length texts
no_longer x [] = omega arith
no_longer x (t ∷ texts) =
    let rest : length (without x texts) ≤ length texts = no_longer x texts in
    elim (bytes_eq t x) as (λ v. length (cond v (without x texts) (t ∷ without x texts)) ≤ length (t ∷ texts)) [
      | true ↦ omega arith
      | false ↦ omega arith
    ]

shorter : (x : List ℕ) (texts : List (List ℕ)) → among texts x ≡ true → length (without x texts) + 1 ≤ length texts
shorter x [] there = cc
shorter x (t ∷ texts) there =
    let rest : length (without x texts) ≤ length texts = no_longer x texts in
    elim (bytes_eq t x) as (λ v. (v || among texts x) ≡ true → length (cond v (without x texts) (t ∷ without x texts)) + 1 ≤ length (t ∷ texts)) [
      | true ↦ λ e. omega arith
      | false ↦ λ e. let less : length (without x texts) + 1 ≤ length texts = shorter x texts e in omega arith
    ] there

differs : (t x y : List ℕ) → (x ≡ y → ⊥) → bytes_eq t x ≡ true → bytes_eq t y ≡ false
differs t x y apart is =
    elim (bytes_eq t y) as (λ v. bytes_eq t y ≡ v → v ≡ false) [
      | true ↦ λ e. absurd (apart (sym ((bytes_eq-Decides t x).0 is) ∙ (bytes_eq-Decides t y).0 e))
      | false ↦ λ e. refl
    ] refl

stays_among : (x y : List ℕ) (texts : List (List ℕ)) → (x ≡ y → ⊥) → among (without x texts) y ≡ among texts y
stays_among x y [] apart = refl
stays_among x y (t ∷ texts) apart =
    let rest : among (without x texts) y ≡ among texts y = stays_among x y texts apart in
    elim (bytes_eq t x) as (λ v. bytes_eq t x ≡ v → among (cond v (without x texts) (t ∷ without x texts)) y ≡ (bytes_eq t y || among texts y)) [
      | true ↦ λ e. rest ∙ sym (ap (λ v. v || among texts y) (differs t x y apart e))
      | false ↦ λ e. ap (λ v. bytes_eq t y || v) rest
    ] refl

-- ## The search over numbers

abbrev first_from : (ℕ → Bool) → ℕ → ℕ → ℕ
first_from taken number zero = number
first_from taken number (suc tries) = cond (taken number) (first_from taken (number + 1) tries) number

by_number : (indexes : List IndexDef) (base : List ℕ) (number tries : ℕ) → free_from indexes base number tries ≡ numbered base (first_from (λ n. is_taken indexes (numbered base n)) number tries)
by_number indexes base number zero = refl
by_number indexes base number (suc tries) =
    let rest = by_number indexes base (number + 1) tries in
    elim (is_taken indexes (numbered base number)) as (λ v. cond v (free_from indexes base (number + 1) tries) (numbered base number)
    ≡ numbered base (cond v (first_from (λ n. is_taken indexes (numbered base n)) (number + 1) tries) number)) [
      | true ↦ rest
      | false ↦ refl
    ]

-- the texts of two numbers up to `top` differ
record AreApart (text : ℕ → List ℕ) (top : ℕ) : Type 0 where
  differ : (m n : ℕ) → 1 ≤ m → m < n → n ≤ top → text m ≡ text n → ⊥

-- from a number on, what is taken are the texts in the list
record AreTaken (taken : ℕ → Bool) (text : ℕ → List ℕ) (top number : ℕ) (texts : List (List ℕ)) : Type 0 where
  same_test : (n : ℕ) → number ≤ n → n ≤ top → taken n ≡ among texts (text n)

first_is_free : (taken : ℕ → Bool) (text : ℕ → List ℕ) (top : ℕ) → AreApart text top → (tries number : ℕ) (texts : List (List ℕ)) → 1 ≤ number → number + tries ≤ top → length texts ≤ tries
    → AreTaken taken text top number texts → taken (first_from taken number tries) ≡ false
first_is_free taken text top apart zero number [] some below few are = are.same_test number (omega arith) (omega arith)
first_is_free taken text top apart zero number (t ∷ texts) some below few are = absurd (omega arith)
first_is_free taken text top apart (suc tries) number texts some below few are =
    let here : taken number ≡ among texts (text number) = are.same_test number (omega arith) (omega arith) in
    elim (taken number) as (λ v. taken number ≡ v → taken (cond v (first_from taken (number + 1) tries) number) ≡ false) [
      | true ↦ λ e.
          let less : length (without (text number) texts) + 1 ≤ length texts = shorter (text number) texts (sym here ∙ e) in
          first_is_free taken text top apart tries (number + 1) (without (text number) texts) (omega arith) (omega arith) (omega arith) (record {
            same_test = λ n from to. are.same_test n (omega arith) to ∙ sym (stays_among (text number) (text n) texts (apart.differ number n some (omega arith) to));
          })
      | false ↦ λ e. e
    ] refl

-- ## The names that are tried differ in more than case

lower_stays : (d : ℕ) → d ≤ 57 → to_ascii_lowercase d ≡ d
lower_stays d small = grind (arith, nat_tests)

digits_stay : (ds : List ℕ) → AllDigits 10 ds → fold ds ≡ ds
digits_stay [] all = refl
digits_stay (d ∷ ds) all =
    let small : d ≤ 57 = omega (arith, digit_from_value d all.0) in
    ap (λ c. c ∷ fold ds) (lower_stays d small) ∙ ap (λ (rest : List ℕ). d ∷ rest) (digits_stay ds all.1)

folded_with : (base : List ℕ) (n : ℕ) → n < 10 ^ 64 → fold (base ++ 95 ∷ decimal n) ≡ fold base ++ 95 ∷ decimal n
folded_with base n small = map-append to_ascii_lowercase base (95 ∷ decimal n) ∙ ap (λ (rest : List ℕ). fold base ++ 95 ∷ rest) (digits_stay (decimal n) (decimal_is_IsNumeral_wide n small).0.1)

not_first : (n : ℕ) → 1 < n → (n == 1) ≡ false
not_first n more = grind (arith, nat_tests)

numbered_more : (base : List ℕ) (n : ℕ) → 1 < n → n < 10 ^ 64 → fold (numbered base n) ≡ fold base ++ 95 ∷ decimal n
numbered_more base n more small = ap (λ v. fold (cond v base (base ++ 95 ∷ decimal n))) (not_first n more) ∙ folded_with base n small

longer : (base rest : List ℕ) (c : ℕ) → base ≡ base ++ c ∷ rest → ⊥
longer base rest c e =
    let lengths : length base ≡ length (base ++ c ∷ rest) = ap length e in
    omega (arith, length-append base (c ∷ rest))

same_number : (m n : ℕ) → m < 10 ^ 64 → n < 10 ^ 64 → decimal m ≡ decimal n → m ≡ n
same_number m n small other e = sym (decimal_is_IsNumeral_wide m small).1 ∙ ap (digits_value 10) e ∙ (decimal_is_IsNumeral_wide n other).1

names_apart : (base : List ℕ) (top : ℕ) → top < 10 ^ 64 → AreApart (λ n. fold (numbered base n)) top
names_apart base top small = record { differ = λ m n some less le e. at m n some less (omega arith) (numbered_more base n (omega arith) (omega arith)) e }
  where
    behind : (m n : ℕ) → m < n → n < 10 ^ 64 → fold base ++ 95 ∷ decimal m ≡ fold base ++ 95 ∷ decimal n → ⊥
    behind m n less fits e =
        let tails : 95 ∷ decimal m ≡ 95 ∷ decimal n = append_cancel_left (fold base) (95 ∷ decimal m) (95 ∷ decimal n) e in
        let same_digits : decimal m ≡ decimal n = cc in
        let equal : m ≡ n = same_number m n (omega arith) fits same_digits in
        omega arith

    at : (m n : ℕ) → 1 ≤ m → m < n → n < 10 ^ 64 → fold (numbered base n) ≡ fold base ++ 95 ∷ decimal n → fold (numbered base m) ≡ fold (numbered base n) → ⊥
    at zero n some less fits is e = omega arith
    at (suc zero) n some less fits is e = longer (fold base) (decimal n) 95 (e ∙ is)
    at (suc (suc m)) n some less fits is e = behind (suc (suc m)) n less fits (sym (numbered_more base (suc (suc m)) (omega arith) (omega arith)) ∙ e ∙ is)

-- ## What is taken

pub turned : (a b : List ℕ) → bytes_eq a b ≡ bytes_eq b a
turned a b = elim (bytes_eq a b) as (λ v. bytes_eq a b ≡ v → v ≡ bytes_eq b a) [
  | true ↦ λ e. sym ((bytes_eq-Decides b a).1 (sym ((bytes_eq-Decides a b).0 e)))
  | false ↦ λ e. elim (bytes_eq b a) as (λ v. bytes_eq b a ≡ v → false ≡ v) [
    | true ↦ λ back. let wrong : bytes_eq a b ≡ true = (bytes_eq-Decides a b).1 (sym ((bytes_eq-Decides b a).0 back)) in cc
    | false ↦ λ back. refl
  ] refl
] refl

abbrev taken_texts : List IndexDef → List (List ℕ)
taken_texts indexes = fold primary_name ∷ map (λ (index : IndexDef). fold index.name) indexes

indexes_among : (indexes : List IndexDef) (name : List ℕ) → has_index_named indexes name ≡ among (map (λ (index : IndexDef). fold index.name) indexes) (fold name)
indexes_among [] name = refl
indexes_among (index ∷ indexes) name = ap (λ v. same index.name name || v) (indexes_among indexes name)

either : (a b : Bool) → (a || b) ≡ (b || a)
either true true = refl
either true false = refl
either false true = refl
either false false = refl

taken_is : (indexes : List IndexDef) (name : List ℕ) → is_taken indexes name ≡ among (taken_texts indexes) (fold name)
taken_is indexes name =
    either (has_index_named indexes name) (same name primary_name)
    ∙ ap (λ v. v || has_index_named indexes name) (turned (fold name) (fold primary_name))
    ∙ ap (λ v. bytes_eq (fold primary_name) (fold name) || v) (indexes_among indexes name)

free_below : (indexes : List IndexDef) (base : List ℕ) → length indexes + 2 < 10 ^ 64 → is_taken indexes (free_name indexes base) ≡ false
free_below indexes base few =
    let count : length (taken_texts indexes) ≡ length indexes + 1 = omega (arith, length-map indexes (λ (index : IndexDef). fold index.name)) in
    ap (is_taken indexes) (by_number indexes base 1 (length indexes + 1))
    ∙ first_is_free (λ n. is_taken indexes (numbered base n)) (λ n. fold (numbered base n)) (length indexes + 2) (names_apart base (length indexes + 2) few)
    (length indexes + 1) 1 (taken_texts indexes) (omega arith) (omega arith) (omega arith)
    (record { same_test = λ n from to. taken_is indexes (numbered base n) })

pub free_is_free : (indexes : List IndexDef) (base : List ℕ) → length indexes + 2 < 2 ^ 64 → is_taken indexes (free_name indexes base) ≡ false
free_is_free indexes base few = free_below indexes base (omega arith)

-- ## Where more names were tried than 64 digits number, the last is too long for a name

tenth : (power n : ℕ) → power * 10 ≤ n → power ≤ n / 10
tenth power n most = omega arith

some_tenth : (power n : ℕ) → 1 ≤ power → power ≤ n → (n == 0) ≡ false
some_tenth power n some most = grind (arith, nat_tests)

digits_are_many : (k n : ℕ) (behind : List ℕ) → 10 ^ k ≤ n → length (digits_onto k 10 false n behind) ≡ k + length behind
digits_are_many zero n behind most = omega arith
digits_are_many (suc k) n behind most =
    let step : 10 ^ suc k ≡ 10 ^ k * 10 = pow-suc 10 k in
    let fewer : 10 ^ k ≤ n / 10 = tenth (10 ^ k) n (omega arith) in
    let some : 1 ≤ 10 ^ k = one-le-pow k 10 (omega arith) in
    let rest = digits_are_many k (n / 10) (digit_glyph false (n % 10) ∷ behind) fewer in
    ap (λ b. length (cond b (digit_glyph false (n % 10) ∷ behind) (digits_onto k 10 false (n / 10) (digit_glyph false (n % 10) ∷ behind)))) (some_tenth (10 ^ k) (n / 10) some fewer) ∙ rest ∙ omega arith

long_number : (n : ℕ) → 10 ^ 64 ≤ n → length (decimal n) ≡ 64
unfolding digits
long_number n most = digits_are_many 64 n [] most

long_name : (base : List ℕ) (n : ℕ) → 10 ^ 64 ≤ n → 64 < length (numbered base n)
long_name base n most =
    let digits_there : length (decimal n) ≡ 64 = long_number n most in
    let whole : length (numbered base n) ≡ length (base ++ 95 ∷ decimal n) = ap (λ v. length (cond v base (base ++ 95 ∷ decimal n))) (not_first n (omega arith)) in
    let sum : length (base ++ 95 ∷ decimal n) ≡ length base + length (95 ∷ decimal n) = length-append base (95 ∷ decimal n) in
    omega arith

-- the number at which the search ends is free, or it is the last
search_ends : (taken : ℕ → Bool) (number tries : ℕ) → (taken (first_from taken number tries) ≡ false) ⊎ (first_from taken number tries ≡ number + tries)
search_ends taken number zero = inr (omega arith)
search_ends taken number (suc tries) = on (taken number) refl (search_ends taken (number + 1) tries)
  where
    on : (b : Bool) → taken number ≡ b → (taken (first_from taken (number + 1) tries) ≡ false) ⊎ (first_from taken (number + 1) tries ≡ number + 1 + tries)
        → (taken (cond b (first_from taken (number + 1) tries) number) ≡ false) ⊎ (cond b (first_from taken (number + 1) tries) number ≡ number + suc tries)
    on false free rest = inl free
    on true there (inl free) = inl free
    on true there (inr last) = inr (last ∙ omega arith)

made_at : (look : Look) (indexes : List IndexDef) (made name : List ℕ) (fault : Option NameFault) → name_fault made true ≡ fault → (length made ≤ 64 → is_taken indexes made ≡ false) → run look (name_unless made fault) ≡ fine name → is_taken indexes name ≡ false
made_at look indexes made name None none free is = ap (is_taken indexes) (sym (fine_is is)) ∙ free (name_from_none made true none).short
made_at look indexes made name (Some fault) none free is = cc

free_where_short : (indexes : List IndexDef) (base : List ℕ) → length (free_name indexes base) ≤ 64 → is_taken indexes (free_name indexes base) ≡ false
free_where_short indexes base short = elim (cases_lt (length indexes + 2) (10 ^ 64)) [
  | inl few ↦ free_below indexes base few
  | inr many ↦ elim (search_ends (λ n. is_taken indexes (numbered base n)) 1 (length indexes + 1)) [
    | inl free ↦ ap (is_taken indexes) (by_number indexes base 1 (length indexes + 1)) ∙ free
    | inr last ↦
        let name : free_name indexes base ≡ numbered base (1 + (length indexes + 1)) = by_number indexes base 1 (length indexes + 1) ∙ ap (numbered base) last in
        let long : 64 < length (numbered base (1 + (length indexes + 1))) = long_name base (1 + (length indexes + 1)) (omega arith) in
        let same_length : length (free_name indexes base) ≡ length (numbered base (1 + (length indexes + 1))) = ap length name in
        absurd (omega arith)
  ]
]

-- a free name that is short enough is free
pub made_is_free : (look : Look) (indexes : List IndexDef) (base name : List ℕ) → run look (made_name (free_name indexes base)) ≡ fine name → is_taken indexes name ≡ false
made_is_free look indexes base name is = made_at look indexes (free_name indexes base) name (name_fault (free_name indexes base) true) refl (free_where_short indexes base) is
