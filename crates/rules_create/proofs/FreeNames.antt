-- A made name of an index is free: of one number more than there are taken names, some is free.
use Rattle.std.specs.Prelude.{◌≡◌, ℕ, zero, suc, ◌+◌, ◌%◌, ◌^◌, ◌<◌, ◌≤◌, ◌==◌, Bool, true, false, ◌||◌, not, List, [], ◌∷◌, ◌++◌, map, filter, length, if◌then◌else◌, refl}
use Rattle.std.specs.List.{list_any}
use Rattle.std.specs.Char.{to_ascii_lowercase}
use Rattle.std.specs.Fmt.{decimal}
use Rattle.std.specs.Str.{bytes_eq}
use Rattle.std.proofs.Common.{sym, ◌∙◌, ap, arith, inl, inr}
use Rattle.std.proofs.lemmas.Bool.{true≢false, or_cases, or_left, or_right, false_from_ne_true, eqb-true}
use Rattle.std.proofs.lemmas.Bool.Decides.{nat_tests}
use Rattle.std.proofs.lemmas.Fmt.{decimal_by_steps, decimal_injective}
use Rattle.std.proofs.lemmas.List.{length-map, length-append, map-append, append_cancel_left}
use Rattle.dd_names.specs.Names.{same, fold}
use Rattle.dd_definitions.specs.Indexes.{primary_name}
use Rattle.dd_definitions.specs.declared.indexes.IndexDef.{IndexDef}
use Rattle.rules_elements.specs.Keys.{has_index_named, is_taken, numbered, free_from, free_name}
use Rattle.rules_create.proofs.Names.{bytes_are, bytes_turned}

-- ## More names than places

abbrev is_among : List (List ℕ) → List ℕ → Bool
is_among names name = list_any (λ other. bytes_eq other name) names

abbrev others : List ℕ → List (List ℕ) → List (List ℕ)
others name names = filter (λ other. not (bytes_eq other name)) names

fewer_others : (name : List ℕ) (names : List (List ℕ)) → length (others name names) ≤ length names
fewer_others name [] = omega arith
fewer_others name (n ∷ ns) = on (not (bytes_eq n name)) (fewer_others name ns)
  where
    on : (b : Bool) → length (others name ns) ≤ length ns → length (if b then n ∷ others name ns else others name ns) ≤ suc (length ns)
    on true rest = omega arith
    on false rest = omega arith

-- a name that is there takes a place
one_fewer : (name : List ℕ) (names : List (List ℕ)) → is_among names name ≡ true → length (others name names) < length names
one_fewer name [] is = cc
one_fewer name (n ∷ ns) is = on (bytes_eq n name) is (fewer_others name ns) (λ later. one_fewer name ns later)
  where
    on : (b : Bool) → (b || is_among ns name) ≡ true → length (others name ns) ≤ length ns → (is_among ns name ≡ true → length (others name ns) < length ns) → length (if not b then n ∷ others name ns else others name ns) < suc (length ns)
    on true is fewer rest = omega arith
    on false is fewer rest = let less : length (others name ns) < length ns = rest is in omega arith

-- another name stays
other_stays : (name other : List ℕ) (names : List (List ℕ)) → (other ≡ name → ⊥) → is_among names other ≡ true → is_among (others name names) other ≡ true
other_stays name other [] apart is = cc
other_stays name other (n ∷ ns) apart is = on (bytes_eq n name) refl (bytes_eq n other) refl is (λ later. other_stays name other ns apart later)
  where
    on : (b : Bool) → bytes_eq n name ≡ b → (c : Bool) → bytes_eq n other ≡ c → (c || is_among ns other) ≡ true → (is_among ns other ≡ true → is_among (others name ns) other ≡ true)
        → is_among (if not b then n ∷ others name ns else others name ns) other ≡ true
    on true same_name true same_other is rest = absurd (apart (sym (bytes_are n other same_other) ∙ bytes_are n name same_name))
    on true same_name false unlike is rest = rest is
    on false unlike true same_other is rest = or_left (bytes_eq n other) (is_among (others name ns) other) same_other
    on false unlike false unlike_other is rest = or_right (bytes_eq n other) (is_among (others name ns) other) (rest is)

-- names below a number, each of them there and no two the same, are no more than the places
all_placed : (n : ℕ) (name : ℕ → List ℕ) (names : List (List ℕ)) → ((i j : ℕ) → i < n → j < n → name i ≡ name j → i ≡ j) → ((i : ℕ) → i < n → is_among names (name i) ≡ true) → n ≤ length names
all_placed zero name names apart there = omega arith
all_placed (suc n) name names apart there =
    let here : is_among names (name n) ≡ true = there n (omega arith) in
    let fewer : length (others (name n) names) < length names = one_fewer (name n) names here in
    let rest : n ≤ length (others (name n) names) = all_placed n name (others (name n) names)
    (λ i j below other e. apart i j (omega arith) (omega arith) e)
    (λ i below. other_stays (name n) (name i) names (λ e. let same_number : i ≡ n = apart i n (omega arith) (omega arith) e in omega arith) (there i (omega arith))) in
    omega arith

-- ## Numbered names differ in more than case

digit_folds : (d : ℕ) → d < 10 → to_ascii_lowercase (48 + d) ≡ 48 + d
digit_folds d less = grind (arith, nat_tests)

number_folds : (n : ℕ) → n < 2 ^ 64 → fold (decimal n) ≡ decimal n
number_folds = decimal_by_steps (λ n ds. fold ds ≡ ds) (λ n less. ap (λ (d : ℕ). d ∷ []) (digit_folds n less))
    (λ n ds more is. map-append to_ascii_lowercase ds ((48 + n % 10) ∷ []) ∙ ap (λ (front : List ℕ). front ++ to_ascii_lowercase (48 + n % 10) ∷ []) is ∙ ap (λ (d : ℕ). ds ++ d ∷ []) (digit_folds (n % 10) (omega arith)))

same_rest : (ds es : List ℕ) (c : ℕ) → ◌≡◌ {A = List ℕ} (c ∷ ds) (c ∷ es) → ds ≡ es
same_rest ds es c is = cc

tails_alike : (base : List ℕ) (m n : ℕ) → m < 2 ^ 64 → n < 2 ^ 64 → fold (base ++ 95 ∷ decimal m) ≡ fold (base ++ 95 ∷ decimal n) → m ≡ n
tails_alike base m n small other is =
    let split : fold base ++ fold (95 ∷ decimal m) ≡ fold base ++ fold (95 ∷ decimal n) = sym (map-append to_ascii_lowercase base (95 ∷ decimal m)) ∙ is ∙ map-append to_ascii_lowercase base (95 ∷ decimal n) in
    let tails : fold (95 ∷ decimal m) ≡ fold (95 ∷ decimal n) = append_cancel_left (fold base) (fold (95 ∷ decimal m)) (fold (95 ∷ decimal n)) split in
    let digits : fold (decimal m) ≡ fold (decimal n) = same_rest (fold (decimal m)) (fold (decimal n)) (to_ascii_lowercase 95) tails in
    decimal_injective m n small other (sym (number_folds m small) ∙ digits ∙ number_folds n other)

longer : (base ds : List ℕ) → fold base ≡ fold (base ++ 95 ∷ ds) → ⊥
longer base ds is =
    let same_length : length (fold base) ≡ length (fold (base ++ 95 ∷ ds)) = ap length is in
    let one : length (fold base) ≡ length base = length-map base to_ascii_lowercase in
    let other : length (fold (base ++ 95 ∷ ds)) ≡ length (base ++ 95 ∷ ds) = length-map (base ++ 95 ∷ ds) to_ascii_lowercase in
    let sum : length (base ++ 95 ∷ ds) ≡ length base + length (95 ∷ ds) = length-append base (95 ∷ ds) in
    omega arith

numbers_alike : (base : List ℕ) (m n : ℕ) → m < 2 ^ 64 → n < 2 ^ 64 → fold (numbered base m) ≡ fold (numbered base n) → m ≡ n
numbers_alike base m n small other is = on (m == 1) refl (n == 1) refl is
  where
    on : (b : Bool) → (m == 1) ≡ b → (c : Bool) → (n == 1) ≡ c → fold (if b then base else base ++ 95 ∷ decimal m) ≡ fold (if c then base else base ++ 95 ∷ decimal n) → m ≡ n
    on true one true another e = eqb-true m 1 one ∙ sym (eqb-true n 1 another)
    on true one false another e = absurd (longer base (decimal n) e)
    on false one true another e = absurd (longer base (decimal m) (sym e))
    on false one false another e = tails_alike base m n small other e

-- ## The free name

-- the names that are taken, in lower case
abbrev taken : List IndexDef → List (List ℕ)
taken indexes = fold primary_name ∷ map (λ (index : IndexDef). fold index.name) indexes

named_among : (indexes : List IndexDef) (name : List ℕ) → has_index_named indexes name ≡ true → is_among (map (λ (index : IndexDef). fold index.name) indexes) (fold name) ≡ true
named_among [] name is = is
named_among (i ∷ is) name any = elim (or_cases (same i.name name) (has_index_named is name) any) [
  | inl here ↦ or_left (same i.name name) (is_among (map (λ (index : IndexDef). fold index.name) is) (fold name)) here
  | inr later ↦ or_right (same i.name name) (is_among (map (λ (index : IndexDef). fold index.name) is) (fold name)) (named_among is name later)
]

taken_among : (indexes : List IndexDef) (name : List ℕ) → is_taken indexes name ≡ true → is_among (taken indexes) (fold name) ≡ true
taken_among indexes name is = elim (or_cases (has_index_named indexes name) (same name primary_name) is) [
  | inl named ↦ or_right (same primary_name name) (is_among (map (λ (index : IndexDef). fold index.name) indexes) (fold name)) (named_among indexes name named)
  | inr primary ↦ or_left (same primary_name name) (is_among (map (λ (index : IndexDef). fold index.name) indexes) (fold name)) (bytes_turned (fold primary_name) (fold name) ∙ primary)
]

-- where the name that is chosen is taken, so are all that were tried
all_taken : (indexes : List IndexDef) (base : List ℕ) (number tries k : ℕ) → is_taken indexes (free_from indexes base number tries) ≡ true → k < tries + 1 → is_taken indexes (numbered base (number + k)) ≡ true
all_taken indexes base number zero k is below = let e : number ≡ number + k = omega arith in ap (λ n. is_taken indexes (numbered base n)) (sym e) ∙ is
all_taken indexes base number (suc tries) k is below = on (is_taken indexes (numbered base number)) refl is k below (λ j more after. all_taken indexes base (number + 1) tries j more after)
  where
    on : (b : Bool) → is_taken indexes (numbered base number) ≡ b → is_taken indexes (if b then free_from indexes base (number + 1) tries else numbered base number) ≡ true → (k : ℕ) → k < suc tries + 1
        → ((j : ℕ) → is_taken indexes (free_from indexes base (number + 1) tries) ≡ true → j < tries + 1 → is_taken indexes (numbered base (number + 1 + j)) ≡ true) → is_taken indexes (numbered base (number + k)) ≡ true
    on false free is k below rest = absurd (true≢false (sym is ∙ free))
    on true here is zero below rest = let e : number ≡ number + 0 = omega arith in ap (λ n. is_taken indexes (numbered base n)) (sym e) ∙ here
    on true here is (suc j) below rest = let e : number + 1 + j ≡ number + suc j = omega arith in ap (λ n. is_taken indexes (numbered base n)) (sym e) ∙ rest j is (omega arith)

pub free_name_is_free : (indexes : List IndexDef) (base : List ℕ) → length indexes ≤ 65 → is_taken indexes (free_name indexes base) ≡ false
free_name_is_free indexes base few = false_from_ne_true (is_taken indexes (free_name indexes base)) (λ is.
    let places : length (map (λ (index : IndexDef). fold index.name) indexes) ≡ length indexes = length-map indexes (λ (index : IndexDef). fold index.name) in
    let most : length indexes + 2 ≤ length (taken indexes) = all_placed (length indexes + 2) (λ i. fold (numbered base (1 + i))) (taken indexes)
    (λ i j below other e. let same_number : 1 + i ≡ 1 + j = numbers_alike base (1 + i) (1 + j) (omega arith) (omega arith) e in omega arith)
    (λ i below. taken_among indexes (numbered base (1 + i)) (all_taken indexes base 1 (length indexes + 1) i is (omega arith))) in
    omega arith)
