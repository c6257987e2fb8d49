-- Pieces are apart where each is a token of its own and what follows a word, a number or a string ends it.
use Rattle.std.proofs.Common.{◌≡◌, ℕ, Bool, true, false, ◌&&◌, not, List, [], ◌∷◌, ◌++◌, refl, nat_lt, length}
use Rattle.std.specs.Prelude.{◌==◌}
use Rattle.std.specs.List.{list_all}
use Rattle.std.specs.Char.{is_ascii_digit}
use Rattle.dd_names.specs.Names.{is_name_byte, is_name}
use Rattle.sql_grammar.proofs.Bits.{and_true, not_true}
use Rattle.sql_lex.specs.Bytes.{is_sign}
use Rattle.sql_pieces.specs.Pieces.{Piece, gap, as_word, as_name, as_digits, as_string, as_sign, written, ends_run, begins_with, fits, are_apart, is_alone}

-- the byte ends a word, a number and a string
abbrev pub is_end : ℕ → Bool
is_end b = not (is_name_byte b) && not (b == 39)

-- the pieces begin with such a byte, or there are none
abbrev pub begins_apart : List Piece → Bool
begins_apart [] = true
begins_apart (gap [] ∷ ps) = false
begins_apart (gap (b ∷ bs) ∷ ps) = is_end b
begins_apart (as_word w ∷ ps) = false
begins_apart (as_name n ∷ ps) = true
begins_apart (as_digits ds ∷ ps) = false
begins_apart (as_string s ∷ ps) = false
begins_apart (as_sign c ∷ ps) = is_end c

-- what the piece asks of those behind it
abbrev pub asks : Piece → List Piece → Bool
asks (gap bs) ps = true
asks (as_word w) ps = begins_apart ps
asks (as_name n) ps = true
asks (as_digits ds) ps = begins_apart ps
asks (as_string s) ps = begins_apart ps
asks (as_sign c) ps = not (c == 45)

abbrev pub touch : List Piece → Bool
touch [] = true
touch (p ∷ ps) = asks p ps && touch ps

both : (b c : Bool) → b ≡ true → c ≡ true → (b && c) ≡ true
both b c e f = rw (e, f) refl

-- ---- one behind the other

pub begin_joined : (ps qs : List Piece) → begins_apart ps ≡ true → begins_apart qs ≡ true → begins_apart (ps ++ qs) ≡ true
begin_joined [] qs h k = k
begin_joined (gap [] ∷ ps) qs h k = h
begin_joined (gap (b ∷ bs) ∷ ps) qs h k = h
begin_joined (as_word w ∷ ps) qs h k = h
begin_joined (as_name n ∷ ps) qs h k = h
begin_joined (as_digits ds ∷ ps) qs h k = h
begin_joined (as_string s ∷ ps) qs h k = h
begin_joined (as_sign c ∷ ps) qs h k = h

asks_joined : (p : Piece) (ps qs : List Piece) → asks p ps ≡ true → begins_apart qs ≡ true → asks p (ps ++ qs) ≡ true
asks_joined (gap bs) ps qs h k = h
asks_joined (as_word w) ps qs h k = begin_joined ps qs h k
asks_joined (as_name n) ps qs h k = h
asks_joined (as_digits ds) ps qs h k = begin_joined ps qs h k
asks_joined (as_string s) ps qs h k = begin_joined ps qs h k
asks_joined (as_sign c) ps qs h k = h

pub touch_joined : (ps qs : List Piece) → touch ps ≡ true → touch qs ≡ true → begins_apart qs ≡ true → touch (ps ++ qs) ≡ true
touch_joined [] qs h k b = k
touch_joined (p ∷ ps) qs h k b =
    let m = and_true (asks p ps) (touch ps) h in
    both (asks p (ps ++ qs)) (touch (ps ++ qs)) (asks_joined p ps qs m.0 b) (touch_joined ps qs m.1 k b)

-- ---- they are apart

run_ends : (ps : List Piece) → begins_apart ps ≡ true → ends_run (written ps) ≡ true
run_ends [] h = refl
run_ends (gap [] ∷ ps) h = absurd cc
run_ends (gap (b ∷ bs) ∷ ps) h = (and_true (not (is_name_byte b)) (not (b == 39)) h).0
run_ends (as_word w ∷ ps) h = absurd cc
run_ends (as_name n ∷ ps) h = refl
run_ends (as_digits ds ∷ ps) h = absurd cc
run_ends (as_string s ∷ ps) h = absurd cc
run_ends (as_sign c ∷ ps) h = (and_true (not (is_name_byte c)) (not (c == 39)) h).0

no_quote : (ps : List Piece) → begins_apart ps ≡ true → not (begins_with 39 (written ps)) ≡ true
no_quote [] h = refl
no_quote (gap [] ∷ ps) h = absurd cc
no_quote (gap (b ∷ bs) ∷ ps) h = (and_true (not (is_name_byte b)) (not (b == 39)) h).1
no_quote (as_word w ∷ ps) h = absurd cc
no_quote (as_name n ∷ ps) h = refl
no_quote (as_digits ds ∷ ps) h = absurd cc
no_quote (as_string s ∷ ps) h = absurd cc
no_quote (as_sign c ∷ ps) h = (and_true (not (is_name_byte c)) (not (c == 39)) h).1

no_dashes : (c : ℕ) (bs : List ℕ) → not (c == 45) ≡ true → not (c == 45 && begins_with 45 bs) ≡ true
no_dashes c bs h = let k = not_true (c == 45) h in rw k refl

fit : (p : Piece) (ps : List Piece) → is_alone p ≡ true → asks p ps ≡ true → fits p (written ps) ≡ true
fit (gap bs) ps h k = h
fit (as_word w) ps h k =
    let m = and_true (is_name w && not (list_all is_ascii_digit w)) true h in
    both (is_name w && not (list_all is_ascii_digit w)) (ends_run (written ps)) m.0 (run_ends ps k)
fit (as_name n) ps h k = h
fit (as_digits ds) ps h k =
    let m = and_true (nat_lt 0 (length ds) && list_all is_ascii_digit ds) true h in
    both (nat_lt 0 (length ds) && list_all is_ascii_digit ds) (ends_run (written ps)) m.0 (run_ends ps k)
fit (as_string s) ps h k = no_quote ps k
fit (as_sign c) ps h k =
    let m = and_true (is_sign c) (not (c == 45 && false)) h in
    both (is_sign c) (not (c == 45 && begins_with 45 (written ps))) m.0 (no_dashes c (written ps) k)

pub touching_apart : (ps : List Piece) → list_all is_alone ps ≡ true → touch ps ≡ true → are_apart ps ≡ true
touching_apart [] h k = refl
touching_apart (p ∷ ps) h k =
    let m = and_true (is_alone p) (list_all is_alone ps) h in
    let n = and_true (asks p ps) (touch ps) k in
    both (fits p (written ps)) (are_apart ps) (fit p ps m.0 n.0) (touching_apart ps m.1 n.1)
