-- What is asked for behind one more request.
use Rattle.std.specs.Prelude.{◌≡◌, ◌⊎◌, Bool, true, false, ◌||◌, List, [], ◌∷◌, refl}
use Rattle.std.specs.List.{list_any}
use Rattle.std.specs.declared.cmp.Ordering.{Ordering}
use Rattle.std.specs.declared.cmp.Ordering.TheVariants.{Less, Equal, Greater}
use Rattle.std.specs.Ordering.{ordering_then, match_ordering, is_eq}
use Rattle.std.specs.FinMap as finite_map
use Rattle.std.specs.BTreeSet.{insert_key}
use Rattle.std.proofs.Common.{sym, ◌∙◌, ap, inl, inr}
use Rattle.std.proofs.lemmas.Bool.{or_cases, or_left, or_right}
use Rattle.metadata_locks.specs.declared.request.LockKey.{LockKey}
use Rattle.metadata_locks.specs.declared.request.Mode.{Mode}
use Rattle.metadata_locks.specs.declared.request.Mode.TheVariants.{IX, S, X}
use Rattle.metadata_locks.specs.declared.request.Request.{Request}
use Rattle.metadata_locks.specs.contracts.request.ModeOrd.TheImpl as mode_ord
use Rattle.metadata_locks.specs.Held.{key_cmp, same_mode, is_for, ask_for}
use Rattle.metadata_locks.proofs.Keys.{key_alone}
use Rattle.rules_locks.specs.Holdings.{request_cmp, with_request, with_requests, Holding, holding, AreAmong}

-- ## Requests that tie are one

abbrev pub mode_cmp : Mode → Mode → Ordering
mode_cmp = (mode_ord.ghosts).cmp

mode_alone : finite_map.IsAntisymmetric mode_cmp
mode_alone IX IX e = refl
mode_alone S S e = refl
mode_alone X X e = refl
mode_alone a b e = absurd cc

pub then_parts : (r s : Ordering) → ordering_then r s ≡ Equal → (r ≡ Equal) × (s ≡ Equal)
then_parts Less s e = absurd cc
then_parts Equal s e = (refl, e)
then_parts Greater s e = absurd cc

pub request_alone : finite_map.IsAntisymmetric request_cmp
request_alone a b e =
    let parts : (key_cmp a.key b.key ≡ Equal) × (mode_cmp a.mode b.mode ≡ Equal) = then_parts (key_cmp a.key b.key) (mode_cmp a.mode b.mode) e in
    let key : a.key ≡ b.key = key_alone a.key b.key parts.0 in
    let mode : a.mode ≡ b.mode = mode_alone a.mode b.mode parts.1 in
    λ i. record { key = key i; mode = mode i }

pub equal : (r : Ordering) → is_eq r ≡ true → r ≡ Equal
equal Less is = cc
equal Equal is = refl
equal Greater is = cc

pub mode_is : (a b : Mode) → same_mode a b ≡ true → a ≡ b
mode_is IX IX is = refl
mode_is S S is = refl
mode_is X X is = refl
mode_is _ _ is = cc

pub mode_itself : (mode : Mode) → same_mode mode mode ≡ true
mode_itself IX = refl
mode_itself S = refl
mode_itself X = refl

-- ## One more request

or_again : (a b : Bool) → (a || b) ≡ (a || (a || b))
or_again true b = refl
or_again false b = refl

or_swap : (a b c : Bool) → (a || (b || c)) ≡ (b || (a || c))
or_swap true true c = refl
or_swap true false c = refl
or_swap false b c = refl

pub asked_behind : (requests : List Request) (r : Request) (key : LockKey) (mode : Mode) → ask_for (with_request requests r) key mode ≡ (is_for key mode r || ask_for requests key mode)
asked_behind [] r key mode = refl
asked_behind (x ∷ xs) r key mode = on (request_cmp r x) refl (asked_behind xs r key mode)
  where
    on : (o : Ordering) → request_cmp r x ≡ o → ask_for (with_request xs r) key mode ≡ (is_for key mode r || ask_for xs key mode)
        → list_any (is_for key mode) (match_ordering o (r ∷ x ∷ xs) (x ∷ xs) (x ∷ insert_key request_cmp xs r)) ≡ (is_for key mode r || (is_for key mode x || ask_for xs key mode))
    on Less is later = refl
    on Equal is later = or_again (is_for key mode x) (ask_for xs key mode) ∙ ap (λ (q : Request). is_for key mode q || (is_for key mode x || ask_for xs key mode)) (sym (request_alone r x is))
    on Greater is later = ap (λ b. is_for key mode x || b) later ∙ or_swap (is_for key mode x) (is_for key mode r) (ask_for xs key mode)

-- ## What is held

pub among_itself : (held : Holding) → AreAmong held held
among_itself held = record { all = λ key mode is. is }

pub among_through : (a b c : Holding) → AreAmong a b → AreAmong b c → AreAmong a c
among_through a b c one other = record { all = λ key mode is. other.all key mode (one.all key mode is) }

pub one_among : (requests : List Request) (r : Request) → AreAmong (holding requests) (holding (with_request requests r))
unfolding holding
one_among requests r = record { all = λ key mode is. asked_behind requests r key mode ∙ or_right (is_for key mode r) (ask_for requests key mode) is }

-- who holds what is asked for behind the request holds what it asks for
pub one_held : (requests : List Request) (r : Request) (key : LockKey) (mode : Mode) → is_for key mode r ≡ true → holding (with_request requests r) key mode ≡ true
unfolding holding
one_held requests r key mode is = asked_behind requests r key mode ∙ or_left (is_for key mode r) (ask_for requests key mode) is

pub requests_among : (requests more : List Request) → AreAmong (holding requests) (holding (with_requests requests more))
requests_among requests [] = among_itself (holding requests)
requests_among requests (r ∷ more) =
    among_through (holding requests) (holding (with_request requests r)) (holding (with_requests (with_request requests r) more))
    (one_among requests r) (requests_among (with_request requests r) more)

none_asked : (held : Holding) → AreAmong (holding []) held
unfolding holding
none_asked held = record { all = λ key mode is. absurd cc }

first_or_later : (r : Request) (more : List Request) (key : LockKey) (mode : Mode) → holding (r ∷ more) key mode ≡ true → (is_for key mode r ≡ true) ⊎ (holding more key mode ≡ true)
unfolding holding
first_or_later r more key mode is = or_cases (is_for key mode r) (ask_for more key mode) is

pub asked_among : (requests more : List Request) → AreAmong (holding more) (holding (with_requests requests more))
asked_among requests [] = none_asked (holding requests)
asked_among requests (r ∷ more) = record { all = λ key mode is. on key mode (first_or_later r more key mode is) (asked_among (with_request requests r) more) }
  where
    on : (key : LockKey) (mode : Mode) → (is_for key mode r ≡ true) ⊎ (holding more key mode ≡ true)
        → AreAmong (holding more) (holding (with_requests (with_request requests r) more)) → holding (with_requests (with_request requests r) more) key mode ≡ true
    on key mode (inl here) later = (requests_among (with_request requests r) more).all key mode (one_held requests r key mode here)
    on key mode (inr there) later = later.all key mode there
