-- Loops that add the claims of one item after another.
use Rattle.std.specs.Prelude.{◌≡◌, ℕ, zero, suc, ◌+◌, ◌<◌, List, [], ◌∷◌, ◌++◌, length, map, take, refl, Bool, true, false, if◌then◌else◌}
use Rattle.std.specs.List.{AllByRecursion, flat_map}
use Rattle.std.proofs.Common.{◌∙◌, ap, append_assoc, arith, get_or, subst, sym}
use Rattle.std.proofs.lemmas.List.{append-nil}
use Rattle.std.proofs.lemmas.List.Concat.{flat_map-append}
use Rattle.rules_locks.specs.Claims.{Claim, is_covered, requests_for, with_claim, with_claims}
use Rattle.rules_locks.specs.Holdings.{holding, with_requests}
use Rattle.metadata_locks.specs.declared.request.Request.{Request}
use Rattle.rules_locks.proofs.Covers.{claims_append}
use Rattle.rules_footprint.specs.Coded.{claim_of, claims_of}
use Rattle.rules_footprint.specs.declared.claims.Claim as code

take_one : {X : Type 0} (xs : List X) (k : ℕ) (d : X) → k < length xs → take (k + 1) xs ≡ take k xs ++ get_or xs k d ∷ []
take_one xs k d lt = let one : k + 1 ≡ suc k = omega arith in rw one (by xs k lt)
  where
    by : (xs : List _) (k : ℕ) → k < length xs → take (suc k) xs ≡ take k xs ++ get_or xs k d ∷ []
    by [] k lt = absurd (omega arith)
    by (x ∷ xs) zero lt = refl
    by (x ∷ xs) (suc k) lt = ap (λ ys. x ∷ ys) (by xs k (omega arith))

pub one_more : {X : Type 0} (f : X → List Claim) (xs : List X) (k : ℕ) (x : X) (old mid new : List Claim) → k < length xs → x ≡ get_or xs k x → mid ≡ old ++ flat_map f (take k xs) → new ≡ mid ++ f x → new ≡ old ++ flat_map f (take (k + 1) xs)
one_more f xs k x old mid new lt is so_far one =
    let last : flat_map f (get_or xs k x ∷ []) ≡ f x = append-nil (f (get_or xs k x)) ∙ ap f (sym is) in
    let more : flat_map f (take (k + 1) xs) ≡ flat_map f (take k xs) ++ f x =
    ap (flat_map f) (take_one xs k x lt) ∙ flat_map-append f (take k xs) (get_or xs k x ∷ []) ∙ ap (λ (l : List Claim). flat_map f (take k xs) ++ l) last in
    one ∙ ap (λ (l : List Claim). l ++ f x) so_far ∙ append_assoc old (flat_map f (take k xs)) (f x) ∙ ap (λ (l : List Claim). old ++ l) (sym more)

map_last : {A B : Type 0} (f : A → B) (xs : List A) (x : A) → map f (xs ++ x ∷ []) ≡ map f xs ++ f x ∷ []
map_last f [] x = refl
map_last f (y ∷ ys) x = ap (λ zs. f y ∷ zs) (map_last f ys x)

-- of items that are seen as others
pub one_seen : {X Y : Type 0} (g : X → Y) (f : Y → List Claim) (xs : List X) (k : ℕ) (x : X) (old mid new : List Claim) → k < length xs → x ≡ get_or xs k x → mid ≡ old ++ flat_map f (map g (take k xs)) → new ≡ mid ++ f (g x)
    → new ≡ old ++ flat_map f (map g (take (k + 1) xs))
one_seen g f xs k x old mid new lt is so_far one =
    let taken : map g (take (k + 1) xs) ≡ map g (take k xs) ++ g x ∷ [] = ap (map g) (take_one xs k x lt) ∙ map_last g (take k xs) (get_or xs k x) ∙ ap (λ y. map g (take k xs) ++ g y ∷ []) (sym is) in
    let more : flat_map f (map g (take (k + 1) xs)) ≡ flat_map f (map g (take k xs)) ++ f (g x) =
    ap (flat_map f) taken ∙ flat_map-append f (map g (take k xs)) (g x ∷ []) ∙ ap (λ (l : List Claim). flat_map f (map g (take k xs)) ++ l) (append-nil (f (g x))) in
    one ∙ ap (λ (l : List Claim). l ++ f (g x)) so_far ∙ append_assoc old (flat_map f (map g (take k xs))) (f (g x)) ∙ ap (λ (l : List Claim). old ++ l) (sym more)

-- one claim more is asked for
pub one_asked : (claims : List code.Claim) (k : ℕ) (claim : code.Claim) (old mid new : List Request) → k < length claims → claim ≡ get_or claims k claim → mid ≡ with_claims old (claims_of (take k claims)) → new ≡ with_claim mid (claim_of claim)
    → new ≡ with_claims old (claims_of (take (k + 1) claims))
one_asked claims k claim old mid new lt is so_far one =
    let taken : claims_of (take (k + 1) claims) ≡ claims_of (take k claims) ++ claim_of claim ∷ [] =
    ap claims_of (take_one claims k claim lt) ∙ map_last claim_of (take k claims) (get_or claims k claim) ∙ ap (λ c. claims_of (take k claims) ++ claim_of c ∷ []) (sym is) in
    one ∙ ap (λ (all : List Request). with_claim all (claim_of claim)) so_far ∙ sym (claims_append old (claims_of (take k claims)) (claim_of claim ∷ [])) ∙ ap (with_claims old) (sym taken)

-- what holds of all items holds of one
pub fits_at : {X : Type 0} (P : X → Type 0) (xs : List X) (k : ℕ) (x : X) → k < length xs → x ≡ get_or xs k x → AllByRecursion P xs → P x
fits_at P xs k x lt is all = subst P (sym is) (by xs k lt all)
  where
    by : (xs : List _) (k : ℕ) → k < length xs → AllByRecursion P xs → P (get_or xs k x)
    by [] k lt all = absurd (omega arith)
    by (y ∷ ys) zero lt all = all.0
    by (y ∷ ys) (suc k) lt all = by ys k (omega arith) all.1

-- what isn't covered is asked for
pub uncovered : (requests : List Request) (claim : Claim) → is_covered (holding requests) claim ≡ false → with_requests requests (requests_for claim) ≡ with_claim requests claim
unfolding with_claim
uncovered requests claim not_covered = on (is_covered (holding requests) claim) not_covered
  where
    on : (b : Bool) → b ≡ false → with_requests requests (requests_for claim) ≡ (if b then requests else with_requests requests (requests_for claim))
    on false is = refl
    on true is = absurd cc
