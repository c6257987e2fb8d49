-- Lists of records and of sessions.
use Rattle.std.proofs.Common.{◌≡◌, ◌⊎◌, inl, inr, ⊎_elim, ℕ, List, [], ◌∷◌, ◌++◌, refl, sym, ◌∙◌, ap, subst}
use Rattle.std.specs.List.{flat_map}
use Rattle.std.proofs.lemmas.Grind.{flat_map-append}
use Rattle.disk_trait.proofs.Follows.{apart-sym}
use Rattle.ddl_log.specs.declared.records.Kind.{Kind}
use Rattle.ddl_log.specs.declared.records.Kind.TheVariants.{DeleteSpace, RenameSpace, WriteSdi}
use Rattle.ddl_log.specs.declared.records.LogRecord.{LogRecord}
use Rattle.ddl_log.specs.Effect.{IsBeside, AreBeside, IsApart}
use Rattle.dict_store_laws.specs.Plans.{AreApart}
use Rattle.dict_flight_laws.specs.Phases.{Phase, claims, all_claims}
use Rattle.dict_flight_laws.specs.Flight.{In, AreClear, AllClear, Each}

-- ## Members

pub in_left : {A : Type 0} (xs ys : List A) (x : A) → In xs x → In (xs ++ ys) x
in_left [] ys x it = absurd it
in_left (z ∷ zs) ys x it = ⊎_elim (λ is. inl is) (λ rest. inr (in_left zs ys x rest)) it

pub in_right : {A : Type 0} (xs ys : List A) (x : A) → In ys x → In (xs ++ ys) x
in_right [] ys x it = it
in_right (z ∷ zs) ys x it = inr (in_right zs ys x it)

pub in_either : {A : Type 0} (xs ys : List A) (x : A) → In (xs ++ ys) x → In xs x ⊎ In ys x
in_either [] ys x it = inr it
in_either (z ∷ zs) ys x it = ⊎_elim (λ is. inl (inl is)) (λ rest. ⊎_elim (λ l. inl (inr l)) (λ r. inr r) (in_either zs ys x rest)) it

-- ## Records apart

apart_cons : (kind : Kind) (old new : List ℕ) (f : LogRecord) (fs : List LogRecord) → AreBeside kind old new (f ∷ []) → AreBeside kind old new fs → AreBeside kind old new (f ∷ fs)
apart_cons DeleteSpace old new f fs one rest = (one.0, rest)
apart_cons RenameSpace old new f fs one rest = ((one.0.0, rest.0), (one.1.0, rest.1))
apart_cons WriteSdi old new f fs one rest = (one.0, rest)

apart_none : (kind : Kind) (old new : List ℕ) → AreBeside kind old new []
apart_none DeleteSpace old new = tt
apart_none RenameSpace old new = (tt, tt)
apart_none WriteSdi old new = tt

pub apart_of : (item : LogRecord) (ys : List LogRecord) → ((y : LogRecord) → In ys y → IsApart item (y ∷ [])) → IsApart item ys
apart_of item [] all = apart_none item.kind item.old_path item.new_path
apart_of item (f ∷ fs) all = apart_cons item.kind item.old_path item.new_path f fs (all f (inl refl)) (apart_of item fs (λ y it. all y (inr it)))

pub all_apart_of : (xs ys : List LogRecord) → AreClear xs ys → AreApart xs ys
all_apart_of [] ys clear = tt
all_apart_of (x ∷ xs) ys clear = (apart_of x ys (λ y it. clear x y (inl refl) it), all_apart_of xs ys (λ a b one two. clear a b (inr one) two))

-- by the kinds and paths of two records
abbrev Beside : Kind → List ℕ → List ℕ → Kind → List ℕ → List ℕ → Type 0
Beside DeleteSpace a b l c d = IsBeside l c d a
Beside RenameSpace a b l c d = IsBeside l c d a × IsBeside l c d b
Beside WriteSdi a b l c d = IsBeside l c d a

beside_back : (k l : Kind) (a b c d : List ℕ) → Beside k a b l c d → Beside l c d k a b
beside_back DeleteSpace DeleteSpace a b c d it = apart-sym c a it
beside_back DeleteSpace RenameSpace a b c d it = (apart-sym c a it.0, apart-sym d a it.1)
beside_back DeleteSpace WriteSdi a b c d it = apart-sym c a it
beside_back RenameSpace DeleteSpace a b c d it = (apart-sym c a it.0, apart-sym c b it.1)
beside_back RenameSpace RenameSpace a b c d it = ((apart-sym c a it.0.0, apart-sym c b it.1.0), (apart-sym d a it.0.1, apart-sym d b it.1.1))
beside_back RenameSpace WriteSdi a b c d it = (apart-sym c a it.0, apart-sym c b it.1)
beside_back WriteSdi DeleteSpace a b c d it = apart-sym c a it
beside_back WriteSdi RenameSpace a b c d it = (apart-sym c a it.0, apart-sym d a it.1)
beside_back WriteSdi WriteSdi a b c d it = apart-sym c a it

beside_of : (k : Kind) (a b : List ℕ) (y : LogRecord) → AreBeside k a b (y ∷ []) → Beside k a b y.kind y.old_path y.new_path
beside_of DeleteSpace a b y it = it.0
beside_of RenameSpace a b y it = (it.0.0, it.1.0)
beside_of WriteSdi a b y it = it.0

of_beside : (k : Kind) (a b : List ℕ) (y : LogRecord) → Beside k a b y.kind y.old_path y.new_path → AreBeside k a b (y ∷ [])
of_beside DeleteSpace a b y it = (it, tt)
of_beside RenameSpace a b y it = ((it.0, tt), (it.1, tt))
of_beside WriteSdi a b y it = (it, tt)

pub clear_sym : (x y : LogRecord) → IsApart x (y ∷ []) → IsApart y (x ∷ [])
clear_sym x y it =
    of_beside y.kind y.old_path y.new_path x
    (beside_back x.kind y.kind x.old_path x.new_path y.old_path y.new_path (beside_of x.kind x.old_path x.new_path y it))

pub clear_part : (xs ys zs : List LogRecord) → ((z : LogRecord) → In zs z → In xs z) → AreClear xs ys → AreClear zs ys
clear_part xs ys zs part it = λ z y in_z in_y. it z y (part z in_z) in_y

pub clear_of_part : (xs ys zs : List LogRecord) → ((z : LogRecord) → In zs z → In ys z) → AreClear xs ys → AreClear xs zs
clear_of_part xs ys zs part it = λ x z in_x in_z. it x z in_x (part z in_z)

pub clear_join : (xs ys zs : List LogRecord) → AreClear xs ys → AreClear xs zs → AreClear xs (ys ++ zs)
clear_join xs ys zs one two = λ x y in_x in_y. ⊎_elim (λ l. one x y in_x l) (λ r. two x y in_x r) (in_either ys zs y in_y)

-- ## One session among the others

pub flat_at : {A : Type 0} (f : Phase → List A) (before after : List Phase) (p : Phase) → flat_map f (before ++ p ∷ after) ≡ flat_map f before ++ (f p ++ flat_map f after)
flat_at f before after p = flat_map-append f before (p ∷ after)

pub flat_same : {A : Type 0} (f : Phase → List A) (before after : List Phase) (p q : Phase) → f p ≡ f q → flat_map f (before ++ p ∷ after) ≡ flat_map f (before ++ q ∷ after)
flat_same {A} f before after p q same = flat_at f before after p ∙ ap (λ (l : List A). flat_map f before ++ (l ++ flat_map f after)) same ∙ sym (flat_at f before after q)

-- what is among each session's claims is among all claims
pub part_of_all : (f : Phase → List LogRecord) → ((p : Phase) (x : LogRecord) → In (f p) x → In (claims p) x) → (ps : List Phase) (x : LogRecord) → In (flat_map f ps) x → In (all_claims ps) x
part_of_all f part [] x it = it
part_of_all f part (p ∷ ps) x it = ⊎_elim (λ l. in_left (claims p) (all_claims ps) x (part p x l)) (λ r. in_right (claims p) (all_claims ps) x (part_of_all f part ps x r)) (in_either (f p) (flat_map f ps) x it)

-- a session's claims are clear of all others'
pub clear_at : (before after : List Phase) (p : Phase) → AllClear (before ++ p ∷ after) → AreClear (claims p) (all_claims before) × AreClear (claims p) (all_claims after)
clear_at [] after p it = ((λ x y in_x in_y. absurd in_y), it.0)
clear_at (b ∷ bs) after p it =
    let rest = clear_at bs after p it.1 in
    let mine : AreClear (claims b) (claims p) = clear_of_part (claims b) (all_claims (bs ++ p ∷ after)) (claims p)
    (λ z in_z. subst (λ (l : List LogRecord). In l z) (sym (flat_at claims bs after p)) (in_right (all_claims bs) (claims p ++ all_claims after) z (in_left (claims p) (all_claims after) z in_z))) it.0 in (
      (λ x y in_x in_y. ⊎_elim (λ l. clear_sym y x (mine y x l in_x)) (λ r. rest.0 x y in_x r) (in_either (claims b) (all_claims bs) y in_y)),
      rest.1,
    )

-- and a phase may stand in its place whose claims are clear of theirs
pub clear_put : (before after : List Phase) (p q : Phase) → AreClear (claims q) (all_claims before) → AreClear (claims q) (all_claims after) → AllClear (before ++ p ∷ after) → AllClear (before ++ q ∷ after)
clear_put [] after p q one two it = (two, it.1)
clear_put (b ∷ bs) after p q one two it = (
  (λ x y in_x in_y. ⊎_elim
      (λ l. it.0 x y in_x (among y (in_left (all_claims bs) (claims p ++ all_claims after) y l)))
      (λ r. ⊎_elim
      (λ m. clear_sym y x (one y x m (in_left (claims b) (all_claims bs) x in_x)))
      (λ a. it.0 x y in_x (among y (in_right (all_claims bs) (claims p ++ all_claims after) y (in_right (claims p) (all_claims after) y a))))
      (in_either (claims q) (all_claims after) y r))
      (in_either (all_claims bs) (claims q ++ all_claims after) y (subst (λ (l : List LogRecord). In l y) (flat_at claims bs after q) in_y))),
  clear_put bs after p q (λ x y in_x in_y. one x y in_x (in_right (claims b) (all_claims bs) y in_y)) two it.1,
)
  where
    among : (y : LogRecord) → In (all_claims bs ++ (claims p ++ all_claims after)) y → In (all_claims (bs ++ p ∷ after)) y
    among y h = subst (λ (l : List LogRecord). In l y) (sym (flat_at claims bs after p)) h

pub each_at : (P : Phase → Type 0) (before after : List Phase) (p : Phase) → Each P (before ++ p ∷ after) → P p
each_at P [] after p it = it.0
each_at P (b ∷ bs) after p it = each_at P bs after p it.1

each_by : (P Q : Phase → Type 0) (ps : List Phase) → Each (λ o. P o → Q o) ps → Each P ps → Each Q ps
each_by P Q [] by it = tt
each_by P Q (p ∷ ps) by it = (by.0 it.0, each_by P Q ps by.1 it.1)

-- a session changes, and the others stay by what is said of each
pub each_put : (P Q : Phase → Type 0) (before after : List Phase) (p q : Phase) → Each (λ o. P o → Q o) before → Each (λ o. P o → Q o) after → Q q → Each P (before ++ p ∷ after) → Each Q (before ++ q ∷ after)
each_put P Q [] after p q one two mine it = (mine, each_by P Q after two it.1)
each_put P Q (b ∷ bs) after p q one two mine it = (one.0 it.0, each_put P Q bs after p q one.1 two mine it.1)

pub each_of : (P : Phase → Type 0) → ((p : Phase) → P p) → (ps : List Phase) → Each P ps
each_of P all [] = tt
each_of P all (p ∷ ps) = (all p, each_of P all ps)
