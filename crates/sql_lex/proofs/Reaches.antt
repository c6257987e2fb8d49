-- How far it is to the end of a comment, a quoted name or a string.
use Rattle.std.proofs.Common.{◌≡◌, ℕ, zero, suc, ◌+◌, ◌-◌, ◌<◌, ◌≤◌, Bool, true, false, cond, ◌&&◌, ◌||◌, List, [], ◌∷◌, length, drop, Option, Some, None, refl, sym, ap, subst, ◌∙◌, arith}
use Rattle.std.specs.Prelude.{◌==◌}
use Rattle.std.proofs.lemmas.List.{length-drop, drop-drop}
use Rattle.sql_lex.specs.declared.reach.Until.{Until}
use Rattle.sql_lex.specs.declared.reach.Until.TheVariants.{CommentEnd, BackQuote, Quote}
use Rattle.sql_lex.specs.declared.reach.Step.{Step}
use Rattle.sql_lex.specs.declared.reach.Step.TheVariants.{Ends, Goes}
use Rattle.sql_lex.specs.Ends.{starts_with_2, step, longer, after_step, reach}
use Rattle.sql_lex.specs.declared.string_part.Part.{Part}
use Rattle.sql_lex.specs.declared.string_part.Part.TheVariants.{Closes, One, Two}
use Rattle.sql_lex.specs.Strings.{part}
use Rattle.sql_lex.specs.Ends.{part_step}
use Rattle.sql_lex.proofs.Meant.{OnPart, part_within}
use Rattle.sql_lex.proofs.Fronts.{two_there}

abbrev pub OnStep : ℕ → Step → Type 0
OnStep n (Ends k) = (0 < k) × (k ≤ n)
OnStep n (Goes k) = (0 < k) × (k ≤ n)

abbrev pub OnLen : ℕ → Option ℕ → Type 0
OnLen n None = Unit {0}
OnLen n (Some m) = (0 < m) × (m ≤ n)

step_on : (P : Step → Type 0) (c : Bool) (x y : Step) → (c ≡ true → P x) → (c ≡ false → P y) → P (cond c x y)
step_on P true x y f g = f refl
step_on P false x y f g = g refl

part_steps : (p : Part) (n : ℕ) → OnPart n p → OnStep n (part_step p)
part_steps Closes n h = (omega arith, h)
part_steps (One c k) n h = h
part_steps (Two c) n h = (omega arith, h)

pub step_within : (u : Until) (bs : List ℕ) → 0 < length bs → OnStep (length bs) (step u bs)
step_within u [] h = absurd (omega arith)
step_within CommentEnd (b ∷ bs) h = step_on (OnStep (length (b ∷ bs))) (starts_with_2 42 47 (b ∷ bs)) (Ends 2) (Goes 1) (λ e. (omega arith, two_there 42 47 (b ∷ bs) e)) (λ e. (omega arith, omega arith))
step_within BackQuote (b ∷ bs) h = step_on (OnStep (length (b ∷ bs))) (b == 96) (Ends 1) (Goes 1) (λ e. (omega arith, omega arith)) (λ e. (omega arith, omega arith))
step_within (Quote q) (b ∷ bs) h = part_steps (part q (b ∷ bs)) (length (b ∷ bs)) (part_within q (b ∷ bs) h)

longer_zero : (o : Option ℕ) → longer 0 o ≡ o
longer_zero None = refl
longer_zero (Some m) = ap (λ (n : ℕ). Some n) (omega arith)

longer_more : (a b c : ℕ) (o : Option ℕ) → a + b ≡ c → longer a (longer b o) ≡ longer c o
longer_more a b c None e = refl
longer_more a b c (Some m) e = ap (λ (n : ℕ). Some n) (omega (arith, e))

pub reach_skip : (u : Until) (bs : List ℕ) (k : ℕ) → reach u bs k ≡ longer k (reach u (drop k bs) 0)
reach_skip u [] zero = refl
reach_skip u [] (suc k) = refl
reach_skip u (b ∷ bs) zero = sym (longer_zero (reach u (b ∷ bs) 0))
reach_skip u (b ∷ bs) (suc k) = ap (longer 1) (reach_skip u bs k) ∙ longer_more 1 k (suc k) (reach u (drop k bs) 0) (omega arith)

abbrev pub StepIs : Step → Until → List ℕ → Type 0
StepIs (Ends n) u bs = reach u bs 0 ≡ Some n
StepIs (Goes n) u bs = reach u bs 0 ≡ longer n (reach u (drop n bs) 0)

goes : (u : Until) (b : ℕ) (bs : List ℕ) (n : ℕ) → 0 < n → after_step (Goes n) (reach u bs) ≡ longer n (reach u (drop n (b ∷ bs)) 0)
goes u b bs zero h = absurd (omega arith)
goes u b bs (suc n) h =
    let e : suc n - 1 ≡ n = omega arith in
    rw e (ap (longer 1) (reach_skip u bs n) ∙ longer_more 1 n (suc n) (reach u (drop n bs) 0) (omega arith))

one_step : (s : Step) (u : Until) (b : ℕ) (bs : List ℕ) → s ≡ step u (b ∷ bs) → OnStep (length (b ∷ bs)) s → StepIs s u (b ∷ bs)
one_step (Ends n) u b bs e h = ap (λ (x : Step). after_step x (reach u bs)) (sym e)
one_step (Goes n) u b bs e h = ap (λ (x : Step). after_step x (reach u bs)) (sym e) ∙ goes u b bs n h.0

pub step_is : (s : Step) (u : Until) (bs : List ℕ) → s ≡ step u bs → 0 < length bs → StepIs s u bs × OnStep (length bs) s
step_is s u [] e h = absurd (omega arith)
step_is s u (b ∷ bs) e h =
    let w : OnStep (length (b ∷ bs)) s = subst (OnStep (length (b ∷ bs))) (sym e) (step_within u (b ∷ bs) h) in
    (one_step s u b bs e w, w)

pub ends_is : (u : Until) (at n : ℕ) (bs : List ℕ) (total : Option ℕ) → Ends n ≡ step u (drop at bs) → at < length bs → longer at (reach u (drop at bs) 0) ≡ total
    → (Some (at + n) ≡ total) × (at + n ≤ length bs)
ends_is u at n bs total e lt so_far =
    let s = step_is (Ends n) u (drop at bs) e (omega (arith, length-drop at bs)) in
    (ap (longer at) (sym s.0) ∙ so_far, let k = s.1.1 in omega (arith, k, lt, length-drop at bs))

pub goes_is : (u : Until) (at n : ℕ) (bs : List ℕ) (total : Option ℕ) → Goes n ≡ step u (drop at bs) → at < length bs → longer at (reach u (drop at bs) 0) ≡ total
    → (0 < n) × (at + n ≤ length bs) × (longer (at + n) (reach u (drop (at + n) bs) 0) ≡ total)
goes_is u at n bs total e lt so_far =
    let s = step_is (Goes n) u (drop at bs) e (omega (arith, length-drop at bs)) in
    let d : drop n (drop at bs) ≡ drop (at + n) bs = drop-drop n at bs in
    let k = s.1.1 in (
      s.1.0,
      omega (arith, k, lt, length-drop at bs),
      ap (λ (x : List ℕ). longer (at + n) (reach u x 0)) (sym d) ∙ sym (longer_more at n (at + n) (reach u (drop n (drop at bs)) 0) refl) ∙ ap (longer at) (sym s.0) ∙ so_far,
    )

no_more : (at : ℕ) (bs : List ℕ) → length bs ≤ at → drop at bs ≡ []
no_more zero [] h = refl
no_more zero (b ∷ bs) h = absurd (omega arith)
no_more (suc at) [] h = refl
no_more (suc at) (b ∷ bs) h = no_more at bs (omega arith)

pub none_is : (u : Until) (at : ℕ) (bs : List ℕ) (total : Option ℕ) → length bs ≤ at → longer at (reach u (drop at bs) 0) ≡ total → None ≡ total
none_is u at bs total h so_far = ap (λ (x : List ℕ). longer at (reach u x 0)) (sym (no_more at bs h)) ∙ so_far

longer_within : (n : ℕ) (o : Option ℕ) → OnLen n o → OnLen (suc n) (longer 1 o)
longer_within n None h = tt
longer_within n (Some m) h = (omega arith, omega (arith, h.1))

after_within : (n : ℕ) (s : Step) (more : ℕ → Option ℕ) → OnStep (suc n) s → ((k : ℕ) → OnLen n (more k)) → OnLen (suc n) (after_step s more)
after_within n (Ends k) more h f = h
after_within n (Goes k) more h f = longer_within n (more (k - 1)) (f (k - 1))

pub reach_within : (u : Until) (bs : List ℕ) (k : ℕ) → OnLen (length bs) (reach u bs k)
reach_within u [] k = tt
reach_within u (b ∷ bs) (suc k) = longer_within (length bs) (reach u bs k) (reach_within u bs k)
reach_within u (b ∷ bs) zero = after_within (length bs) (step u (b ∷ bs)) (reach u bs) (step_within u (b ∷ bs) (omega arith)) (λ k. reach_within u bs k)
