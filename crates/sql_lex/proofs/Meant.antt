-- What a string means, part by part.
use Rattle.std.proofs.Common.{eq-eqb, ◌≡◌, ℕ, zero, suc, ◌+◌, ◌-◌, ◌<◌, ◌≤◌, Bool, true, false, cond, ◌&&◌, ◌||◌, List, [], ◌∷◌, ◌++◌, length, drop, Option, Some, None, refl, sym, ap, subst, ◌∙◌, append_assoc, arith}
use Rattle.std.specs.Prelude.{◌==◌, bytes_eq}
use Rattle.std.proofs.lemmas.Bool.{eqb-true, ne_eqb}
use Rattle.std.proofs.lemmas.List.{length-drop, drop-drop, append-nil}
use Rattle.sql_lex.specs.declared.string_part.Part.{Part}
use Rattle.sql_lex.specs.declared.string_part.Part.TheVariants.{Closes, One, Two}
use Rattle.sql_lex.specs.Strings.{escaped, keeps_backslash, strip_of, strip_two_of, part, behind_backslash, after_part, meant}

abbrev pub OnPart : ℕ → Part → Type 0
OnPart n Closes = 1 ≤ n
OnPart n (One c k) = (0 < k) × (k ≤ n)
OnPart n (Two c) = 2 ≤ n

part_on : (P : Part → Type 0) (c : Bool) (x y : Part) → (c ≡ true → P x) → (c ≡ false → P y) → P (cond c x y)
part_on P true x y f g = f refl
part_on P false x y f g = g refl

pub part_within : (q : ℕ) (bs : List ℕ) → 0 < length bs → OnPart (length bs) (part q bs)
part_within q [] h = absurd (omega arith)
part_within q (b ∷ []) h = part_on (OnPart 1) (b == q) Closes (One b 1) (λ e. omega arith) (λ e. (omega arith, omega arith))
part_within q (b ∷ c ∷ bs) h =
    let P : Part → Type 0 = OnPart (length (b ∷ c ∷ bs)) in
    part_on P (b == 92) _ _ (λ e. part_on P (keeps_backslash c) (Two c) _ (λ f. omega arith) (λ f. (omega arith, omega arith))) (λ e.
    part_on P (b == q) _ _ (λ f. part_on P (c == q) (One q 2) Closes (λ g. (omega arith, omega arith)) (λ g. omega arith)) (λ f. (omega arith, omega arith)))

pub meant_skip : (q : ℕ) (bs : List ℕ) (k : ℕ) → meant q bs k ≡ meant q (drop k bs) 0
meant_skip q [] zero = refl
meant_skip q [] (suc k) = refl
meant_skip q (b ∷ bs) zero = refl
meant_skip q (b ∷ bs) (suc k) = meant_skip q bs k

-- how the meaning goes on behind a part
abbrev pub PartIs : Part → ℕ → List ℕ → Type 0
PartIs Closes q bs = meant q bs 0 ≡ []
PartIs (One c n) q bs = meant q bs 0 ≡ c ∷ meant q (drop n bs) 0
PartIs (Two c) q bs = meant q bs 0 ≡ 92 ∷ c ∷ meant q (drop 2 bs) 0

abbrev cons : ℕ → List ℕ → List ℕ
cons x xs = x ∷ xs

skipped : (q b : ℕ) (bs : List ℕ) (n : ℕ) → 0 < n → meant q bs (n - 1) ≡ meant q (drop n (b ∷ bs)) 0
skipped q b bs zero h = absurd (omega arith)
skipped q b bs (suc n) h = let e : suc n - 1 ≡ n = omega arith in rw e (meant_skip q bs n)

one_part : (p : Part) (q b : ℕ) (bs : List ℕ) → p ≡ part q (b ∷ bs) → OnPart (length (b ∷ bs)) p → PartIs p q (b ∷ bs)
one_part Closes q b bs e h = ap (λ (x : Part). after_part x (meant q bs)) (sym e)
one_part (One c n) q b bs e h = ap (λ (x : Part). after_part x (meant q bs)) (sym e) ∙ ap (cons c) (skipped q b bs n h.0)
one_part (Two c) q b bs e h = ap (λ (x : Part). after_part x (meant q bs)) (sym e) ∙ ap (λ (x : List ℕ). 92 ∷ c ∷ x) (meant_skip q bs 1)

-- in a loop: what was collected, and the place behind the part
abbrev pub PartGoes : Part → ℕ → List ℕ → ℕ → List ℕ → List ℕ → Type 0
PartGoes Closes q bs at front total = front ≡ total
PartGoes (One c n) q bs at front total = (0 < n) × (at + n ≤ length bs) × ((front ++ c ∷ []) ++ meant q (drop (at + n) bs) 0 ≡ total)
PartGoes (Two c) q bs at front total = (at + 2 ≤ length bs) × (((front ++ 92 ∷ []) ++ c ∷ []) ++ meant q (drop (at + 2) bs) 0 ≡ total)

part_goes : (p : Part) (q : ℕ) (bs : List ℕ) (at : ℕ) (front total : List ℕ) → PartIs p q (drop at bs) → OnPart (length (drop at bs)) p → at < length bs → front ++ meant q (drop at bs) 0 ≡ total → PartGoes p q bs at front total
part_goes Closes q bs at front total i w lt s = sym (append-nil front) ∙ ap (λ (x : List ℕ). front ++ x) (sym i) ∙ s
part_goes (One c n) q bs at front total i w lt s =
    let k = w.1 in
    let d : drop n (drop at bs) ≡ drop (at + n) bs = drop-drop n at bs in (
      w.0,
      omega (arith, k, lt, length-drop at bs),
      append_assoc front (c ∷ []) (meant q (drop (at + n) bs) 0) ∙ ap (λ (x : List ℕ). front ++ c ∷ meant q x 0) (sym d) ∙ ap (λ (x : List ℕ). front ++ x) (sym i) ∙ s,
    )
part_goes (Two c) q bs at front total i w lt s =
    let d : drop 2 (drop at bs) ≡ drop (at + 2) bs = drop-drop 2 at bs in (
      omega (arith, w, lt, length-drop at bs),
      append_assoc (front ++ 92 ∷ []) (c ∷ []) (meant q (drop (at + 2) bs) 0) ∙ append_assoc front (92 ∷ []) (c ∷ meant q (drop (at + 2) bs) 0)
          ∙ ap (λ (x : List ℕ). front ++ 92 ∷ c ∷ meant q x 0) (sym d) ∙ ap (λ (x : List ℕ). front ++ x) (sym i) ∙ s,
    )

pub any_part : (p : Part) (q : ℕ) (bs : List ℕ) → p ≡ part q bs → 0 < length bs → PartIs p q bs × OnPart (length bs) p
any_part p q [] e h = absurd (omega arith)
any_part p q (b ∷ bs) e h =
    let w : OnPart (length (b ∷ bs)) p = subst (OnPart (length (b ∷ bs))) (sym e) (part_within q (b ∷ bs) h) in
    (one_part p q b bs e w, w)

pub goes_on : (p : Part) (q : ℕ) (bs : List ℕ) (at : ℕ) (front total : List ℕ) → p ≡ part q (drop at bs) → at < length bs → front ++ meant q (drop at bs) 0 ≡ total → PartGoes p q bs at front total
goes_on p q bs at front total e lt s =
    let a = any_part p q (drop at bs) e (omega (arith, lt, length-drop at bs)) in
    part_goes p q bs at front total a.0 a.1 lt s

no_more : (at : ℕ) (bs : List ℕ) → length bs ≤ at → drop at bs ≡ []
no_more zero [] h = refl
no_more zero (b ∷ bs) h = absurd (omega arith)
no_more (suc at) [] h = refl
no_more (suc at) (b ∷ bs) h = no_more at bs (omega arith)

pub ends_so : (q : ℕ) (bs : List ℕ) (at : ℕ) (front total : List ℕ) → length bs ≤ at → front ++ meant q (drop at bs) 0 ≡ total → front ≡ total
ends_so q bs at front total h s = sym (append-nil front) ∙ ap (λ (x : List ℕ). front ++ meant q x 0) (sym (no_more at bs h)) ∙ s

-- ---- comparing as it is read

strip_on : (P : Option (List ℕ) → Type 0) (c : Bool) (x y : Option (List ℕ)) → (c ≡ true → P x) → (c ≡ false → P y) → P (cond c x y)
strip_on P true x y f g = f refl
strip_on P false x y f g = g refl

abbrev pub Strips : ℕ → List ℕ → List ℕ → Option (List ℕ) → Type 0
Strips c s xs None = bytes_eq (c ∷ xs) s ≡ false
Strips c s xs (Some r) = bytes_eq (c ∷ xs) s ≡ bytes_eq xs r

pub strips : (c : ℕ) (s xs : List ℕ) → Strips c s xs (strip_of c s)
strips c [] xs = refl
strips c (d ∷ s) xs = strip_on (Strips c (d ∷ s) xs) (c == d) (Some s) None (λ h. rw h refl) (λ h. rw h refl)

pub strips_by : (c : ℕ) (s xs : List ℕ) (o : Option (List ℕ)) → strip_of c s ≡ o → Strips c s xs o
strips_by c s xs o e = subst (Strips c s xs) e (strips c s xs)

-- in a loop that compares
abbrev pub OneIs : Part → ℕ → List ℕ → ℕ → Type 0
OneIs Closes q bs at = meant q (drop at bs) 0 ≡ []
OneIs (One c n) q bs at = (0 < n) × (at + n ≤ length bs) × (meant q (drop at bs) 0 ≡ c ∷ meant q (drop (at + n) bs) 0)
OneIs (Two c) q bs at = (at + 2 ≤ length bs) × (meant q (drop at bs) 0 ≡ 92 ∷ c ∷ meant q (drop (at + 2) bs) 0)

one_here : (p : Part) (q : ℕ) (bs : List ℕ) (at : ℕ) → PartIs p q (drop at bs) → OnPart (length (drop at bs)) p → at < length bs → OneIs p q bs at
one_here Closes q bs at i w lt = i
one_here (One c n) q bs at i w lt =
    let k = w.1 in
    let d : drop n (drop at bs) ≡ drop (at + n) bs = drop-drop n at bs in
    (w.0, omega (arith, k, lt, length-drop at bs), i ∙ ap (λ (x : List ℕ). c ∷ meant q x 0) d)
one_here (Two c) q bs at i w lt =
    let d : drop 2 (drop at bs) ≡ drop (at + 2) bs = drop-drop 2 at bs in
    (omega (arith, w, lt, length-drop at bs), i ∙ ap (λ (x : List ℕ). 92 ∷ c ∷ meant q x 0) d)

pub one_at : (p : Part) (q : ℕ) (bs : List ℕ) (at : ℕ) → p ≡ part q (drop at bs) → at < length bs → OneIs p q bs at
one_at p q bs at e lt =
    let a = any_part p q (drop at bs) e (omega (arith, lt, length-drop at bs)) in
    one_here p q bs at a.0 a.1 lt

pub no_meaning : (q : ℕ) (bs : List ℕ) (at : ℕ) → length bs ≤ at → meant q (drop at bs) 0 ≡ []
no_meaning q bs at h = ap (λ (x : List ℕ). meant q x 0) (no_more at bs h)

abbrev pub StripsTwo : ℕ → List ℕ → List ℕ → Option (List ℕ) → Type 0
StripsTwo c s xs None = bytes_eq (92 ∷ c ∷ xs) s ≡ false
StripsTwo c s xs (Some r) = bytes_eq (92 ∷ c ∷ xs) s ≡ bytes_eq xs r

turn : (a : ℕ) → (a == 92) ≡ true → (92 == a) ≡ true
turn a h = let e = eqb-true a 92 h in rw e refl

turn_not : (a : ℕ) → (a == 92) ≡ false → (92 == a) ≡ false
turn_not a h = ne_eqb 92 a (λ e. let k = eq-eqb a 92 (sym e) in cc)

strips_two : (c : ℕ) (s xs : List ℕ) → StripsTwo c s xs (strip_two_of c s)
strips_two c [] xs = refl
strips_two c (a ∷ []) xs = two_short (92 == a)
  where
    two_short : (x : Bool) → (x && false) ≡ false
    two_short true = refl
    two_short false = refl
strips_two c (a ∷ b ∷ s) xs = strip_on (StripsTwo c (a ∷ b ∷ s) xs) (a == 92 && c == b) (Some s) None (λ h. yes (a == 92) (c == b) h (turn a)) (λ h. nope (a == 92) (c == b) h (turn a) (turn_not a))
  where
    yes : (x y : Bool) → (x && y) ≡ true → (x ≡ true → (92 == a) ≡ true) → (92 == a && (y && bytes_eq xs s)) ≡ bytes_eq xs s
    yes true true h f = let k = f refl in rw k refl
    yes true false h f = absurd cc
    yes false y h f = absurd cc

    nope : (x y : Bool) → (x && y) ≡ false → (x ≡ true → (92 == a) ≡ true) → (x ≡ false → (92 == a) ≡ false) → (92 == a && (y && bytes_eq xs s)) ≡ false
    nope true true h f g = absurd cc
    nope true false h f g = let k = f refl in rw k refl
    nope false y h f g = let k = g refl in rw k refl

pub strips_two_by : (c : ℕ) (s xs : List ℕ) (o : Option (List ℕ)) → strip_two_of c s ≡ o → StripsTwo c s xs o
strips_two_by c s xs o e = subst (StripsTwo c s xs) e (strips_two c s xs)
