-- A string that is written with its escapes ends at its closing quote, and means the string.
use Rattle.std.proofs.Common.{◌≡◌, ℕ, ◌+◌, Bool, true, false, List, [], ◌∷◌, ◌++◌, length, Option, Some, refl, sym, ap, subst, ◌∙◌, ◌⊎◌, inl, inr, arith}
use Rattle.std.specs.Prelude.{◌==◌}
use Rattle.std.proofs.lemmas.Bool.{eqb-true}
use Rattle.sql_lex.specs.declared.reach.Until.TheVariants.{Quote}
use Rattle.sql_lex.specs.Strings.{meant}
use Rattle.sql_lex.specs.Ends.{longer, reach}
use Rattle.sql_pieces.specs.Pieces.{escaped_byte, escaped, begins_with}

pub either : (b : Bool) → (b ≡ true) ⊎ (b ≡ false)
either true = inl refl
either false = inr refl

-- what a byte is written as
abbrev View : ℕ → Type 0
View b = (b ≡ 39) ⊎ ((b ≡ 92) ⊎ ((b ≡ 10) ⊎ ((b ≡ 13) ⊎ ((b ≡ 0) ⊎ (((b == 39) ≡ false) × ((b == 92) ≡ false) × (escaped_byte b ≡ b ∷ []))))))

view : (b : ℕ) → View b
view b = elim (either (b == 39)) [
  | inl h ↦ inl (eqb-true b 39 h)
  | inr h39 ↦ elim (either (b == 92)) [
    | inl h ↦ inr (inl (eqb-true b 92 h))
    | inr h92 ↦ elim (either (b == 10)) [
      | inl h ↦ inr (inr (inl (eqb-true b 10 h)))
      | inr h10 ↦ elim (either (b == 13)) [
        | inl h ↦ inr (inr (inr (inl (eqb-true b 13 h))))
        | inr h13 ↦ elim (either (b == 0)) [
          | inl h ↦ inr (inr (inr (inr (inl (eqb-true b 0 h)))))
          | inr h0 ↦ inr (inr (inr (inr (inr (h39, h92, rw (h39, h92, h10, h13, h0) refl)))))
        ]
      ]
    ]
  ]
]

-- ---- where it ends

abbrev Ends : List ℕ → List ℕ → Type 0
Ends es rest = reach (Quote 39) (es ++ 39 ∷ rest) 0 ≡ Some (length es + 1)

two_more : (x y : ℕ) (es : List ℕ) (n : Option ℕ) → n ≡ Some (length es + 1) → longer 1 (longer 1 n) ≡ Some (length (x ∷ y ∷ es) + 1)
two_more x y es n e = ap (λ (m : Option ℕ). longer 1 (longer 1 m)) e ∙ ap (λ (m : ℕ). Some m) (let h : 1 + (1 + (length es + 1)) ≡ length (x ∷ y ∷ es) + 1 = omega arith in h)

one_plain : (b c : ℕ) (bs : List ℕ) → (b == 39) ≡ false → (b == 92) ≡ false → reach (Quote 39) (b ∷ c ∷ bs) 0 ≡ longer 1 (reach (Quote 39) (c ∷ bs) 0)
one_plain b c bs h k = rw (k, h) refl

plain : (b : ℕ) (es rest : List ℕ) → (b == 39) ≡ false → (b == 92) ≡ false → reach (Quote 39) (b ∷ (es ++ 39 ∷ rest)) 0 ≡ longer 1 (reach (Quote 39) (es ++ 39 ∷ rest) 0)
plain b [] rest h k = one_plain b 39 rest h k
plain b (e ∷ es) rest h k = one_plain b e (es ++ 39 ∷ rest) h k

ends_more : (b : ℕ) (es rest : List ℕ) → View b → Ends es rest → Ends (escaped_byte b ++ es) rest
ends_more b es rest (inl e) p = subst (λ (x : ℕ). Ends (escaped_byte x ++ es) rest) (sym e) (two_more 39 39 es (reach (Quote 39) (es ++ 39 ∷ rest) 0) p)
ends_more b es rest (inr (inl e)) p = subst (λ (x : ℕ). Ends (escaped_byte x ++ es) rest) (sym e) (two_more 92 92 es (reach (Quote 39) (es ++ 39 ∷ rest) 0) p)
ends_more b es rest (inr (inr (inl e))) p = subst (λ (x : ℕ). Ends (escaped_byte x ++ es) rest) (sym e) (two_more 92 110 es (reach (Quote 39) (es ++ 39 ∷ rest) 0) p)
ends_more b es rest (inr (inr (inr (inl e)))) p = subst (λ (x : ℕ). Ends (escaped_byte x ++ es) rest) (sym e) (two_more 92 114 es (reach (Quote 39) (es ++ 39 ∷ rest) 0) p)
ends_more b es rest (inr (inr (inr (inr (inl e))))) p = subst (λ (x : ℕ). Ends (escaped_byte x ++ es) rest) (sym e) (two_more 92 48 es (reach (Quote 39) (es ++ 39 ∷ rest) 0) p)
ends_more b es rest (inr (inr (inr (inr (inr h))))) p =
    subst (λ (x : List ℕ). Ends (x ++ es) rest) (sym h.2)
    (plain b es rest h.0 h.1 ∙ ap (λ (m : Option ℕ). longer 1 m) p ∙ ap (λ (m : ℕ). Some m) (let k : 1 + (length es + 1) ≡ length (b ∷ es) + 1 = omega arith in k))

pub string_ends : (s rest : List ℕ) → begins_with 39 rest ≡ false → reach (Quote 39) (escaped s ++ 39 ∷ rest) 0 ≡ Some (length (escaped s) + 1)
string_ends [] [] e = refl
string_ends [] (c ∷ cs) e = rw e refl
string_ends (b ∷ s) rest e = ends_more b (escaped s) rest (view b) (string_ends s rest e)

-- ---- what it means

abbrev Means : List ℕ → List ℕ → Type 0
Means es s = meant 39 (es ++ 39 ∷ []) 0 ≡ s

meant_one : (b c : ℕ) (bs : List ℕ) → (b == 39) ≡ false → (b == 92) ≡ false → meant 39 (b ∷ c ∷ bs) 0 ≡ b ∷ meant 39 (c ∷ bs) 0
meant_one b c bs h k = rw (k, h) refl

meant_plain : (b : ℕ) (es : List ℕ) → (b == 39) ≡ false → (b == 92) ≡ false → meant 39 (b ∷ (es ++ 39 ∷ [])) 0 ≡ b ∷ meant 39 (es ++ 39 ∷ []) 0
meant_plain b [] h k = meant_one b 39 [] h k
meant_plain b (e ∷ es) h k = meant_one b e (es ++ 39 ∷ []) h k

means_more : (b : ℕ) (es s : List ℕ) → View b → Means es s → Means (escaped_byte b ++ es) (b ∷ s)
means_more b es s (inl e) p = subst (λ (x : ℕ). Means (escaped_byte x ++ es) (x ∷ s)) (sym e) (ap (λ (y : List ℕ). 39 ∷ y) p)
means_more b es s (inr (inl e)) p = subst (λ (x : ℕ). Means (escaped_byte x ++ es) (x ∷ s)) (sym e) (ap (λ (y : List ℕ). 92 ∷ y) p)
means_more b es s (inr (inr (inl e))) p = subst (λ (x : ℕ). Means (escaped_byte x ++ es) (x ∷ s)) (sym e) (ap (λ (y : List ℕ). 10 ∷ y) p)
means_more b es s (inr (inr (inr (inl e)))) p = subst (λ (x : ℕ). Means (escaped_byte x ++ es) (x ∷ s)) (sym e) (ap (λ (y : List ℕ). 13 ∷ y) p)
means_more b es s (inr (inr (inr (inr (inl e))))) p = subst (λ (x : ℕ). Means (escaped_byte x ++ es) (x ∷ s)) (sym e) (ap (λ (y : List ℕ). 0 ∷ y) p)
means_more b es s (inr (inr (inr (inr (inr h))))) p =
    subst (λ (x : List ℕ). Means (x ++ es) (b ∷ s)) (sym h.2) (meant_plain b es h.0 h.1 ∙ ap (λ (y : List ℕ). b ∷ y) p)

pub string_means : (s : List ℕ) → meant 39 (escaped s ++ 39 ∷ []) 0 ≡ s
string_means [] = refl
string_means (b ∷ s) = means_more b (escaped s) s (view b) (string_means s)
