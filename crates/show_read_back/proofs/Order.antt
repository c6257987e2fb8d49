-- A foreign key that comes last in order stays behind the others.
use Rattle.std.specs.Prelude.{◌≡◌, ℕ, Bool, true, List, [], ◌∷◌, ◌++◌, refl}
use Rattle.std.specs.declared.cmp.Ordering.{Ordering}
use Rattle.std.specs.declared.cmp.Ordering.TheVariants.{Less, Equal, Greater}
use Rattle.std.specs.Ordering.{is_le, ordering_reverse}
use Rattle.std.proofs.Common.{sym, ◌∙◌, ap}
use Rattle.std.proofs.lemmas.Bool.{and_parts, cond-true}
use Rattle.std.proofs.lemmas.Cmp.{nat_list_cmp_total}
use Rattle.dd_names.specs.Names.{fold, name_cmp}
use Rattle.dd_definitions.specs.ForeignKeys.{is_before_next, are_in_order}
use Rattle.dd_definitions.specs.declared.foreign_keys.ForeignKeyDef.{ForeignKeyDef}
use Rattle.rules_create.specs.Tables.{put_in_order}

-- of three names in order the first comes before the last
through : (x y z : List ℕ) → is_le (name_cmp x y) ≡ true → is_le (name_cmp y z) ≡ true → is_le (name_cmp x z) ≡ true
through x y z one other = at (name_cmp x y) (name_cmp y z) refl refl one other
  where
    at : (a b : Ordering) → name_cmp x y ≡ a → name_cmp y z ≡ b → is_le a ≡ true → is_le b ≡ true → is_le (name_cmp x z) ≡ true
    at Less Less e f h k = ap is_le (nat_list_cmp_total.trans x y z e f)
    at Less Equal e f h k =
        let back : name_cmp z y ≡ Equal = nat_list_cmp_total.antisymm z y ∙ ap ordering_reverse f in
        ap is_le (nat_list_cmp_total.antisymm x z ∙ ap ordering_reverse (nat_list_cmp_total.congr z y x back) ∙ sym (nat_list_cmp_total.antisymm x y) ∙ e)
    at Less Greater e f h k = absurd cc
    at Equal b e f h k = ap is_le (nat_list_cmp_total.congr x y z e ∙ f) ∙ k
    at Greater b e f h k = absurd cc

abbrev comes_first : ForeignKeyDef → ForeignKeyDef → Bool
comes_first a b = is_le (name_cmp (fold a.name) (fold b.name))

first_of : (b : ForeignKeyDef) (bs : List ForeignKeyDef) (key : ForeignKeyDef) (keys : List ForeignKeyDef) → is_before_next b (bs ++ key ∷ keys) ≡ true → are_in_order (bs ++ key ∷ keys) ≡ true → comes_first b key ≡ true
unfolding is_before_next
first_of b [] key keys first ordered = first
first_of b (n ∷ ns) key keys first ordered =
    let (next, rest) = and_parts (is_before_next n (ns ++ key ∷ keys)) (are_in_order (ns ++ key ∷ keys)) ordered in
    through (fold b.name) (fold n.name) (fold key.name) first (first_of n ns key keys next rest)

pub put_last : (before : List ForeignKeyDef) (key : ForeignKeyDef) (keys : List ForeignKeyDef) → are_in_order (before ++ key ∷ keys) ≡ true → put_in_order key before ≡ before ++ key ∷ []
put_last [] key keys ordered = refl
put_last (b ∷ bs) key keys ordered =
    let (first, rest) = and_parts (is_before_next b (bs ++ key ∷ keys)) (are_in_order (bs ++ key ∷ keys)) ordered in
    cond-true (comes_first b key) (b ∷ put_in_order key bs) (key ∷ b ∷ bs) (first_of b bs key keys first rest) ∙ ap (λ (ks : List ForeignKeyDef). b ∷ ks) (put_last bs key keys rest)
