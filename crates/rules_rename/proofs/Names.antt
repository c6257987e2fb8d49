-- Names put in order, and the place of one among others.
use Rattle.std.specs.Prelude.{◌≡◌, ℕ, ◌+◌, ◌<◌, ◌≤◌, true, false, List, [], ◌∷◌, ◌++◌, length, take, drop, if◌then◌else◌, refl}
use Rattle.std.specs.List.{insert}
use Rattle.std.specs.Ordering.{is_le}
use Rattle.std.proofs.Common.{sym, ◌∙◌, ap, get_or, append_assoc}
use Rattle.std.proofs.lemmas.List.{drop_all}
use Rattle.dd_names.specs.declared.object_name.ObjName.{ObjName}
use Rattle.dd_catalog.specs.Catalog.{object_cmp}
use Rattle.rules_rename.specs.Overlays.{put_name, put_names}
use Rattle.rules_rename.proofs.Places.{from_item, up_to_item}

pub names_last : (more : List ObjName) (name : ObjName) (names : List ObjName) → put_names (more ++ name ∷ []) names ≡ put_names more (put_name name names)
names_last [] name names = refl
names_last (m ∷ more) name names = ap (put_name m) (names_last more name names)

-- the names before this place come no later than that one
pub record NamesBefore (name : ObjName) (names : List ObjName) (at : ℕ) : Type 0 where
  pub rest : put_name name names ≡ take at names ++ put_name name (drop at names)

pub no_name_before : (name : ObjName) (names : List ObjName) → NamesBefore name names 0
no_name_before name names = record { rest = refl }

pub one_name_before : (name : ObjName) (names : List ObjName) (at : ℕ) (next : ObjName) → at < length names → next ≡ get_or names at next → is_le (object_cmp next name) ≡ true → NamesBefore name names at → NamesBefore name names (at + 1)
one_name_before name names at next lt is first before =
    let here : put_name name (drop at names) ≡ next ∷ put_name name (drop (at + 1) names) =
    ap (put_name name) (from_item names at next lt is) ∙ ap (λ b. if b then next ∷ put_name name (drop (at + 1) names) else name ∷ next ∷ drop (at + 1) names) first in
    record {
      rest = before.rest ∙ ap (λ l. take at names ++ l) here ∙ sym (append_assoc (take at names) (next ∷ []) (put_name name (drop (at + 1) names))) ∙ ap (λ l. l ++ put_name name (drop (at + 1) names)) (sym (up_to_item names at next lt is));
    }

pub name_stands_here : (name : ObjName) (names : List ObjName) (at : ℕ) (next : ObjName) → at < length names → next ≡ get_or names at next → is_le (object_cmp next name) ≡ false → NamesBefore name names at → insert names at name ≡ put_name name names
name_stands_here name names at next lt is behind before =
    let rest : drop at names ≡ next ∷ drop (at + 1) names = from_item names at next lt is in
    let here : put_name name (drop at names) ≡ name ∷ next ∷ drop (at + 1) names =
    ap (put_name name) rest ∙ ap (λ b. if b then next ∷ put_name name (drop (at + 1) names) else name ∷ next ∷ drop (at + 1) names) behind in
    ap (λ l. take at names ++ name ∷ l) rest ∙ sym (before.rest ∙ ap (λ l. take at names ++ l) here)

pub name_stands_last : (name : ObjName) (names : List ObjName) (at : ℕ) → length names ≤ at → NamesBefore name names at → insert names at name ≡ put_name name names
name_stands_last name names at le before =
    let none : drop at names ≡ [] = drop_all at names le in
    ap (λ l. take at names ++ name ∷ l) none ∙ sym (before.rest ∙ ap (λ l. take at names ++ put_name name l) none)
