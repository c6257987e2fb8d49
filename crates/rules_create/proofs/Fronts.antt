-- What stands behind a front, and the place of a foreign key among others.
use Rattle.std.specs.Prelude.{◌≡◌, ◌≢◌, ℕ, ◌==◌, ◌+◌, ◌<◌, ◌≤◌, Bool, true, false, List, [], ◌∷◌, ◌++◌, Option, Some, None, length, take, drop, if◌then◌else◌, refl}
use Rattle.std.specs.List.{insert}
use Rattle.std.specs.Option.{MatchOption, option_copied}
use Rattle.std.specs.Str.Pattern.{FindsTextPrefix, StripsPrefix}
use Rattle.std.specs.Ordering.{is_le}
use Rattle.std.proofs.Common.{sym, ◌∙◌, ap, get_or, append_assoc}
use Rattle.std.proofs.lemmas.Bool.Decides.{Decides-eqb}
use Rattle.std.proofs.lemmas.List.{take_more, drop_more, drop_all}
use Rattle.dd_names.specs.Names.{fold, name_cmp}
use Rattle.dd_definitions.specs.declared.foreign_keys.ForeignKeyDef.{ForeignKeyDef}
use Rattle.rules_create.specs.Tables.{behind, put_in_order}
use denote.Ref.{Bor}

pub behind_is : (front rest : List ℕ) → behind front (front ++ rest) ≡ Some rest
behind_is [] rest = refl
behind_is (c ∷ front) rest = ap (λ b. if b then behind front (front ++ rest) else None) ((Decides-eqb c c).1 refl) ∙ behind_is front rest

pub behind_none : (front text : List ℕ) → ((rest : List ℕ) → text ≢ front ++ rest) → behind front text ≡ None
behind_none [] text lacks = absurd (lacks text refl)
behind_none (c ∷ front) [] lacks = refl
behind_none (c ∷ front) (d ∷ text) lacks = on (c == d) refl (behind_none front text)
  where
    on : (b : Bool) → (c == d) ≡ b → (((rest : List ℕ) → text ≢ front ++ rest) → behind front text ≡ None) → (if b then behind front text else None) ≡ None
    on true is none = none (λ rest e. lacks rest (ap (λ x. x ∷ text) (sym ((Decides-eqb c d).0 is)) ∙ ap (λ l. c ∷ l) e))
    on false is none = refl

pub behind_stripped : (front text : List ℕ) (r : Option (Bor (List ℕ))) → MatchOption r (FindsTextPrefix front text None) (λ x. StripsPrefix (FindsTextPrefix front) text x.now) → option_copied r ≡ behind front text
behind_stripped front text None lacks = sym (behind_none front text lacks)
behind_stripped front text (Some x) found = ap (λ l. Some l) found.2 ∙ sym (ap (behind front) found.1.1 ∙ behind_is front (drop found.0 text))

-- ## In order

abbrev comes_first : ForeignKeyDef → ForeignKeyDef → Bool
comes_first a b = is_le (name_cmp (fold a.name) (fold b.name))

-- the foreign keys before this place stand in front of the key
pub record StandBefore (key : ForeignKeyDef) (keys : List ForeignKeyDef) (at : ℕ) : Type 0 where
  pub rest : put_in_order key keys ≡ take at keys ++ put_in_order key (drop at keys)

from_item : (keys : List ForeignKeyDef) (at : ℕ) (next : ForeignKeyDef) → at < length keys → next ≡ get_or keys at next → drop at keys ≡ next ∷ drop (at + 1) keys
from_item keys at next lt is = drop_more keys at next lt ∙ ap (λ y. y ∷ drop (at + 1) keys) (sym is)

pub none_before : (key : ForeignKeyDef) (keys : List ForeignKeyDef) → StandBefore key keys 0
none_before key keys = record { rest = refl }

pub one_before : (key : ForeignKeyDef) (keys : List ForeignKeyDef) (at : ℕ) (next : ForeignKeyDef) → at < length keys → next ≡ get_or keys at next → comes_first next key ≡ true → StandBefore key keys at → StandBefore key keys (at + 1)
one_before key keys at next lt is first before =
    let here : put_in_order key (drop at keys) ≡ next ∷ put_in_order key (drop (at + 1) keys) =
    ap (put_in_order key) (from_item keys at next lt is) ∙ ap (λ b. if b then next ∷ put_in_order key (drop (at + 1) keys) else key ∷ next ∷ drop (at + 1) keys) first in
    let more : take (at + 1) keys ≡ take at keys ++ next ∷ [] = take_more keys at next lt ∙ ap (λ y. take at keys ++ y ∷ []) (sym is) in
    record {
      rest = before.rest ∙ ap (λ l. take at keys ++ l) here ∙ sym (append_assoc (take at keys) (next ∷ []) (put_in_order key (drop (at + 1) keys))) ∙ ap (λ l. l ++ put_in_order key (drop (at + 1) keys)) (sym more);
    }

pub stands_here : (key : ForeignKeyDef) (keys : List ForeignKeyDef) (at : ℕ) (next : ForeignKeyDef) → at < length keys → next ≡ get_or keys at next → comes_first next key ≡ false → StandBefore key keys at → insert keys at key ≡ put_in_order key keys
stands_here key keys at next lt is behind before =
    let rest : drop at keys ≡ next ∷ drop (at + 1) keys = from_item keys at next lt is in
    let here : put_in_order key (drop at keys) ≡ key ∷ next ∷ drop (at + 1) keys =
    ap (put_in_order key) rest ∙ ap (λ b. if b then next ∷ put_in_order key (drop (at + 1) keys) else key ∷ next ∷ drop (at + 1) keys) behind in
    ap (λ l. take at keys ++ key ∷ l) rest ∙ sym (before.rest ∙ ap (λ l. take at keys ++ l) here)

pub stands_last : (key : ForeignKeyDef) (keys : List ForeignKeyDef) (at : ℕ) → length keys ≤ at → StandBefore key keys at → insert keys at key ≡ put_in_order key keys
stands_last key keys at le before =
    let none : drop at keys ≡ [] = drop_all at keys le in
    ap (λ l. take at keys ++ key ∷ l) none ∙ sym (before.rest ∙ ap (λ l. take at keys ++ put_in_order key l) none)
