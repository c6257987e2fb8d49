-- Foreign keys by their new names and parents, and in order.
use Rattle.std.specs.Prelude.{◌≡◌, ℕ, ◌+◌, ◌<◌, ◌≤◌, ◌==◌, Bool, true, false, not, ◌&&◌, nat_lt, List, [], ◌∷◌, ◌++◌, map, length, take, drop, position, Option, Some, None, if◌then◌else◌, refl}
use Rattle.std.specs.List.{list_all}
use Rattle.std.specs.Char.{is_ascii_digit}
use Rattle.std.proofs.Common.{sym, ◌∙◌, ap, get_or}
use Rattle.std.proofs.lemmas.Bool.{cond_both}
use Rattle.std.proofs.lemmas.List.{map-append, drop_all, take_all}
use Rattle.dd_names.specs.Names.{name_fault, fault_after, fault_of_good, is_name_byte}
use Rattle.dd_names.specs.declared.object_name.ObjName.{ObjName}
use Rattle.dd_names.specs.declared.name.NameFault.{NameFault}
use Rattle.dd_names.specs.declared.name.NameFault.TheVariants.{Empty, BadCharacter, DigitsOnly, TooLong}
use Rattle.dd_errors.specs.Errors.{ErrorValue}
use Rattle.dd_definitions.specs.declared.foreign_keys.ForeignKeyDef.{ForeignKeyDef}
use Rattle.dd_catalog.specs.declared.stop.Stop.{Stop}
use Rattle.dd_catalog.specs.Catalog.{is_same_object}
use Rattle.dd_catalog.specs.Walks.{Walk, Found, fine, run, refuse_if, every}
use Rattle.dd_catalog.specs.WalkLaws.{Look, go_on, run_bind}
use Rattle.dd_catalog.specs.Follow.{Stops}
use Rattle.dd_catalog.specs.LoopLaws.{goes_on, stops_all}
use Rattle.rules_refusals.specs.Refusals.{too_long_ident}
use Rattle.rules_create.specs.Tables.{put_in_order}
use Rattle.rules_rename.specs.Renames.{with_parent, renamed_constraint, renamed_key, fits_in_name, in_order}
use Rattle.rules_rename.proofs.Places.{from_item, up_to_item}

-- ## Names

good_is_short : (text : List ℕ) → fault_of_good text true ≡ None → nat_lt 64 (length text) ≡ false
good_is_short text is = on (nat_lt 64 (length text)) is
  where
    on : (b : Bool) → (if b then Some TooLong else None) ≡ None → b ≡ false
    on true e = cc
    on false e = refl

long_is_long : (text : List ℕ) → fault_of_good text true ≡ Some TooLong → nat_lt 64 (length text) ≡ true
long_is_long text is = on (nat_lt 64 (length text)) is
  where
    on : (b : Bool) → (if b then Some TooLong else None) ≡ Some TooLong → b ≡ true
    on true e = refl
    on false e = cc

-- a text that is a name has at most 64 characters
pub name_is_short : (text : List ℕ) → name_fault text true ≡ None → nat_lt 64 (length text) ≡ false
name_is_short text is = on (length text == 0) (position (λ c. not (is_name_byte c)) text) is
  where
    on : (b : Bool) (bad : Option ℕ) → (if b then Some Empty else fault_after bad text true) ≡ None → nat_lt 64 (length text) ≡ false
    on true bad e = cc
    on false (Some at) e = cc
    on false None e = good_is_short text e

pub long_name_is_long : (text : List ℕ) → name_fault text true ≡ Some TooLong → nat_lt 64 (length text) ≡ true
long_name_is_long text is = on (length text == 0) (position (λ c. not (is_name_byte c)) text) is
  where
    on : (b : Bool) (bad : Option ℕ) → (if b then Some Empty else fault_after bad text true) ≡ Some TooLong → nat_lt 64 (length text) ≡ true
    on true bad e = cc
    on false (Some at) e = cc
    on false None e = long_is_long text e

-- ## One foreign key

-- a name may be given before or after the parent
pub name_then_parent : (from to : ObjName) (key : ForeignKeyDef) (name : List ℕ) → record (with_parent from to key) { name = name } ≡ with_parent from to (record key { name = name })
name_then_parent from to key name = on (is_same_object key.parent from)
  where
    on : (b : Bool) → record (if b then record key { parent = to } else key) { name = name } ≡ (if b then record key { name = name; parent = to } else record key { name = name })
    on true = refl
    on false = refl

pub renamed_name : (from to : ObjName) (key : ForeignKeyDef) → (renamed_key from to key).name ≡ renamed_constraint from.name to.name key.name
unfolding renamed_key
renamed_name from to key = on (is_same_object key.parent from)
  where
    new : ForeignKeyDef
    new = record key { name = renamed_constraint from.name to.name key.name }

    on : (b : Bool) → (if b then record new { parent = to } else new).name ≡ renamed_constraint from.name to.name key.name
    on true = refl
    on false = refl

pub fits_is : (from to : ObjName) (key : ForeignKeyDef) (look : Look) → run look (fits_in_name (renamed_key from to key))
    ≡ run look (refuse_if (nat_lt 64 (length (renamed_constraint from.name to.name key.name))) (too_long_ident (renamed_constraint from.name to.name key.name)))
unfolding fits_in_name
fits_is from to key look = ap (λ n. run look (refuse_if (nat_lt 64 (length n)) (too_long_ident n))) (renamed_name from to key)

-- ## All that fit

fit_at : (from to : ObjName) (look : Look) (keys : List ForeignKeyDef) (at : ℕ) (key : ForeignKeyDef) → at < length keys → key ≡ get_or keys at key
    → run look (every fits_in_name (map (renamed_key from to) (drop at keys))) ≡ go_on (run look (fits_in_name (renamed_key from to key))) (λ _. run look (every fits_in_name (map (renamed_key from to) (drop (at + 1) keys))))
fit_at from to look keys at key lt is =
    ap (λ rest. run look (every fits_in_name (map (renamed_key from to) rest))) (from_item keys at key lt is) ∙ run_bind look (fits_in_name (renamed_key from to key)) _

pub fit_step : (from to : ObjName) (look : Look) (keys : List ForeignKeyDef) (at : ℕ) (key : ForeignKeyDef) (total : Found ErrorValue (Unit {0})) → at < length keys → key ≡ get_or keys at key
    → run look (fits_in_name (renamed_key from to key)) ≡ fine tt → run look (every fits_in_name (map (renamed_key from to) (drop at keys))) ≡ total → run look (every fits_in_name (map (renamed_key from to) (drop (at + 1) keys))) ≡ total
fit_step from to look keys at key total lt is fits so_far =
    goes_on (run look (fits_in_name (renamed_key from to key))) (λ _. run look (every fits_in_name (map (renamed_key from to) (drop (at + 1) keys)))) tt total fits (sym (fit_at from to look keys at key lt is) ∙ so_far)

pub fit_stop : (stop : Stop) (from to : ObjName) (look : Look) (keys : List ForeignKeyDef) (at : ℕ) (key : ForeignKeyDef) (total : Found ErrorValue (Unit {0})) → at < length keys → key ≡ get_or keys at key
    → Stops stop (run look (fits_in_name (renamed_key from to key))) → run look (every fits_in_name (map (renamed_key from to) (drop at keys))) ≡ total → Stops stop total
fit_stop stop from to look keys at key total lt is stopped so_far = stops_all stop (run look (fits_in_name (renamed_key from to key))) _ total stopped (sym (fit_at from to look keys at key lt is) ∙ so_far)

pub fit_end : (from to : ObjName) (look : Look) (keys : List ForeignKeyDef) (at : ℕ) (total : Found ErrorValue (Unit {0})) → length keys ≤ at
    → run look (every fits_in_name (map (renamed_key from to) (drop at keys))) ≡ total → total ≡ fine tt
fit_end from to look keys at total le so_far = sym so_far ∙ ap (λ rest. run look (every fits_in_name (map (renamed_key from to) rest))) (drop_all at keys le)

pub renamed_more : (from to : ObjName) (keys : List ForeignKeyDef) (at : ℕ) (key : ForeignKeyDef) (found : List ForeignKeyDef) → at < length keys → key ≡ get_or keys at key → found ≡ map (renamed_key from to) (take at keys)
    → found ++ renamed_key from to key ∷ [] ≡ map (renamed_key from to) (take (at + 1) keys)
renamed_more from to keys at key found lt is so_far =
    ap (λ l. l ++ renamed_key from to key ∷ []) so_far ∙ sym (map-append (renamed_key from to) (take at keys) (key ∷ [])) ∙ ap (map (renamed_key from to)) (sym (up_to_item keys at key lt is))

pub renamed_all : (from to : ObjName) (keys : List ForeignKeyDef) (at : ℕ) (found : List ForeignKeyDef) → length keys ≤ at → found ≡ map (renamed_key from to) (take at keys) → found ≡ map (renamed_key from to) keys
renamed_all from to keys at found le so_far = so_far ∙ ap (map (renamed_key from to)) (take_all at keys le)

-- ## In order

-- those of the first list put among the others
abbrev pub in_order_among : List ForeignKeyDef → List ForeignKeyDef → List ForeignKeyDef
in_order_among [] found = found
in_order_among (key ∷ keys) found = put_in_order key (in_order_among keys found)

pub among_none : (keys : List ForeignKeyDef) → in_order_among keys [] ≡ in_order keys
among_none [] = refl
among_none (key ∷ keys) = ap (put_in_order key) (among_none keys)

pub among_last : (keys : List ForeignKeyDef) (key : ForeignKeyDef) (found : List ForeignKeyDef) → in_order_among (keys ++ key ∷ []) found ≡ in_order_among keys (put_in_order key found)
among_last [] key found = refl
among_last (k ∷ keys) key found = ap (put_in_order k) (among_last keys key found)
