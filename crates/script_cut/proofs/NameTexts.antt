-- A name that needs no quotes is text.
use Rattle.std.proofs.Common.{◌≡◌, refl, ℕ, ◌<◌, Bool, true, false, List, [], ◌∷◌, arith, Option, None, Some, is_none}
use Rattle.std.specs.List.{list_all}
use Rattle.std.specs.Str.{IsUtf8, IsAscii}
use Rattle.std.proofs.lemmas.Str.{IsUtf8-from_ascii}
use Rattle.std.proofs.lemmas.Str.Ascii.{IsAscii-nil, IsAscii-cons}
use Rattle.std.proofs.lemmas.Bool.Decides.{nat_tests}
use Rattle.dd_names.specs.Names.{is_name_byte, name_fault}
use Rattle.dd_names.specs.declared.name.NameFault.{NameFault}
use Rattle.dd_names.proofs.Reading.{name_from_none}
use Rattle.std.specs.Prelude.{◌&&◌}
use Rattle.script_cut.specs.Names.{is_plain_name}

small : (c : ℕ) → is_name_byte c ≡ true → c < 128
small c h = grind (arith, nat_tests)

both : (a b : Bool) → (a && b) ≡ true → (a ≡ true) × (b ≡ true)
both true b h = (refl, h)
both false b h = absurd cc

ascii : (w : List ℕ) → list_all is_name_byte w ≡ true → IsAscii w
ascii [] h = IsAscii-nil
ascii (b ∷ w) h = let k = both (is_name_byte b) (list_all is_name_byte w) h in IsAscii-cons b w (small b k.0) (ascii w k.1)

no_fault : (o : Option NameFault) → is_none o ≡ true → o ≡ None
no_fault None h = refl
no_fault (Some x) h = absurd cc

pub name_is_text : (w : List ℕ) → is_none (name_fault w false) ≡ true → IsUtf8 w
name_is_text w h = IsUtf8-from_ascii w (ascii w (name_from_none w false (no_fault (name_fault w false) h)).each)

form_of : (w : List ℕ) → is_plain_name w ≡ true → is_none (name_fault w false) ≡ true
unfolding is_plain_name
form_of w h = (both (is_none (name_fault w false)) _ h).0

-- a name that needs no quotes has no fault
pub plain_has_no_fault : (w : List ℕ) → is_plain_name w ≡ true → name_fault w false ≡ None
plain_has_no_fault w h = no_fault (name_fault w false) (form_of w h)

-- and is text
pub plain_is_text : (w : List ℕ) → is_plain_name w ≡ true → IsUtf8 w
plain_is_text w h = name_is_text w (form_of w h)
