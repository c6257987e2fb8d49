-- The characters of names are text.
use Rattle.std.proofs.Common.{◌≡◌, ℕ, zero, suc, ◌<◌, true, List, [], ◌∷◌, length, nat_lt, arith}
use Rattle.std.specs.List.{list_all}
use Rattle.std.specs.Str.{IsAscii, IsUtf8, is_utf8}
use Rattle.std.proofs.lemmas.Str.{IsUtf8-from_ascii, IsUtf8-from_is_utf8}
use Rattle.std.proofs.lemmas.Bool.Decides.{nat_tests}
use Rattle.sql_grammar.proofs.Bits.{and_true}
use Rattle.dd_names.specs.Names.{is_name_byte}
use Rattle.sql_read.specs.Tokens.{is_name_text}

name_byte_is_small : (b : ℕ) → is_name_byte b ≡ true → b < 128
name_byte_is_small b h = grind (arith, nat_tests)

name_is_ascii : (w : List ℕ) → list_all is_name_byte w ≡ true → IsAscii w
name_is_ascii [] h i = omega arith
name_is_ascii (b ∷ bs) h zero = name_byte_is_small b (and_true (is_name_byte b) (list_all is_name_byte bs) h).0
name_is_ascii (b ∷ bs) h (suc i) = name_is_ascii bs (and_true (is_name_byte b) (list_all is_name_byte bs) h).1 i

pub name_is_text : (w : List ℕ) → is_name_text w ≡ true → IsUtf8 w
name_is_text w h = IsUtf8-from_ascii w (name_is_ascii w (and_true (nat_lt 0 (length w)) (list_all is_name_byte w) h).1)

pub text_is_utf8 : (w : List ℕ) → is_utf8 w ≡ true → IsUtf8 w
text_is_utf8 w h = IsUtf8-from_is_utf8 w h
