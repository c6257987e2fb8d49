-- A name in lower case is a name.
use Rattle.std.proofs.Common.{◌≡◌, ℕ, ◌&&◌, true, false, List, [], ◌∷◌, refl, ◌∙◌, ap, arith}
use Rattle.std.specs.List.{list_all}
use Rattle.std.proofs.lemmas.List.{length-map}
use Rattle.std.specs.Char.{to_ascii_lowercase}
use Rattle.std.proofs.lemmas.Bool.Decides.{nat_tests}
use Rattle.dd_names.specs.Names.{is_name_byte, IsName, fold}

byte : (c : ℕ) → is_name_byte c ≡ true → is_name_byte (to_ascii_lowercase c) ≡ true
byte c good = grind (arith, nat_tests)

bytes : (bs : List ℕ) → list_all is_name_byte bs ≡ true → list_all is_name_byte (fold bs) ≡ true
bytes [] good = refl
bytes (b ∷ bs) good = elim (is_name_byte b) as (λ v. is_name_byte b ≡ v → (v && list_all is_name_byte bs) ≡ true → list_all is_name_byte (fold (b ∷ bs)) ≡ true) [
  | true ↦ λ here rest. ap (λ v. v && list_all is_name_byte (fold bs)) (byte b here) ∙ bytes bs rest
  | false ↦ λ here none. absurd (cc)
] refl good

pub fold-IsName : (bs : List ℕ) → IsName bs → IsName (fold bs)
fold-IsName bs name = record {
  some = omega (arith, name.some, length-map bs to_ascii_lowercase);
  short = omega (arith, name.short, length-map bs to_ascii_lowercase);
  each = bytes bs name.each;
}
