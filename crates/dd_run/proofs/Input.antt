-- The bytes that were read, as the whole input.
use Rattle.std.proofs.Common.{◌≡◌, ℕ, ◌<◌, ◌≤◌, Bool, true, false, cond, not, nat_lt, List, ◌++◌, length, refl, sym, ◌∙◌, ap, arith, Option, None, Some, length-append, Result, Err}
use Rattle.std.proofs.lemmas.Bool.Decides.{nat_tests}
use Rattle.std.proofs.lemmas.List.{append-nil}
use Rattle.std.specs.Io.KnownBytes.{Consumes, IsAtEnd}
use Rattle.std.specs.Str.{is_utf8}
use Rattle.std.specs.Str.Lossy.{utf8_valid_len}
use Rattle.script_cut.specs.declared.fault.ScriptFault.{ScriptFault}
use Rattle.script_cut.specs.declared.fault.ScriptFault.TheVariants.{NotUtf8, Limit}
use Rattle.script_read.specs.declared.script.Script.{Script}
use Rattle.script_read.specs.Scripts.{scripts, scripts_in}
use Rattle.dd_run.specs.Headline.{InputIs}

abbrev rest_of : List ℕ → Result (List Script) ScriptFault
rest_of input = cond (not (is_utf8 input)) (Err (NotUtf8 (utf8_valid_len input))) (scripts_in input)

too_long : (input : List ℕ) → 67108864 < length input → scripts input ≡ Err (Limit 67108864)
unfolding scripts
too_long input long =
    let is : nat_lt 67108864 (length input) ≡ true = grind (arith, nat_tests) in
    ap (λ (b : Bool). cond b (Err (Limit 67108864)) (rest_of input)) is

-- what was read is all that there is, or too much
pub input_is : (left rest : Option (List ℕ)) (bytes : List ℕ) → Consumes left rest bytes → (length bytes ≤ 67108864 → IsAtEnd rest) → InputIs left (scripts bytes)
input_is None rest bytes read ended = tt
input_is (Some input) None bytes read ended = absurd read
input_is (Some input) (Some rest) bytes read ended = elim (nat_lt 67108864 (length bytes)) as (λ b. nat_lt 67108864 (length bytes) ≡ b → scripts input ≡ scripts bytes) [
  | true ↦ λ long. (
      let more : 67108864 < length bytes = grind (arith, nat_tests) in
      too_long input (omega (arith, more, ap length read, length-append bytes rest)) ∙ sym (too_long bytes more)
      )
  | false ↦ λ short. ap scripts (read ∙ ap (λ (l : List ℕ). bytes ++ l) (ended (grind (arith, nat_tests))) ∙ append-nil bytes)
] refl
