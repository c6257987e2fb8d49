-- An input as a whole.
use Rattle.std.proofs.Common.{◌≡◌, ◌≤◌, arith, ℕ, Bool, true, false, cond, not, nat_lt, List, refl, ap, ◌∙◌, length, Result, Ok, Err}
use Rattle.std.specs.Str.{IsUtf8, is_utf8}
use Rattle.std.specs.Str.Lossy.{utf8_valid_len}
use Rattle.std.proofs.lemmas.Bool.Decides.{nat_tests}
use Rattle.std.proofs.lemmas.Str.{is_utf8-from_IsUtf8, IsUtf8-from_is_utf8}
use Rattle.script_cut.specs.declared.fault.ScriptFault.{ScriptFault}
use Rattle.script_cut.specs.declared.fault.ScriptFault.TheVariants.{NotUtf8, Limit}
use Rattle.script_read.specs.declared.script.Script.{Script}
use Rattle.script_read.specs.Scripts.{scripts, scripts_in}

no_text : (b : Bool) → (b ≡ true → ⊥) → b ≡ false
no_text true h = absurd (h refl)
no_text false h = refl

not_long : (n : ℕ) → n ≤ 67108864 → nat_lt 67108864 n ≡ false
not_long n h = grind (arith, nat_tests)

abbrev by : Bool → Bool → List ℕ → Result (List Script) ScriptFault
by long text bytes = cond long (Err (Limit 67108864)) (cond (not text) (Err (NotUtf8 (utf8_valid_len bytes))) (scripts_in bytes))

pub good_text : (bytes : List ℕ) → length bytes ≤ 67108864 → IsUtf8 bytes → scripts bytes ≡ scripts_in bytes
unfolding scripts
good_text bytes short text = ap (λ (b : Bool). by b (is_utf8 bytes) bytes) (not_long (length bytes) short) ∙ ap (λ (b : Bool). by false b bytes) (is_utf8-from_IsUtf8 bytes text)

pub bad_text : (bytes : List ℕ) → length bytes ≤ 67108864 → (IsUtf8 bytes → ⊥) → scripts bytes ≡ Err (NotUtf8 (utf8_valid_len bytes))
unfolding scripts
bad_text bytes short none =
    ap (λ (b : Bool). by b (is_utf8 bytes) bytes) (not_long (length bytes) short)
    ∙ ap (λ (b : Bool). by false b bytes) (no_text (is_utf8 bytes) (λ h. none (IsUtf8-from_is_utf8 bytes h)))
