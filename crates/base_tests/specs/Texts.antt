-- Paths, messages and states of errors, and texts of numbers.
use Rattle.std.specs.Prelude.{◌≡◌, ℕ, Bool, true, false, List, [], ◌∷◌, is_some, map, codes}
use Prim.Native.String.{String}
use Rattle.dd_names.specs.Paths.{path, temporary_path}
use Rattle.dd_names.specs.declared.object_name.ObjName.{ObjName}
use Rattle.dd_errors.specs.Errors.{ErrorValue, error_state, error_text, form_of}
use Rattle.sql_types.specs.Numbers.{is_number_text}

-- a text that a definition makes, and what it is to be
abbrev pub Made : Type 0
Made = List ℕ × List ℕ

abbrev pub AreSame : List Made → Type 0
AreSame cases = map (λ (c : Made). c.0) cases ≡ map (λ (c : Made). c.1) cases

abbrev pub object : String → String → ObjName
object schema name = record { schema = codes schema; name = codes name }

abbrev pub error : ℕ → List (List ℕ) → ErrorValue
error number args = record { number = number; args = args }

abbrev pub texts : List Made
texts =
    (path (object "d" "T_1"), codes "d/T_1.ibd")
    ∷ (temporary_path (codes "d") 7, codes "d/#sql-ib7.ibd")
    ∷ (temporary_path (codes "d") 4294967295, codes "d/#sql-ib4294967295.ibd")
    ∷ (error_text (error 1046 []), codes "No database selected")
    ∷ (error_text (error 1146 (codes "d" ∷ codes "t" ∷ [])), codes "Table 'd.t' doesn't exist")
    ∷ (error_text (error 1829 (codes "a" ∷ codes "%" ∷ codes "c" ∷ [])), codes "Cannot drop column 'a': needed in a foreign key constraint '%' of table 'c'")
    ∷ (error_state (error 1046 []), codes "3D000")
    ∷ (error_state (error 9003 []), codes "HY000")
    ∷ []

-- a text, and whether it is a number
abbrev pub NumberCase : Type 0
NumberCase = List ℕ × Bool

abbrev pub AreNumbers : List NumberCase → Type 0
AreNumbers cases = map (λ (c : NumberCase). is_number_text c.0) cases ≡ map (λ (c : NumberCase). c.1) cases

abbrev pub numbers : List NumberCase
numbers =
    (codes "0", true)
    ∷ (codes "007", true)
    ∷ (codes "+5", true)
    ∷ (codes "-12", true)
    ∷ ([], false)
    ∷ (codes "+", false)
    ∷ (codes "-", false)
    ∷ (codes "+-1", false)
    ∷ (codes "1.5", false)
    ∷ (codes " 1", false)
    ∷ (codes "1-", false)
    ∷ []

-- a number, and whether an error has it
abbrev pub KnownCase : Type 0
KnownCase = ℕ × Bool

abbrev pub AreKnown : List KnownCase → Type 0
AreKnown cases = map (λ (c : KnownCase). is_some (form_of c.0)) cases ≡ map (λ (c : KnownCase). c.1) cases

abbrev pub known : List KnownCase
known =
    (1007, true) ∷ (1109, true) ∷ (1553, true) ∷ (9003, true)
    ∷ (0, false) ∷ (1006, false) ∷ (1009, false) ∷ (1702, false) ∷ (9004, false) ∷ (65535, false) ∷ []
