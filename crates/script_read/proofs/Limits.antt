-- Where an input has no fault, its sessions are within their limits.
use Rattle.std.proofs.Common.{◌≡◌, ℕ, ◌+◌, ◌-◌, ◌<◌, ◌≤◌, ◌==◌, Bool, true, false, cond, ◌||◌, nat_le, nat_lt, List, [], ◌∷◌, ◌++◌, length, length-append, refl, sym, ap, ◌∙◌, subst, arith, Option, None, Some}
use Rattle.std.specs.Prelude.{slice_range}
use Rattle.std.specs.List.{AllByRecursion}
use Rattle.std.proofs.lemmas.Bool.Decides.{nat_tests}
use Rattle.script_cut.specs.declared.item.Item.{Item}
use Rattle.script_cut.specs.declared.item.Item.TheVariants.{SessionLine, BadLine, Statement, CutStatement, CutComment}
use Rattle.script_cut.specs.declared.fault.ScriptFault.{ScriptFault}
use Rattle.script_cut.specs.declared.fault.ScriptFault.TheVariants.{NoSession, BadName, Unended, Limit}
use Rattle.script_cut.specs.Faults.{or_else, line_fault, statement_fault, item_fault, names_behind, count_behind, fault_from, fault_of}
use Rattle.script_read.specs.declared.script.Script.{Script}
use Rattle.script_read.specs.Scripts.{statements_in, sessions_in, IsFew}

both_none : (a b : Option ScriptFault) → or_else a b ≡ None → (a ≡ None) × (b ≡ None)
both_none None b e = (refl, e)
both_none (Some fault) b e = absurd cc

never_none : (a : Option ScriptFault) (fault : ScriptFault) → or_else a (Some fault) ≡ None → ⊥
never_none None fault e = cc
never_none (Some other) fault e = cc

few_by : (no many : Bool) (from : ℕ) → cond no (Some (NoSession from)) (cond many (Some (Limit from)) None) ≡ None → many ≡ false
few_by true many from e = absurd cc
few_by false true from e = absurd cc
few_by false false from e = refl

left_of_or : (a b : Bool) → (a || b) ≡ false → a ≡ false
left_of_or true b h = absurd cc
left_of_or false b h = refl

below : (count : ℕ) → nat_le 100000 count ≡ false → count < 100000
below count h = grind (arith, nat_tests)

-- a statement without a fault is not beyond the limit
one_more : (sessions count from bytes : ℕ) → statement_fault sessions count from bytes ≡ None → count < 100000
unfolding statement_fault
one_more sessions count from bytes e =
    below count (left_of_or (nat_le 100000 count) (nat_lt 1048576 bytes) (few_by (sessions == 0) (nat_le 100000 count || nat_lt 1048576 bytes) from e))

no_bad_line : (text : List ℕ) (names : List (List ℕ)) (count line : ℕ) → item_fault text names count (BadLine line) ≡ None → ⊥
unfolding item_fault
no_bad_line text names count line e = cc

no_cut_statement : (text : List ℕ) (names : List (List ℕ)) (count from : ℕ) → item_fault text names count (CutStatement from) ≡ None → ⊥
unfolding item_fault
no_cut_statement text names count from e = never_none (statement_fault (length names) count from (length text - from)) (Unended from) e

no_cut_comment : (text : List ℕ) (names : List (List ℕ)) (count at : ℕ) → item_fault text names count (CutComment at) ≡ None → ⊥
unfolding item_fault
no_cut_comment text names count at e = cc

good_statement : (text : List ℕ) (names : List (List ℕ)) (count from to : ℕ) → item_fault text names count (Statement from to) ≡ None → count < 100000
unfolding item_fault
good_statement text names count from to e = one_more (length names) count from (to - from) e

-- the statements up to the next session line
few_left : (text : List ℕ) (names : List (List ℕ)) (count : ℕ) (items : List Item) → count ≤ 100000 → fault_from text names count items ≡ None → count + length (statements_in text items) ≤ 100000
few_left text names count [] h e = omega (arith, h)
few_left text names count (SessionLine line from to ∷ items) h e = omega (arith, h)
few_left text names count (BadLine line ∷ items) h e =
    absurd (no_bad_line text names count line (both_none (item_fault text names count (BadLine line)) (fault_from text names (count + 1) items) e).0)
few_left text names count (Statement from to ∷ items) h e =
    let none = both_none (item_fault text names count (Statement from to)) (fault_from text names (count + 1) items) e in
    let less = good_statement text names count from to none.0 in
    let rest = few_left text names (count + 1) items (omega (arith, less)) none.1 in
    omega (arith, rest)
few_left text names count (CutStatement from ∷ items) h e =
    absurd (no_cut_statement text names count from (both_none (item_fault text names count (CutStatement from)) (fault_from text names (count + 1) items) e).0)
few_left text names count (CutComment at ∷ items) h e =
    absurd (no_cut_comment text names count at (both_none (item_fault text names count (CutComment at)) (fault_from text names (count + 1) items) e).0)

-- every session
all_few : (text : List ℕ) (names : List (List ℕ)) (count : ℕ) (items : List Item) → fault_from text names count items ≡ None → AllByRecursion IsFew (sessions_in text items)
all_few text names count [] e = tt
all_few text names count (SessionLine line from to ∷ items) e =
    let more = names ++ slice_range text from to ∷ [] in
    let none = both_none (item_fault text names count (SessionLine line from to)) (fault_from text more 0 items) e in
    let few = few_left text more 0 items (omega arith) none.1 in
    (omega (arith, few), all_few text more 0 items none.1)
all_few text names count (BadLine line ∷ items) e = all_few text names (count + 1) items (both_none (item_fault text names count (BadLine line)) (fault_from text names (count + 1) items) e).1
all_few text names count (Statement from to ∷ items) e = all_few text names (count + 1) items (both_none (item_fault text names count (Statement from to)) (fault_from text names (count + 1) items) e).1
all_few text names count (CutStatement from ∷ items) e = all_few text names (count + 1) items (both_none (item_fault text names count (CutStatement from)) (fault_from text names (count + 1) items) e).1
all_few text names count (CutComment at ∷ items) e = all_few text names (count + 1) items (both_none (item_fault text names count (CutComment at)) (fault_from text names (count + 1) items) e).1

-- the sessions of items without a fault
pub sessions_are_few : (text : List ℕ) (items : List Item) → fault_of text items ≡ None → AllByRecursion IsFew (sessions_in text items)
sessions_are_few text items e = all_few text [] 0 items e
