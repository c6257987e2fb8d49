-- One turn of the search for a free name.
use Rattle.std.proofs.Common.{◌≡◌, ℕ, suc, ◌+◌, ◌-◌, ◌<◌, true, cond, List, sym, ◌∙◌, ap, arith}
use Rattle.dd_definitions.specs.declared.indexes.IndexDef.{IndexDef}
use Rattle.rules_elements.specs.Keys.{free_from, is_taken, numbered}

-- where the name at a number is taken, the search goes on with the next
pub next_number : (indexes : List IndexDef) (base : List ℕ) (number last : ℕ) (total : List ℕ) → number < last → is_taken indexes (numbered base number) ≡ true
    → free_from indexes base number (last - number) ≡ total → free_from indexes base (number + 1) (last - (number + 1)) ≡ total
next_number indexes base number last total lt taken so_far =
    let tries : last - number ≡ suc (last - (number + 1)) = omega arith in
    sym (ap (λ b. cond b (free_from indexes base (number + 1) (last - (number + 1))) (numbered base number)) taken) ∙ sym (ap (free_from indexes base number) tries) ∙ so_far
