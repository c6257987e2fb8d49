use Rattle.std.proofs.Common.{◌≡◌, ℕ, ◌+◌, ◌≤◌, List, length, arith, sym, ◌∙◌, ap, subst}
use Rattle.rules_elements.specs.Keys.{is_taken, numbered}
use Rattle.rules_elements.specs.Taken.{IsTried}
use Rattle.rules_elements.proofs.Taken.{one_tried, free_here, free_last}
use Rattle.rules_elements.proofs.taken_names.TakenNames.free_number.Goals as goal

pub numbers-init : goal.numbers-init
numbers-init c = c.first_untried-first.ensures c.args.indexes.now c.requires

pub returns-then-not-branch : goal.returns-then-not-branch
returns-then-not-branch c =
    let indexes = c.args.indexes.now in
    let number = c.numbers.number in
    let name : numbered c.args.base.now number ≡ c.as_str-in-numbers.result.now = ap (λ (b : List ℕ). numbered b number) (sym c.as_str.ensures.text) ∙ sym c.in_ok-name.ensures ∙ sym c.as_str-in-numbers.ensures.text in
    let free = ap (is_taken indexes) name ∙ sym (c.in_ok-is_taken.ensures indexes c.requires) ∙ c.if-not-branch.true in
    record { free = free_here indexes c.args.base.now number c.numbers-test.true free c.numbers.invariant; tried = c.numbers.invariant }

pub numbers-preserved : goal.numbers-preserved
numbers-preserved c =
    let indexes = c.args.indexes.now in
    let number = c.numbers.number in
    let name : numbered c.args.base.now number ≡ c.as_str-in-numbers.result.now = ap (λ (b : List ℕ). numbered b number) (sym c.as_str.ensures.text) ∙ sym c.in_ok-name.ensures ∙ sym c.as_str-in-numbers.ensures.text in
    let taken = ap (is_taken indexes) name ∙ sym (c.in_ok-is_taken.ensures indexes c.requires) ∙ c.if-not-branch.false in
    one_tried indexes c.args.base.now number c.numbers-test.true taken c.numbers.invariant

pub returns : goal.returns
returns c =
    let indexes = c.args.indexes.now in
    let last : ℕ = length indexes + 2 in
    let first : c.first_untried-first.result ≤ length indexes + 2 = (c.first_untried-first.ensures indexes c.requires).few in
    let same : c.numbers.number ≡ length indexes + 2 = omega arith in
    let le : length indexes + 2 ≤ length indexes + 2 = omega arith in
    let tried = subst (IsTried indexes c.args.base.now) same c.numbers.invariant in
    record { free = free_last indexes c.args.base.now (length indexes + 2) le tried; tried = tried }
