use Rattle.std.proofs.Common.{rules, arith, ◌≡◌, ℕ, zero, suc, ◌+◌, ◌<◌, List, sym, refl, ap, ◌∙◌, subst, inl, inr}
use Rattle.turn_hall.specs.Numbers.{Has}
use Rattle.turn_hall.specs.Passes.{Holds, HoldsNumber}
use Rattle.hall_count.specs.Times.{times}
use Rattle.hall_count.proofs.together.count_together.Given.{Over}
use Rattle.hall_count.proofs.together.count_together.Goals.{After-join, After-split-right}
use Rattle.hall_count.proofs.together.count_together.Goals as goal

two : (P : ℕ → Type 0) → P 0 → P 1 → (n : ℕ) → n < 2 → P n
two P a b zero h = a
two P a b (suc zero) h = b
two P a b (suc (suc n)) h = absurd (omega arith)

-- each thread begins with its own number, which stands nowhere yet
begins : (g : Over) (c : After-split-right g) → Holds c.split-right.new.pass 0 0 × Holds c.split-right.result 1 0
begins g c =
    let made = c.in-Ok.ensures in let count = c.new.ensures.1 in let empty = c.new.ensures.0 in
    let zeros : Holds c.in-Ok.made.1 0 0 = (made.held 0 0).1 (omega (arith, count), sym (ap (times 0) empty)) in
    let ones : Holds c.in-Ok.made.1 1 0 = (made.held 1 0).1 (omega (arith, count), sym (ap (times 1) empty)) in
    ((c.split-right.ensures.left 0 0).1 (zeros, λ e. omega arith), (c.split-right.ensures.right 1 0).1 (ones, refl))

-- the joined pass has what the two had after the threads
left : (g : Over) (c : After-join g) (k : ℕ) → Holds c.mark_both-done.new.left 0 k → Holds c.join.new.pass 0 k
left g c k h = let H : List (ℕ × ℕ) → Type 0 = λ l. Has l 0 k in (c.join.ensures.held 0 k).1 (inl (subst H (sym c.hear.ensures.held) h))

right : (g : Over) (c : After-join g) (k : ℕ) → Holds c.mark_both-done.new.right 1 k → Holds c.join.new.pass 1 k
right g c k h = let H : List (ℕ × ℕ) → Type 0 = λ l. Has l 1 k in (c.join.ensures.held 1 k).1 (inr (subst H (sym c.note-note.ensures.held) h))

pub close-tally-requires-clause-all : goal.close-tally-requires-clause-all
close-tally-requires-clause-all g c n small =
    let after = (goal.at.close-tally-requires-clause-all g c).After-join in let marked = c.mark_both-done.ensures in
    let count = c.in-Ok.ensures.hall.2 ∙ c.new.ensures.1 in
    two (HoldsNumber c.join.new.pass) (marked.left.2.0, left g after marked.left.2.0 marked.left.2.1) (marked.right.2.0, right g after marked.right.2.0 marked.right.2.1) n (omega (arith, count, small))

pub returns-then-done : goal.returns-then-done
returns-then-done g c =
    let after = (goal.at.returns-then-done g c).After-join in let at = (goal.at.returns-then-done g c).After-split-right in let first = begins g at in
    let done = c.mark_both-done.ensures.done (search rules) in let count = c.args.count in
    let zeros = c.close-tally.ensures.parts 0 (0 + count) (left g after (0 + count) (done.0 0 first.0)) in
    let ones = c.close-tally.ensures.parts 1 (0 + count) (right g after (0 + count) (done.1 0 first.1)) in
    let same : 0 + count ≡ count = omega arith in (sym zeros ∙ same, sym ones ∙ same)
