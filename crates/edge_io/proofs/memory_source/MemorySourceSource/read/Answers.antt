use Rattle.std.proofs.Common.{◌≡◌, ◌+◌, ◌-◌, ◌<◌, ◌≤◌, ℕ, List, length, drop, take, ◌++◌, min, arith, sym, ap, ◌∙◌, length-drop, length-take, take-append-drop}
use Rattle.std.proofs.lemmas.List.{take_at, drop_all, drop-drop}
use Rattle.std.proofs.lemmas.Bool.Decides.{nat_tests}
use Rattle.edge_io.specs.MemoryState.{SourceState}
use Rattle.edge_io.proofs.memory_source.MemorySourceSource.read.Goals as goal

-- the n bytes from a place on, which were copied to the front of a slice, and the rest
moved : (bs copied rest : List ℕ) (at n : ℕ) → copied ≡ take ((at + n) - at) (drop at bs) → at ≤ length bs → n ≤ length bs - at → drop at bs ≡ take n (copied ++ rest) ++ drop (at + n) bs
moved bs copied rest at n is within fits =
    let same : (at + n) - at ≡ n = omega arith in
    let is_n : copied ≡ take n (drop at bs) = is ∙ ap (λ (k : ℕ). take k (drop at bs)) same in
    let long : length copied ≡ n = omega (arith, ap length is_n, length-take n (drop at bs), length-drop at bs) in
    sym (take-append-drop n (drop at bs))
    ∙ ap (λ (l : List ℕ). l ++ drop n (drop at bs)) (sym is_n ∙ sym (take_at copied rest n long))
    ∙ ap (λ (l : List ℕ). take n (copied ++ rest) ++ l) (drop-drop n at bs)

pub returns-clause-bytes : goal.returns-clause-bytes
returns-clause-bytes c =
    let bs = c.self.inside.bytes.items in
    let at = c.self.inside.at in
    let n = c.min-count.result in
    let known : n ≡ min (length c.args.into.now) (length bs - at) = grind (arith, nat_tests) in
    let some : 0 < length c.args.into.now = grind (arith, nat_tests, c.if-is_empty.false) in (
      sym (ap (λ (s : SourceState). s.left) c.self.view_is)
          ∙ moved bs c.copy_from_slice.new.self (drop n c.args.into.now) at n (c.copy_from_slice.ensures.after ∙ ap (λ (l : List ℕ). take ((at + n) - at) (drop at l)) c.deref-2.ensures.value) (omega arith) (omega arith),
      λ none room. drop_all (at + n) bs (omega arith),
    )
