use Rattle.std.proofs.Common.{◌≡◌, ◌++◌, ◌+◌, map, take, drop, slice_set, get_or, sym, subst, ap, List}
use Rattle.std.proofs.lemmas.List.Edits.{map_over_more}
use Rattle.disk_memory.specs.Fail.{counted}
use Rattle.disk_memory.specs.declared.fail.FailAt.{FailAt}
use Rattle.disk_memory.proofs.clock.count_all.Goals as goal

pub points-preserved : goal.points-preserved
points-preserved c =
    let f : FailAt → FailAt = λ at. counted at c.args.call c.args.from.now c.args.to.now in
    let i = c.points.at-index in
    let xs = c.args.fail.now in
    subst (λ (y : FailAt). slice_set c.points.fail i y ≡ map f (take (i + 1) xs) ++ drop (i + 1) xs) (sym c.count.ensures)
    (map_over_more f xs c.points.fail i (get_or c.points.fail i c.at-item.result) c.points-test.true c.points.invariant (ap (get_or c.points.fail i) c.at-item.is))
