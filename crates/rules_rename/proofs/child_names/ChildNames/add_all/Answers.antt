use Rattle.std.proofs.Common.{◌<◌, ◌≤◌, ◌+◌, drop, length, arith, ap, sym, ◌∙◌}
use Rattle.std.specs.Prelude.{List}
use Rattle.std.proofs.lemmas.List.{drop_all}
use Rattle.dd_names.specs.declared.object_name.ObjName.{ObjName}
use Rattle.rules_rename.specs.Renames.{with_all}
use Rattle.rules_rename.proofs.Places.{from_item}
use Rattle.rules_rename.proofs.child_names.ChildNames.add_all.Goals as goal

pub more-preserved : goal.more-preserved
more-preserved c = λ same.
    let lt : c.more.name-index < length c.args.more.now = omega arith in
    let before = c.more.invariant same in (
      c.in_ok-add.ensures.same before.0,
      ap (λ (ns : List ObjName). with_all ns (drop (c.more.name-index + 1) c.args.more.now)) (c.in_ok-add.ensures.added before.0)
          ∙ sym (ap (with_all c.more.self.names) (from_item c.args.more.now c.more.name-index c.name-item.result lt c.name-item.is)) ∙ before.1,
    )

pub returns-clause-added : goal.returns-clause-added
returns-clause-added c = λ same.
    let le : length c.args.more.now ≤ c.more.name-index = omega arith in
    let before = c.more.invariant same in
    sym (ap (with_all c.more.self.names) (drop_all c.more.name-index c.args.more.now le)) ∙ before.1

pub returns-clause-same : goal.returns-clause-same
returns-clause-same c = λ same. (c.more.invariant same).0
