use Rattle.std.proofs.Common.{◌∷◌, [], ◌++◌, ◌∙◌, ap, sym, subst}
use Rattle.std.specs.Prelude.{cond, true}
use Rattle.std.specs.BTreeMap.{is_at}
use Rattle.std.specs.BTreeSet.{contains}
use Rattle.dd_catalog.specs.Catalog.{object_cmp}
use Rattle.dd_names.specs.declared.object_name.ObjName.{ObjName}
use Rattle.rules_rename.specs.declared.child_names.ChildNames.{ChildNames}
use Rattle.rules_rename.proofs.SameNames.{with_known, with_other, more_same}
use Rattle.rules_rename.proofs.child_names.ChildNames.add.Goals as goal

pub returns-then-contains-clause-added : goal.returns-then-contains-clause-added
returns-then-contains-clause-added c = λ same. with_known c.args.self.now c.args.name.now same (sym c.contains.ensures ∙ c.if-contains.true)

pub returns-clause-added : goal.returns-clause-added
returns-clause-added c = λ same.
    c.in_ok-push.ensures.ok ∙ ap (λ (n : ObjName). c.args.self.now.names ++ n ∷ []) c.in_ok-copy.ensures ∙ with_other c.args.self.now c.args.name.now same (sym c.contains.ensures ∙ c.if-contains.false)

pub returns-clause-same : goal.returns-clause-same
returns-clause-same c = λ same.
    let new : ChildNames = record { names = c.push.new.self; known = c.insert.new.self } in
    more_same c.args.self.now new c.args.name.now same (c.in_ok-push.ensures.ok ∙ ap (λ (n : ObjName). c.args.self.now.names ++ n ∷ []) c.in_ok-copy.ensures)
    (λ q. c.in_ok-insert.ensures.updates.0 q ∙ ap (λ (n : ObjName). cond (is_at (object_cmp n) q) true (contains object_cmp c.args.self.now.known q)) c.in_ok-copy-2.ensures)
