use Rattle.std.proofs.Common.{◌≡◌, ◌∙◌, ◌++◌, ◌∷◌, [], List, ap, sym, subst, ◌||◌}
use Rattle.std.specs.Prelude.{Bool}
use Rattle.std.proofs.lemmas.Result.{err_from_is_err_and}
use Rattle.dd_definitions.specs.declared.foreign_keys.ForeignKeyDef.{ForeignKeyDef}
use Rattle.dd_catalog.specs.Walks.{fine, run, refuse_if}
use Rattle.dd_catalog.specs.Follow.{Stops}
use Rattle.rules_refusals.specs.Refusals.{fk_dup_name}
use Rattle.rules_elements.specs.ForeignKeys.{has_constraint_named}
use Rattle.rules_rename.specs.Puts.{behind}
use Rattle.rules_rename.proofs.Free.{free_stop, free_taken, free_added}
use Rattle.rules_rename.proofs.foreign_keys.add_free.Goals as goal

pub returns-in_err-owned : goal.returns-in_err-owned
returns-in_err-owned g c =
    let p = err_from_is_err_and c.from_residual.result c.from_residual.ensures.1 in
    rw (p.1, p.2) (free_stop (behind (g.L.Lookup.known c.args.look.now) c.args.overlay.now) c.args.from.now c.args.to.now c.args.before.now c.args.key.now c.in_err-owned.field-0.0 c.in_err-owned.ensures)

pub returns-in_err-refuse_taken : goal.returns-in_err-refuse_taken
returns-in_err-refuse_taken g c =
    let look = behind (g.L.Lookup.known c.args.look.now) c.args.overlay.now in
    let p = err_from_is_err_and c.from_residual-in_err-refuse_taken.result c.from_residual-in_err-refuse_taken.ensures.1 in
    let named : c.has_constraint_named-named.result ≡ has_constraint_named c.args.before.now c.args.key.now.name = c.has_constraint_named-named.ensures ∙ ap (λ ks. has_constraint_named ks c.args.key.now.name) c.as_slice.ensures in
    rw (p.1, p.2) (free_taken look c.args.from.now c.args.to.now c.args.before.now c.args.key.now c.in_ok-owned.owned c.in_err-refuse_taken.field-0.0 c.in_ok-owned.ensures
    (subst (λ (b : Bool). Stops c.in_err-refuse_taken.field-0.0 (run look (refuse_if (c.in_ok-owned.owned || b) (fk_dup_name c.args.key.now.name)))) named (c.in_err-refuse_taken.ensures look)))

pub returns : goal.returns
returns g c =
    let look = behind (g.L.Lookup.known c.args.look.now) c.args.overlay.now in
    let named : c.has_constraint_named-named.result ≡ has_constraint_named c.args.before.now c.args.key.now.name = c.has_constraint_named-named.ensures ∙ ap (λ ks. has_constraint_named ks c.args.key.now.name) c.as_slice.ensures in
    free_added look c.args.from.now c.args.to.now c.args.before.now c.args.key.now c.in_ok-owned.owned c.in_ok-owned.ensures
    (subst (λ (b : Bool). run look (refuse_if (c.in_ok-owned.owned || b) (fk_dup_name c.args.key.now.name)) ≡ fine tt) named (c.in_ok-refuse_taken.ensures look))
    ∙ ap (λ (ks : List ForeignKeyDef). fine ks) (sym (c.in_ok-push.ensures.ok ∙ ap (λ (k : ForeignKeyDef). c.args.before.now ++ k ∷ []) c.in_ok-copy.ensures))
