use Rattle.std.proofs.Common.{sym, subst}
use Rattle.std.proofs.lemmas.Result.{err_from_is_err_and}
use Rattle.dd_names.specs.declared.object_name.ObjName.{ObjName}
use Rattle.dd_catalog.specs.Follow.{sights}
use Rattle.rules_create.specs.Drafts.{keys_in, AreOrdered}
use Rattle.rules_create.proofs.Linked.{index_stop, key_stop, name_taken_stop, all_linked}
use Rattle.rules_create.proofs.foreign_keys.with_foreign_key.Goals as goal

pub returns-in_err-with_key_index-clause-exact : goal.returns-in_err-with_key_index-clause-exact
returns-in_err-with_key_index-clause-exact g c =
    let look = sights (g.L.Lookup.known c.args.look.now) in
    let p = err_from_is_err_and c.from_residual.result c.from_residual.ensures.1 in
    rw (p.1, p.2) (index_stop c.in_err-with_key_index.field-0.0 look c.args.draft.now.parts (keys_in c.args.keys.now) c.args.words.now c.args.key.now (c.in_err-with_key_index.ensures.exact look))

pub returns-in_err-key-clause-exact : goal.returns-in_err-key-clause-exact
returns-in_err-key-clause-exact g c =
    let look = sights (g.L.Lookup.known c.args.look.now) in
    let p = err_from_is_err_and c.from_residual-in_err-key.result c.from_residual-in_err-key.ensures.1 in
    rw (p.1, p.2) (key_stop c.in_err-key.field-0.0 look c.args.draft.now.parts c.with_key_index.new.draft.parts (keys_in c.args.keys.now) c.args.words.now c.args.key.now (c.in_ok-with_key_index.ensures.exact look) c.in_ok-with_key_index.ensures.draft.none c.in_err-key.ensures)

pub returns-in_err-add-clause-exact : goal.returns-in_err-add-clause-exact
returns-in_err-add-clause-exact g c =
    let look = sights (g.L.Lookup.known c.args.look.now) in
    let p = err_from_is_err_and c.from_residual-in_err-add.result c.from_residual-in_err-add.ensures.1 in
    rw (p.1, p.2) (name_taken_stop c.in_err-add.field-0.0 look c.args.draft.now.parts c.with_key_index.new.draft.parts (keys_in c.args.keys.now) c.args.words.now c.args.key.now c.in_ok-key.key (c.in_ok-with_key_index.ensures.exact look) c.in_ok-with_key_index.ensures.draft.none c.in_ok-key.ensures (c.in_err-add.ensures.exact look c.args.draft.now.parts.name.name c.requires.ordered))

pub returns : goal.returns
returns g c =
    let look = sights (g.L.Lookup.known c.args.look.now) in
    record {
      exact = all_linked look c.args.draft.now.parts c.with_key_index.new.draft.parts (keys_in c.args.keys.now) (keys_in c.add.new.self) c.args.words.now c.args.key.now c.in_ok-key.key (c.in_ok-with_key_index.ensures.exact look) c.in_ok-with_key_index.ensures.draft.none c.in_ok-key.ensures (c.in_ok-add.ensures.exact look c.args.draft.now.parts.name.name c.requires.ordered);
      linked = record {
        stands = c.in_ok-with_key_index.ensures.draft;
        ordered = subst (λ (n : ObjName). AreOrdered c.add.new.self n.name) (sym c.in_ok-with_key_index.ensures.name) (c.in_ok-add.ensures.ordered c.args.draft.now.parts.name.name c.requires.ordered);
      };
    }
