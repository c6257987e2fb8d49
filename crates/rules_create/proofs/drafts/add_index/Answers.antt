use Rattle.std.proofs.Common.{refl, sym, ◌∙◌, ap, subst}
use Rattle.dd_definitions.specs.declared.parts.TableParts.{TableParts}
use Rattle.rules_elements.specs.Taken.{AreNamesOf}
use Rattle.rules_create.proofs.OneKey.{with_indexes, with_foreign_keys}
use Rattle.rules_create.proofs.drafts.add_index.Goals as goal

pub returns-clause-draft : goal.returns-clause-draft
returns-clause-draft c =
    let parts = c.args.draft.now.parts in
    record {
      names = subst (AreNamesOf c.add.new.self) (sym (ap (λ (p : TableParts). p.indexes) c.in_ok-with_index.ensures ∙ with_indexes parts c.args.index)) (c.in_ok-add.ensures parts.indexes c.args.index refl c.requires.names);
      none = ap (λ (p : TableParts). p.foreign_keys) c.in_ok-with_index.ensures ∙ with_foreign_keys parts c.args.index ∙ c.requires.none;
    }
