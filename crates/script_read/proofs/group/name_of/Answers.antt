use Rattle.std.proofs.Common.{◌≡◌, ap, ◌∙◌, Option, None, Some, ◌⊎◌, inl, inr}
use Rattle.std.specs.Prelude.{false}
use Rattle.dd_names.specs.Names.{name_fault}
use Rattle.dd_names.specs.declared.name.NameFault.{NameFault}
use Rattle.dd_names.specs.declared.name.NameFault.TheVariants.{Memory}
use Rattle.script_cut.proofs.NameTexts.{plain_is_text, plain_has_no_fault}
use Rattle.script_read.proofs.group.name_of.Goals as goal

pub unreachable-requires : goal.unreachable-requires
unreachable-requires c = absurd ((c.in_default.ensures).cases.0 (plain_is_text c.args.word.now c.requires))

only : (fault : NameFault) (o : Option NameFault) → (fault ≡ Memory) ⊎ (o ≡ Some fault) → o ≡ None → fault ≡ Memory
only fault o (inl e) none = e
only fault o (inr e) none = absurd cc

pub as_memory-requires : goal.as_memory-requires
as_memory-requires c =
    only c.in-Err.fault (name_fault c.in-Ok.text.now false) c.in-Err.ensures (ap (λ word. name_fault word false) c.in-Ok.ensures.cases.0 ∙ plain_has_no_fault c.args.word.now c.requires)
