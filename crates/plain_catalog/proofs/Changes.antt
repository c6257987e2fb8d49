-- What changes make of a catalog, one at a time.
use Rattle.std.proofs.Common.{◌≡◌, ℕ, List, [], ◌∷◌, ◌++◌, map, refl}
use Rattle.dd_catalog.specs.Catalog.{Catalog}
use Rattle.rules_outcome.specs.declared.decided.Edit.{Edit}
use Rattle.rules_outcome.specs.Choices.{applied, applied_at}
use Rattle.rules_outcome.specs.Decided.{after_of, change_of}

pub applied_last : (space : ℕ) (edits : List Edit) (edit : Edit) (cat : Catalog)
    → applied space (map change_of (edits ++ edit ∷ [])) cat ≡ applied_at space edit.key (after_of edit.after) (applied space (map change_of edits) cat)
applied_last space [] edit cat = refl
applied_last space (e ∷ edits) edit cat = applied_last space edits edit (applied_at space e.key (after_of e.after) cat)
