-- The least child that stays, as it is seen.
use Rattle.std.proofs.Common.{◌≡◌, Bool, not, sym, ◌∙◌, ap, subst}
use Rattle.std.specs.Prelude.{Option}
use Rattle.std.specs.List.{find}
use Rattle.dd_names.specs.declared.object_name.ObjName.{ObjName}
use Rattle.dd_names.specs.declared.object_name.ObjectKey.TheVariants as keys
use Rattle.dd_errors.specs.Errors.{ErrorValue}
use Rattle.dd_catalog.specs.Sights.{Sight}
use Rattle.dd_catalog.specs.Walks.{fine, run, look_at}
use Rattle.dd_catalog.specs.WalkLaws.{Look, run_fine}
use Rattle.rules_schema.specs.Drops.{children_seen, refuse_for, no_child_stays}

pub staying_seen : (look : Look) (goes : ObjName → Bool) (table : ObjName) (seen : Sight) (child : Option ObjName) → run {E = ErrorValue} look (look_at (keys.Children table)) ≡ fine seen
    → child ≡ find (λ c. not (goes c)) (children_seen seen) → run look (refuse_for table child) ≡ run look (no_child_stays goes table)
unfolding no_child_stays
staying_seen look goes table seen child there is =
    ap (λ c. run look (refuse_for table c)) is ∙ sym (run_fine look (look_at (keys.Children table)) (λ s. refuse_for table (find (λ c. not (goes c)) (children_seen s))) seen there)
