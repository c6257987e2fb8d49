-- One more foreign key whose name is free.
use Rattle.std.specs.Prelude.{◌≡◌, ◌||◌, Bool, true, false, List, [], ◌∷◌, ◌++◌, Option, Some, None, refl}
use Rattle.std.proofs.Common.{sym, ◌∙◌, ap}
use Rattle.dd_names.specs.Names.{fold}
use Rattle.dd_names.specs.declared.object_name.ObjName.{ObjName}
use Rattle.dd_names.specs.declared.object_name.ObjectKey.TheVariants as keys
use Rattle.dd_errors.specs.Errors.{ErrorValue}
use Rattle.dd_definitions.specs.declared.foreign_keys.ForeignKeyDef.{ForeignKeyDef}
use Rattle.dd_catalog.specs.declared.stop.Stop.{Stop}
use Rattle.dd_catalog.specs.Sights.{Sight}
use Rattle.dd_catalog.specs.Walks.{Found, fine, refused, needs, run, look_at, refuse_if, done}
use Rattle.dd_catalog.specs.WalkLaws.{Look, go_on, run_bind}
use Rattle.dd_catalog.specs.Follow.{Stops}
use Rattle.dd_catalog.specs.LoopLaws.{stops_all}
use Rattle.rules_refusals.specs.Refusals.{fk_dup_name}
use Rattle.rules_elements.specs.ForeignKeys.{is_owned_elsewhere, has_constraint_named}
use Rattle.rules_rename.specs.Renames.{one_free}
use Rattle.rules_rename.specs.Puts.{owned_found}

-- what is left once it is known whether the name is owned
abbrev pub with_owned : Look → List ForeignKeyDef → ForeignKeyDef → Bool → Found ErrorValue (List ForeignKeyDef)
with_owned look before key owned = go_on (run look (refuse_if (owned || has_constraint_named before key.name) (fk_dup_name key.name))) (λ _. fine (before ++ key ∷ []))

twice : {A B : Type 0} (found : Found ErrorValue A) (test : A → Bool) (next : Bool → Found ErrorValue B) → go_on found (λ x. next (test x)) ≡ go_on (go_on found (λ x. fine (test x))) next
twice (fine x) test next = refl
twice (refused e) test next = refl
twice (needs key) test next = refl

pub one_free_is : (look : Look) (from to : ObjName) (before : List ForeignKeyDef) (key : ForeignKeyDef)
    → run look (one_free from to before key) ≡ go_on (owned_found from (run look (look_at (keys.Constraint to.schema (fold key.name))))) (with_owned look before key)
unfolding one_free
one_free_is look from to before key =
    run_bind look (look_at (keys.Constraint to.schema (fold key.name))) _
    ∙ ap (λ (next : Sight → Found ErrorValue (List ForeignKeyDef)). go_on (run look (look_at (keys.Constraint to.schema (fold key.name)))) next) (λ i owner. run_bind look (refuse_if (is_owned_elsewhere from owner || has_constraint_named before key.name) (fk_dup_name key.name)) (λ _. done (before ++ key ∷ [])) i)
    ∙ twice (run look (look_at (keys.Constraint to.schema (fold key.name)))) (is_owned_elsewhere from) (with_owned look before key)

pub free_stop : (look : Look) (from to : ObjName) (before : List ForeignKeyDef) (key : ForeignKeyDef) (stop : Stop) → Stops stop (owned_found from (run look (look_at (keys.Constraint to.schema (fold key.name))))) → Stops stop (run look (one_free from to before key))
free_stop look from to before key stop is = stops_all stop (owned_found from (run look (look_at (keys.Constraint to.schema (fold key.name))))) (with_owned look before key) _ is (sym (one_free_is look from to before key))

pub free_taken : (look : Look) (from to : ObjName) (before : List ForeignKeyDef) (key : ForeignKeyDef) (owned : Bool) (stop : Stop) → owned_found from (run look (look_at (keys.Constraint to.schema (fold key.name)))) ≡ fine owned
    → Stops stop (run look (refuse_if (owned || has_constraint_named before key.name) (fk_dup_name key.name))) → Stops stop (run look (one_free from to before key))
free_taken look from to before key owned stop found is =
    stops_all stop (run look (refuse_if (owned || has_constraint_named before key.name) (fk_dup_name key.name))) (λ _. fine (before ++ key ∷ [])) _ is
    (sym (one_free_is look from to before key ∙ ap (λ f. go_on f (with_owned look before key)) found))

pub free_added : (look : Look) (from to : ObjName) (before : List ForeignKeyDef) (key : ForeignKeyDef) (owned : Bool) → owned_found from (run look (look_at (keys.Constraint to.schema (fold key.name)))) ≡ fine owned
    → run look (refuse_if (owned || has_constraint_named before key.name) (fk_dup_name key.name)) ≡ fine tt → run look (one_free from to before key) ≡ fine (before ++ key ∷ [])
free_added look from to before key owned found is =
    one_free_is look from to before key ∙ ap (λ f. go_on f (with_owned look before key)) found ∙ ap (λ (f : Found ErrorValue (Unit {0})). go_on f (λ _. fine (before ++ key ∷ []))) is
