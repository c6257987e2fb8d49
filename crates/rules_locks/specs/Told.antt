-- A client that is told what stands at each key as its check needs it.
use Rattle.std.specs.Prelude.{◌≡◌, Bool, true, false, ◌&&◌, List, [], ◌∷◌, ◌++◌, Option, Some, None, if◌then◌else◌}
use Rattle.std.specs.Str.{bytes_eq}
use Rattle.dd_names.specs.declared.object_name.ObjectKey.{ObjectKey}
use Rattle.dd_names.specs.declared.object_name.ObjectKey.TheVariants as keys
use Rattle.dd_catalog.specs.Sights.{Sight}
use Rattle.dd_catalog.specs.Catalog.{is_same_object}
use Rattle.dd_catalog.specs.Walks.{Walk, done, refuse, ask}
use Rattle.dd_catalog.specs.WalkLaws.{Look}
use Rattle.rules_locks.specs.Steps.{Step, step, steps}

abbrev pub is_same_place : ObjectKey → ObjectKey → Bool
is_same_place keys.Schemas keys.Schemas = true
is_same_place (keys.Schema a) (keys.Schema b) = bytes_eq a b
is_same_place (keys.Objects a) (keys.Objects b) = bytes_eq a b
is_same_place (keys.Object a) (keys.Object b) = is_same_object a b
is_same_place (keys.Children a) (keys.Children b) = is_same_object a b
is_same_place (keys.Constraint a n) (keys.Constraint b m) = bytes_eq a b && bytes_eq n m
is_same_place one other = false

-- what the steps saw at the key, where one of them looked at it
abbrev pub seen_at : List Step → Look
seen_at [] key = None
seen_at (s ∷ steps) key = if is_same_place s.key key then Some s.seen else seen_at steps key

abbrev pub once_at : {E A : Type 0} → Option Sight → ObjectKey → (Sight → Walk E A) → (Sight → Walk E A) → Walk E A
once_at None key first again = ask key first
once_at (Some seen) key first again = again seen

-- the check behind these steps, without a look at a key where one of its own or of these was before
abbrev pub once : {E A : Type 0} → List Step → Walk E A → Walk E A
once before (done x) = done x
once before (refuse e) = refuse e
once before (ask key go) = once_at (seen_at before key) key (λ seen. once (before ++ step key seen ∷ []) (go seen)) (λ seen. once before (go seen))

-- what the client knows is what it was told, in the order in which the check needed it
pub record IsTold {E A : Type 0} (look : Look) (told : List Step) (check : Walk E A) : Type 0 where
  pub known : (key : ObjectKey) → look key ≡ seen_at told key
  pub needed : steps look (once [] check) ≡ told
