-- Checks that look at keys one after another: a check is a tree, whose branches are what may stand at the key that it looks
-- at next. So the order of its looks is the order in which it is written.
use Rattle.std.specs.Prelude.{Bool, List, [], ◌∷◌, Option, Some, None, if◌then◌else◌}
use Rattle.dd_names.specs.declared.object_name.ObjectKey.{ObjectKey}
use Rattle.dd_catalog.specs.Sights.{Sight}

-- the check is through with a value, it refuses, or it looks at a key and goes on by what it sees there
pub data Walk (E A : Type 0) : Type 0 where
  done : A → Walk E A
  refuse : E → Walk E A
  ask : ObjectKey → (Sight → Walk E A) → Walk E A

-- one check, and then another by its value
infixl 10 ◌>>=◌
abbrev pub ◌>>=◌ : {E A B : Type 0} → Walk E A → (A → Walk E B) → Walk E B
(done x) >>= next = next x
(refuse e) >>= next = refuse e
(ask key go) >>= next = ask key (λ seen. go seen >>= next)

-- what a check comes to: its value, its refusal, or the first key at which it looks and nothing is known
pub data Found (E A : Type 0) : Type 0 where
  fine : A → Found E A
  refused : E → Found E A
  needs : ObjectKey → Found E A

-- goes on by what is known at the key, if it is
abbrev pub told : {E A : Type 0} → Option Sight → ObjectKey → (Sight → Found E A) → Found E A
told None key go = needs key
told (Some seen) key go = go seen

-- what the check comes to over what is known
abbrev pub run : {E A : Type 0} → (ObjectKey → Option Sight) → Walk E A → Found E A
run look (done x) = fine x
run look (refuse e) = refused e
run look (ask key go) = told (look key) key (λ seen. run look (go seen))

abbrev pub asked_after : Option Sight → (Sight → List ObjectKey) → List ObjectKey
asked_after None go = []
asked_after (Some seen) go = go seen

-- the keys at which the check looks, in order, the last of them that which isn't known, if there is one
abbrev pub asked : {E A : Type 0} → (ObjectKey → Option Sight) → Walk E A → List ObjectKey
asked look (done x) = []
asked look (refuse e) = []
asked look (ask key go) = key ∷ asked_after (look key) (λ seen. asked look (go seen))

-- ## Words of which checks are made

-- looks at the key
abbrev pub look_at : {E : Type 0} → ObjectKey → Walk E Sight
look_at key = ask key (λ seen. done seen)

-- refuses if the test holds
abbrev pub refuse_if : {E : Type 0} → Bool → E → Walk E (Unit {0})
refuse_if test e = if test then refuse e else done tt

-- refuses if there is a refusal
abbrev pub refuse_some : {E : Type 0} → Option E → Walk E (Unit {0})
refuse_some None = done tt
refuse_some (Some e) = refuse e

-- a value for each item, in order
abbrev pub each : {E A B : Type 0} → (A → Walk E B) → List A → Walk E (List B)
each check [] = done []
each check (x ∷ xs) = do
  y ← check x
  ys ← each check xs
  done (y ∷ ys)

-- every item passes, in order
abbrev pub every : {E A : Type 0} → (A → Walk E (Unit {0})) → List A → Walk E (Unit {0})
every check [] = done tt
every check (x ∷ xs) = do
  _ ← check x
  every check xs

-- the items that the check picks, in order
abbrev pub picked : {E A : Type 0} → (A → Walk E Bool) → List A → Walk E (List A)
picked check [] = done []
picked check (x ∷ xs) = do
  picks ← check x
  ys ← picked check xs
  done (if picks then x ∷ ys else ys)

-- what the items make of a state, one after another
abbrev pub over : {E S A : Type 0} → (S → A → Walk E S) → S → List A → Walk E S
over check state [] = done state
over check state (x ∷ xs) = do
  next ← check state x
  over check next xs
