-- What a function adds to a batch.
use Rattle.std.specs.Prelude.{◌≡◌, ℕ, ◌<◌, ◌^◌, Bool, ◌||◌, List, Option, false, length}
use Rattle.std.specs.List.{AllByRecursion}
use Rattle.row_batch.specs.declared.operation.Operation.{Operation}
use Rattle.row_batch.specs.Batches.{BatchValue}
use Rattle.row_batch.specs.Meaning.{Means}
use Rattle.catalog_rows.specs.Owners.{Row}
use Rattle.catalog_rows.specs.Lists.{numbered}
use Rattle.catalog_rows.specs.Changes.{put_behind}

-- whatever the operations meant, they now put these rows too
abbrev pub Adds : List Operation → List Operation → List Row → Type 0
Adds old new rows = (gone : List ℕ → Bool) (puts : List ℕ → Option (List ℕ)) → Means old gone puts → Means new gone (put_behind rows puts)

pub record Added (old new : BatchValue) (rows : List Row) : Type 0 where
  pub unframed : new.is_framed ≡ false
  pub adds : Adds old.operations new.operations rows

abbrev pub Anything : {X : Type 0} → X → Type 0
Anything x = Unit {0}

-- the rows of an item, which fits
pub record AddedOne {X : Type 0} (Fits : X → Type 0) (old new : BatchValue) (rows : List Row) (x : X) : Type 0 where
  pub added : Added old new rows
  pub fits : Fits x

-- the rows of each item by its number, and each fits
pub record AddedEach {X : Type 0} (Fits : X → Type 0) (old new : BatchValue) (make : ℕ → X → List Row) (xs : List X) : Type 0 where
  pub added : Added old new (numbered make 0 xs)
  pub fits : AllByRecursion Fits xs
  pub few : length xs < 2 ^ 16

-- whatever the operations meant, they now also take away the rows whose keys the test holds of
abbrev pub Takes : List Operation → List Operation → (List ℕ → Bool) → Type 0
Takes old new test = (gone : List ℕ → Bool) (puts : List ℕ → Option (List ℕ)) → Means old gone puts → Means new (λ key. test key || gone key) puts

pub record Taken (old new : BatchValue) (test : List ℕ → Bool) : Type 0 where
  pub unframed : new.is_framed ≡ false
  pub takes : Takes old.operations new.operations test
