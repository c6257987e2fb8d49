-- How a check goes on behind a part of it.
use Rattle.std.specs.Prelude.{◌≡◌, Bool, false, Option, Some, None}
use Rattle.std.proofs.Common.{ap}
use Rattle.dd_names.specs.declared.object_name.ObjectKey.{ObjectKey}
use Rattle.dd_errors.specs.Errors.{ErrorValue}
use Rattle.dd_catalog.specs.Sights.{Sight}
use Rattle.dd_catalog.specs.Walks.{Walk, done, ◌>>=◌, fine, told, run, look_at, refuse_if, refuse_some}
use Rattle.dd_catalog.specs.WalkLaws.{Look}

-- behind a part that is through with a value
pub goes : {A B : Type 0} (check : Walk ErrorValue A) (next : A → Walk ErrorValue B) (x : A) → check ≡ done x → (check >>= next) ≡ next x
goes {A} check next x is = ap (λ (c : Walk ErrorValue A). c >>= next) is

-- behind a test that doesn't refuse
pub passes : {B : Type 0} (test : Bool) (error : ErrorValue) (next : Unit {0} → Walk ErrorValue B) → test ≡ false → (refuse_if test error >>= next) ≡ next tt
passes test error next is = ap (λ (b : Bool). refuse_if b error >>= next) is

-- the same of what a check comes to
pub run_passes : {B : Type 0} (look : Look) (test : Bool) (error : ErrorValue) (next : Unit {0} → Walk ErrorValue B) → test ≡ false → run look (refuse_if test error >>= next) ≡ run look (next tt)
run_passes look test error next is = ap (λ (b : Bool). run look (refuse_if b error >>= next)) is

pub run_passes_some : {B : Type 0} (look : Look) (refusal : Option ErrorValue) (next : Unit {0} → Walk ErrorValue B) → refusal ≡ None → run look (refuse_some refusal >>= next) ≡ run look (next tt)
run_passes_some look refusal next is = ap (λ (o : Option ErrorValue). run look (refuse_some o >>= next)) is

pub run_then : {A B : Type 0} (look : Look) (check : Walk ErrorValue A) (next : A → Walk ErrorValue B) (x : A) → check ≡ done x → run look (check >>= next) ≡ run look (next x)
run_then {A} look check next x is = ap (λ (c : Walk ErrorValue A). run look (c >>= next)) is

-- what is seen at a key
pub run_seen : (look : Look) (key : ObjectKey) (seen : Sight) → look key ≡ Some seen → run {E = ErrorValue} look (look_at key) ≡ fine seen
run_seen look key seen is = ap (λ (known : Option Sight). told {E = ErrorValue} {A = Sight} known key (λ s. fine s)) is
