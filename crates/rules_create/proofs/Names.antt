-- Names that differ in case at most, either way round; and tests behind which a check goes on.
use Rattle.std.specs.Prelude.{◌≡◌, ℕ, Bool, true, false, List, if◌then◌else◌, refl}
use Rattle.std.specs.Str.{bytes_eq}
use Rattle.std.proofs.Common.{sym, ap}
use Rattle.std.proofs.lemmas.Bool.Decides.{same_from_decides, Decides-like}
use Rattle.std.proofs.lemmas.Slice.Eq.{bytes_eq-Decides}
use Rattle.dd_names.specs.Names.{same, fold}
use Rattle.dd_catalog.specs.Walks.{done, refuse, fine, run, refuse_if}
use Rattle.dd_catalog.specs.WalkLaws.{Look}
use Rattle.dd_catalog.specs.Asked.{fine_is}

pub bytes_are : (a b : List ℕ) → bytes_eq a b ≡ true → a ≡ b
bytes_are a b is = (bytes_eq-Decides a b).0 is

pub bytes_same : (a b : List ℕ) → a ≡ b → bytes_eq a b ≡ true
bytes_same a b is = (bytes_eq-Decides a b).1 is

pub bytes_turned : (a b : List ℕ) → bytes_eq a b ≡ bytes_eq b a
bytes_turned a b = same_from_decides (bytes_eq a b) (bytes_eq b a) (bytes_eq-Decides a b) (Decides-like (bytes_eq b a) (λ is. sym is) (λ is. sym is) (bytes_eq-Decides b a))

pub same_turned : (a b : List ℕ) → same a b ≡ same b a
same_turned a b = bytes_turned (fold a) (fold b)

pub same_where_equal : (a b : List ℕ) → a ≡ b → same a b ≡ true
same_where_equal a b is = bytes_same (fold a) (fold b) (ap fold is)

-- a check that went on wasn't refused
pub not_refused : {E : Type 0} (look : Look) (test : Bool) (e : E) (x : Unit {0}) → run look (refuse_if test e) ≡ fine x → test ≡ false
not_refused look true e x is = cc
not_refused look false e x is = refl

pub done_unless : {E A : Type 0} (look : Look) (test : Bool) (e : E) (made x : A) → run look (if test then refuse e else done made) ≡ fine x → (test ≡ false) × (made ≡ x)
done_unless look true e made x is = cc
done_unless look false e made x is = (refl, fine_is is)
