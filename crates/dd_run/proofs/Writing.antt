-- A text that is written piece by piece.
use Rattle.std.proofs.Common.{◌≡◌, ℕ, ◌+◌, List, [], ◌++◌, length, take, sym, ◌∙◌, ap, subst, arith, append_assoc, length-append, Option, Result, Ok, Err}
use Rattle.std.proofs.lemmas.List.{append-nil, take-append-le}
use Rattle.std.proofs.Math.Seq.{take-append-add}
use Rattle.std.specs.Io.KnownBytes.{Appends}
use Rattle.edge_io.specs.Causes.{Rose}
use Rattle.edge_io.specs.Content.{AppendsPrefix}
use Rattle.edge_io.proofs.Told.{appends_nothing, appends_then}
use Rattle.dd_run.specs.declared.print.PrintFault.{PrintFault}
use Rattle.dd_run.specs.declared.print.PrintFault.TheVariants.{Memory}
use Rattle.dd_run.specs.Writes.{Writes}

abbrev Told : Type 0
Told = Option (List ℕ)

-- nothing more of the text, of which some is written
module _ (a b c : Told) (first : List ℕ) (told : Appends a b first) where
  front_then : (second : List ℕ) → AppendsPrefix b c second → AppendsPrefix a c (first ++ second)
  front_then second front = (
    length first + front.0,
    omega (arith, front.1, length-append first second),
    subst (λ l. Appends a c l) (sym (take-append-add first second front.0)) (appends_then a b c first (take front.0 second) told front.2),
  )

front_longer : (a b : Told) (first second : List ℕ) → AppendsPrefix a b first → AppendsPrefix a b (first ++ second)
front_longer a b first second front = (
  front.0,
  omega (arith, front.1, length-append first second),
  subst (λ l. Appends a b l) (sym (take-append-le front.0 first second front.1)) front.2,
)

pub writes_nothing : (o : Told) (n : ℕ) → Writes o o n n [] (Ok tt)
writes_nothing o n = record { whole = appends_nothing o; front = tt; later = omega arith; cause = λ no. absurd (cc) }

pub lacks_memory : (o : Told) (n : ℕ) (text : List ℕ) → Writes o o n n text (Err Memory)
lacks_memory o n text = record { whole = tt; front = (0, omega arith, appends_nothing o); later = omega arith; cause = λ no. absurd (cc) }

-- a piece, and then another
pub writes_then : (a b c : Told) (p q r : ℕ) (first second : List ℕ) (result : Result (Unit {0}) PrintFault)
    → Writes a b p q first (Ok tt) → Writes b c q r second result → Writes a c p r (first ++ second) result
writes_then a b c p q r first second (Ok u) x y = record {
  whole = appends_then a b c first second x.whole y.whole;
  front = tt;
  later = omega (arith, x.later, y.later);
  cause = λ no. absurd (cc);
}
writes_then a b c p q r first second (Err e) x y = record {
  whole = tt;
  front = front_then a b c first x.whole second y.front;
  later = omega (arith, x.later, y.later);
  cause = λ is. let rose : Rose q r = y.cause is in omega (arith, rose, x.later);
}

-- a piece that isn't written whole, so that no other follows
pub writes_stop : (a b : Told) (p q : ℕ) (first second : List ℕ) (fault : PrintFault)
    → Writes a b p q first (Err fault) → Writes a b p q (first ++ second) (Err fault)
writes_stop a b p q first second fault x = record { whole = tt; front = front_longer a b first second x.front; later = x.later; cause = x.cause }

-- some of the whole is written, and the rest isn't
pub record Writing (held now : Told) (before after : ℕ) (rest whole : List ℕ) : Type 0 where
  pub sofar : List ℕ
  pub writes : Writes held now before after sofar (Ok tt)
  pub split : sofar ++ rest ≡ whole

pub started : (o : Told) (n : ℕ) (whole : List ℕ) → Writing o o n n whole whole
started o n whole = record { sofar = []; writes = writes_nothing o n; split = λ i. whole }

module _ (a b c : Told) (p q r : ℕ) (left piece rest whole : List ℕ) (is : left ≡ piece ++ rest) (w : Writing a b p q left whole) where
  regroup : (w.sofar ++ piece) ++ rest ≡ whole
  regroup = append_assoc w.sofar piece rest ∙ ap (λ (l : List ℕ). w.sofar ++ l) (sym is) ∙ w.split

  -- the next piece was written
  pub next : Writes b c q r piece (Ok tt) → Writing a c p r rest whole
  next x = record { sofar = w.sofar ++ piece; writes = writes_then a b c p q r w.sofar piece (Ok tt) w.writes x; split = regroup }

  -- the next piece wasn't written whole
  pub stopped : (fault : PrintFault) → Writes b c q r piece (Err fault) → Writes a c p r whole (Err fault)
  stopped fault x =
      subst (λ l. Writes a c p r l (Err fault)) regroup
      (writes_stop a c p r (w.sofar ++ piece) rest fault (writes_then a b c p q r w.sofar piece (Err fault) w.writes x))

-- all was written
pub ended : (a b : Told) (p q : ℕ) (left whole : List ℕ) → left ≡ [] → Writing a b p q left whole → Writes a b p q whole (Ok tt)
ended a b p q left whole none w = subst (λ l. Writes a b p q l (Ok tt)) (sym (append-nil w.sofar) ∙ ap (λ (l : List ℕ). w.sofar ++ l) (sym none) ∙ w.split) w.writes
