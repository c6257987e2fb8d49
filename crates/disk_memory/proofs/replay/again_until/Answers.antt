use Rattle.std.proofs.Common.{◌≡◌, Bool, true, List, ◌∷◌, if◌then◌else◌, sym, subst, arith}
use Rattle.std.specs.Prelude.{nat_le}
use Rattle.std.proofs.lemmas.Bool.Decides.{nat_tests}
use Rattle.std.proofs.lemmas.Result.{on_ok_weaker}
use Rattle.disk_memory.specs.Record.{directory_of, event_of}
use Rattle.disk_memory.specs.Replay.{Agrees}
use Rattle.disk_memory.proofs.replay.again_until.Goals as goal

pub returns : goal.returns
returns c =
    let entry = c.args.entry.now in
    let is_in : nat_le entry.moment c.args.last ≡ true = grind (arith, nat_tests) in
    on_ok_weaker c.once_again.result
    (λ again start events so.
    subst (λ (b : Bool). Agrees c.args.choice start (if b then event_of entry ∷ events else events) (directory_of c.once_again.new.reads) (directory_of c.once_again.new.torn)) (sym is_in) (again start events so))
    c.once_again.ensures
