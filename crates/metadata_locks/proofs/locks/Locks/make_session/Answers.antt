use Rattle.std.proofs.Common.{rules}
use Rattle.metadata_locks.proofs.Sessions.{made}
use Rattle.metadata_locks.proofs.locks.Locks.make_session.Goals as goal

pub returns-in_ok-insert : goal.returns-in_ok-insert
returns-in_ok-insert c = record {
  same = λ other key mode. made c.args.self.now.sessions c.insert.new.self c.args.session c.new.result c.new.ensures.empty (search rules) (record { at = c.in_ok-insert.ensures.updates.0 }) other key mode;
}
