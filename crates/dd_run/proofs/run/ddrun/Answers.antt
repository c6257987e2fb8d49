use Rattle.std.proofs.Common.{subst, sym}
use Rattle.dd_run.specs.Headline.{Headline}
use Rattle.dd_run.proofs.Unread.{unread}
use Rattle.dd_run.proofs.run.ddrun.Goals as goal

pub returns-in-Err-read_scripts-clause-headline : goal.returns-in-Err-read_scripts-clause-headline
returns-in-Err-read_scripts-clause-headline g c =
    let held = g.K.Sink.held c.args.sink.now in
    subst (λ status. Headline status (g.S.Source.left c.args.source.now) c.nothing_done.result.history held held) (sym c.nothing_done.ensures.status)
    (unread c.in-Err-read_scripts.status c.nothing_done.result.history _ held _ _ c.nothing_done.ensures.history c.in-Err-read_scripts.ensures.err)
