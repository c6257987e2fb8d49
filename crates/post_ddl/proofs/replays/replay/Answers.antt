use Rattle.post_ddl.proofs.replays.replay.Goals as goal

pub returns-in-DeleteSpace-clause-turns : goal.returns-in-DeleteSpace-clause-turns
returns-in-DeleteSpace-clause-turns g c = λ wanted given. c.delete_space.ensures.turns wanted

pub returns-in-DeleteSpace-clause-carries : goal.returns-in-DeleteSpace-clause-carries
returns-in-DeleteSpace-clause-carries g c = λ wanted given. c.delete_space.ensures.carries wanted

pub returns-in-RenameSpace-clause-turns : goal.returns-in-RenameSpace-clause-turns
returns-in-RenameSpace-clause-turns g c = λ wanted given. c.rename_space.ensures.turns wanted

pub returns-in-RenameSpace-clause-carries : goal.returns-in-RenameSpace-clause-carries
returns-in-RenameSpace-clause-carries g c = λ wanted given. c.rename_space.ensures.carries wanted
