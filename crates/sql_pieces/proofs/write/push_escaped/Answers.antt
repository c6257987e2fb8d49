use Rattle.sql_pieces.proofs.Characters.{escaped_more}
use Rattle.sql_pieces.proofs.write.push_escaped.Goals as goal

pub characters-preserved : goal.characters-preserved
characters-preserved c = escaped_more c.args.out.now c.characters.out c.push_character.new.out c.characters.yielded c.in-Some.c c.characters.invariant c.in_ok-push_character.ensures
