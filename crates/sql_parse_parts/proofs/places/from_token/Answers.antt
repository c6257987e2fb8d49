use Rattle.std.proofs.Common.{None}
use Rattle.std.proofs.lemmas.List.Elements.{All-drop}
use Rattle.sql_read.specs.Seen.{seen}
use Rattle.sql_read.specs.Tokens.{IsTokenOf}
use Rattle.sql_read.proofs.Made.{tokens_are_of_text}
use Rattle.sql_parse_parts.proofs.Placed.{dropped}
use Rattle.sql_parse_parts.proofs.places.from_token.Goals as goal

pub invariant_of-result : goal.invariant_of-result
invariant_of-result c = record { of_text = rw (c.as_bytes.ensures.value, c.split_at.ensures.back) (All-drop (IsTokenOf c.args.text.now) c.args.from c.args.tokens.now (tokens_are_of_text c.args.text.now (c.args.tokens.now, None) c.utf8.text c.requires.tokens)) }

pub returns : goal.returns
unfolding seen
returns c = rw (c.as_bytes.ensures.value, c.split_at.ensures.back) (dropped c.args.text.now c.args.tokens.now c.args.from c.requires.tokens)
