use Rattle.std.proofs.Common.{◌∙◌, length}
use Rattle.sql_parse_parts.proofs.Placed.{place_is, end_is}
use Rattle.sql_parse_parts.proofs.places.place_of.Goals as goal

pub returns : goal.returns
returns c =
    c.place.ensures
    ∙ rw (c.saturating_sub.ensures, c.count-all.ensures, c.is_some.ensures, c.unwrap_or-end.ensures, end_is c.args.bad (length c.args.text.now)) (place_is c.args.text.now c.args.tokens.now c.args.bad c.args.left c.requires)
