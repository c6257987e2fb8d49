use Rattle.std.proofs.Common.{◌∙◌, ap}
use Rattle.sql_lex.specs.Strings.{part, meant}
use Rattle.sql_lex.specs.declared.string_part.Part.TheVariants.{One, Two}
use Rattle.sql_lex.proofs.Meant.{goes_on}
use Rattle.sql_lex.proofs.string_part.meaning_behind.Goals as goal

pub parts-preserved-in-One : goal.parts-preserved-in-One
parts-preserved-in-One c =
    let g = goes_on (One c.in-One.c c.in-One.n) c.args.quote c.args.bytes.now c.parts.at c.parts.value.items (meant c.args.quote c.args.bytes.now 0) (c.in-One.ensures ∙ ap (part c.args.quote) c.from_place.ensures) c.parts-test.true c.parts.invariant.so_far in
    record { so_far = rw c.in_ok-push-in-One.ensures.items g.2; place = g.1 }

pub parts-preserved : goal.parts-preserved
parts-preserved c =
    let g = goes_on (Two c.in-Two.c) c.args.quote c.args.bytes.now c.parts.at c.parts.value.items (meant c.args.quote c.args.bytes.now 0) (c.in-Two.ensures ∙ ap (part c.args.quote) c.from_place.ensures) c.parts-test.true c.parts.invariant.so_far in
    record { so_far = rw (c.in_ok-push-in-Two-2.ensures.items, c.in_ok-push-in-Two.ensures.items) g.1; place = g.0 }
