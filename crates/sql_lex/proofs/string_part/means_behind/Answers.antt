use Rattle.std.proofs.Common.{◌∙◌, ap, sym, ◌+◌, ℕ, List, Some, drop}
use Rattle.std.specs.Prelude.{bytes_eq}
use Rattle.sql_lex.specs.Strings.{part, meant}
use Rattle.sql_lex.specs.declared.string_part.Part.TheVariants.{Closes, One, Two}
use Rattle.sql_lex.proofs.Meant.{one_at, strips_by, strips_two_by}
use Rattle.sql_lex.proofs.string_part.means_behind.Goals as goal

pub parts-preserved-in-Some : goal.parts-preserved-in-Some
parts-preserved-in-Some c =
    let o = one_at (One c.in-One.c c.in-One.n) c.args.quote c.args.bytes.now c.parts.at (c.in-One.ensures ∙ ap (part c.args.quote) c.from_place.ensures) c.parts-test.true in
    let xs : List ℕ = meant c.args.quote (drop (c.parts.at + c.in-One.n) c.args.bytes.now) 0 in
    let t = strips_by c.in-One.c c.parts.rest.now xs (Some c.in-Some.after.now) c.in-Some.ensures in
    record { so_far = sym t ∙ ap (λ (x : List ℕ). bytes_eq x c.parts.rest.now) (sym o.2) ∙ c.parts.invariant.so_far; place = o.1 }

pub parts-preserved : goal.parts-preserved
parts-preserved c =
    let o = one_at (Two c.in-Two.c) c.args.quote c.args.bytes.now c.parts.at (c.in-Two.ensures ∙ ap (part c.args.quote) c.from_place.ensures) c.parts-test.true in
    let xs : List ℕ = meant c.args.quote (drop (c.parts.at + 2) c.args.bytes.now) 0 in
    let t = strips_two_by c.in-Two.c c.parts.rest.now xs (Some c.in-Some-strip_two.after.now) c.in-Some-strip_two.ensures in
    record { so_far = sym t ∙ ap (λ (x : List ℕ). bytes_eq x c.parts.rest.now) (sym o.1) ∙ c.parts.invariant.so_far; place = o.0 }
