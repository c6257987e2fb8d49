use Rattle.std.proofs.Common.{◌≡◌, ◌∙◌, sym, subst, arith, rules, decimal, Ok}
use Rattle.std.specs.Str.{IsUtf8}
use Rattle.std.proofs.lemmas.Str.{IsUtf8-from_ascii}
use Rattle.std.proofs.lemmas.Fmt.{parse-decimal, IsAscii-decimal}
use Rattle.sdi_text.proofs.type_words.number_of.Goals as goal

pub returns-in-Ok : goal.returns-in-Ok
returns-in-Ok c = λ length small is.
    let e : c.parse.result ≡ Ok length = parse-decimal 16 length c.in-Ok.digits.now c.parse.result small (omega arith) (c.in-Ok.ensures.cases.0 ∙ is) c.parse.ensures.value.0 in
    let v = c.ok.ensures.value in
    search rules

pub returns-in-Err : goal.returns-in-Err
returns-in-Err c = λ length small is. absurd (c.in-Err.ensures.cases.0 (subst IsUtf8 (sym is) (IsUtf8-from_ascii (decimal length) (IsAscii-decimal length (omega arith)))))
