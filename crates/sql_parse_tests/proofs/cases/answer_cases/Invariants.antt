use denote.Text.{Utf8}
use denote.Shadow.{shadow}
use Rattle.sql_parse_tests.proofs.cases.answer_cases.Given as goal

-- The question is text.
abbrev pub invariant-lines : goal.invariant-lines
invariant-lines l =
    (goal.iterator-lines).can_next l.line-iterator ×
    (goal.iterator-lines).is_finite l.line-iterator ×
    shadow (Utf8 l.question)
