use Rattle.std.proofs.Common.{◌≡◌, ◌++◌, drop}
use denote.Text.{Utf8}
use denote.Shadow.{shadow}
use Rattle.dd_errors.specs.Errors.{filled}
use Rattle.dd_errors.proofs.sql_error.text_with.Given as goal

abbrev pub invariant-loop-arg : goal.invariant-loop-arg
invariant-loop-arg l =
    record {
      text : shadow (Utf8 l.rest);
      filled : l.text ++ filled l.rest (drop l.arg-index l.args) ≡ filled l.fn.template l.fn.args;
    }
