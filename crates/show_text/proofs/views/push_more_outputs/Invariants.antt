use Rattle.std.proofs.Common.{◌≡◌, ◌++◌, take}
use Rattle.std.specs.Prelude.{flat_map}
use Rattle.show_text.specs.Views.{behind_comma, output_text}
use Rattle.show_text.proofs.views.push_more_outputs.Given as goal

abbrev pub invariant-outputs : goal.invariant-outputs
invariant-outputs l = l.out ≡ l.fn.out ++ flat_map (λ o. behind_comma (output_text l.sources o)) (take l.output-index l.outputs)
