use Rattle.std.proofs.Common.{◌≡◌, ◌++◌, take}
use Rattle.std.specs.Prelude.{flat_map}
use Rattle.show_text.specs.Views.{behind_comma, source_text}
use Rattle.show_text.proofs.views.push_more_sources.Given as goal

abbrev pub invariant-sources : goal.invariant-sources
invariant-sources l = l.out ≡ l.fn.out ++ flat_map (λ s. behind_comma (source_text s)) (take l.source-index l.sources)
