use Rattle.std.proofs.Common.{◌≡◌, map, take}
use Rattle.info_schema.proofs.cells.titles.Given as goal

abbrev pub invariant-words : goal.invariant-words
invariant-words l = l.titles ≡ map (λ word. word.now) (take l.word-index l.words)
