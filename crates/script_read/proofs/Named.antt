-- The statements of an input say names.
use Rattle.std.specs.Prelude.{◌≡◌, ℕ, true, List, [], ◌∷◌, All, slice_range}
use Rattle.std.specs.List.{AllByRecursion}
use Rattle.std.specs.Str.{IsUtf8}
use Rattle.std.proofs.lemmas.List.Elements.{All-head, All-tail}
use Rattle.std.proofs.lemmas.Str.{IsUtf8-between}
use Rattle.sql_ast.specs.declared.statement.Statement as words
use Rattle.sql_ast.specs.Names.{says_names}
use Rattle.sql_ast.specs.Reads.{EachReads, EachReadSaysNames, plainly_read}
use Rattle.script_cut.specs.declared.item.Item.{Item}
use Rattle.script_cut.specs.declared.item.Item.TheVariants.{SessionLine, BadLine, Statement, CutStatement, CutComment}
use Rattle.script_cut.specs.Items.{IsItemOf, IsStatement}
use Rattle.script_read.specs.Scripts.{SaysNames, sessions_in, statements_in}

module _ (reads : EachReads) (names : EachReadSaysNames) (text : List ℕ) (utf8 : IsUtf8 text) where
  statement_named : (from to : ℕ) → IsStatement text from to → says_names (plainly_read (slice_range text from to)) ≡ true
  statement_named from to is = names (slice_range text from to) (plainly_read (slice_range text from to)) (IsUtf8-between text from to utf8 is.order is.begins is.ends) (reads (slice_range text from to))

  statements_named : (items : List Item) → All (IsItemOf text) items → AllByRecursion (λ (s : words.Statement). says_names s ≡ true) (statements_in text items)
  statements_named [] all = tt
  statements_named (SessionLine line from to ∷ items) all = tt
  statements_named (BadLine line ∷ items) all = statements_named items (All-tail (IsItemOf text) (BadLine line) items all)
  statements_named (Statement from to ∷ items) all =
      (statement_named from to (All-head (IsItemOf text) (Statement from to) items all), statements_named items (All-tail (IsItemOf text) (Statement from to) items all))
  statements_named (CutStatement from ∷ items) all = statements_named items (All-tail (IsItemOf text) (CutStatement from) items all)
  statements_named (CutComment at ∷ items) all = statements_named items (All-tail (IsItemOf text) (CutComment at) items all)

  pub sessions_named : (items : List Item) → All (IsItemOf text) items → AllByRecursion SaysNames (sessions_in text items)
  sessions_named [] all = tt
  sessions_named (SessionLine line from to ∷ items) all =
      let rest = All-tail (IsItemOf text) (SessionLine line from to) items all in (statements_named items rest, sessions_named items rest)
  sessions_named (BadLine line ∷ items) all = sessions_named items (All-tail (IsItemOf text) (BadLine line) items all)
  sessions_named (Statement from to ∷ items) all = sessions_named items (All-tail (IsItemOf text) (Statement from to) items all)
  sessions_named (CutStatement from ∷ items) all = sessions_named items (All-tail (IsItemOf text) (CutStatement from) items all)
  sessions_named (CutComment at ∷ items) all = sessions_named items (All-tail (IsItemOf text) (CutComment at) items all)
