use Rattle.std.proofs.Common.{refl, sym, ◌∙◌}
use Rattle.sql_ast.specs.GrammarColumns.{attribute, with_attribute, with_attributes}
use Rattle.sql_grammar.specs.Grammar.{many}
use Rattle.sql_grammar.specs.Reading.{read}
use Rattle.sql_grammar.specs.Answers.{folded}
use Rattle.sql_read.specs.Seen.{seen}
use Rattle.sql_parse_columns.specs.Decided.{attributes_decided}
use Rattle.sql_parse_columns.proofs.Folds.{shorter, with_next}
use Rattle.sql_parse_columns.proofs.attribute.attributes.Goals as goal

pub attributes-smaller : goal.attributes-smaller
attributes-smaller c = shorter attribute (with_attribute c.attributes.words) (seen c.attributes.rest) c.attribute.new.column (seen c.in-Ok.read) attributes_decided c.in-Ok.ensures

pub attributes-preserved : goal.attributes-preserved
attributes-preserved c =
    with_next attribute with_attribute with_attributes c.attributes.words c.attribute.new.column (seen c.attributes.rest) (seen c.in-Ok.read) (folded with_attributes c.args.column (read (many attribute) (seen c.args.input)))
    attributes_decided (λ b a xs. refl) (sym c.at_attribute.ensures ∙ c.attributes-test.true) c.in-Ok.ensures c.attributes.invariant
