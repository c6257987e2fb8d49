-- The rules of keys and foreign keys, and of what a table is made of.
use Rattle.std.specs.Prelude.{ℕ, Bool, true, false, List, [], ◌∷◌, Option, Some, None, if◌then◌else◌}
use Rattle.sql_grammar.specs.Grammar.{Grammar, nothing, means, many}
use Rattle.sql_grammar.specs.Rules.{◌⊳◌, ◌⊲◌, gives, opt}
use Rattle.sql_types.specs.declared.choices.IndexClass.{IndexClass}
use Rattle.sql_types.specs.declared.choices.IndexClass.TheVariants.{Primary, Unique, Plain}
use Rattle.sql_types.specs.declared.choices.FkRule.{FkRule}
use Rattle.sql_types.specs.declared.choices.FkRule.TheVariants.{NoAction, Restrict, Cascade, SetNull}
use Rattle.sql_types.specs.declared.words.ObjRef.{ObjRef}
use Rattle.sql_types.specs.declared.words.KeyWords.{KeyWords}
use Rattle.sql_types.specs.declared.words.FkWords.{FkWords}
use Rattle.sql_ast.specs.declared.element.Element.{Element}
use Rattle.sql_ast.specs.declared.element.Element.TheVariants.{Column, Key, ForeignKey}
use Rattle.sql_ast.specs.GrammarParts.{the, ◌∣◌, ◌&◌, maybe, a_name, names, cols, object, index_or_key}
use Rattle.sql_ast.specs.GrammarColumns.{named_column}

-- ---- rules of a foreign key

pub data Rule : Type 0 where
  on_delete : FkRule → Rule
  on_update : FkRule → Rule

-- RESTRICT | CASCADE | SET NULL | NO ACTION
unfoldable pub what_is_done : Grammar FkRule
what_is_done = gives Restrict (the "RESTRICT") ∣ gives Cascade (the "CASCADE") ∣ gives SetNull (the "SET" ⊳ the "NULL") ∣ gives NoAction (the "NO" ⊳ the "ACTION")

-- rule = ON (DELETE|UPDATE) (RESTRICT | CASCADE | SET NULL | NO ACTION)
unfoldable pub rule : Grammar Rule
rule = the "ON" ⊳ (means on_delete (the "DELETE" ⊳ what_is_done) ∣ means on_update (the "UPDATE" ⊳ what_is_done))

abbrev pub with_rule : FkWords → Rule → FkWords
with_rule f (on_delete r) = record f { on_delete = r }
with_rule f (on_update r) = record f { on_update = r }

-- of repeated rules of one kind the last holds
abbrev pub with_rules : FkWords → List Rule → FkWords
with_rules f [] = f
with_rules f (r ∷ more) = with_rules (with_rule f r) more

-- ---- keys

abbrev pub key_of : IndexClass → Option (List ℕ) → List (List ℕ) → Element
key_of class name columns = Key (record { class = class; constraint = None; name = name; columns = columns })

-- without a rule that is written, NO ACTION
abbrev pub foreign_key_of : Option (List ℕ) → List (List ℕ) → ObjRef → List (List ℕ) → FkWords
foreign_key_of name columns parent parent_columns = record {
  constraint = None;
  name = name;
  columns = columns;
  parent = parent;
  parent_columns = parent_columns;
  on_delete = NoAction;
  on_update = NoAction;
}

-- PRIMARY KEY cols
unfoldable pub primary_key : Grammar Element
primary_key = means (key_of Primary None) (the "PRIMARY" ⊳ the "KEY" ⊳ cols)

-- UNIQUE [INDEX|KEY] [name] cols
unfoldable pub unique_key : Grammar Element
unique_key = means (λ p. key_of Unique p.0 p.1) (the "UNIQUE" ⊳ maybe index_or_key ⊳ (opt a_name & cols))

-- (INDEX|KEY) [name] cols
unfoldable pub plain_key : Grammar Element
plain_key = means (λ p. key_of Plain p.0 p.1) (index_or_key ⊳ (opt a_name & cols))

-- FOREIGN KEY [name] names REFERENCES object names {rule}
unfoldable pub foreign_key : Grammar Element
foreign_key = means (λ p. ForeignKey (with_rules (foreign_key_of p.0 p.1.0 p.1.1.0 p.1.1.1.0) p.1.1.1.1))
    (the "FOREIGN" ⊳ the "KEY" ⊳ (opt a_name & names & (the "REFERENCES" ⊳ (object & names & many rule))))

abbrev pub key_with_constraint : IndexClass → KeyWords → Option (List ℕ) → Element
key_with_constraint Primary k c = Key k
key_with_constraint _ k c = Key (record k { constraint = c })

-- the constraint name of a primary key has no effect
abbrev pub with_constraint : Option (List ℕ) → Element → Element
with_constraint c (Key k) = key_with_constraint k.class k c
with_constraint c (ForeignKey f) = ForeignKey (record f { constraint = c })
with_constraint c (Column column) = Column column

-- what [CONSTRAINT [name]] may stand before
unfoldable pub constraint_key : Grammar Element
constraint_key = primary_key ∣ unique_key ∣ foreign_key

-- key = [CONSTRAINT [name]] PRIMARY KEY cols
--     | [CONSTRAINT [name]] UNIQUE [INDEX|KEY] [name] cols
--     | (INDEX|KEY) [name] cols
--     | [CONSTRAINT [name]] FOREIGN KEY [name] names REFERENCES object names {rule}
unfoldable pub key : Grammar Element
key = means (λ p. with_constraint p.0 p.1) ((the "CONSTRAINT" ⊳ opt a_name) & constraint_key) ∣ constraint_key ∣ plain_key

-- element = name column | key
unfoldable pub element : Grammar Element
element = means Column named_column ∣ key
