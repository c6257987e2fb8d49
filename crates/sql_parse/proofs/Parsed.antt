-- How a text reads, from how its tokens were read.
use Rattle.std.proofs.Common.{◌≡◌, ℕ, Bool, true, false, List, [], ◌∷◌, Option, Some, None, Result, Ok, Err, inl, inr, refl, sym, ap, subst, ◌∙◌}
use Rattle.sql_grammar.specs.Lexemes.{Lexeme}
use Rattle.sql_grammar.specs.Grammar.{Grammar}
use Rattle.sql_grammar.specs.Reading.{Stop, read}
use Rattle.sql_grammar.specs.Checks.{one_token_decides, has_examples}
use Rattle.sql_grammar.specs.Judging.{Verdict, good, stopped_at, followed_by, found, verdict_of}
use Rattle.sql_grammar.specs.Answers.{Stops}
use Rattle.sql_grammar.proofs.Found.{each_reads}
use Rattle.sql_lex.specs.Texts.{Reading, sentence, syntax_error, name_too_long, reading_of, ReadsAs, lexemes}
use Rattle.sql_ast.specs.declared.statement.Statement.{Statement}
use Rattle.sql_ast.specs.Grammar.{statement}
use Rattle.sql_ast.specs.Reads.{Reads, plain_reading, statement_read}
use Rattle.sql_parse_parts.specs.declared.parse_fault.ParseFault.{ParseFault}
use Rattle.sql_parse_parts.specs.declared.parse_fault.ParseFault.TheVariants.{Syntax, TooLong, Memory}
use Rattle.sql_parse_parts.specs.Faults.{fault_at, IsStopOfRule, Tells}
use Rattle.sql_parse_parts.proofs.StopsOfRules.{stop_of_rule}
use Rattle.sql_parse.specs.Parsing.{all_read, whole, IsPlainReading, IsReading}

abbrev judged : {A : Type 0} → Result A Stop → Verdict A
judged (Ok v) = good v
judged (Err s) = stopped_at s.rest s.long

found_whole : {A : Type 0} (r : Result (A × List Lexeme) Stop) → found r ≡ judged (whole r)
found_whole {A} (Ok x) = go x.0 x.1
  where
    go : (v : A) (rest : List Lexeme) → followed_by v rest ≡ judged (all_read v rest)
    go v [] = refl
    go v (l ∷ rest) = refl
found_whole (Err s) = refl

-- ---- stops

abbrev fails : (A : Type 0) → Stop → Result A Stop
fails A s = Err s

same_stop : (A : Type 0) (s t : Stop) → fails A s ≡ fails A t → s ≡ t
same_stop A s t e = cc

not_long : {A : Type 0} (v : A) (rest : List Lexeme) (o : Option Stop) → Stops o (all_read v rest) → IsStopOfRule o
not_long v rest None h = tt
not_long v [] (Some s) h = absurd cc
not_long {A} v (l ∷ rest) (Some s) h = subst (λ (t : Stop). IsStopOfRule (Some t)) (same_stop A (record { rest = l ∷ rest; long = false }) s h) (λ e. absurd cc)

stop_by : {A : Type 0} (g : Grammar A) (ls : List Lexeme) (r : Result (A × List Lexeme) Stop) (o : Option Stop) → read g ls ≡ r → Stops o (whole r) → IsStopOfRule o
stop_by g ls (Ok x) o e h = not_long x.0 x.1 o h
stop_by g ls (Err s) None e h = tt
stop_by {A} g ls (Err s) (Some t) e h = subst (λ (u : Stop). IsStopOfRule (Some u)) (same_stop A s t h) (stop_of_rule g ls (Some s) e)

pub whole_stop : {A : Type 0} (g : Grammar A) (ls : List Lexeme) (o : Option Stop) → Stops o (whole (read g ls)) → IsStopOfRule o
whole_stop g ls o h = stop_by g ls (read g ls) o refl h

-- ---- the plain reader

plainly : (text : List ℕ) (r : Result Statement Stop) → whole (read statement (lexemes text)) ≡ r → plain_reading text ≡ reading_of text (judged r)
plainly text r e = ap (reading_of text) (found_whole (read statement (lexemes text))) ∙ ap (λ (x : Result Statement Stop). reading_of text (judged x)) e

pub good_is : (text : List ℕ) (ls : List Lexeme) (s : Statement) → ls ≡ lexemes text → whole (read statement ls) ≡ Ok s → plain_reading text ≡ sentence s
good_is text ls s e h = plainly text (Ok s) (subst (λ (x : List Lexeme). whole (read statement x) ≡ Ok s) e h)

stopped : (text : List ℕ) (rest : List Lexeme) (long : Bool) → IsStopOfRule (Some (record { rest = rest; long = long })) → plain_reading text ≡ reading_of text (stopped_at rest long) → IsPlainReading (Err (fault_at text rest long)) text
stopped text [] true k h = absurd (k refl)
stopped text [] false k h = h
stopped text (l ∷ rest) true k h = h
stopped text (l ∷ rest) false k h = h

told_so : (text : List ℕ) (fault : ParseFault) (o : Option Stop) → Stops o (whole (read statement (lexemes text))) → Tells fault text o → IsPlainReading (Err fault) text
told_so text fault None h t = subst (λ (f : ParseFault). IsPlainReading (Err f) text) (sym t) tt
told_so text fault (Some s) h t = elim t [
  | inl e ↦ subst (λ (f : ParseFault). IsPlainReading (Err f) text) (sym e) tt
  | inr e ↦ subst (λ (f : ParseFault). IsPlainReading (Err f) text) (sym e) (stopped text s.rest s.long (whole_stop statement (lexemes text) (Some s) h) (plainly text (Err s) h))
]

pub fault_is : (text : List ℕ) (ls : List Lexeme) (fault : ParseFault) (o : Option Stop) → ls ≡ lexemes text → Stops o (whole (read statement ls)) → Tells fault text o → IsPlainReading (Err fault) text
fault_is text ls fault o e h t = told_so text fault o (subst (λ (x : List Lexeme). Stops o (whole (read statement x))) e h) t

-- ---- how the text reads

reads_as : one_token_decides statement ≡ true → has_examples statement ≡ true → (text : List ℕ) (r : Reading Statement) → plain_reading text ≡ r → ReadsAs statement text r
reads_as decided shown text r e = (verdict_of statement (lexemes text), each_reads statement decided shown (lexemes text), sym e)

pub is_reading : one_token_decides statement ≡ true → has_examples statement ≡ true → (text : List ℕ) (r : Result Statement ParseFault) → IsPlainReading r text → IsReading r text
is_reading decided shown text (Ok s) h = reads_as decided shown text (sentence s) h
is_reading decided shown text (Err (Syntax at)) h = reads_as decided shown text (syntax_error at) h
is_reading decided shown text (Err (TooLong name)) h = reads_as decided shown text (name_too_long name) h
is_reading decided shown text (Err Memory) h = tt

pub reads_so : (text : List ℕ) (r : Reading Statement) → ReadsAs statement text r → Reads text (statement_read r)
reads_so text r h = (r, h, refl)
