-- The text of SHOW CREATE TABLE is written from its pieces.
use Rattle.std.proofs.Common.{◌≡◌, ℕ, Bool, true, false, List, [], ◌∷◌, ◌++◌, Option, Some, None, refl, sym, ap, ap₂, ◌∙◌, append_assoc, append-nil}
use Rattle.std.specs.Prelude.{flat_map, codes}
use Rattle.std.specs.Str.{bytes_eq}
use Rattle.sql_types.specs.declared.choices.IntSize.{IntSize}
use Rattle.sql_types.specs.declared.choices.IntSize.TheVariants as sizes
use Rattle.sql_types.specs.declared.choices.ColumnType.{ColumnType}
use Rattle.sql_types.specs.declared.choices.ColumnType.TheVariants as types
use Rattle.sql_types.specs.declared.choices.IndexClass.{IndexClass}
use Rattle.sql_types.specs.declared.choices.IndexClass.TheVariants as classes
use Rattle.sql_types.specs.declared.choices.FkRule.{FkRule}
use Rattle.sql_types.specs.declared.choices.FkRule.TheVariants as rules
use Rattle.dd_definitions.specs.declared.columns.ColumnDef.{ColumnDef}
use Rattle.dd_definitions.specs.declared.indexes.IndexDef.{IndexDef}
use Rattle.dd_definitions.specs.declared.foreign_keys.ForeignKeyDef.{ForeignKeyDef}
use Rattle.dd_definitions.specs.declared.parts.TableParts.{TableParts}
use Rattle.sql_pieces.specs.Pieces.{Piece, spelled, written, blank, gap, quoted_name, quoted_string}
use Rattle.sql_text.specs.Parts.{word, closes, divided, behind_commas, name_pieces, names_pieces, schema_pieces, object_pieces, where_some}
use Rattle.show_text.specs.Columns as shown
use Rattle.show_text.specs.Keys as shown_keys
use Rattle.show_text.specs.Keys.{names_text, between, parent_text, constraint_word, foreign_key_words, references_word, foreign_key_text}
use Rattle.show_text.specs.Tables as shown_tables
use Rattle.show_text_laws.specs.Said.{schema_unless, parent_said}
use Rattle.show_text_laws.specs.Pieces.{size_word, sign_pieces, type_pieces, null_pieces, default_pieces, attribute_pieces, column_pieces, class_pieces, index_pieces, rule_pieces, rules_pieces, reference_pieces, foreign_key_pieces, column_line, index_line, foreign_key_line, key_lines, lines_before, options_pieces, table_pieces}

-- ---- pieces one behind the other

written_joined : (ps qs : List Piece) → written (ps ++ qs) ≡ written ps ++ written qs
written_joined [] qs = refl
written_joined (p ∷ ps) qs = ap (λ (bs : List ℕ). spelled p ++ bs) (written_joined ps qs) ∙ sym (append_assoc (spelled p) (written ps) (written qs))

joined : (ps qs : List Piece) (a b : List ℕ) → a ≡ written ps → b ≡ written qs → a ++ b ≡ written (ps ++ qs)
joined ps qs a b p q = ap₂ (λ (x y : List ℕ). x ++ y) p q ∙ sym (written_joined ps qs)

each_written : {A : Type 0} (f : A → List ℕ) (g : A → List Piece) → ((x : A) → f x ≡ written (g x)) → (xs : List A) → flat_map f xs ≡ written (flat_map g xs)
each_written f g same [] = refl
each_written f g same (x ∷ xs) = joined (g x) (flat_map g xs) (f x) (flat_map f xs) (same x) (each_written f g same xs)

-- ---- columns

size_written : (s : IntSize) → shown.size_text s ≡ spelled (size_word s)
size_written sizes.Tiny = refl
size_written sizes.Small = refl
size_written sizes.Medium = refl
size_written sizes.Normal = refl
size_written sizes.Big = refl

sign_written : (unsigned : Bool) → shown.sign_text unsigned ≡ written (sign_pieces unsigned)
sign_written true = refl
sign_written false = refl

type_written : (k : ColumnType) → shown.type_text k ≡ written (type_pieces k)
type_written (types.Int size unsigned) = ap₂ (λ (a b : List ℕ). a ++ b) (size_written size) (sign_written unsigned)
type_written types.Bool = refl
type_written (types.Char most) = refl
type_written (types.VarChar most) = refl
type_written types.Date = refl
type_written types.DateTime = refl

null_written : (nullable : Bool) → shown.null_text nullable ≡ written (null_pieces nullable)
null_written true = refl
null_written false = refl

default_written : (auto nullable : Bool) (default : Option (List ℕ)) → shown.default_text auto nullable default ≡ written (default_pieces auto nullable default)
default_written true nullable default = refl
default_written false nullable (Some text) = ap (λ (bs : List ℕ). codes " DEFAULT " ++ bs) (sym (append-nil (quoted_string text)))
default_written false true None = refl
default_written false false None = refl

column_written : (c : ColumnDef) → shown.column_text c ≡ written (column_pieces c)
column_written c =
    let front : List ℕ = quoted_name c.name ++ codes " " in
    let kind : List ℕ = shown.type_text c.kind in
    let null : List ℕ = shown.null_text c.nullable in
    let default : List ℕ = shown.default_text c.auto c.nullable c.default in
    append_assoc (front ++ kind) null default ∙ append_assoc front kind (null ++ default) ∙ append_assoc (quoted_name c.name) (codes " ") (kind ++ (null ++ default))
    ∙ ap (λ (bs : List ℕ). quoted_name c.name ++ 32 ∷ bs)
    (joined (type_pieces c.kind) (attribute_pieces c) kind (null ++ default) (type_written c.kind)
    (joined (null_pieces c.nullable) (default_pieces c.auto c.nullable c.default) null default (null_written c.nullable) (default_written c.auto c.nullable c.default)))

-- ---- keys

commas_written : (ns : List (List ℕ)) → flat_map shown_keys.behind_comma ns ≡ written (behind_commas name_pieces ns)
commas_written [] = refl
commas_written (n ∷ ns) = ap (λ (bs : List ℕ). 44 ∷ (quoted_name n ++ bs)) (commas_written ns)

inside_written : (ns : List (List ℕ)) → shown_keys.names_inside ns ≡ written (divided name_pieces ns)
inside_written [] = refl
inside_written (n ∷ ns) = ap (λ (bs : List ℕ). quoted_name n ++ bs) (commas_written ns)

names_written : (ns : List (List ℕ)) → names_text ns ≡ written (names_pieces ns)
unfolding names_text
names_written ns = ap (λ (bs : List ℕ). 40 ∷ bs) (joined (divided name_pieces ns) (closes ∷ []) (shown_keys.names_inside ns) (codes ")") (inside_written ns) refl)

class_written : (class : IndexClass) (n : List ℕ) → shown_keys.class_text class n ≡ written (class_pieces class n)
unfolding between
class_written classes.Primary n = refl
class_written classes.Unique n = refl
class_written classes.Plain n = refl

index_written : (i : IndexDef) → shown_keys.index_text i ≡ written (index_pieces i)
index_written i =
    joined (class_pieces i.class i.name) (names_pieces i.columns) (shown_keys.class_text i.class i.name) (names_text i.columns) (class_written i.class i.name) (names_written i.columns)

-- ---- foreign keys

delete_written : (r : FkRule) → shown_keys.rule_text (codes " ON DELETE ") r ≡ written (rule_pieces (word "DELETE") r)
delete_written rules.NoAction = refl
delete_written rules.Restrict = refl
delete_written rules.Cascade = refl
delete_written rules.SetNull = refl

update_written : (r : FkRule) → shown_keys.rule_text (codes " ON UPDATE ") r ≡ written (rule_pieces (word "UPDATE") r)
update_written rules.NoAction = refl
update_written rules.Restrict = refl
update_written rules.Cascade = refl
update_written rules.SetNull = refl

rules_written : (key : ForeignKeyDef) → names_text key.parent_columns ++ shown_keys.rules_text key ≡ written (rules_pieces key)
rules_written key =
    let d = rule_pieces (word "DELETE") key.on_delete in
    let u = rule_pieces (word "UPDATE") key.on_update in
    joined (names_pieces key.parent_columns) (d ++ u) (names_text key.parent_columns) (shown_keys.rules_text key) (names_written key.parent_columns)
    (joined d u (shown_keys.rule_text (codes " ON DELETE ") key.on_delete) (shown_keys.rule_text (codes " ON UPDATE ") key.on_update) (delete_written key.on_delete) (update_written key.on_update))

name_before : (n more : List ℕ) (ps : List Piece) → more ≡ written ps → (quoted_name n ++ codes " ") ++ more ≡ quoted_name n ++ 32 ∷ written ps
name_before n more ps e = append_assoc (quoted_name n) (codes " ") more ∙ ap (λ (bs : List ℕ). quoted_name n ++ 32 ∷ bs) e

parent_written : (own : Bool) (s n more : List ℕ) (ps : List Piece) → more ≡ written ps
    → ((shown_keys.schema_text own s ++ quoted_name n) ++ codes " ") ++ more ≡ written ((where_some schema_pieces (schema_unless own s) ++ name_pieces n) ++ blank ∷ ps)
parent_written true s n more ps e = name_before n more ps e
parent_written false s n more ps e =
    append_assoc ((quoted_name s ++ codes ".") ++ quoted_name n) (codes " ") more
    ∙ append_assoc (quoted_name s ++ codes ".") (quoted_name n) (32 ∷ more)
    ∙ append_assoc (quoted_name s) (codes ".") (quoted_name n ++ 32 ∷ more)
    ∙ ap (λ (bs : List ℕ). quoted_name s ++ 46 ∷ (quoted_name n ++ 32 ∷ bs)) e

references_written : (schema : List ℕ) (key : ForeignKeyDef)
    → shown_keys.references_text schema key ++ shown_keys.rules_text key ≡ written (blank ∷ word "REFERENCES" ∷ blank ∷ (object_pieces (parent_said schema key.parent) ++ blank ∷ rules_pieces key))
unfolding parent_text references_word
references_written schema key =
    append_assoc (parent_text references_word schema key.parent) (names_text key.parent_columns) (shown_keys.rules_text key)
    ∙ ap (λ (bs : List ℕ). codes " REFERENCES " ++ bs)
    (parent_written (bytes_eq key.parent.schema schema) key.parent.schema key.parent.name (names_text key.parent_columns ++ shown_keys.rules_text key) (rules_pieces key) (rules_written key))

reference_written : (schema : List ℕ) (key : ForeignKeyDef)
    → names_text key.columns ++ (shown_keys.references_text schema key ++ shown_keys.rules_text key) ≡ written (reference_pieces schema key)
reference_written schema key =
    joined (names_pieces key.columns) (blank ∷ word "REFERENCES" ∷ blank ∷ (object_pieces (parent_said schema key.parent) ++ blank ∷ rules_pieces key))
    (names_text key.columns) (shown_keys.references_text schema key ++ shown_keys.rules_text key) (names_written key.columns) (references_written schema key)

foreign_key_written : (schema : List ℕ) (key : ForeignKeyDef) → foreign_key_text schema key ≡ written (foreign_key_pieces schema key)
unfolding foreign_key_text between constraint_word foreign_key_words
foreign_key_written schema key =
    let more : List ℕ = shown_keys.references_text schema key ++ shown_keys.rules_text key in
    append_assoc (shown_keys.own_columns key) (shown_keys.references_text schema key) (shown_keys.rules_text key)
    ∙ append_assoc (between constraint_word key.name foreign_key_words) (names_text key.columns) more
    ∙ ap (λ (bs : List ℕ). codes "CONSTRAINT " ++ bs)
    (append_assoc (quoted_name key.name) (codes " FOREIGN KEY ") (names_text key.columns ++ more)
    ∙ ap (λ (bs : List ℕ). quoted_name key.name ++ (codes " FOREIGN KEY " ++ bs)) (reference_written schema key))

-- ---- the table

column_line_written : (c : ColumnDef) → shown_tables.column_line c ≡ written (column_line c)
column_line_written c = ap (λ (bs : List ℕ). shown_tables.next_line ++ bs) (column_written c)

index_line_written : (i : IndexDef) → shown_tables.index_line i ≡ written (index_line i)
index_line_written i = ap (λ (bs : List ℕ). shown_tables.next_line ++ bs) (index_written i)

foreign_key_line_written : (schema : List ℕ) (key : ForeignKeyDef) → shown_tables.foreign_key_line schema key ≡ written (foreign_key_line schema key)
foreign_key_line_written schema key = ap (λ (bs : List ℕ). shown_tables.next_line ++ bs) (foreign_key_written schema key)

keys_text : TableParts → List ℕ
keys_text parts = flat_map shown_tables.index_line parts.indexes ++ flat_map (shown_tables.foreign_key_line parts.name.schema) parts.foreign_keys

keys_written : (parts : TableParts) → keys_text parts ≡ written (key_lines parts)
unfolding keys_text
keys_written parts =
    joined (flat_map index_line parts.indexes) (flat_map (foreign_key_line parts.name.schema) parts.foreign_keys) (flat_map shown_tables.index_line parts.indexes)
    (flat_map (shown_tables.foreign_key_line parts.name.schema) parts.foreign_keys) (each_written shown_tables.index_line index_line index_line_written parts.indexes)
    (each_written (shown_tables.foreign_key_line parts.name.schema) (foreign_key_line parts.name.schema) (foreign_key_line_written parts.name.schema) parts.foreign_keys)

lines_written : (cs : List ColumnDef) (others : List ℕ) (ps : List Piece) → others ≡ written ps → shown_tables.column_lines cs ++ others ≡ written (lines_before cs ps)
lines_written [] others ps e = e
lines_written (c ∷ cs) others ps e =
    let more : List ℕ = flat_map shown_tables.column_line cs in
    ap (λ (bs : List ℕ). 32 ∷ 32 ∷ bs)
    (append_assoc (shown.column_text c) more others
    ∙ joined (column_pieces c) (flat_map column_line cs ++ ps) (shown.column_text c) (more ++ others) (column_written c)
    (joined (flat_map column_line cs) ps more others (each_written shown_tables.column_line column_line column_line_written cs) e))

pub text_written : (parts : TableParts) → shown_tables.table_text parts ≡ written (table_pieces parts)
unfolding keys_text
text_written parts =
    let lines : List Piece = lines_before parts.columns (key_lines parts) in
    let ending : List Piece = gap (10 ∷ []) ∷ closes ∷ [] in
    let end_text : List ℕ = 10 ∷ codes ") ENGINE=InnoDB DEFAULT CHARSET=utf8mb4 COLLATE=utf8mb4_0900_ai_ci" in
    let shown_columns : List ℕ = shown_tables.column_lines parts.columns in
    let same_lines : shown_tables.lines_text parts ≡ written lines =
    append_assoc shown_columns (flat_map shown_tables.index_line parts.indexes) (flat_map (shown_tables.foreign_key_line parts.name.schema) parts.foreign_keys)
    ∙ lines_written parts.columns (keys_text parts) (key_lines parts) (keys_written parts) in
    ap (λ (bs : List ℕ). codes "CREATE TABLE " ++ bs)
    (append_assoc (quoted_name parts.name.name) (32 ∷ 40 ∷ 10 ∷ shown_tables.lines_text parts) end_text
    ∙ ap (λ (bs : List ℕ). quoted_name parts.name.name ++ 32 ∷ 40 ∷ 10 ∷ bs)
    (joined lines (ending ++ options_pieces) (shown_tables.lines_text parts) end_text same_lines refl ∙ ap written (sym (append_assoc lines ending options_pieces))))
