-- The pieces of SHOW CREATE TABLE touch as they may.
use Rattle.std.proofs.Common.{◌≡◌, ℕ, Bool, true, false, List, [], ◌∷◌, ◌++◌, Option, Some, None, refl}
use Rattle.std.specs.Prelude.{flat_map}
use Rattle.sql_types.specs.declared.choices.IntSize.TheVariants as sizes
use Rattle.sql_types.specs.declared.choices.ColumnType.{ColumnType}
use Rattle.sql_types.specs.declared.choices.ColumnType.TheVariants as types
use Rattle.sql_types.specs.declared.choices.IndexClass.{IndexClass}
use Rattle.sql_types.specs.declared.choices.IndexClass.TheVariants as classes
use Rattle.sql_types.specs.declared.choices.FkRule.{FkRule}
use Rattle.sql_types.specs.declared.choices.FkRule.TheVariants as rules
use Rattle.sql_types.specs.declared.words.ObjRef.{ObjRef}
use Rattle.dd_definitions.specs.declared.columns.ColumnDef.{ColumnDef}
use Rattle.dd_definitions.specs.declared.indexes.IndexDef.{IndexDef}
use Rattle.dd_definitions.specs.declared.foreign_keys.ForeignKeyDef.{ForeignKeyDef}
use Rattle.dd_definitions.specs.declared.parts.TableParts.{TableParts}
use Rattle.sql_pieces.specs.Pieces.{Piece, gap, blank}
use Rattle.sql_text.specs.Parts.{word, comma, closes, divided, behind_commas, name_pieces, names_pieces, schema_pieces, object_pieces, where_some}
use Rattle.show_text_laws.specs.Said.{parent_said}
use Rattle.show_text_laws.specs.Pieces.{type_pieces, null_pieces, default_pieces, attribute_pieces, column_pieces, class_pieces, index_pieces, rule_pieces, rules_pieces, reference_pieces, foreign_key_pieces, next_line, column_line, index_line, foreign_key_line, key_lines, lines_before, elements_pieces, options_pieces, table_pieces}
use Rattle.show_text_laws.proofs.Touching.{begins_apart, touch, touch_joined, begin_joined}

-- pieces that touch as they may, and begin so that anything may stand before them
record Touches (ps : List Piece) : Type 0 where
  inside : touch ps ≡ true
  front : begins_apart ps ≡ true

together : (ps qs : List Piece) → Touches ps → Touches qs → Touches (ps ++ qs)
together ps qs p q = record { inside = touch_joined ps qs p.inside q.inside q.front; front = begin_joined ps qs p.front q.front }

-- whatever begins them
after : (ps qs : List Piece) → touch ps ≡ true → Touches qs → touch (ps ++ qs) ≡ true
after ps qs h q = touch_joined ps qs h q.inside q.front

each : {A : Type 0} (f : A → List Piece) → ((x : A) → Touches (f x)) → (xs : List A) → Touches (flat_map f xs)
each f one [] = record { inside = refl; front = refl }
each f one (x ∷ xs) = together (f x) (flat_map f xs) (one x) (each f one xs)

-- ---- columns

type_touches : (k : ColumnType) → touch (type_pieces k) ≡ true
type_touches (types.Int sizes.Tiny true) = refl
type_touches (types.Int sizes.Tiny false) = refl
type_touches (types.Int sizes.Small true) = refl
type_touches (types.Int sizes.Small false) = refl
type_touches (types.Int sizes.Medium true) = refl
type_touches (types.Int sizes.Medium false) = refl
type_touches (types.Int sizes.Normal true) = refl
type_touches (types.Int sizes.Normal false) = refl
type_touches (types.Int sizes.Big true) = refl
type_touches (types.Int sizes.Big false) = refl
type_touches types.Bool = refl
type_touches (types.Char most) = refl
type_touches (types.VarChar most) = refl
type_touches types.Date = refl
type_touches types.DateTime = refl

null_touches : (nullable : Bool) → Touches (null_pieces nullable)
null_touches true = record { inside = refl; front = refl }
null_touches false = record { inside = refl; front = refl }

default_touches : (auto nullable : Bool) (default : Option (List ℕ)) → Touches (default_pieces auto nullable default)
default_touches true nullable default = record { inside = refl; front = refl }
default_touches false nullable (Some text) = record { inside = refl; front = refl }
default_touches false true None = record { inside = refl; front = refl }
default_touches false false None = record { inside = refl; front = refl }

column_touches : (c : ColumnDef) → touch (column_pieces c) ≡ true
column_touches c =
    after (type_pieces c.kind) (attribute_pieces c) (type_touches c.kind)
    (together (null_pieces c.nullable) (default_pieces c.auto c.nullable c.default) (null_touches c.nullable) (default_touches c.auto c.nullable c.default))

-- ---- keys

commas_touch : (ns : List (List ℕ)) → Touches (behind_commas name_pieces ns)
commas_touch ns = each (λ (n : List ℕ). comma ∷ name_pieces n) (λ n. record { inside = refl; front = refl }) ns

divided_touch : (ns : List (List ℕ)) → touch (divided name_pieces ns) ≡ true
divided_touch [] = refl
divided_touch (n ∷ ns) = after (name_pieces n) (behind_commas name_pieces ns) refl (commas_touch ns)

names_touch : (ns : List (List ℕ)) → Touches (names_pieces ns)
names_touch ns = record { inside = after (divided name_pieces ns) (closes ∷ []) (divided_touch ns) (record { inside = refl; front = refl }); front = refl }

class_touches : (class : IndexClass) (n : List ℕ) → touch (class_pieces class n) ≡ true
class_touches classes.Primary n = refl
class_touches classes.Unique n = refl
class_touches classes.Plain n = refl

index_touches : (i : IndexDef) → touch (index_pieces i) ≡ true
index_touches i = after (class_pieces i.class i.name) (names_pieces i.columns) (class_touches i.class i.name) (names_touch i.columns)

delete_touches : (r : FkRule) → Touches (rule_pieces (word "DELETE") r)
delete_touches rules.NoAction = record { inside = refl; front = refl }
delete_touches rules.Restrict = record { inside = refl; front = refl }
delete_touches rules.Cascade = record { inside = refl; front = refl }
delete_touches rules.SetNull = record { inside = refl; front = refl }

update_touches : (r : FkRule) → Touches (rule_pieces (word "UPDATE") r)
update_touches rules.NoAction = record { inside = refl; front = refl }
update_touches rules.Restrict = record { inside = refl; front = refl }
update_touches rules.Cascade = record { inside = refl; front = refl }
update_touches rules.SetNull = record { inside = refl; front = refl }

rules_touch : (key : ForeignKeyDef) → Touches (rules_pieces key)
rules_touch key =
    let d = rule_pieces (word "DELETE") key.on_delete in
    let u = rule_pieces (word "UPDATE") key.on_update in
    together (names_pieces key.parent_columns) (d ++ u) (names_touch key.parent_columns) (together d u (delete_touches key.on_delete) (update_touches key.on_update))

object_touches : (schema : Option (List ℕ)) (n : List ℕ) → touch (where_some schema_pieces schema ++ name_pieces n) ≡ true
object_touches None n = refl
object_touches (Some s) n = refl

parent_touches : (o : ObjRef) (ps : List Piece) → touch ps ≡ true → touch (object_pieces o ++ blank ∷ ps) ≡ true
parent_touches o ps h = after (object_pieces o) (blank ∷ ps) (object_touches o.schema o.name) (record { inside = h; front = refl })

reference_touches : (schema : List ℕ) (key : ForeignKeyDef) → Touches (reference_pieces schema key)
reference_touches schema key =
    together (names_pieces key.columns) (blank ∷ word "REFERENCES" ∷ blank ∷ (object_pieces (parent_said schema key.parent) ++ blank ∷ rules_pieces key)) (names_touch key.columns)
    (record { inside = parent_touches (parent_said schema key.parent) (rules_pieces key) (rules_touch key).inside; front = refl })

foreign_key_touches : (schema : List ℕ) (key : ForeignKeyDef) → touch (foreign_key_pieces schema key) ≡ true
foreign_key_touches schema key = (reference_touches schema key).inside

-- ---- the table

line_touches : (ps : List Piece) → touch ps ≡ true → Touches (next_line ps)
line_touches ps h = record { inside = h; front = refl }

columns_touch : (cs : List ColumnDef) → Touches (flat_map column_line cs)
columns_touch cs = each column_line (λ c. line_touches (column_pieces c) (column_touches c)) cs

key_lines_touch : (parts : TableParts) → Touches (key_lines parts)
key_lines_touch parts =
    together (flat_map index_line parts.indexes) (flat_map (foreign_key_line parts.name.schema) parts.foreign_keys)
    (each index_line (λ i. line_touches (index_pieces i) (index_touches i)) parts.indexes)
    (each (foreign_key_line parts.name.schema) (λ k. line_touches (foreign_key_pieces parts.name.schema k) (foreign_key_touches parts.name.schema k)) parts.foreign_keys)

lines_touch : (cs : List ColumnDef) (others : List Piece) → Touches others → touch (lines_before cs others) ≡ true
lines_touch [] others t = t.inside
lines_touch (c ∷ cs) others t = after (column_pieces c) (flat_map column_line cs ++ others) (column_touches c) (together (flat_map column_line cs) others (columns_touch cs) t)

elements_touch : (parts : TableParts) → touch (elements_pieces parts) ≡ true
elements_touch parts =
    after (lines_before parts.columns (key_lines parts)) (gap (10 ∷ []) ∷ closes ∷ []) (lines_touch parts.columns (key_lines parts) (key_lines_touch parts)) (record { inside = refl; front = refl })

pub table_touches : (parts : TableParts) → touch (table_pieces parts) ≡ true
table_touches parts = after (elements_pieces parts) options_pieces (elements_touch parts) (record { inside = refl; front = refl })
