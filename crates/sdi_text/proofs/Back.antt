-- The text of an SDI reads as the value that it was written for.
use Rattle.std.proofs.Common.{◌≡◌, ℕ, suc, ◌<◌, ◌≤◌, ◌^◌, Bool, List, [], ◌∷◌, Option, Some, None, option_map, option_and_then, map, refl, sym, ap, ◌∙◌, arith, append-nil}
use Rattle.json.specs.Token.{Token}
use Rattle.json.specs.Lex.{tokens}
use Rattle.json.specs.Json as json
use Rattle.json.specs.Tree as tree
use Rattle.json.proofs.Printed.Tokens.{tokens-print}
use Rattle.json.proofs.Printed.Trees.{value-json_tokens, ArePrintable-json_tokens}
use Rattle.json.proofs.Printed.Decimals.{IsNumber-decimal}
use Rattle.serde_json.specs.Data.{Data, Items, Members, null, boolean, number, unsigned, string, array, object, item, member, no_members, put}
use Rattle.serde_json.specs.View.{items_of}
use Rattle.serde_json.specs.Read.{read, of_json, of_items, of_members, max_depth}
use Rattle.serde_json.specs.Written.{outline, items_outline, members_outline, compact_text}
use Rattle.serde_json.proofs.Texts.{print-outline}
use Rattle.serde_json.proofs.Numbers.{number_of-decimal}
use Rattle.dd_definitions.specs.declared.columns.ColumnDef.{ColumnDef}
use Rattle.dd_definitions.specs.declared.indexes.IndexDef.{IndexDef}
use Rattle.dd_definitions.specs.declared.foreign_keys.ForeignKeyDef.{ForeignKeyDef}
use Rattle.dd_definitions.specs.declared.parts.TableParts.{TableParts}
use Rattle.show_text.specs.Columns.{type_text}
use Rattle.show_text.specs.Keys.{rule_name}
use Rattle.sdi_text.specs.Words.{class_word}
use Rattle.sdi_text.specs.Values.{array_of, default_value, column_members, column_value, index_members, index_value, foreign_key_members, foreign_key_value, table_members, table_value}
use Rattle.sdi_text.specs.Sdi.{sdi_bytes}

-- the JSON of a value reads as the value, its numbers are numbers, and it nests no deeper than n
pub record Back (n : ℕ) (d : Data) : Type 0 where
  pub same : of_json (outline d) ≡ Some d
  pub numbers : tree.HasNumbers (outline d)
  pub shallow : tree.depth (outline d) ≤ n

pub record ItemsBack (n : ℕ) (ds : Items) : Type 0 where
  pub same : of_items (items_outline ds) ≡ Some ds
  pub numbers : tree.ItemsHaveNumbers (items_outline ds)
  pub shallow : tree.items_depth (items_outline ds) ≤ n

-- the same of members, put behind those that were found
pub record MembersBack (n : ℕ) (ms found all : Members) : Type 0 where
  pub same : of_members (members_outline ms) found ≡ Some all
  pub numbers : tree.MembersHaveNumbers (members_outline ms)
  pub shallow : tree.members_depth (members_outline ms) ≤ n

null_back : (n : ℕ) → Back n null
null_back n = record { same = refl; numbers = tt; shallow = omega arith }

boolean_back : (n : ℕ) (b : Bool) → Back n (boolean b)
boolean_back n b = record { same = refl; numbers = tt; shallow = omega arith }

string_back : (n : ℕ) (s : List ℕ) → Back n (string s)
string_back n s = record { same = refl; numbers = tt; shallow = omega arith }

number_back : (n x : ℕ) → x < 2 ^ 64 → Back n (number (unsigned x))
number_back n x small = record { same = ap (option_map number) (number_of-decimal x small); numbers = IsNumber-decimal x small; shallow = omega arith }

default_back : (n : ℕ) (kept : Option (List ℕ)) → Back n (default_value kept)
default_back n None = null_back n
default_back n (Some text) = string_back n text

one_more_item : (n : ℕ) (d : Data) (ds : Items) → Back n d → ItemsBack n ds → ItemsBack n (item d ds)
one_more_item n d ds b more = record {
  same = ap (option_and_then (λ x. option_map (item x) (of_items (items_outline ds)))) b.same ∙ ap (option_map (item d)) more.same;
  numbers = (b.numbers, more.numbers);
  shallow = let one = b.shallow in let others = more.shallow in omega arith;
}

items_back : {X : Type 0} (n : ℕ) (value_of : X → Data) → ((x : X) → Back n (value_of x)) → (xs : List X) → ItemsBack n (items_of (map value_of xs))
items_back n value_of each [] = record { same = refl; numbers = tt; shallow = omega arith }
items_back n value_of each (x ∷ xs) = one_more_item n (value_of x) (items_of (map value_of xs)) (each x) (items_back n value_of each xs)

array_back : {X : Type 0} (n : ℕ) (value_of : X → Data) → ((x : X) → Back n (value_of x)) → (xs : List X) → Back (suc n) (array_of value_of xs)
array_back n value_of each xs =
    let items = items_back n value_of each xs in
    record { same = ap (option_map array) items.same; numbers = items.numbers; shallow = let inner = items.shallow in omega arith }

none_left : (n : ℕ) (found : Members) → MembersBack n no_members found found
none_left n found = record { same = refl; numbers = tt; shallow = omega arith }

one_more : (n : ℕ) (k : List ℕ) (d : Data) (ms found all : Members) → Back n d → MembersBack n ms (put k d found) all → MembersBack n (member k d ms) found all
one_more n k d ms found all b more = record {
  same = ap (option_and_then (λ x. of_members (members_outline ms) (put k x found))) b.same ∙ more.same;
  numbers = (b.numbers, more.numbers);
  shallow = let one = b.shallow in let others = more.shallow in omega arith;
}

object_back : (n : ℕ) (ms : Members) → MembersBack n ms no_members ms → Back (suc n) (object ms)
object_back n ms b = record { same = ap (option_map object) b.same; numbers = b.numbers; shallow = let inner = b.shallow in omega arith }

column_back : (n : ℕ) (c : ColumnDef) → Back (suc n) (column_value c)
column_back n c =
    object_back n (column_members c) (one_more n _ (boolean c.auto) _ _ _ (boolean_back n c.auto) (one_more n _ (default_value c.default) _ _ _ (default_back n c.default)
    (one_more n _ (string c.name) _ _ _ (string_back n c.name) (one_more n _ (boolean c.nullable) _ _ _ (boolean_back n c.nullable)
    (one_more n _ (string (type_text c.kind)) _ _ _ (string_back n (type_text c.kind)) (none_left n _))))))

names_back : (n : ℕ) (names : List (List ℕ)) → Back (suc n) (array_of string names)
names_back n names = array_back n string (string_back n) names

index_back : (n : ℕ) (i : IndexDef) → Back (suc (suc n)) (index_value i)
index_back n i =
    object_back (suc n) (index_members i) (one_more (suc n) _ (array_of string i.columns) _ _ _ (names_back n i.columns)
    (one_more (suc n) _ (string (class_word i.class)) _ _ _ (string_back (suc n) (class_word i.class))
    (one_more (suc n) _ (string i.name) _ _ _ (string_back (suc n) i.name) (none_left (suc n) _))))

foreign_key_back : (n : ℕ) (k : ForeignKeyDef) → Back (suc (suc n)) (foreign_key_value k)
foreign_key_back n k =
    let text = string_back (suc n) in
    object_back (suc n) (foreign_key_members k) (one_more (suc n) _ (array_of string k.columns) _ _ _ (names_back n k.columns)
    (one_more (suc n) _ (string k.name) _ _ _ (text k.name)
    (one_more (suc n) _ (string (rule_name k.on_delete)) _ _ _ (text (rule_name k.on_delete))
    (one_more (suc n) _ (string (rule_name k.on_update)) _ _ _ (text (rule_name k.on_update))
    (one_more (suc n) _ (array_of string k.parent_columns) _ _ _ (names_back n k.parent_columns)
    (one_more (suc n) _ (string k.parent.name) _ _ _ (text k.parent.name)
    (one_more (suc n) _ (string k.parent.schema) _ _ _ (text k.parent.schema) (none_left (suc n) _))))))))

table_back : (parts : TableParts) (space : ℕ) → space < 2 ^ 64 → Back 4 (table_value parts space)
table_back parts space small =
    object_back 3 (table_members parts space) (one_more 3 _ (array_of column_value parts.columns) _ _ _ (array_back 2 column_value (column_back 1) parts.columns)
    (one_more 3 _ (number (unsigned 1)) _ _ _ (number_back 3 1 (omega arith))
    (one_more 3 _ (array_of foreign_key_value parts.foreign_keys) _ _ _ (array_back 2 foreign_key_value (foreign_key_back 0) parts.foreign_keys)
    (one_more 3 _ (array_of index_value parts.indexes) _ _ _ (array_back 2 index_value (index_back 0) parts.indexes)
    (one_more 3 _ (string parts.name.name) _ _ _ (string_back 3 parts.name.name)
    (one_more 3 _ (string parts.name.schema) _ _ _ (string_back 3 parts.name.schema)
    (one_more 3 _ (number (unsigned space)) _ _ _ (number_back 3 space small) (none_left 3 _))))))))

-- what is made of the tokens of a text
abbrev parsed : List Token → Option (json.Json × List Token)
parsed ts = json.value max_depth ts

abbrev whole : Option (json.Json × List Token) → Option Data
whole r = option_and_then of_json (option_and_then (λ p. json.if_last p.0 p.1) r)

text_back : (d : Data) → Back 4 d → read (compact_text d) ≡ Some d
text_back d b =
    let ts = tree.json_tokens (outline d) in
    ap (λ text. whole (parsed (tokens text))) (sym (print-outline d))
    ∙ ap (λ us. whole (parsed us)) (tokens-print ts (ArePrintable-json_tokens (outline d) b.numbers) ∙ sym (append-nil ts))
    ∙ ap whole (value-json_tokens (outline d) max_depth [] (let inner = b.shallow in omega arith)) ∙ b.same

-- the text of an SDI reads as its table's value
pub sdi_reads : (parts : TableParts) (space : ℕ) → space < 2 ^ 64 → read (sdi_bytes parts space) ≡ Some (table_value parts space)
unfolding sdi_bytes
sdi_reads parts space small = text_back (table_value parts space) (table_back parts space small)
