-- The folded names of the columns so far.
use Rattle.std.specs.Prelude.{◌≡◌, ℕ, Bool, true, false, ◌&&◌, ◌||◌, not, List, [], ◌∷◌, ◌++◌, refl}
use Rattle.std.specs.List.{list_any}
use Rattle.std.specs.Ordering.{is_eq}
use Rattle.std.specs.Str.{bytes_eq}
use Rattle.std.specs.BTreeSet.{BTreeSet, contains}
use Rattle.std.proofs.Common.{cond, sym, ◌∙◌, ap}
use Rattle.std.proofs.lemmas.Map.Text.{is_eq-slice_cmp}
use Rattle.std.proofs.lemmas.List.Folds.{list_any-append}
use Rattle.dd_names.specs.Names.{fold, name_cmp}
use Rattle.sql_types.specs.declared.choices.ColumnType.{ColumnType}
use Rattle.sql_types.specs.declared.words.ColumnWords.{ColumnWords}
use Rattle.dd_definitions.specs.Indexes.{is_integer}
use Rattle.dd_definitions.specs.declared.columns.ColumnDef.{ColumnDef}
use Rattle.dd_catalog.specs.Walks.{Walk, Found, done, ◌>>=◌, fine, refused, run, refuse_if}
use Rattle.dd_catalog.specs.declared.stop.Stop.{Stop}
use Rattle.dd_catalog.specs.Follow.{Stops}
use Rattle.dd_catalog.specs.LoopLaws.{stops_all}
use Rattle.dd_catalog.specs.WalkLaws.{Look, run_bind, run_fine}
use Rattle.dd_errors.specs.Errors.{ErrorValue}
use Rattle.dd_catalog.specs.Asked.{fine_is, bind_fine}
use Rattle.rules_elements.specs.Columns.{column_type, kept_default, defined_column, column_with_default, column_of}
use Rattle.rules_refusals.specs.Refusals.{wrong_field_spec, dup_fieldname}
use Rattle.rules_create.specs.Tables.{has_column, one_column}
use Rattle.rules_create.specs.Made.{AreFoldedNames}

pub names_of_none : (names : BTreeSet (List ℕ)) (columns : List ColumnDef) → names.keys ≡ [] → columns ≡ [] → AreFoldedNames names columns
names_of_none names columns none empty = record {
  at = λ q. ap (λ ks. list_any (λ k. is_eq (name_cmp q k)) ks) none ∙ sym (ap (λ (cs : List ColumnDef). list_any (λ (column : ColumnDef). bytes_eq (fold column.name) q) cs) empty);
}

text_added : (key q : List ℕ) (b : Bool) → cond (is_eq (name_cmp key q)) true b ≡ (b || (bytes_eq key q || false))
text_added key q b = ap (λ t. cond t true b) (is_eq-slice_cmp key q) ∙ at (bytes_eq key q) b
  where
    at : (t b : Bool) → cond t true b ≡ (b || (t || false))
    at true true = refl
    at true false = refl
    at false true = refl
    at false false = refl

pub one_more : (old new : BTreeSet (List ℕ)) (columns : List ColumnDef) (column : ColumnDef) (key : List ℕ) → key ≡ fold column.name
    → ((q : List ℕ) → contains name_cmp new q ≡ cond (is_eq (name_cmp key q)) true (contains name_cmp old q)) → AreFoldedNames old columns → AreFoldedNames new (columns ++ column ∷ [])
one_more old new columns column key is adds names = record {
  at = λ q. adds q ∙ text_added key q (contains name_cmp old q)
      ∙ ap (λ b. b || (bytes_eq key q || false)) (names.at q)
      ∙ ap (λ k. list_any (λ (c : ColumnDef). bytes_eq (fold c.name) q) columns || (bytes_eq k q || false)) is
      ∙ sym (list_any-append (λ (c : ColumnDef). bytes_eq (fold c.name) q) columns (column ∷ []));
}

flipped : (b added : Bool) → added ≡ not b → not added ≡ b
flipped true added is = ap not is
flipped false added is = ap not is

-- whether the set had the name tells whether a column has it
pub was_there : (names : BTreeSet (List ℕ)) (columns : List ColumnDef) (name key : List ℕ) (added : Bool) → key ≡ fold name → added ≡ not (contains name_cmp names key) → AreFoldedNames names columns → not added ≡ has_column columns name
was_there names columns name key added is said are = flipped (contains name_cmp names key) added said ∙ are.at key ∙ ap (λ k. list_any (λ (c : ColumnDef). bytes_eq (fold c.name) k) columns) is

-- ## One column more

abbrev behind_type : ColumnWords → ColumnType → Walk ErrorValue ColumnDef
behind_type words kind = refuse_if (words.auto && not (is_integer kind)) (wrong_field_spec words.name) >>= λ _. column_with_default words kind

default_named : (look : Look) (words : ColumnWords) (kind : ColumnType) (column : ColumnDef) → run look (column_with_default words kind) ≡ fine column → column.name ≡ words.name
default_named look words kind column is =
    let found = bind_fine look (kept_default words kind words.default) (λ default. done (defined_column words kind default)) column is in
    sym (ap (λ (c : ColumnDef). c.name) (fine_is {x = defined_column words kind found.0} {y = column} found.2))

type_named : (look : Look) (words : ColumnWords) (kind : ColumnType) (column : ColumnDef) → run look (behind_type words kind) ≡ fine column → column.name ≡ words.name
type_named look words kind column is =
    default_named look words kind column (bind_fine look (refuse_if (words.auto && not (is_integer kind)) (wrong_field_spec words.name)) (λ _. column_with_default words kind) column is).2

pub column_has_name : (look : Look) (words : ColumnWords) (column : ColumnDef) → run look (column_of words) ≡ fine column → column.name ≡ words.name
unfolding column_of
column_has_name look words column is =
    let found = bind_fine look (column_type words.name words.kind) (behind_type words) column is in
    type_named look words found.0 column found.2

abbrev pub came : List ColumnDef → Found ErrorValue (List ColumnDef)
came columns = fine columns

abbrev behind_column : List ColumnDef → ColumnDef → Walk ErrorValue (List ColumnDef)
behind_column before column = done (before ++ column ∷ [])

pub column_there : (look : Look) (before : List ColumnDef) (words : ColumnWords) (added : Bool) → not added ≡ has_column before words.name → added ≡ false → run look (one_column before words) ≡ refused (dup_fieldname words.name)
unfolding one_column
column_there look before words added is was = ap (λ b. run look (refuse_if b (dup_fieldname words.name) >>= λ _. column_of words >>= behind_column before)) (sym is ∙ ap not was)

column_is_new : (look : Look) (before : List ColumnDef) (words : ColumnWords) (added : Bool) → not added ≡ has_column before words.name → added ≡ true → run look (one_column before words) ≡ run look (column_of words >>= behind_column before)
unfolding one_column
column_is_new look before words added is was = ap (λ b. run look (refuse_if b (dup_fieldname words.name) >>= λ _. column_of words >>= behind_column before)) (sym is ∙ ap not was)

pub column_stop : (stop : Stop) (look : Look) (before : List ColumnDef) (words : ColumnWords) (added : Bool) → not added ≡ has_column before words.name → added ≡ true → Stops stop (run look (column_of words)) → Stops stop (run look (one_column before words))
column_stop stop look before words added is was stopped =
    stops_all stop (run look (column_of words)) (λ column. run look (behind_column before column)) _ stopped (sym (column_is_new look before words added is was ∙ run_bind look (column_of words) (behind_column before)))

pub column_fine : (look : Look) (before : List ColumnDef) (words : ColumnWords) (added : Bool) (column : ColumnDef) → not added ≡ has_column before words.name → added ≡ true → run look (column_of words) ≡ fine column → run look (one_column before words) ≡ fine (before ++ column ∷ [])
column_fine look before words added column is was made = column_is_new look before words added is was ∙ run_fine look (column_of words) (behind_column before) column made
