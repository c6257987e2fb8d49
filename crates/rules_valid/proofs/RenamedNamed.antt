-- The names of a renamed table or view are names.
use Rattle.std.specs.Prelude.{◌≡◌, ℕ, ◌+◌, ◌<◌, ◌≤◌, ◌==◌, Bool, true, false, ◌&&◌, not, nat_lt, List, [], ◌∷◌, ◌++◌, map, length, Option, Some, None, if◌then◌else◌, codes, refl}
use Rattle.std.specs.List.{list_all}
use Rattle.std.proofs.Common.{sym, ◌∙◌, ap, subst, arith, length-append}
use Rattle.std.proofs.lemmas.Bool.{and_parts, and_from, not-true, not_from_false}
use Rattle.std.proofs.lemmas.Bool.Decides.{nat_tests}
use Rattle.std.proofs.lemmas.List.Folds.{list_all-append}
use Rattle.dd_names.specs.Names.{is_name_byte, IsName, is_name}
use Rattle.dd_names.specs.declared.object_name.ObjName.{ObjName}
use Rattle.dd_definitions.specs.Named.{is_object_named, is_foreign_key_named, has_names, is_source_named, is_output_named, view_has_names}
use Rattle.dd_definitions.specs.declared.foreign_keys.ForeignKeyDef.{ForeignKeyDef}
use Rattle.dd_definitions.specs.declared.parts.TableParts.{TableParts}
use Rattle.dd_definitions.specs.declared.view_parts.ViewParts.{ViewParts}
use Rattle.dd_catalog.specs.Walks.{fine, run, every}
use Rattle.dd_catalog.specs.WalkLaws.{Look}
use Rattle.dd_catalog.specs.Asked.{bind_fine}
use Rattle.dd_catalog.proofs.ObjectNames.{name_is, is_name_from}
use Rattle.rules_refusals.specs.Refusals.{too_long_ident}
use Rattle.rules_create.specs.Tables.{behind, constraint_front}
use Rattle.rules_create.proofs.Names.{not_refused}
use Rattle.rules_rename.specs.Renames.{with_front, renamed_constraint, renamed_key, fits_in_name}
use Rattle.rules_rename_laws.proofs.ForeignKeys.{keeps_name}
use Rattle.rules_valid.proofs.MadeNamed.{AreKeyNames, key_names, foreign_key_named, named_of, names_are}
use Rattle.rules_valid.proofs.RenamedMoved.{key_moved}

-- ## Constraints

-- the name isn't too long
abbrev pub is_short : ForeignKeyDef → Bool
is_short key = not (nat_lt 64 (length key.name))

pub all_short : (look : Look) (keys : List ForeignKeyDef) (x : Unit {0}) → run look (every fits_in_name keys) ≡ fine x → list_all is_short keys ≡ true
unfolding fits_in_name
all_short look [] x is = refl
all_short look (key ∷ keys) x is =
    let (y, one, rest) = bind_fine look (fits_in_name key) (λ _. every fits_in_name keys) x is in
    and_from (is_short key) (list_all is_short keys) (not_from_false (nat_lt 64 (length key.name)) (not_refused look (nat_lt 64 (length key.name)) (too_long_ident key.name) y one)) (all_short look keys x rest)

-- what stands behind a front passes what the whole text passes
rest_passes : (p : ℕ → Bool) (front text rest : List ℕ) → behind front text ≡ Some rest → list_all p text ≡ true → list_all p rest ≡ true
rest_passes p [] text rest is all = let same_text : text ≡ rest = cc in subst (λ (t : List ℕ). list_all p t ≡ true) same_text all
rest_passes p (c ∷ front) [] rest is all = cc
rest_passes p (c ∷ front) (d ∷ text) rest is all = on (c == d) is (λ found. rest_passes p front text rest found (and_parts (p d) (list_all p text) all).1)
  where
    on : (b : Bool) → (if b then behind front text else None) ≡ Some rest → (behind front text ≡ Some rest → list_all p rest ≡ true) → list_all p rest ≡ true
    on true found later = later found
    on false found later = cc

at_most : (n : ℕ) → nat_lt 64 n ≡ false → n ≤ 64
at_most n is = grind (arith, nat_tests)

front_is_name : (to rest : List ℕ) → IsName to → list_all is_name_byte rest ≡ true → nat_lt 64 (length (constraint_front to ++ rest)) ≡ false → is_name (constraint_front to ++ rest) ≡ true
front_is_name to rest name good short =
    let own : 0 < length to = name.some in
    let front : length (to ++ codes "_ibfk_") ≡ length to + 6 = length-append to (codes "_ibfk_") in
    is_name_from (constraint_front to ++ rest) (record {
      some = omega (arith, length-append (constraint_front to) rest);
      short = at_most (length (constraint_front to ++ rest)) short;
      each = list_all-append is_name_byte (constraint_front to) rest
          ∙ and_from (list_all is_name_byte (constraint_front to)) (list_all is_name_byte rest)
          (list_all-append is_name_byte to (codes "_ibfk_") ∙ and_from (list_all is_name_byte to) (list_all is_name_byte (codes "_ibfk_")) name.each refl) good;
    })

constraint_is_name : (from to name : List ℕ) → is_name to ≡ true → is_name name ≡ true → nat_lt 64 (length (renamed_constraint from to name)) ≡ false → is_name (renamed_constraint from to name) ≡ true
unfolding renamed_constraint
constraint_is_name from to name new own short = on (behind (constraint_front from) name) refl short
  where
    on : (found : Option (List ℕ)) → behind (constraint_front from) name ≡ found → nat_lt 64 (length (with_front to name found)) ≡ false → is_name (with_front to name found) ≡ true
    on None is fits = own
    on (Some rest) is fits = front_is_name to rest (name_is to new) (rest_passes is_name_byte (constraint_front from) name rest is (name_is name own).each) fits

renamed_key_named : (from to : ObjName) (key : ForeignKeyDef) → is_object_named to ≡ true → is_foreign_key_named key ≡ true → is_short (renamed_key from to key) ≡ true → is_foreign_key_named (renamed_key from to key) ≡ true
unfolding renamed_key
renamed_key_named from to key to_named named short =
    let are : AreKeyNames key = key_names key named in
    let (_, own) = and_parts (is_name to.schema) (is_name to.name) to_named in
    let fits : nat_lt 64 (length (renamed_constraint from.name to.name key.name)) ≡ false =
    not-true (nat_lt 64 (length (renamed_constraint from.name to.name key.name))) (sym (ap (λ (n : List ℕ). not (nat_lt 64 (length n))) (keeps_name from to (record key { name = renamed_constraint from.name to.name key.name }))) ∙ short) in
    key_moved from to (record key { name = renamed_constraint from.name to.name key.name }) to_named
    (foreign_key_named (record key { name = renamed_constraint from.name to.name key.name }) (constraint_is_name from.name to.name key.name own are.name fits) are.columns are.parent are.parent_columns)

pub renamed_keys_named : (from to : ObjName) (keys : List ForeignKeyDef) → is_object_named to ≡ true → list_all is_foreign_key_named keys ≡ true → list_all is_short (map (renamed_key from to) keys) ≡ true
    → list_all (λ (key : ForeignKeyDef). is_foreign_key_named (renamed_key from to key)) keys ≡ true
renamed_keys_named from to [] to_named named short = refl
renamed_keys_named from to (key ∷ keys) to_named named short =
    let (here, later) = and_parts (is_foreign_key_named key) (list_all is_foreign_key_named keys) named in
    let (one, others) = and_parts (is_short (renamed_key from to key)) (list_all is_short (map (renamed_key from to) keys)) short in
    and_from (is_foreign_key_named (renamed_key from to key)) (list_all (λ (k : ForeignKeyDef). is_foreign_key_named (renamed_key from to k)) keys) (renamed_key_named from to key to_named here one) (renamed_keys_named from to keys to_named later others)

-- ## The object at its new name

pub new_table_named : (to : ObjName) (parts : TableParts) (made : List ForeignKeyDef) → is_object_named to ≡ true → has_names parts ≡ true → list_all is_foreign_key_named made ≡ true → has_names (record parts { name = to; foreign_keys = made }) ≡ true
new_table_named to parts made to_named named keys_named =
    let (_, are) = named_of parts named in
    names_are to (record parts { name = to; foreign_keys = made }) to_named (record { name = refl; columns = are.columns; indexes = are.indexes; foreign_keys = keys_named })

pub new_view_named : (to : ObjName) (parts : ViewParts) → is_object_named to ≡ true → view_has_names parts ≡ true → view_has_names (record parts { name = to }) ≡ true
unfolding view_has_names
new_view_named to parts to_named named =
    let (front, outputs) = and_parts (is_object_named parts.name && list_all is_source_named parts.sources) (list_all is_output_named parts.outputs) named in
    let (_, sources) = and_parts (is_object_named parts.name) (list_all is_source_named parts.sources) front in
    and_from (is_object_named to && list_all is_source_named parts.sources) (list_all is_output_named parts.outputs) (and_from (is_object_named to) (list_all is_source_named parts.sources) to_named sources) outputs
