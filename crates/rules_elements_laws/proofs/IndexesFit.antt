-- Each index that the rules take is fit beside the table.
use Rattle.std.proofs.Common.{◌≡◌, ℕ, ◌≤◌, Bool, true, false, ◌&&◌, not, cond, List, [], length, nat_lt, Option, Some, None, refl, ◌∙◌, ap, subst, arith}
use Rattle.std.specs.List.{list_any}
use Rattle.std.specs.Str.{bytes_eq}
use Rattle.std.proofs.lemmas.Bool.Decides.{nat_tests}
use Rattle.dd_names.specs.Names.{same}
use Rattle.sql_types.specs.declared.words.KeyWords.{KeyWords}
use Rattle.dd_definitions.specs.Indexes.{is_primary, is_primary_class, primary_name, is_well_named}
use Rattle.dd_definitions.specs.declared.indexes.IndexDef.{IndexDef}
use Rattle.dd_definitions.specs.declared.parts.TableParts.{TableParts}
use Rattle.dd_catalog.specs.Asked.{bind_fine, fine_is}
use Rattle.dd_catalog.specs.Walks.{fine, run, done, refuse, refuse_if}
use Rattle.dd_catalog.specs.WalkLaws.{Look}
use Rattle.rules_elements.specs.Keys.{key_columns, has_index_named, is_taken, base_name, given_name, allowed_name, key_name, key_of}
use Rattle.rules_refusals.specs.Refusals.{multiple_pri_key, too_many_key_parts, wrong_name_for_index, dup_keyname}
use Rattle.rules_elements_laws.specs.Indexes.{IsIndexFit}
use Rattle.rules_elements_laws.proofs.ColumnsFit.{allowed}
use Rattle.rules_elements_laws.proofs.FreeNames.{made_is_free}
use Rattle.rules_elements_laws.proofs.Spelled.{equal_to_itself, neither, AreSpelled, all_spelled}

-- ## The name

record IsNameFit (parts : TableParts) (primary : Bool) (name : List ℕ) : Type 0 where
  named : cond primary (bytes_eq name primary_name) (not (same name primary_name)) ≡ true
  free : primary ≡ false → has_index_named parts.indexes name ≡ false

free_fits : (parts : TableParts) (name : List ℕ) → is_taken parts.indexes name ≡ false → IsNameFit parts false name
free_fits parts name free =
    let tests = neither (has_index_named parts.indexes name) (same name primary_name) free in
    record { named = ap not tests.1; free = λ _. tests.0 }

name_fits : (look : Look) (parts : TableParts) (primary : Bool) (given : Option (List ℕ)) (columns : List (List ℕ)) (name : List ℕ)
    → run look (allowed_name primary given) ≡ fine tt → run look (key_name parts primary given columns) ≡ fine name → IsNameFit parts primary name
unfolding key_name
name_fits look parts true given columns name good is = subst (IsNameFit parts true) (fine_is is) (record { named = equal_to_itself primary_name; free = λ wrong. cc })
name_fits look parts false (Some given) columns name good is =
    let other : same given primary_name ≡ false = allowed look (same given primary_name) (wrong_name_for_index given) good in
    elim (has_index_named parts.indexes given) as (λ v. has_index_named parts.indexes given ≡ v → run look (cond v (refuse (dup_keyname given)) (done given)) ≡ fine name → IsNameFit parts false name) [
      | true ↦ λ there e. cc
      | false ↦ λ none e. subst (IsNameFit parts false) (fine_is e) (record { named = ap not other; free = λ _. none })
    ] refl is
name_fits look parts false None columns name good is = free_fits parts name (made_is_free look parts.indexes (base_name parts.name.name columns) name is)

-- ## The index

at_most : (count : ℕ) → nat_lt 16 count ≡ false → count ≤ 16
at_most count is = grind (arith, nat_tests)

no_other : (primary other : Bool) → (primary && other) ≡ false → primary ≡ true → other ≡ false
no_other true other none is = none
no_other false other none is = cc

made_index : (look : Look) (parts : TableParts) (words : KeyWords) (columns : List (List ℕ)) (name : List ℕ) → (is_primary_class words.class && list_any is_primary parts.indexes) ≡ false → nat_lt 16 (length words.columns) ≡ false
    → AreSpelled parts.columns columns → length columns ≡ length words.columns → IsNameFit parts (is_primary_class words.class) name → IsIndexFit parts words (record { name = name; class = words.class; columns = columns })
unfolding is_well_named
made_index look parts words columns name alone few are count fits =
    let short : length words.columns ≤ 16 = at_most (length words.columns) few in
    record {
      class = refl;
      count = count;
      few = omega arith;
      distinct = are.distinct;
      there = are.there;
      named = fits.named;
      alone = no_other (is_primary_class words.class) (list_any is_primary parts.indexes) alone;
      free = fits.free;
    }

pub indexes_are_fit : (look : Look) (parts : TableParts) (words : KeyWords) (index : IndexDef) → run look (key_of parts words) ≡ fine index → IsIndexFit parts words index
unfolding key_of
indexes_are_fit look parts words index is =
    let primary = is_primary_class words.class in
    let second = primary && list_any is_primary parts.indexes in
    let (_, alone, behind_primary) = bind_fine look (refuse_if second multiple_pri_key) _ index is in
    let (_, good, behind_name) = bind_fine look (allowed_name primary (given_name words)) _ index behind_primary in
    let (_, short, behind_count) = bind_fine look (refuse_if (nat_lt 16 (length words.columns)) too_many_key_parts) _ index behind_name in
    let (columns, spelled, behind_columns) = bind_fine look (key_columns parts.columns words.columns) _ index behind_count in
    let (name, named, end) = bind_fine look (key_name parts primary (given_name words) columns) _ index behind_columns in
    let all = all_spelled look parts.columns words.columns [] columns (record { distinct = refl; there = refl }) spelled in
    subst (IsIndexFit parts words) (fine_is end)
    (made_index look parts words columns name (allowed look second multiple_pri_key alone) (allowed look (nat_lt 16 (length words.columns)) too_many_key_parts short) all.0
    (all.1 ∙ omega arith) (name_fits look parts primary (given_name words) columns name good named))
