-- The index that a key makes.
use Rattle.std.specs.Prelude.{◌≡◌, ℕ, ◌≤◌, ◌==◌, Bool, true, false, ◌&&◌, not, nat_lt, List, [], ◌∷◌, length, Option, Some, None, if◌then◌else◌, refl}
use Rattle.std.specs.List.{list_any, list_all}
use Rattle.std.specs.Str.{bytes_eq}
use Rattle.std.proofs.Common.{sym, ◌∙◌, subst}
use Rattle.std.proofs.lemmas.Bool.{and_parts, or_parts, or_from, not-true, not_from_false, cond-false}
use Rattle.dd_names.specs.Names.{same, name_fault}
use Rattle.dd_names.specs.declared.name.NameFault.{NameFault}
use Rattle.sql_types.specs.declared.words.KeyWords.{KeyWords}
use Rattle.dd_definitions.specs.Columns.{are_key_columns}
use Rattle.dd_definitions.specs.Indexes.{is_primary_class, is_primary, primary_name, is_well_named}
use Rattle.dd_definitions.specs.declared.indexes.IndexDef.{IndexDef}
use Rattle.dd_definitions.specs.declared.parts.TableParts.{TableParts}
use Rattle.dd_catalog.specs.Walks.{fine, run, refuse_if}
use Rattle.dd_catalog.specs.WalkLaws.{Look}
use Rattle.dd_catalog.specs.Asked.{fine_is, bind_fine}
use Rattle.rules_elements.specs.Keys.{key_columns, has_index_named, free_name, base_name, name_unless, made_name, given_name, allowed_name, key_name, key_of}
use Rattle.rules_refusals.specs.Refusals.{multiple_pri_key, wrong_name_for_index, too_many_key_parts, dup_keyname}
use Rattle.rules_create.proofs.FreeNames.{free_name_is_free}
use Rattle.rules_create.proofs.KeyColumns.{key_columns_formed}
use Rattle.rules_create.proofs.Names.{bytes_same, not_refused, done_unless}

-- ## Its name

-- so many indexes that a number is found, each named as its class asks
pub record IsReady (indexes : List IndexDef) : Type 0 where
  pub few : length indexes ≤ 65
  pub named : list_all is_well_named indexes ≡ true

record IsNameGood (indexes : List IndexDef) (primary : Bool) (name : List ℕ) : Type 0 where
  named : (if primary then bytes_eq name primary_name else not (same name primary_name)) ≡ true
  apart : has_index_named indexes name ≡ false

-- where none is primary, none is named so
no_primary_name : (indexes : List IndexDef) → list_all is_well_named indexes ≡ true → list_any is_primary indexes ≡ false → has_index_named indexes primary_name ≡ false
unfolding is_well_named
no_primary_name [] named none = refl
no_primary_name (i ∷ is) named none =
    let (here, rest) = and_parts (if is_primary i then bytes_eq i.name primary_name else not (same i.name primary_name)) (list_all is_well_named is) named in
    let (secondary, others) = or_parts (is_primary i) (list_any is_primary is) none in
    let apart : not (same i.name primary_name) ≡ true = sym (cond-false (is_primary i) (bytes_eq i.name primary_name) (not (same i.name primary_name)) secondary) ∙ here in
    or_from (same i.name primary_name) (has_index_named is primary_name) (not-true (same i.name primary_name) apart) (no_primary_name is rest others)

made_is : (look : Look) (name made : List ℕ) (fault : Option NameFault) → run look (name_unless name fault) ≡ fine made → name ≡ made
made_is look name made None is = fine_is is
made_is look name made (Some fault) is = cc

free_name_good : (look : Look) (indexes : List IndexDef) (base name : List ℕ) → length indexes ≤ 65 → run look (made_name (free_name indexes base)) ≡ fine name → IsNameGood indexes false name
free_name_good look indexes base name few is =
    let (unlike, apart) = or_parts (has_index_named indexes (free_name indexes base)) (same (free_name indexes base) primary_name) (free_name_is_free indexes base few) in
    subst (IsNameGood indexes false) (made_is look (free_name indexes base) name (name_fault (free_name indexes base) true) is) (record { named = not_from_false (same (free_name indexes base) primary_name) apart; apart = unlike })

name_is_good : (look : Look) (parts : TableParts) (primary : Bool) (given : Option (List ℕ)) (columns : List (List ℕ)) (name : List ℕ) (x : Unit {0}) → IsReady parts.indexes → (primary && list_any is_primary parts.indexes) ≡ false
    → run look (allowed_name primary given) ≡ fine x → run look (key_name parts primary given columns) ≡ fine name → IsNameGood parts.indexes primary name
unfolding key_name
name_is_good look parts true given columns name x ready single allowed is =
    subst (IsNameGood parts.indexes true) (fine_is is) (record { named = bytes_same primary_name primary_name refl; apart = no_primary_name parts.indexes ready.named single })
name_is_good look parts false (Some given) columns name x ready single allowed is =
    let other : same given primary_name ≡ false = not_refused look (same given primary_name) (wrong_name_for_index given) x allowed in
    let (apart, same_name) = done_unless look (has_index_named parts.indexes given) (dup_keyname given) given name is in
    subst (IsNameGood parts.indexes false) same_name (record { named = not_from_false (same given primary_name) other; apart = apart })
name_is_good look parts false None columns name x ready single allowed is = free_name_good look parts.indexes (base_name parts.name.name columns) name ready.few is

-- ## The index

pub record IsIndexMade (look : Look) (parts : TableParts) (key : KeyWords) (index : IndexDef) : Type 0 where
  pub spelled : run look (key_columns parts.columns key.columns) ≡ fine index.columns
  pub columns : are_key_columns parts.columns index.columns ≡ true
  pub named : is_well_named index ≡ true
  pub apart : has_index_named parts.indexes index.name ≡ false
  pub single : (is_primary index && list_any is_primary parts.indexes) ≡ false
  pub class : index.class ≡ key.class

pub index_is_made : (look : Look) (parts : TableParts) (key : KeyWords) (index : IndexDef) → IsReady parts.indexes → (length key.columns == 0) ≡ false → run look (key_of parts key) ≡ fine index → IsIndexMade look parts key index
unfolding key_of is_well_named
index_is_made look parts key index ready some is =
    let (_, one, after_one) = bind_fine look (refuse_if (is_primary_class key.class && list_any is_primary parts.indexes) multiple_pri_key) _ index is in
    let (allowing, allowed, after_allowed) = bind_fine look (allowed_name (is_primary_class key.class) (given_name key)) _ index after_one in
    let (_, few, after_few) = bind_fine look (refuse_if (nat_lt 16 (length key.columns)) too_many_key_parts) _ index after_allowed in
    let (columns, spelled, after_columns) = bind_fine look (key_columns parts.columns key.columns) _ index after_few in
    let (name, named, last) = bind_fine look (key_name parts (is_primary_class key.class) (given_name key) columns) _ index after_columns in
    let single = not_refused look (is_primary_class key.class && list_any is_primary parts.indexes) multiple_pri_key tt one in
    let within = not_refused look (nat_lt 16 (length key.columns)) too_many_key_parts tt few in
    let good : IsNameGood parts.indexes (is_primary_class key.class) name = name_is_good look parts (is_primary_class key.class) (given_name key) columns name allowing ready single allowed named in
    subst (IsIndexMade look parts key) (fine_is last) (record {
      spelled = spelled;
      columns = key_columns_formed look parts.columns key.columns columns some within spelled;
      named = good.named;
      apart = good.apart;
      single = single;
      class = refl;
    })
