-- The names that a table's indexes have so far.
use Rattle.std.specs.Prelude.{◌≡◌, ℕ, ◌+◌, ◌<◌, ◌≤◌, true, List, length, Some}
use Rattle.std.specs.List.{list_any}
use Rattle.std.specs.Str.{bytes_eq}
use Rattle.std.specs.BTreeSet.{contains}
use Rattle.std.specs.BTreeMap.{get}
use Rattle.dd_names.specs.Names.{fold, name_cmp}
use Rattle.dd_definitions.specs.declared.indexes.IndexDef.{IndexDef}
use Rattle.rules_elements.specs.declared.taken_names.TakenNames.{TakenNames}
use Rattle.rules_elements.specs.Keys.{is_taken, numbered}

-- the name is taken at each number below this one
pub record IsTried (indexes : List IndexDef) (base : List ℕ) (number : ℕ) : Type 0 where
  pub some : 1 ≤ number
  pub few : number ≤ length indexes + 2
  pub taken : (n : ℕ) → 1 ≤ n → n < number → is_taken indexes (numbered base n) ≡ true

-- these are the folded names of the indexes, and each number that is kept was tried
pub record AreNamesOf (names : TakenNames) (indexes : List IndexDef) : Type 0 where
  pub folded : (q : List ℕ) → contains name_cmp names.folded q ≡ list_any (λ (index : IndexDef). bytes_eq (fold index.name) q) indexes
  pub tried : (base : List ℕ) (number : ℕ) → get name_cmp names.tried base ≡ Some number → IsTried indexes base number
