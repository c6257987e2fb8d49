-- A table stands behind an action in the order of its indexes.
use Rattle.std.specs.Prelude.{◌≡◌}
use Rattle.std.specs.List.{AllByRecursion}
use Rattle.std.proofs.Common.{sym, ◌∙◌, ap, subst}
use Rattle.dd_definitions.specs.declared.parts.TableParts.{TableParts}
use Rattle.rules_create.specs.Leaves.{IsTableAt}
use Rattle.rules_alter.specs.Altering.{with_parts}
use Rattle.rules_alter.specs.Arranged.{arranged}
use Rattle.rules_alter.specs.declared.states.Altering.{Altering}
use Rattle.rules_alter.specs.declared.states.Child.{Child}
use Rattle.rules_alter_laws.specs.Stands.{Stands, StandsInOrder}
use Rattle.rules_alter_laws.proofs.Arranged.{IsArranged, is_arranged}
use Rattle.rules_alter_laws.proofs.Kept.{indexes_alike, names_themselves, leads_alike, keys_stay}

in_order : (parts next : TableParts) → IsArranged parts next → Stands parts → StandsInOrder next
in_order parts next there good = subst StandsInOrder {x = record parts { indexes = there.indexes }} there.is (record {
  stands = record {
    some = good.some;
    columns = good.columns;
    indexes = indexes_alike parts.columns parts.indexes there.indexes there.alike good.indexes;
    keys = keys_stay parts.columns parts.columns parts.indexes there.indexes parts.foreign_keys (names_themselves parts.columns) (leads_alike parts.indexes there.indexes there.alike) good.keys;
  };
  ranked = there.ranked;
})

pub arranged_stands : (before parts : TableParts) → Stands parts → StandsInOrder (arranged before parts)
arranged_stands before parts good = in_order parts (arranged before parts) (is_arranged before parts) good

pub arranged_name : (before parts : TableParts) → (arranged before parts).name ≡ parts.name
arranged_name before parts = ap (λ (p : TableParts). p.name) (sym (is_arranged before parts).is)

-- ## What each action keeps

-- the children are well formed and have their names
abbrev pub AreChildrenFormed : Altering → Type 0
AreChildrenFormed state = AllByRecursion (λ (child : Child). IsTableAt child.name child.parts) state.children

pub record IsBehind (state next : Altering) : Type 0 where
  pub stands : StandsInOrder next.parts
  pub name : next.parts.name ≡ state.parts.name
  pub children : AreChildrenFormed state → AreChildrenFormed next

-- the table that an action has made, behind which the indexes are arranged
pub arranged_is_behind : (before state : Altering) → Stands state.parts → state.parts.name ≡ before.parts.name → (AreChildrenFormed before → AreChildrenFormed state) → IsBehind before (with_parts state (arranged before.parts state.parts))
arranged_is_behind before state good name children = record {
  stands = arranged_stands before.parts state.parts good;
  name = arranged_name before.parts state.parts ∙ name;
  children = children;
}

pub parts_are_behind : (state : Altering) (parts : TableParts) → StandsInOrder parts → parts.name ≡ state.parts.name → IsBehind state (with_parts state parts)
parts_are_behind state parts good name = record { stands = good; name = name; children = λ formed. formed }
