use Rattle.std.proofs.Common.{◌≡◌, ◌≤◌, ◌<◌, ◌+◌, ◌^◌, map, drop}
use Rattle.script_cut.specs.Faults.{fault_of, fault_from}
use Rattle.script_cut.proofs.judge.fault_of.Given as goal

abbrev pub invariant-items : goal.invariant-items
invariant-items l = record {
  so_far : fault_from l.text (map (λ name. name.now) l.names.items) l.count (drop l.item-index l.items) ≡ fault_of l.text l.items;
  small : l.count ≤ l.item-index;
}
