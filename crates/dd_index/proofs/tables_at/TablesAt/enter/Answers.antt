use Rattle.std.proofs.Common.{◌∷◌, [], map, sym, subst, Bor}
use Rattle.std.proofs.lemmas.List.{map-append}
use Rattle.dd_names.specs.declared.object_name.ObjectKey.{ObjectKey}
use Rattle.dd_index.specs.Index.{Enters}
use Rattle.dd_index.proofs.Kept.{enters_more, kept_twice}
use Rattle.dd_index.proofs.tables_at.TablesAt.enter.Goals as goal

pub keys-preserved : goal.keys-preserved
keys-preserved c = record {
  kept = kept_twice c.args.self.now c.keys.self c.add.new.self c.keys.invariant.kept c.in_ok-add.ensures.kept;
  entered = subst (Enters c.add.new.self c.args.table.now) (sym (map-append (λ (key : Bor ObjectKey). key.now) c.keys.yielded (c.in-Some.key ∷ [])))
      (enters_more c.keys.self c.add.new.self c.args.table.now (map (λ (key : Bor ObjectKey). key.now) c.keys.yielded) c.in-Some.key.now c.keys.invariant.entered c.in_ok-add.ensures.kept c.in_ok-add.ensures.added);
}
