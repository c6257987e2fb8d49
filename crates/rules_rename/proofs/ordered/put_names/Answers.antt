use Rattle.std.proofs.Common.{sym, ◌∙◌, ap}
use Rattle.rules_rename.specs.Overlays.{put_names}
use Rattle.rules_rename.proofs.Names.{names_last}
use Rattle.rules_rename.proofs.ordered.put_names.Goals as goal

pub rest-preserved : goal.rest-preserved
rest-preserved c =
    ap (put_names c.pop.new.self.items) c.in_ok-put_name.ensures ∙ sym (names_last c.pop.new.self.items c.in-Some.name c.rest.names) ∙ sym (ap (λ l. put_names l c.rest.names) c.in-Some.ensures.items) ∙ c.rest.invariant
