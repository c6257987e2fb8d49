use Rattle.std.proofs.Common.{sym, ◌∙◌, ap}
use Rattle.rules_rename.proofs.Keys.{in_order_among, among_none, among_last}
use Rattle.rules_rename.proofs.foreign_keys.in_order.Goals as goal

pub rest-init : goal.rest-init
rest-init c = ap (λ ks. in_order_among ks c.new-found.result) c.into_vec-rest.ensures ∙ ap (in_order_among c.args.keys) c.new-found.ensures ∙ among_none c.args.keys

pub rest-preserved : goal.rest-preserved
rest-preserved c =
    ap (in_order_among c.pop.new.self.items) c.in_ok-put_in_order.ensures ∙ sym (among_last c.pop.new.self.items c.in-Some.key c.rest.found) ∙ sym (ap (λ l. in_order_among l c.rest.found) c.in-Some.ensures.items) ∙ c.rest.invariant
