use Rattle.std.proofs.Common.{◌≡◌, refl, ◌∙◌, ap, ℕ, List}
use Rattle.rules_create.specs.declared.ordered_keys.OrderedKeys.{OrderedKeys}
use Rattle.rules_create.specs.Tables.{behind, number_of}
use Rattle.rules_create.proofs.OrderedKeys.{one_in_order, keys_with_one, ordered_with_one}
use Rattle.rules_create.proofs.ordered_keys.OrderedKeys.put.Goals as goal

pub returns-clause-keys : goal.returns-clause-keys
returns-clause-keys c table ordered is none =
    let new : OrderedKeys = record { by_name = c.insert.new.self; front = c.args.self.now.front; greatest = c.greater-self.result } in
    keys_with_one c.args.self.now new c.args.key (one_in_order c.args.self.now new table c.args.key c.args.folded is none c.in_ok-insert.ensures.entries ordered)

pub returns-clause-ordered : goal.returns-clause-ordered
returns-clause-ordered c table ordered is none =
    let new : OrderedKeys = record { by_name = c.insert.new.self; front = c.args.self.now.front; greatest = c.greater-self.result } in
    let number : c.number_of-number.result ≡ number_of (behind c.args.self.now.front c.args.key.name) =
    c.number_of-number.ensures.value ∙ ap number_of (c.behind.ensures ∙ ap (λ (f : List ℕ). behind f c.as_str-2.result.now) c.as_str.ensures.text ∙ ap (behind c.args.self.now.front) c.as_str-2.ensures.text) in
    ordered_with_one c.args.self.now new table c.args.key c.number_of-number.result (one_in_order c.args.self.now new table c.args.key c.args.folded is none c.in_ok-insert.ensures.entries ordered) refl number c.number_of-number.ensures.small c.greater-self.ensures ordered
