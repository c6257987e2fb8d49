use Rattle.std.proofs.Common.{sym, ◌∙◌}
use Rattle.rules_create.specs.Drafts.{keys_in}
use Rattle.rules_create.proofs.OrderedKeys.{has_name, added_stop, added_fine}
use Rattle.rules_create.proofs.ordered_keys.OrderedKeys.add.Goals as goal

pub returns-then-contains_key-clause-exact : goal.returns-then-contains_key-clause-exact
returns-then-contains_key-clause-exact c look table ordered =
    let there = has_name c.args.self.now table c.args.key.name c.in_ok-folded.folded c.contains_key.result c.in_ok-folded.ensures c.contains_key.ensures ordered in
    added_stop look (keys_in c.args.self.now) c.args.key c.in_ok-fk_dup_name.field-0 (sym there ∙ c.if-contains_key.true) c.in_ok-fk_dup_name.ensures

pub returns-clause-exact : goal.returns-clause-exact
returns-clause-exact c look table ordered =
    let there = has_name c.args.self.now table c.args.key.name c.in_ok-folded.folded c.contains_key.result c.in_ok-folded.ensures c.contains_key.ensures ordered in
    let none = sym there ∙ c.if-contains_key.false in
    added_fine look (keys_in c.args.self.now) (keys_in c.put.new.self) c.args.key none (c.in_ok-put.ensures.keys table ordered c.in_ok-folded.ensures none)

pub returns-clause-ordered : goal.returns-clause-ordered
returns-clause-ordered c table ordered =
    let there = has_name c.args.self.now table c.args.key.name c.in_ok-folded.folded c.contains_key.result c.in_ok-folded.ensures c.contains_key.ensures ordered in
    c.in_ok-put.ensures.ordered table ordered c.in_ok-folded.ensures (sym there ∙ c.if-contains_key.false)
