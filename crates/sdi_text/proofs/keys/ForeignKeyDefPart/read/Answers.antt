use Rattle.std.proofs.Common.{codes, ap}
use Rattle.serde_json.specs.Find.{get}
use Rattle.sdi_text.proofs.keys.ForeignKeyDefPart.read.Goals as goal

pub returns-in-Ok : goal.returns-in-Ok
returns-in-Ok c = λ part held is.
    let child = c.both-child.ensures part.name part.columns (c.name_at.ensures part.name held.name (ap (get (codes "name")) is)) (c.parts_at.ensures part.columns held.columns (ap (get (codes "columns")) is)) in
    let rules = c.both-rules.ensures part.on_delete part.on_update (c.rule_at.ensures part.on_delete (ap (get (codes "on_delete")) is)) (c.rule_at-2.ensures part.on_update (ap (get (codes "on_update")) is)) in
    let of = c.parent_of.ensures part.parent held.schema held.parent (ap (get (codes "parent_schema")) is) (ap (get (codes "parent_name")) is) in
    let parent = c.both-parent.ensures part.parent part.parent_columns of (c.parts_at-2.ensures part.parent_columns held.parent_columns (ap (get (codes "parent_columns")) is)) in
    let front = c.both.ensures (part.name, part.columns) (part.parent, part.parent_columns) child parent in
    ap (λ p. record { name = p.0.0.0; columns = p.0.0.1; parent = p.0.1.0; parent_columns = p.0.1.1; on_delete = p.1.0; on_update = p.1.1 })
    (c.in-Ok.ensures ((part.name, part.columns), (part.parent, part.parent_columns)) (part.on_delete, part.on_update) front rules)

pub returns-in-Err : goal.returns-in-Err
returns-in-Err c = λ part held is.
    let child = c.both-child.ensures part.name part.columns (c.name_at.ensures part.name held.name (ap (get (codes "name")) is)) (c.parts_at.ensures part.columns held.columns (ap (get (codes "columns")) is)) in
    let rules = c.both-rules.ensures part.on_delete part.on_update (c.rule_at.ensures part.on_delete (ap (get (codes "on_delete")) is)) (c.rule_at-2.ensures part.on_update (ap (get (codes "on_update")) is)) in
    let of = c.parent_of.ensures part.parent held.schema held.parent (ap (get (codes "parent_schema")) is) (ap (get (codes "parent_name")) is) in
    let parent = c.both-parent.ensures part.parent part.parent_columns of (c.parts_at-2.ensures part.parent_columns held.parent_columns (ap (get (codes "parent_columns")) is)) in
    let front = c.both.ensures (part.name, part.columns) (part.parent, part.parent_columns) child parent in
    c.in-Err.ensures ((part.name, part.columns), (part.parent, part.parent_columns)) (part.on_delete, part.on_update) front rules
