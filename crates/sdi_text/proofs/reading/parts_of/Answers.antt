use Rattle.std.proofs.Common.{codes, ap}
use Rattle.serde_json.specs.Find.{get}
use Rattle.sdi_text.proofs.reading.parts_of.Goals as goal

pub returns-in-Ok : goal.returns-in-Ok
returns-in-Ok c = λ parts space held is.
    let keys = c.both-keys.ensures parts.indexes parts.foreign_keys (c.parts_at.ensures parts.indexes held.indexes (ap (get (codes "indexes")) is)) (c.parts_at-2.ensures parts.foreign_keys held.foreign_keys (ap (get (codes "foreign_keys")) is)) in
    let columns = c.parts_at-columns.ensures parts.columns held.columns (ap (get (codes "columns")) is) in
    let front = c.both.ensures parts.name parts.columns (c.name_of.ensures parts space held is) columns in
    ap (λ p. record { name = p.0.0; columns = p.0.1; indexes = p.1.0; foreign_keys = p.1.1 }) (c.in-Ok.ensures (parts.name, parts.columns) (parts.indexes, parts.foreign_keys) front keys)

pub returns-in-Err : goal.returns-in-Err
returns-in-Err c = λ parts space held is.
    let keys = c.both-keys.ensures parts.indexes parts.foreign_keys (c.parts_at.ensures parts.indexes held.indexes (ap (get (codes "indexes")) is)) (c.parts_at-2.ensures parts.foreign_keys held.foreign_keys (ap (get (codes "foreign_keys")) is)) in
    let columns = c.parts_at-columns.ensures parts.columns held.columns (ap (get (codes "columns")) is) in
    let front = c.both.ensures parts.name parts.columns (c.name_of.ensures parts space held is) columns in
    c.in-Err.ensures (parts.name, parts.columns) (parts.indexes, parts.foreign_keys) front keys
