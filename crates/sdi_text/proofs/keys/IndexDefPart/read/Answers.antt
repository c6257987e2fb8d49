use Rattle.std.proofs.Common.{codes, ap}
use Rattle.serde_json.specs.Find.{get}
use Rattle.sdi_text.proofs.keys.IndexDefPart.read.Goals as goal

pub returns-in-Ok : goal.returns-in-Ok
returns-in-Ok c = λ part held is.
    let columns = c.parts_at-columns.ensures part.columns held.columns (ap (get (codes "columns")) is) in
    let words = c.both-words.ensures part.name part.class (c.name_at.ensures part.name held.name (ap (get (codes "name")) is)) (c.class_at.ensures part.class (ap (get (codes "kind")) is)) in
    ap (λ p. record { name = p.1.0; class = p.1.1; columns = p.0 }) (c.in-Ok.ensures part.columns (part.name, part.class) columns words)

pub returns-in-Err : goal.returns-in-Err
returns-in-Err c = λ part held is.
    let columns = c.parts_at-columns.ensures part.columns held.columns (ap (get (codes "columns")) is) in
    let words = c.both-words.ensures part.name part.class (c.name_at.ensures part.name held.name (ap (get (codes "name")) is)) (c.class_at.ensures part.class (ap (get (codes "kind")) is)) in
    c.in-Err.ensures part.columns (part.name, part.class) columns words
