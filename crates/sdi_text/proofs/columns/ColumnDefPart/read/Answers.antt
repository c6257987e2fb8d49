use Rattle.std.proofs.Common.{codes, ap}
use Rattle.serde_json.specs.Find.{get}
use Rattle.sdi_text.proofs.columns.ColumnDefPart.read.Goals as goal

pub returns-in-Ok : goal.returns-in-Ok
returns-in-Ok c = λ part held is.
    let texts = c.both-texts.ensures part.name part.default (c.name_at.ensures part.name held.name (ap (get (codes "name")) is)) (c.default_at.ensures part.default (ap (get (codes "default")) is)) in
    let flags = c.both-flags.ensures part.auto part.nullable (c.flag_at.ensures part.auto (ap (get (codes "auto")) is)) (c.flag_at-2.ensures part.nullable (ap (get (codes "nullable")) is)) in
    let kind = c.type_at.ensures part.kind held.kind (ap (get (codes "type")) is) in
    let all = c.in-Ok.ensures ((part.name, part.default), (part.auto, part.nullable)) part.kind (c.both.ensures (part.name, part.default) (part.auto, part.nullable) texts flags) kind in
    ap (λ p. record { name = p.0.0.0; kind = p.1; nullable = p.0.1.1; default = p.0.0.1; auto = p.0.1.0 }) all

pub returns-in-Err : goal.returns-in-Err
returns-in-Err c = λ part held is.
    let texts = c.both-texts.ensures part.name part.default (c.name_at.ensures part.name held.name (ap (get (codes "name")) is)) (c.default_at.ensures part.default (ap (get (codes "default")) is)) in
    let flags = c.both-flags.ensures part.auto part.nullable (c.flag_at.ensures part.auto (ap (get (codes "auto")) is)) (c.flag_at-2.ensures part.nullable (ap (get (codes "nullable")) is)) in
    let kind = c.type_at.ensures part.kind held.kind (ap (get (codes "type")) is) in
    c.in-Err.ensures ((part.name, part.default), (part.auto, part.nullable)) part.kind (c.both.ensures (part.name, part.default) (part.auto, part.nullable) texts flags) kind
