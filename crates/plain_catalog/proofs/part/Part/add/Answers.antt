use Rattle.plain_catalog.specs.declared.part.Part.{Part}
use Rattle.plain_catalog.specs.Known.{known_in}
use Rattle.plain_catalog.proofs.Keys.{apart, more_known, still_stands}
use Rattle.plain_catalog.proofs.part.Part.add.Goals as goal

pub returns-clause-others : goal.returns-clause-others
returns-clause-others c other other_key = c.in_ok-insert.ensures.updates.2 other (apart c.args.key other other_key)

pub returns-clause-more : goal.returns-clause-more
returns-clause-more c none =
    let new : Part = record { objects = c.insert.new.self } in
    more_known (known_in c.args.self.now) (known_in new) c.args.key c.args.object (record { at = c.in_ok-insert.ensures.updates.0 }) none

pub returns-clause-stands : goal.returns-clause-stands
returns-clause-stands c full here stands =
    let new : Part = record { objects = c.insert.new.self } in
    still_stands (known_in c.args.self.now) (known_in new) c.args.key c.args.object full (record { at = c.in_ok-insert.ensures.updates.0 }) here stands
