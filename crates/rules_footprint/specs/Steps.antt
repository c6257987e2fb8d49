-- What a client was told, as the steps of a check.
use Rattle.dd_catalog.specs.Sights.{sight}
use Rattle.rules_locks.specs.Steps.{Step, step}
use Rattle.rules_footprint.specs.declared.footprints.Told.{Told}

abbrev pub step_of : Told → Step
step_of told = step told.key.now (sight told.object.now)
