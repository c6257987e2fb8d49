-- What goes leaves no ids.
use Rattle.std.specs.Prelude.{Option}
use Rattle.dd_names.specs.declared.object_name.ObjectKey.{ObjectKey}
use Rattle.dd_names.specs.declared.object_name.ObjectKey.TheVariants as keys
use Rattle.dd_catalog.specs.declared.object.Object.{Object}
use Rattle.rules_outcome.specs.declared.decided.After.TheVariants as after
use Rattle.rules_outcome.specs.Decided.{HasIds}

pub gone_has_ids : (known : ObjectKey → Option Object) (key : ObjectKey) → HasIds known key after.Gone
gone_has_ids known (keys.Object name) = tt
gone_has_ids known key = tt
