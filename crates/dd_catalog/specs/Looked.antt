-- What a look-up says of a key.
use Rattle.std.specs.Prelude.{◌≡◌, Option, Some, None}
use Rattle.dd_catalog.specs.declared.object.Object.{Object}
use Rattle.dd_catalog.specs.declared.lookup.Known.{Known}
use Rattle.dd_catalog.specs.declared.lookup.Known.TheVariants.{Here, Unknown}

-- it says what is known there, and that nothing is known only where this is so
abbrev pub Tells : Known → Option Object → Type 0
Tells (Here object) known = known ≡ Some object.now
Tells Unknown known = known ≡ None
