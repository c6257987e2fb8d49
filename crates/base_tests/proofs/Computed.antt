-- Each of the cases, computed.
use Rattle.std.specs.Prelude.{refl}
use Rattle.std.specs.Fmt.{digits}
use Rattle.dd_names.specs.Reserved.{is_reserved, is_system_schema}
use Rattle.dd_errors.specs.Errors.{form_of}
use Rattle.base_tests.specs.Names.{AreJudged, AreFolded, AreReserved, AreSystems, names, folded, reserved, systems}
use Rattle.base_tests.specs.Texts.{AreSame, AreNumbers, AreKnown, texts, numbers, known}

pub names_judged : AreJudged names
names_judged = refl

pub names_folded : AreFolded folded
names_folded = refl

pub words_reserved : AreReserved reserved
unfolding is_reserved
words_reserved = refl

pub schemas_of_the_system : AreSystems systems
unfolding is_system_schema
schemas_of_the_system = refl

pub texts_made : AreSame texts
unfolding digits form_of
texts_made = refl

pub numbers_told : AreNumbers numbers
numbers_told = refl

pub errors_known : AreKnown known
unfolding form_of
errors_known = refl
