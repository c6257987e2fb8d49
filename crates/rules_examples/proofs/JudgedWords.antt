-- Each of the checks, computed.
use Rattle.std.specs.Prelude.{refl}
use Rattle.std.specs.Fmt.{digits}
use Rattle.dd_definitions.specs.Defaults.{is_short_text}
use Rattle.rules_elements.specs.Columns.{column_type, kept_default, column_of}
use Rattle.rules_elements.specs.Defaults.{decimal_text, is_in_range, kept_number, kept_text, kept_by}
use Rattle.rules_elements.specs.ForeignKeys.{parent_of, name_is_free, foreign_key_of}
use Rattle.rules_elements.specs.Keys.{one_more, key_name, key_of}
use Rattle.rules_examples.specs.Columns.{kept_defaults, refused_defaults, columns}
use Rattle.rules_examples.specs.ForeignKeys.{family, parents_alone, foreign_keys, refused_foreign_keys, unknown_parents, unknown_owners}
use Rattle.rules_examples.specs.Keys.{keys, refused_keys}
use Rattle.rules_examples.specs.Words.{AllCome, nothing_known}

pub kept_defaults_computed : AllCome nothing_known kept_defaults
unfolding column_type kept_default column_of decimal_text is_in_range kept_number kept_text kept_by is_short_text
kept_defaults_computed = refl

pub refused_defaults_computed : AllCome nothing_known refused_defaults
unfolding column_type kept_default column_of decimal_text is_in_range kept_number kept_text kept_by is_short_text
refused_defaults_computed = refl

pub columns_computed : AllCome nothing_known columns
unfolding column_type kept_default column_of decimal_text is_in_range kept_number kept_text kept_by is_short_text
columns_computed = refl

pub keys_computed : AllCome nothing_known keys
unfolding one_more key_name key_of digits
keys_computed = refl

pub refused_keys_computed : AllCome nothing_known refused_keys
unfolding one_more key_name key_of digits
refused_keys_computed = refl

pub foreign_keys_computed : AllCome family foreign_keys
unfolding parent_of name_is_free foreign_key_of
foreign_keys_computed = refl

pub refused_foreign_keys_computed : AllCome family refused_foreign_keys
unfolding parent_of name_is_free foreign_key_of
refused_foreign_keys_computed = refl

pub unknown_parents_computed : AllCome nothing_known unknown_parents
unfolding parent_of name_is_free foreign_key_of
unknown_parents_computed = refl

pub unknown_owners_computed : AllCome parents_alone unknown_owners
unfolding parent_of name_is_free foreign_key_of
unknown_owners_computed = refl
