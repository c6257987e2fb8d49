-- What a plan changes of that which others know.
use Rattle.std.specs.Prelude.{Bool, true, false, ◌&&◌, List}
use Rattle.std.specs.List.{list_any}
use Rattle.std.specs.Str.{bytes_eq}
use Rattle.dd_names.specs.declared.object_name.ObjectKey.{ObjectKey}
use Rattle.dd_catalog.specs.Sights.{Sight}
use Rattle.dd_catalog.specs.Catalog.{is_same_object}
use Rattle.rules_locks.specs.Claims.{Claim, KeepSchemas, KeepSchema, KeepObjects, KeepObject, KeepChildren, KeepFree, ChangeSchema, ChangeObject, JoinParent, TakeName}
use Rattle.rules_locks.specs.Locks.{Reads, look_claims}

-- what the first claim keeps changes by the second
abbrev pub is_broken : Claim → Claim → Bool
is_broken KeepSchemas (ChangeSchema name) = true
is_broken (KeepSchema one) (ChangeSchema other) = bytes_eq one other
is_broken (KeepObjects schema) (ChangeObject object) = bytes_eq object.schema schema
is_broken (KeepObject one) (ChangeObject other) = is_same_object one other
is_broken (KeepChildren one) (JoinParent other) = is_same_object one other
is_broken (KeepFree schema folded) (TakeName other name) = bytes_eq schema other && bytes_eq folded name
is_broken one other = false

-- the claims of a plan break what was seen at the key
abbrev pub is_hit : List Claim → ObjectKey → Sight → Bool
is_hit claims key seen = list_any (λ (keep : Claim). list_any (is_broken keep) claims) (look_claims Reads key seen)
