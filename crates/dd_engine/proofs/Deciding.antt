-- Statements decided over a part of a catalog.
use Rattle.std.specs.Prelude.{◌≡◌, ◌≤◌, ◌+◌, length, Option, Some, None, Ok, Err}
use Rattle.std.specs.Option.{option_map}
use Rattle.std.proofs.Common.{sym, ◌∙◌, ap, subst, refl, arith}
use Rattle.dd_names.specs.declared.object_name.ObjectKey.{ObjectKey}
use Rattle.dd_errors.specs.Errors.{ErrorValue}
use Rattle.dd_catalog.specs.declared.object.Object.{Object}
use Rattle.dd_catalog.specs.Catalog.{Catalog, sight_of, all_of}
use Rattle.dd_catalog.specs.Sights.{Sight, sight}
use Rattle.dd_catalog.specs.declared.stop.Stop.{Stop}
use Rattle.dd_catalog.specs.declared.stop.Stop.TheVariants.{Refused, Need, Memory}
use Rattle.dd_catalog.specs.Walks.{Walk, done, refuse, ask, Found, fine, refused, needs, asked, run}
use Rattle.dd_catalog.specs.WalkLaws.{Extends, IsSettled, Look, left, untold, needed_unknown, fewer_left}
use Rattle.rules_outcome.specs.Choices.{Choice}
use Rattle.rules_outcome.specs.Decided.{chosen}
use Rattle.rules_outcome.specs.declared.decided.Decided.{Decided}
use Rattle.rules_decide.specs.Outcome.{DecidesIf}
use Rattle.rules_decide.proofs.Whole.{settled, known_settles}
use Rattle.plain_catalog.specs.declared.part.Part.{Part}
use Rattle.plain_catalog.specs.Known.{known_in}
use Rattle.dd_engine.specs.Known.{IsKnown, left_in, looks_of, seen_in, Turned}

some_is : {A : Type 0} {x y : A} → ◌≡◌ {A = Option A} (Some x) (Some y) → x ≡ y
some_is e = cc

-- over what is known the check comes to this answer, which isn't the need of a key: so it does over the whole
found_whole : (cat : Catalog) (part : Part) (check : Walk ErrorValue Choice) (found : Found ErrorValue Choice) → IsKnown cat part → IsSettled found → run (seen_in part) check ≡ found → run (all_of cat) check ≡ found
found_whole cat part check found known settles is = known_settles cat (seen_in part) check known (subst IsSettled (sym is) settles) ∙ is

-- what is decided over what is known is decided so over the whole
pub decided_whole : (cat : Catalog) (part : Part) (check : Option (Walk ErrorValue Choice)) (d : Decided) → IsKnown cat part
    → DecidesIf (Ok d) (option_map (run (seen_in part)) check) → DecidesIf (Ok d) (option_map (run (all_of cat)) check)
decided_whole cat part None d known is = absurd is
decided_whole cat part (Some check) d known is = found_whole cat part check (fine (chosen d)) known tt is

-- what is refused over what is known is refused so over the whole
pub refused_whole : (cat : Catalog) (part : Part) (check : Option (Walk ErrorValue Choice)) (error : ErrorValue) → IsKnown cat part
    → DecidesIf (Err (Refused error)) (option_map (run (seen_in part)) check) → DecidesIf (Err (Refused error)) (option_map (run (all_of cat)) check)
refused_whole cat part None error known is = absurd is
refused_whole cat part (Some check) error known is = found_whole cat part check (refused error) known tt is

-- want of memory may come at any time
pub memory_whole : (cat : Catalog) (part : Part) (check : Option (Walk ErrorValue Choice)) (key : ObjectKey)
    → DecidesIf (Err (Need key)) (option_map (run (seen_in part)) check) → DecidesIf (Err Memory) (option_map (run (all_of cat)) check)
memory_whole cat part None key is = absurd is
memory_whole cat part (Some check) key is = tt

-- nothing is known at the key that is needed
needed_none : (part : Part) (check : Walk ErrorValue Choice) (key : ObjectKey) → run (seen_in part) check ≡ needs key → seen_in part key ≡ None
needed_none part check key is = needed_unknown (seen_in part) check key is

-- it is known then, and fewer are left
pub turned_more : (cat : Catalog) (old new : Part) (check : Option (Walk ErrorValue Choice)) (key : ObjectKey) → IsKnown cat old
    → DecidesIf (Err (Need key)) (option_map (run (seen_in old)) check) → seen_in new key ≡ Some (sight_of cat key)
    → (seen_in old key ≡ None → Extends (seen_in old) (seen_in new)) → (IsKnown cat old → IsKnown cat new) → Turned cat check old new None
turned_more cat old new None key known is here more still = absurd is
turned_more cat old new (Some check) key known is here more still =
    (still known, fewer_left (sight_of cat) (seen_in old) (seen_in new) check key known (more (needed_none old check key is)) here is)

-- ## How often it begins

one_at_most : (known : Option Sight) → untold known ≤ 1
one_at_most None = omega arith
one_at_most (Some seen) = omega arith

-- no more keys are left than those at which the check looks
left_looks : (cat : Catalog) (look : Look) (check : Walk ErrorValue Choice) → left (sight_of cat) look check ≤ length (asked (all_of cat) check)
left_looks cat look (done x) = omega arith
left_looks cat look (refuse e) = omega arith
left_looks cat look (ask key go) =
    let here : untold (look key) ≤ 1 = one_at_most (look key) in
    let rest : left (sight_of cat) look (go (sight_of cat key)) ≤ length (asked (all_of cat) (go (sight_of cat key))) = left_looks cat look (go (sight_of cat key)) in
    omega arith

pub left_at_most : (cat : Catalog) (part : Part) (check : Option (Walk ErrorValue Choice)) → left_in cat check part ≤ looks_of cat check
left_at_most cat part None = omega arith
left_at_most cat part (Some check) = left_looks cat (seen_in part) check

-- nothing is seen where nothing is known
pub none_seen : (part : Part) (key : ObjectKey) → seen_in part key ≡ None → known_in part key ≡ None
none_seen part key = on (known_in part key)
  where
    on : (known : Option Object) → option_map sight known ≡ None → known ≡ None
    on None e = refl
    on (Some object) e = cc

-- of nothing all that is known stands there
pub nothing_known : (cat : Catalog) (part : Part) → ((key : ObjectKey) → known_in part key ≡ None) → IsKnown cat part
nothing_known cat part none = record { stands = λ key seen is. absurd (not_some seen (sym (ap (option_map sight) (none key)) ∙ is)) }
  where
    not_some : (seen : Sight) → ◌≡◌ {A = Option Sight} None (Some seen) → ⊥
    not_some seen e = cc

-- what is decided over a whole catalog is what the check comes to
pub decided_found : (found : Option (Found ErrorValue Choice)) (d : Decided) → DecidesIf (Ok d) found → found ≡ Some (fine (chosen d))
decided_found None d is = absurd is
decided_found (Some found) d is = ap (λ (f : Found ErrorValue Choice). Some f) is

pub refused_found : (found : Option (Found ErrorValue Choice)) (error : ErrorValue) → DecidesIf (Err (Refused error)) found → found ≡ Some (refused error)
refused_found None error is = absurd is
refused_found (Some found) error is = ap (λ (f : Found ErrorValue Choice). Some f) is

pub never_needs : (cat : Catalog) (check : Option (Walk ErrorValue Choice)) (key : ObjectKey) → DecidesIf (Err (Need key)) (option_map (run (all_of cat)) check) → ⊥
never_needs cat None key is = is
never_needs cat (Some check) key is = subst IsSettled is (settled cat check)

-- over a whole catalog no key is needed
pub whole_settled : (cat : Catalog) (check : Option (Walk ErrorValue Choice)) (found : Found ErrorValue Choice) → option_map (run (all_of cat)) check ≡ Some found → IsSettled found
whole_settled cat None found is = cc
whole_settled cat (Some check) found is = subst IsSettled (some_is is) (settled cat check)
