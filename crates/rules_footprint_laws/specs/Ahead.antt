-- Looks that are taken ahead of a check.
use Rattle.std.specs.Prelude.{◌≡◌, List, [], ◌∷◌, None, map}
use Rattle.dd_names.specs.declared.object_name.ObjectKey.{ObjectKey}
use Rattle.dd_catalog.specs.Walks.{Walk, done, refuse, ask}
use Rattle.rules_footprint.specs.Plans.{told_at}
use Rattle.rules_footprint.specs.declared.footprints.Told.{Told}

-- the check behind these looks, whatever they come to
abbrev pub ahead : {E A B : Type 0} → Walk E B → Walk E A → Walk E A
ahead (done x) check = check
ahead (refuse e) check = check
ahead (ask key go) check = ask key (λ seen. ahead (go seen) check)

-- a look at each key
abbrev pub looks_at : {E : Type 0} → List ObjectKey → Walk E (Unit {0})
looks_at [] = done tt
looks_at (key ∷ keys) = ask key (λ seen. looks_at keys)

abbrev pub key_of : Told → ObjectKey
key_of told = told.key.now

abbrev pub keys_of : List Told → List ObjectKey
keys_of told = map key_of told

-- each key was told once
abbrev pub AreNew : List Told → Type 0
AreNew [] = Unit {0}
AreNew (t ∷ told) = (told_at told t.key.now ≡ None) × AreNew told
