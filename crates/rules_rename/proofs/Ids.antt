-- Ids of what the pairs so far leave.
use Rattle.std.specs.Prelude.{◌≡◌, ℕ, cond, List, [], ◌∷◌, ◌++◌, map, Option, Some, refl}
use Rattle.std.specs.BTreeMap.{is_at}
use Rattle.std.specs.Map.{lookup}
use Rattle.std.specs.Ordering.{is_eq, match_ordering}
use Rattle.std.specs.List.{AllByRecursion}
use Rattle.std.specs.declared.cmp.Ordering.{Ordering}
use Rattle.std.specs.declared.cmp.Ordering.TheVariants.{Less, Equal, Greater}
use Rattle.std.proofs.Common.{sym, ap, subst, inl, inr}
use Rattle.std.proofs.lemmas.Map.Lookups.{exact_bytes, exact_pairs}
use Rattle.dd_names.specs.Names.{name_cmp}
use Rattle.dd_names.specs.declared.object_name.ObjName.{ObjName}
use Rattle.dd_names.specs.declared.object_name.ObjectKey.{ObjectKey}
use Rattle.dd_names.specs.declared.object_name.ObjectKey.TheVariants as keys
use Rattle.dd_definitions.specs.declared.parts.TableParts.{TableParts}
use Rattle.dd_definitions.specs.declared.view_parts.ViewParts.{ViewParts}
use Rattle.dd_catalog.specs.declared.object.Object.{Object}
use Rattle.dd_catalog.specs.declared.object.Object.TheVariants as objects
use Rattle.dd_catalog.specs.Catalog.{object_cmp}
use Rattle.rules_outcome.specs.declared.decided.Edit.{Edit}
use Rattle.rules_outcome.specs.Decided.{KnownTable, KnownView, HasIdsAt, HasIds}
use Rattle.rules_rename.specs.Left.{kept}
use Rattle.rules_rename.specs.Puts.{Put, put_in, put_all}
use Rattle.rules_rename.specs.Pairs.{edit_of}
use Rattle.rules_rename.specs.Ids.{IsWithIds, AreWithIds}

pub same_object : (a b : ObjName) → object_cmp a b ≡ Equal → a ≡ b
same_object a b tied = ap (λ (p : List ℕ × List ℕ). record { schema = p.0; name = p.1 }) (exact_pairs name_cmp name_cmp exact_bytes exact_bytes (a.schema, a.name) (b.schema, b.name) tied)

-- what is known at a name has ids that are known
pub known_has_ids : (known : ObjectKey → Option Object) (name : ObjName) (object : Object) → known (keys.Object name) ≡ Some object → HasIdsAt known name (kept object)
known_has_ids known name (objects.Table id schema space parts) is = (inr (inl (name, refl, id, space, parts, is)), (schema, record { name = name; parts = parts; is = is }))
known_has_ids known name (objects.View id schema parts) is = (inr (inr (name, refl, id, parts, is)), (schema, record { name = name; parts = parts; is = is }))
known_has_ids known name (objects.Schema id) is = tt
known_has_ids known name objects.Absent is = tt
known_has_ids known name (objects.Schemas names) is = tt
known_has_ids known name (objects.Objects names) is = tt
known_has_ids known name (objects.Children tables) is = tt
known_has_ids known name (objects.Constraint table) is = tt

-- a table or a view with an id that is known, in a schema that is known
pub table_has_ids : (known : ObjectKey → Option Object) (to : ObjName) (id schema space : ℕ) (parts : TableParts) → known (keys.Schema to.schema) ≡ Some (objects.Schema schema) → ((own : ℕ) × KnownTable known id own space) → HasIdsAt known to (kept (objects.Table id schema space parts))
table_has_ids known to id schema space parts there stood = (inl there, stood)

pub view_has_ids : (known : ObjectKey → Option Object) (to : ObjName) (id schema : ℕ) (parts : ViewParts) → known (keys.Schema to.schema) ≡ Some (objects.Schema schema) → ((own : ℕ) × KnownView known id own) → HasIdsAt known to (kept (objects.View id schema parts))
view_has_ids known to id schema parts there stood = (inl there, stood)

-- where one is found
pub ids_at : (known : ObjectKey → Option Object) (puts : List Put) (name : ObjName) (left : Object) → Some left ≡ lookup (is_at (object_cmp name)) puts → AreWithIds known puts → HasIdsAt known name (kept left)
ids_at known [] name left found all = absurd cc
ids_at known (p ∷ puts) name left found all = on (object_cmp name p.0) refl found (λ found. ids_at known puts name left found all.1)
  where
    on : (r : Ordering) → object_cmp name p.0 ≡ r → Some left ≡ cond (is_eq r) (Some p.1) (lookup (is_at (object_cmp name)) puts)
        → (Some left ≡ lookup (is_at (object_cmp name)) puts → HasIdsAt known name (kept left)) → HasIdsAt known name (kept left)
    on Less tied found again = again found
    on Equal tied found again =
        let same : p.1 ≡ left = cc in
        subst (λ (o : Object). HasIdsAt known name (kept o)) same (subst (λ (n : ObjName). HasIdsAt known n (kept p.1)) (sym (same_object name p.0 tied)) all.0)
    on Greater tied found again = again found

-- one more
pub ids_in : (known : ObjectKey → Option Object) (put : Put) (puts : List Put) → IsWithIds known put → AreWithIds known puts → AreWithIds known (put_in put puts)
ids_in known put [] here all = (here, tt)
ids_in known put (p ∷ puts) here all = on (object_cmp put.0 p.0) refl (ids_in known put puts here all.1)
  where
    on : (r : Ordering) → object_cmp put.0 p.0 ≡ r → AreWithIds known (put_in put puts) → AreWithIds known (match_ordering r (put ∷ p ∷ puts) ((p.0, put.1) ∷ puts) (p ∷ put_in put puts))
    on Less tied rest = (here, all)
    on Equal tied rest = (subst (λ (n : ObjName). HasIdsAt known n (kept put.1)) (same_object put.0 p.0 tied) here, all.1)
    on Greater tied rest = (all.0, rest)

pub ids_all : (known : ObjectKey → Option Object) (more puts : List Put) → AreWithIds known more → AreWithIds known puts → AreWithIds known (put_all more puts)
ids_all known [] puts new all = all
ids_all known (put ∷ more) puts new all = ids_all known more (put_in put puts) new.1 (ids_in known put puts new.0 all)

pub ids_push : (known : ObjectKey → Option Object) (puts : List Put) (put : Put) → AreWithIds known puts → IsWithIds known put → AreWithIds known (puts ++ put ∷ [])
ids_push known [] put all here = (here, tt)
ids_push known (p ∷ puts) put all here = (all.0, ids_push known puts put all.1 here)

pub edits_with_ids : (known : ObjectKey → Option Object) (puts : List Put) → AreWithIds known puts → AllByRecursion (λ (edit : Edit). HasIds known edit.key edit.after) (map (edit_of known) puts)
edits_with_ids known [] all = tt
edits_with_ids known (put ∷ puts) all = (all.0, edits_with_ids known puts all.1)
