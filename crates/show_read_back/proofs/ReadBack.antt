-- The text of a table of a valid catalog makes the table again.
use Rattle.std.specs.Prelude.{◌≡◌, ◌⊎◌, ℕ, Bool, true, false, [], Some, if◌then◌else◌, refl}
use Rattle.std.proofs.Common.{sym, ◌∙◌, ap, subst, inl, inr}
use Rattle.dd_names.specs.declared.object_name.ObjName.{ObjName}
use Rattle.dd_names.specs.declared.object_name.ObjectKey.TheVariants as keys
use Rattle.dd_definitions.specs.declared.parts.TableParts.{TableParts}
use Rattle.sql_ast.specs.declared.session.SessionState.{SessionState}
use Rattle.dd_catalog.specs.Sights.{Sight, Nothing, SchemaThere, TableThere, ViewThere, NamesThere, ChildrenThere, OwnerThere}
use Rattle.dd_catalog.specs.Catalog.{Catalog, Table, is_same_object, schema_seen, sight_of}
use Rattle.dd_catalog.specs.Valid.{Has, IsValid}
use Rattle.dd_catalog.specs.WalkLaws.{Look}
use Rattle.show_text_laws.proofs.ReadTable.{text_read}
use Rattle.show_read_back.specs.Without.{IsWithout, other_owner, without}
use Rattle.show_read_back.specs.Laws.{ReadsBack}
use Rattle.show_read_back.proofs.Owners.{same_object, object_itself}
use Rattle.show_read_back.proofs.Stands.{each_stands}
use Rattle.show_read_back.proofs.TableAgain.{created_again}

-- ## The law

own_reads_back : (cat : Catalog) (space : ℕ) (parts : TableParts) (look : Look) (session : SessionState) → IsValid cat → Has cat parts.name (Table space parts)
    → IsWithout cat parts.name look → session.current ≡ Some parts.name.schema → ReadsBack look session parts.name parts
own_reads_back cat space parts look session valid has without current =
    let formed = valid.formed parts.name (Table space parts) has in
    let schema : look (keys.Schema parts.name.schema) ≡ Some SchemaThere =
    without.schemas parts.name.schema ∙ ap (λ (b : Bool). Some (schema_seen b)) (valid.schemas_there parts.name (Table space parts) has) in
    record {
      reads = text_read parts (valid.named parts.name (Table space parts) has) formed;
      makes = created_again look session parts formed (each_stands cat space parts look valid has without) schema without.table current;
    }

pub reads_back : (cat : Catalog) (name : ObjName) (space : ℕ) (parts : TableParts) (look : Look) (session : SessionState)
    → IsValid cat → Has cat name (Table space parts) → IsWithout cat name look → session.current ≡ Some name.schema → ReadsBack look session name parts
reads_back cat name space parts look session valid has without current =
    let own : parts.name ≡ name = valid.names_carried name (Table space parts) has in
    subst (λ (n : ObjName). ReadsBack look session n parts) own
    (own_reads_back cat space parts look session valid (subst (λ (n : ObjName). Has cat n (Table space parts)) (sym own) has) (subst (λ (n : ObjName). IsWithout cat n look) (sym own) without)
    (subst (λ (n : ObjName). session.current ≡ Some n.schema) (sym own) current))

-- ## There is such a look-up

abbrev OwnerSeen : ObjName → Sight → Type 0
OwnerSeen name seen = (other_owner name seen ≡ seen) ⊎ ((other_owner name seen ≡ Nothing) × (seen ≡ OwnerThere name))

owner_seen : (name : ObjName) (seen : Sight) → OwnerSeen name seen
owner_seen name Nothing = inl refl
owner_seen name SchemaThere = inl refl
owner_seen name (TableThere space parts) = inl refl
owner_seen name (ViewThere parts) = inl refl
owner_seen name (NamesThere names) = inl refl
owner_seen name (ChildrenThere tables) = inl refl
owner_seen name (OwnerThere owner) = on (is_same_object owner name) refl
  where
    on : (b : Bool) → is_same_object owner name ≡ b → OwnerSeen name (OwnerThere owner)
    on true same = inr (ap (λ (b : Bool). if b then Nothing else OwnerThere owner) same, ap (λ (o : ObjName). OwnerThere o) (same_object owner name same))
    on false other = inl (ap (λ (b : Bool). if b then Nothing else OwnerThere owner) other)

at_constraint : (name : ObjName) (seen : Sight) → OwnerSeen name seen → (Some (other_owner name seen) ≡ Some seen) ⊎ ((Some (other_owner name seen) ≡ Some Nothing) × (seen ≡ OwnerThere name))
at_constraint name seen (inl kept) = inl (ap (λ (s : Sight). Some s) kept)
at_constraint name seen (inr gone) = inr (ap (λ (s : Sight). Some s) gone.0, gone.1)

pub is_without : (cat : Catalog) (name : ObjName) → IsWithout cat name (without cat name)
is_without cat name = record {
  table = ap (λ (b : Bool). Some (if b then Nothing else sight_of cat (keys.Object name))) (object_itself name name refl);
  children = ap (λ (b : Bool). Some (if b then ChildrenThere [] else sight_of cat (keys.Children name))) (object_itself name name refl);
  objects = λ other apart. ap (λ (b : Bool). Some (if b then Nothing else sight_of cat (keys.Object other))) apart;
  schemas = λ schema. refl;
  constraints = λ schema folded. at_constraint name (sight_of cat (keys.Constraint schema folded)) (owner_seen name (sight_of cat (keys.Constraint schema folded)));
}
