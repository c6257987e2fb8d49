-- Objects that a statement names have names, where what it says are names.
use Rattle.std.specs.Prelude.{◌≡◌, ℕ, true, List, Option, Some, None}
use Rattle.std.proofs.Common.{◌∙◌, ap, sym}
use Rattle.std.proofs.lemmas.Bool.{and_parts, and_from}
use Rattle.dd_names.specs.Names.{is_name}
use Rattle.dd_names.specs.declared.object_name.ObjName.{ObjName}
use Rattle.sql_types.specs.declared.words.ObjRef.{ObjRef}
use Rattle.sql_ast.specs.Names.{is_named}
use Rattle.sql_ast.specs.Names as says
use Rattle.dd_definitions.specs.Named.{is_object_named}
use Rattle.dd_catalog.specs.Walks.{fine, run}
use Rattle.dd_catalog.specs.WalkLaws.{Look}
use Rattle.dd_catalog.specs.Asked.{fine_is, bind_fine}
use Rattle.rules_elements.specs.Keys.{first_given}
use Rattle.rules_named.specs.Named.{in_schema, resolved, own_schema_there, one_named}

pub first_named : (one other : Option (List ℕ)) → is_named one ≡ true → is_named other ≡ true → is_named (first_given one other) ≡ true
first_named (Some name) other here there = here
first_named None other here there = there

in_schema_named : (look : Look) (schema : Option (List ℕ)) (name : List ℕ) (object : ObjName) → is_named schema ≡ true → is_name name ≡ true → run look (in_schema schema name) ≡ fine object → is_object_named object ≡ true
in_schema_named look None name object schema_is name_is is = cc
in_schema_named look (Some schema) name object schema_is name_is is = ap is_object_named (sym (fine_is is)) ∙ and_from (is_name schema) (is_name name) schema_is name_is

pub resolved_named : (look : Look) (current : Option (List ℕ)) (ref : ObjRef) (object : ObjName) → is_named current ≡ true → says.is_object_named ref ≡ true → run look (resolved current ref) ≡ fine object → is_object_named object ≡ true
unfolding resolved
resolved_named look current ref object current_is ref_is is =
    let (schema, name) = and_parts (is_named ref.schema) (is_name ref.name) ref_is in
    in_schema_named look (first_given ref.schema current) ref.name object (first_named ref.schema current schema current_is) name is

pub one_is_named : (look : Look) (current : Option (List ℕ)) (ref : ObjRef) (object : ObjName) → is_named current ≡ true → says.is_object_named ref ≡ true → run look (one_named current ref) ≡ fine object → is_object_named object ≡ true
unfolding one_named
one_is_named look current ref object current_is ref_is is =
    let (found, made, after_name) = bind_fine look (resolved current ref) _ object is in
    let (_, _, last) = bind_fine look (own_schema_there found) _ object after_name in
    ap is_object_named (sym (fine_is last)) ∙ resolved_named look current ref found current_is ref_is made
