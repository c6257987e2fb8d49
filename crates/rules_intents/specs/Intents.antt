-- What the text of each statement claims, before anything is looked at: what it changes, what it reads that it names, and the
-- names of constraints that it gives. Locks suffice whatever stands here; but what two statements mean to change is locked in X
-- from the start, or both could read it first and wait for each other.
use Rattle.std.specs.Prelude.{ℕ, List, [], ◌∷◌, ◌++◌, Option, Some, None}
use Rattle.std.specs.List.{flat_map}
use Rattle.dd_names.specs.Names.{fold}
use Rattle.dd_names.specs.declared.object_name.ObjName.{ObjName}
use Rattle.sql_types.specs.declared.words.FkWords.{FkWords}
use Rattle.sql_types.specs.declared.words.ObjRef.{ObjRef}
use Rattle.sql_ast.specs.declared.action.AlterAction.{AlterAction}
use Rattle.sql_ast.specs.declared.action.AlterAction.TheVariants as actions
use Rattle.sql_ast.specs.declared.element.Element.{Element}
use Rattle.sql_ast.specs.declared.element.Element.TheVariants as elements
use Rattle.sql_ast.specs.declared.schema.SchemaStatement.{SchemaStatement}
use Rattle.sql_ast.specs.declared.schema.SchemaStatement.TheVariants as schemas
use Rattle.sql_ast.specs.declared.session.SessionState.{SessionState}
use Rattle.sql_ast.specs.declared.session.SessionStatement.{SessionStatement}
use Rattle.sql_ast.specs.declared.session.SessionStatement.TheVariants as sessions
use Rattle.sql_ast.specs.declared.show.ShowStatement.{ShowStatement}
use Rattle.sql_ast.specs.declared.show.ShowStatement.TheVariants as shows
use Rattle.sql_ast.specs.declared.show.ShownCreation.{ShownCreation}
use Rattle.sql_ast.specs.declared.show.ShownCreation.TheVariants as creations
use Rattle.sql_ast.specs.declared.statement.Statement.{Statement}
use Rattle.sql_ast.specs.declared.statement.Statement.TheVariants as is
use Rattle.sql_ast.specs.declared.table.IndexStatement.{IndexStatement}
use Rattle.sql_ast.specs.declared.table.IndexStatement.TheVariants as indexes
use Rattle.sql_ast.specs.declared.table.RenamePair.{RenamePair}
use Rattle.sql_ast.specs.declared.table.TableBody.{TableBody}
use Rattle.sql_ast.specs.declared.table.TableBody.TheVariants as bodies
use Rattle.sql_ast.specs.declared.table.TableStatement.{TableStatement}
use Rattle.sql_ast.specs.declared.table.TableStatement.TheVariants as tables
use Rattle.sql_ast.specs.declared.view.SelectSource.{SelectSource}
use Rattle.sql_ast.specs.declared.view.ViewStatement.{ViewStatement}
use Rattle.sql_ast.specs.declared.view.ViewStatement.TheVariants as views
use Rattle.rules_elements.specs.Keys.{first_given}
use Rattle.rules_named.specs.Named.{object_in}
use Rattle.rules_locks.specs.Claims.{Claim, KeepSchemas, KeepSchema, KeepObjects, KeepObject, ChangeCatalog, ChangeSchema, ChangeObject, JoinParent, TakeName}
use Rattle.rules_locks.specs.Locks.{Grip, Reads, Writes, Intent}

-- ## Objects that are named

abbrev pub in_schema : (ObjName → List Claim) → Option (List ℕ) → List ℕ → List Claim
in_schema claims None name = []
in_schema claims (Some schema) name = claims (object_in schema name)

-- nothing, where no schema is written and none is current
abbrev pub at_named : (ObjName → List Claim) → Option (List ℕ) → ObjRef → List Claim
at_named claims current ref = in_schema claims (first_given ref.schema current) ref.name

abbrev pub changes : ObjName → List Claim
changes object = ChangeObject object ∷ []

abbrev pub reads : ObjName → List Claim
reads object = KeepObject object ∷ []

-- ## CREATE TABLE

abbrev pub name_given : List ℕ → Option (List ℕ) → List Claim
name_given schema None = []
name_given schema (Some name) = TakeName schema (fold name) ∷ []

abbrev pub joins : ObjName → List Claim
joins parent = JoinParent parent ∷ []

-- a parent is in the table's schema where none is written
abbrev pub foreign_key_claims : ObjName → FkWords → List Claim
foreign_key_claims table words = at_named joins (Some table.schema) words.parent ++ name_given table.schema words.constraint

abbrev pub element_claims : ObjName → Element → List Claim
element_claims table (elements.ForeignKey words) = foreign_key_claims table words
element_claims table element = []

abbrev pub elements_claims : List Element → ObjName → List Claim
elements_claims listed table = flat_map (element_claims table) listed

abbrev pub body_claims : Option (List ℕ) → ObjRef → TableBody → List Claim
body_claims current table (bodies.Like source) = at_named reads current source
body_claims current table (bodies.Elements listed) = at_named (elements_claims listed) current table

-- ## ALTER TABLE

abbrev pub action_claims : Option (List ℕ) → ObjName → AlterAction → List Claim
action_claims current table (actions.AddForeignKey words) = foreign_key_claims table words
action_claims current table (actions.RenameTable to) = at_named changes current to
action_claims current table action = []

abbrev pub alter_claims : Option (List ℕ) → List AlterAction → ObjName → List Claim
alter_claims current acts table = ChangeObject table ∷ flat_map (action_claims current table) acts

abbrev pub index_claims : Option (List ℕ) → IndexStatement → List Claim
index_claims current (indexes.Create unique name table columns) = at_named changes current table
index_claims current (indexes.Drop name table) = at_named changes current table

-- ## CREATE VIEW

abbrev pub source_claims : Option (List ℕ) → SelectSource → List Claim
source_claims current source = at_named reads current source.object

-- ## All statements

abbrev pub pair_claims : Option (List ℕ) → RenamePair → List Claim
pair_claims current pair = at_named changes current pair.from ++ at_named changes current pair.to

abbrev pub schema_claims : SchemaStatement → List Claim
schema_claims (schemas.Create if_not_exists name) = ChangeCatalog ∷ ChangeSchema name ∷ []
schema_claims (schemas.Drop if_exists name) = ChangeCatalog ∷ ChangeSchema name ∷ []

abbrev pub table_claims : Option (List ℕ) → TableStatement → List Claim
table_claims current (tables.Create words) = ChangeCatalog ∷ (at_named changes current words.table ++ body_claims current words.table words.body)
table_claims current (tables.Drop if_exists dropped) = ChangeCatalog ∷ flat_map (at_named changes current) dropped
table_claims current (tables.Rename pairs) = ChangeCatalog ∷ flat_map (pair_claims current) pairs
table_claims current (tables.Truncate table) = ChangeCatalog ∷ at_named changes current table
table_claims current (tables.Alter table acts) = ChangeCatalog ∷ at_named (alter_claims current acts) current table
table_claims current (tables.Index statement) = ChangeCatalog ∷ index_claims current statement

abbrev pub view_claims : Option (List ℕ) → ViewStatement → List Claim
view_claims current (views.Create view columns query) = ChangeCatalog ∷ (at_named changes current view ++ flat_map (source_claims current) query.sources)
view_claims current (views.Drop if_exists dropped) = ChangeCatalog ∷ flat_map (at_named changes current) dropped

abbrev pub creation_claims : Option (List ℕ) → ShownCreation → List Claim
creation_claims current (creations.Database name) = KeepSchema name ∷ []
creation_claims current (creations.Table object) = at_named reads current object
creation_claims current (creations.View object) = at_named reads current object

abbrev pub listed_claims : Option (List ℕ) → List Claim
listed_claims None = []
listed_claims (Some schema) = KeepObjects schema ∷ []

abbrev pub show_claims : Option (List ℕ) → ShowStatement → List Claim
show_claims current shows.Databases = KeepSchemas ∷ []
show_claims current (shows.Tables schema) = listed_claims (first_given schema current)
show_claims current (shows.Columns object) = at_named reads current object
show_claims current (shows.Creation shown) = creation_claims current shown
show_claims current (shows.Information table) = KeepSchemas ∷ []

abbrev pub session_claims : SessionStatement → List Claim
session_claims (sessions.Use name) = KeepSchema name ∷ []
session_claims (sessions.SetTries value) = []

abbrev pub text_claims : Option (List ℕ) → Statement → List Claim
text_claims current (is.Schema statement) = schema_claims statement
text_claims current (is.Table statement) = table_claims current statement
text_claims current (is.View statement) = view_claims current statement
text_claims current (is.Show statement) = show_claims current statement
text_claims current (is.Session statement) = session_claims statement
text_claims current (is.Bad error) = []

-- RENAME TABLE, ALTER TABLE and the statements of indexes write the children of their tables
abbrev pub table_grip : TableStatement → Grip
table_grip (tables.Rename pairs) = Writes
table_grip (tables.Alter table acts) = Writes
table_grip (tables.Index statement) = Writes
table_grip statement = Reads

abbrev pub text_grip : Statement → Grip
text_grip (is.Table statement) = table_grip statement
text_grip statement = Reads

abbrev pub intent : SessionState → Statement → Intent
intent session statement = record { claims = text_claims session.current statement; grip = text_grip statement }
