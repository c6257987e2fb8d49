-- What SHOW CREATE lists.
use Rattle.std.specs.Prelude.{List, [], ◌∷◌, codes}
use Rattle.dd_errors.specs.Errors.{ErrorValue}
use Rattle.sql_types.specs.declared.listing.Cell.TheVariants.{Value}
use Rattle.dd_catalog.specs.Walks.{Walk, Found, fine}
use Rattle.show_text.specs.Tables.{database_text, table_text}
use Rattle.show_text.specs.Views.{view_text}
use Rattle.rules_outcome.specs.Choices.{Choice, Lists}
use Rattle.rules_show.specs.Shows.{show_create_database, show_create_table, show_create_view}
use Rattle.rules_outcome_examples.specs.Catalogs.{error, in_d, named, session, table, view}

abbrev pub Case : Type 0
Case = Walk ErrorValue Choice × Found ErrorValue Choice

-- a view has its own titles, also where a table is asked for; a table is no view
abbrev pub shown : List Case
shown =
    (show_create_database (codes "d"), fine (Lists (record { header = codes "Database" ∷ codes "Create Database" ∷ []; rows = (Value (codes "d") ∷ Value (database_text (codes "d")) ∷ []) ∷ [] })))
    ∷ (show_create_database (codes "x"), error 1049 (codes "x" ∷ []))
    ∷ (show_create_table session (named "p"), fine (Lists (record { header = codes "Table" ∷ codes "Create Table" ∷ []; rows = (Value (codes "p") ∷ Value (table_text (table (in_d "p") [])) ∷ []) ∷ [] })))
    ∷ (show_create_table session (named "v"), fine (Lists (record { header = codes "View" ∷ codes "Create View" ∷ []; rows = (Value (codes "v") ∷ Value (view_text (view (in_d "v"))) ∷ []) ∷ [] })))
    ∷ (show_create_table session (named "x"), error 1146 (codes "d" ∷ codes "x" ∷ []))
    ∷ (show_create_view session (named "v"), fine (Lists (record { header = codes "View" ∷ codes "Create View" ∷ []; rows = (Value (codes "v") ∷ Value (view_text (view (in_d "v"))) ∷ []) ∷ [] })))
    ∷ (show_create_view session (named "p"), error 1347 (codes "d" ∷ codes "p" ∷ codes "VIEW" ∷ []))
    ∷ (show_create_view session (named "x"), error 1146 (codes "d" ∷ codes "x" ∷ []))
    ∷ []
