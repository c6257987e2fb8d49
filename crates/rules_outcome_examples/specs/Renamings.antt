-- Tables and views that are renamed.
use Rattle.std.specs.Prelude.{List, [], ◌∷◌, codes}
use Rattle.dd_errors.specs.Errors.{ErrorValue}
use Rattle.dd_catalog.specs.Walks.{Walk, Found, fine}
use Rattle.rules_outcome.specs.Choices.{Gone, KeptTable, KeptView}
use Rattle.rules_rename.specs.Renames.{Renamed, renamed_object}
use Rattle.rules_outcome_examples.specs.Catalogs.{error, in_d, in_e, key, table, view}

abbrev pub Case : Type 0
Case = Walk ErrorValue Renamed × Found ErrorValue Renamed

-- a constraint's name follows, a table's reference to itself, and those of its children
abbrev pub renamed : List Case
renamed = (
  renamed_object (in_d "t") (in_d "u"),
  fine (record {
    changes = (in_d "t", Gone) ∷ (in_d "u", KeptTable 2 (table (in_d "u") (key "u_ibfk_1" (in_d "p") ∷ []))) ∷ [];
    children = [];
  }),
)
    ∷ (
      renamed_object (in_d "o") (in_d "n"),
      fine (record {
        changes = (in_d "o", Gone) ∷ (in_d "n", KeptTable 3 (table (in_d "n") (key "n_ibfk_1" (in_d "n") ∷ []))) ∷ [];
        children = [];
      }),
    )
    ∷ (
      renamed_object (in_d "p") (in_e "q"),
      fine (record {
        changes = (in_d "p", Gone) ∷ (in_e "q", KeptTable 1 (table (in_e "q") []))
            ∷ (in_d "t", KeptTable 2 (table (in_d "t") (key "t_ibfk_1" (in_e "q") ∷ []))) ∷ (in_e "c", KeptTable 4 (table (in_e "c") (key "c_ibfk_1" (in_e "q") ∷ []))) ∷ [];
        children = in_d "t" ∷ in_e "c" ∷ [];
      }),
    )
    ∷ (renamed_object (in_d "v") (in_d "w"), fine (record { changes = (in_d "v", Gone) ∷ (in_d "w", KeptView (view (in_d "w"))) ∷ []; children = [] }))
    ∷ []

-- what isn't there; a view that would go to another schema; a new name that is taken, before a constraint's that is; and that
abbrev pub not_renamed : List Case
not_renamed =
    (renamed_object (in_d "y") (in_d "p"), error 1146 (codes "d" ∷ codes "y" ∷ []))
    ∷ (renamed_object (in_d "v") (in_e "v"), error 1450 (codes "d" ∷ codes "e" ∷ []))
    ∷ (renamed_object (in_d "v") (in_e "c"), error 1450 (codes "d" ∷ codes "e" ∷ []))
    ∷ (renamed_object (in_d "t") (in_d "v"), error 1050 (codes "v" ∷ []))
    ∷ (renamed_object (in_d "t") (in_d "x"), error 1826 (codes "x_ibfk_1" ∷ []))
    ∷ []
