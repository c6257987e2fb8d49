-- By what a proof tells two stores apart.
use Rattle.std.specs.Prelude.{ℕ, List, Option, refl}
use Rattle.std.specs.Coded.{Coded, code_by, coded×, coded_ℕ, coded_list, coded_option}
use Rattle.std.specs.FinMap as finite_map
use Rattle.row_batch.specs.Rows.{Rows}
use Rattle.row_journal.specs.Value.{JournalValue}
use Rattle.row_store.specs.Value.{StoreValue}

abbrev pub coded_rows : Coded Rows
coded_rows = finite_map.code (coded_list coded_ℕ) (coded_list coded_ℕ)

abbrev pub coded_journal : Coded JournalValue
coded_journal =
    code_by (List ℕ × (ℕ × (ℕ × Option ℕ))) (coded× (coded_list coded_ℕ) (coded× coded_ℕ (coded× coded_ℕ (coded_option coded_ℕ))))
    (λ j. (j.path, (j.at, (j.end, j.fault)))) (λ p. record { path = p.0; at = p.1.0; end = p.1.1.0; fault = p.1.1.1 }) (λ _. refl)

abbrev pub coded_store : Coded StoreValue
coded_store = code_by (JournalValue × Rows) (coded× coded_journal coded_rows) (λ s. (s.journal, s.rows)) (λ p. record { journal = p.0; rows = p.1 }) (λ _. refl)
