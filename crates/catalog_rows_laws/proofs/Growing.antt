-- A batch that grows by what functions add to it.
use Rattle.std.proofs.Common.{◌≡◌, ℕ, List, [], ◌∷◌, ◌++◌, Option, Some, None, refl, sym, ap, ◌∙◌}
use Rattle.std.specs.Option.{option_or}
use Rattle.std.specs.Prelude.{if◌then◌else◌}
use Rattle.std.proofs.lemmas.List.{append-nil}
use Rattle.std.proofs.lemmas.List.Concat.{flat_map-append}
use Rattle.row_batch.specs.declared.operation.Operation.{Operation}
use Rattle.catalog_rows.specs.Owners.{Owner, Row}
use Rattle.catalog_rows.specs.Lists.{rows_of, rows_of_all}
use Rattle.catalog_rows.specs.Stands.{counter_row}
use Rattle.catalog_rows.specs.Changes.{no_put, with_put, put_behind, is_erased, are_erased, Exchanges}
use Rattle.catalog_rows.specs.Adding.{Adds, Takes}

pub begins : Exchanges [] [] [] None
begins = record { is = λ key old. refl }

pub goes : (old new : List Operation) (gone come : List Owner) (counter : Option ℕ) (owner : Owner) → Exchanges old gone come counter → Takes old new (is_erased owner) → Exchanges new (owner ∷ gone) come counter
goes old new gone come counter owner means takes = record { is = (takes (are_erased gone) _ means).is }

put_behind_more : (xs ys : List Row) (puts : List ℕ → Option (List ℕ)) → put_behind (xs ++ ys) puts ≡ put_behind ys (put_behind xs puts)
put_behind_more [] ys puts = refl
put_behind_more (x ∷ xs) ys puts = put_behind_more xs ys (with_put x puts)

pub put_all_more : (come : List Owner) (owner : Owner) → put_behind (rows_of_all (come ++ owner ∷ [])) no_put ≡ put_behind (rows_of owner) (put_behind (rows_of_all come) no_put)
put_all_more come owner =
    ap (λ (rows : List Row). put_behind rows no_put) (flat_map-append rows_of come (owner ∷ []) ∙ ap (λ (rows : List Row). rows_of_all come ++ rows) (append-nil (rows_of owner)))
    ∙ put_behind_more (rows_of_all come) (rows_of owner) no_put

pub comes : (old new : List Operation) (gone come : List Owner) (owner : Owner) → Exchanges old gone come None → Adds old new (rows_of owner) → Exchanges new gone (come ++ owner ∷ []) None
comes old new gone come owner means adds = record {
  is = λ key before.
      (adds (are_erased gone) (put_behind (rows_of_all come) no_put) (record { is = means.is })).is key before
      ∙ ap (λ (puts : List ℕ → Option (List ℕ)). option_or (puts key) (if are_erased gone key then None else before)) (sym (put_all_more come owner));
}

pub counts : (old new : List Operation) (gone come : List Owner) (next : ℕ) → Exchanges old gone come None → Adds old new (counter_row next ∷ []) → Exchanges new gone come (Some next)
counts old new gone come next means adds = record { is = (adds (are_erased gone) (put_behind (rows_of_all come) no_put) (record { is = means.is })).is }
