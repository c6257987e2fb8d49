-- A batch grows by what calls add to it, in whatever order, with or without records of the log.
use Rattle.std.proofs.Common.{◌≡◌, ℕ, Bool, true, false, cond, List, [], ◌∷◌, ◌++◌, Option, Some, None, refl, sym, ap, subst, ◌∙◌}
use Rattle.std.specs.Prelude.{◌||◌}
use Rattle.std.specs.Option.{option_or}
use Rattle.std.proofs.lemmas.List.{append-nil}
use Rattle.row_batch.specs.declared.operation.Operation.{Operation}
use Rattle.row_batch.specs.Rows.{is_key}
use Rattle.row_batch.specs.Meaning.{last_put, is_deleted, made_of}
use Rattle.row_batch.proofs.Meanings.{is_key_same}
use Rattle.row_fields.specs.Fields.{fields_bytes}
use Rattle.catalog_rows.specs.Owners.{Owner, Row, key_bytes}
use Rattle.catalog_rows.specs.Lists.{rows_of, rows_of_all}
use Rattle.catalog_rows.specs.Stands.{counter_key, counter_row, next_bytes}
use Rattle.catalog_rows.specs.Changes.{no_put, with_put, put_behind, with_counter, is_erased, are_erased, Exchanges}
use Rattle.catalog_rows.specs.Objects.{rows_if, is_erased_if}
use Rattle.catalog_rows.specs.Adding.{Adds, Takes}
use Rattle.catalog_rows_laws.specs.Beside.{ExchangesBeside, RecordsAlone, one_if}
use Rattle.catalog_rows_laws.proofs.Growing.{put_all_more}
use Rattle.catalog_rows_laws.proofs.Erased.{no_put_there}

-- ## Operations under a key

-- taking away more
taken : (old new : List Operation) (test : List ℕ → Bool) → Takes old new test → (key : List ℕ) (before : Option (List ℕ)) → made_of new key before ≡ made_of old key (cond (test key) None before)
taken old new test takes key before = (takes (is_deleted old) (last_put old) (record { is = λ q o. refl })).is key before ∙ by (test key) (is_deleted old key)
  where
    by : (t b : Bool) → option_or (last_put old key) (cond (t || b) None before) ≡ option_or (last_put old key) (cond b None (cond t None before))
    by true true = refl
    by true false = refl
    by false b = refl

either_put : (a b c : Option (List ℕ)) → option_or (option_or a b) c ≡ option_or a (option_or b c)
either_put None b c = refl
either_put (Some v) b c = refl

-- puts go before those of before
put_over : (rows : List Row) (puts : List ℕ → Option (List ℕ)) (key : List ℕ) → put_behind rows puts key ≡ option_or (put_behind rows no_put key) (puts key)
put_over [] puts key = refl
put_over (row ∷ rows) puts key =
    put_over rows (with_put row puts) key ∙ by (is_key key (key_bytes row.key)) ∙ ap (λ o. option_or o (puts key)) (sym (put_over rows (with_put row no_put) key))
  where
    by : (b : Bool) → option_or (put_behind rows no_put key) (cond b (Some (fields_bytes row.value)) (puts key)) ≡ option_or (option_or (put_behind rows no_put key) (cond b (Some (fields_bytes row.value)) None)) (puts key)
    by b = at b ∙ sym (either_put (put_behind rows no_put key) (cond b (Some (fields_bytes row.value)) None) (puts key))
      where
        at : (b : Bool) → option_or (put_behind rows no_put key) (cond b (Some (fields_bytes row.value)) (puts key)) ≡ option_or (put_behind rows no_put key) (option_or (cond b (Some (fields_bytes row.value)) None) (puts key))
        at true = refl
        at false = refl

-- putting more
added : (old new : List Operation) (rows : List Row) → Adds old new rows → (key : List ℕ) (before : Option (List ℕ)) → made_of new key before ≡ option_or (put_behind rows no_put key) (made_of old key before)
added old new rows adds key before =
    (adds (is_deleted old) (last_put old) (record { is = λ q o. refl })).is key before ∙ ap (λ o. option_or o (cond (is_deleted old key) None before)) (put_over rows (last_put old) key)
    ∙ either_put (put_behind rows no_put key) (last_put old key) (cond (is_deleted old key) None before)

-- ## Exchanges

pub exact : (operations : List Operation) (gone come : List Owner) (counter : Option ℕ) → Exchanges operations gone come counter → ExchangesBeside operations gone come counter
exact operations gone come counter means = record { is = λ key own old. means.is key old }

pub begins_beside : ExchangesBeside [] [] [] None
begins_beside = record { is = λ key own old. refl }

goes_beside : (old new : List Operation) (gone come : List Owner) (counter : Option ℕ) (owner : Owner) → ExchangesBeside old gone come counter → Takes old new (is_erased owner) → ExchangesBeside new (owner ∷ gone) come counter
goes_beside old new gone come counter owner means takes = record {
  is = λ key own before.
      taken old new (is_erased owner) takes key before ∙ means.is key own (cond (is_erased owner key) None before)
      ∙ by (is_erased owner key) (are_erased gone key) (with_counter counter (put_behind (rows_of_all come) no_put) key) before;
}
  where
    by : (t b : Bool) (put before : Option (List ℕ)) → option_or put (cond b None (cond t None before)) ≡ option_or put (cond (t || b) None before)
    by true true put before = refl
    by true false put before = refl
    by false b put before = refl

-- the rows of owners leave the counter
counter_over : (counter : Option ℕ) (owner : Owner) (puts : List ℕ → Option (List ℕ)) (key : List ℕ) → option_or (put_behind (rows_of owner) no_put key) (with_counter counter puts key) ≡ with_counter counter (put_behind (rows_of owner) puts) key
counter_over None owner puts key = sym (put_over (rows_of owner) puts key)
counter_over (Some next) owner puts key = by (is_key key counter_key) refl
  where
    none : (key : List ℕ) → is_key key counter_key ≡ true → put_behind (rows_of owner) no_put key ≡ None
    none key e = ap (put_behind (rows_of owner) no_put) (is_key_same key counter_key e) ∙ sym (ap (λ (rows : List Row). put_behind rows no_put counter_key) (append-nil (rows_of owner))) ∙ no_put_there (owner ∷ []) counter_key refl

    by : (b : Bool) → is_key key counter_key ≡ b → option_or (put_behind (rows_of owner) no_put key) (cond b (Some (next_bytes next)) (puts key)) ≡ cond b (Some (next_bytes next)) (put_behind (rows_of owner) puts key)
    by true e = ap (λ o. option_or o (Some (next_bytes next))) (none key e)
    by false e = sym (put_over (rows_of owner) puts key)

comes_beside : (old new : List Operation) (gone come : List Owner) (counter : Option ℕ) (owner : Owner) → ExchangesBeside old gone come counter → Adds old new (rows_of owner) → ExchangesBeside new gone (come ++ owner ∷ []) counter
comes_beside old new gone come counter owner means adds = record {
  is = λ key own before.
      added old new (rows_of owner) adds key before ∙ ap (option_or (put_behind (rows_of owner) no_put key)) (means.is key own before)
      ∙ sym (either_put (put_behind (rows_of owner) no_put key) (with_counter counter (put_behind (rows_of_all come) no_put) key) (cond (are_erased gone key) None before))
      ∙ ap (λ o. option_or o (cond (are_erased gone key) None before)) (counter_over counter owner (put_behind (rows_of_all come) no_put) key ∙ ap (λ (puts : List ℕ → Option (List ℕ)). with_counter counter puts key) (sym (put_all_more come owner)));
}

pub goes_if : (old new : List Operation) (gone come : List Owner) (counter : Option ℕ) (owner : Option Owner) → ExchangesBeside old gone come counter → Takes old new (is_erased_if owner) → ExchangesBeside new (one_if owner ++ gone) come counter
goes_if old new gone come counter None means takes = record { is = λ key own before. taken old new (λ key. false) takes key before ∙ means.is key own before }
goes_if old new gone come counter (Some owner) means takes = goes_beside old new gone come counter owner means takes

pub comes_if : (old new : List Operation) (gone come : List Owner) (counter : Option ℕ) (owner : Option Owner) → ExchangesBeside old gone come counter → Adds old new (rows_if owner) → ExchangesBeside new gone (come ++ one_if owner) counter
comes_if old new gone come counter None means adds =
    subst (λ (owners : List Owner). ExchangesBeside new gone owners counter) (sym (append-nil come)) (record { is = λ key own before. added old new [] adds key before ∙ means.is key own before })
comes_if old new gone come counter (Some owner) means adds = comes_beside old new gone come counter owner means adds

pub counts_beside : (old new : List Operation) (gone come : List Owner) (counter : Option ℕ) (next : ℕ) → ExchangesBeside old gone come counter → Adds old new (counter_row next ∷ []) → ExchangesBeside new gone come (Some next)
counts_beside old new gone come counter next means adds = record {
  is = λ key own before.
      added old new (counter_row next ∷ []) adds key before ∙ ap (option_or (put_behind (counter_row next ∷ []) no_put key)) (means.is key own before)
      ∙ by counter (put_behind (rows_of_all come) no_put) key (cond (are_erased gone key) None before);
}
  where
    by : (counter : Option ℕ) (puts : List ℕ → Option (List ℕ)) (key : List ℕ) (rest : Option (List ℕ)) → option_or (put_behind (counter_row next ∷ []) no_put key) (option_or (with_counter counter puts key) rest) ≡ option_or (with_counter (Some next) puts key) rest
    by None puts key rest = at (is_key key counter_key)
      where
        at : (b : Bool) → option_or (cond b (Some (next_bytes next)) None) (option_or (puts key) rest) ≡ option_or (cond b (Some (next_bytes next)) (puts key)) rest
        at true = refl
        at false = refl
    by (Some other) puts key rest = at (is_key key counter_key)
      where
        at : (b : Bool) → option_or (cond b (Some (next_bytes next)) None) (option_or (cond b (Some (next_bytes other)) (puts key)) rest) ≡ option_or (cond b (Some (next_bytes next)) (puts key)) rest
        at true = refl
        at false = refl

pub records_beside : (old new : List Operation) (gone come : List Owner) (counter : Option ℕ) → ExchangesBeside old gone come counter → RecordsAlone old new → ExchangesBeside new gone come counter
records_beside old new gone come counter means alone = record { is = λ key own before. alone key own before ∙ means.is key own before }
