-- Rows are those of a catalog with ids exactly where writing the catalog's rows gives them again.
use Rattle.std.proofs.Common.{◌≡◌, ◌⊎◌, inl, inr, ℕ, Bool, true, false, cond, List, Option, Some, None, refl, sym, ap, subst, ◌∙◌}
use Rattle.std.specs.Option.{option_or}
use Rattle.std.specs.FinMap as finite_map
use Rattle.std.specs.Cmp.Lexicographic.{nat_list_cmp_total}
use Rattle.row_batch.specs.declared.operation.Operation.{Operation}
use Rattle.row_batch.specs.Rows.{Rows}
use Rattle.row_batch.proofs.Meanings.{key_alone}
use Rattle.dd_catalog.specs.Catalog.{Catalog}
use Rattle.catalog_rows.specs.Owners.{Owner, HasRow}
use Rattle.catalog_rows.specs.Lists.{rows_of_all}
use Rattle.catalog_rows.specs.Stands.{Numbered, Has, RowsAre, is_others}
use Rattle.catalog_rows.specs.Changes.{IsOne, put_behind, no_put, are_erased, Exchanges, MakesOf}
use Rattle.catalog_rows_laws.specs.Beside.{is_record, ExchangesBeside}
use Rattle.catalog_rows_laws.specs.Laws.{AreHad, ListsOwners}
use Rattle.catalog_rows_laws.proofs.Changed.{OneValue, ours}
use Rattle.catalog_rows_laws.proofs.Lists.{PutFrom, put_is, row_put, stood, listed}
use Rattle.catalog_rows_laws.proofs.Erased.{row_of_one, row_of_all, one_value, one_gone, erases_own, erased_ours}
use Rattle.catalog_rows_laws.proofs.Owned.{IsWith}
use Rattle.catalog_rows_laws.proofs.Alone.{none_some}

put_owner : (n : Numbered) (owners : List Owner) → AreHad n owners → (q value : List ℕ) → put_behind (rows_of_all owners) no_put q ≡ Some value → (owner : Owner) × Has n owner × HasRow owner q value
put_owner n owners l q value e = by (put_is (rows_of_all owners) no_put q value e)
  where
    by : PutFrom (rows_of_all owners) q value ⊎ (no_put q ≡ Some value) → (owner : Owner) × Has n owner × HasRow owner q value
    by (inl p) =
        let one = row_of_one owners p.row p.among in
        let at = stood one.0 p.row one.2 in
        (one.0, l one.0 one.1, record { place = at.place; at = p.row; is = at.is; key_is = p.key; value_is = p.is })
    by (inr e) = absurd cc

owner_put : (n : Numbered) (owners : List Owner) → AreHad n owners → OneValue n → (owner : Owner) (q value : List ℕ) → IsOne owner owners → HasRow owner q value → put_behind (rows_of_all owners) no_put q ≡ Some value
owner_put n owners l one owner q value among row =
    let put = row_put (rows_of_all owners) no_put row.at q (row_of_all owners owner row.at among (listed owner row.place row.at row.is)) row.key_is in
    let there = put_owner n owners l q put.value put.is in
    put.is ∙ ap Some (one.one there.0 owner q put.value value there.1 (l owner among) there.2 row)

pub are_where_written : (rows : Rows) (n : Numbered) (cat : Catalog) (owners : List Owner) → IsWith n cat → ListsOwners n owners → ((q : List ℕ) → is_others q ≡ false → finite_map.get rows q ≡ put_behind (rows_of_all owners) no_put q) → RowsAre rows n
are_where_written rows n cat owners w l same = record {
  all = λ owner key value has row. same key (ours owner key value row) ∙ owner_put n owners l.only (one_value n cat w) owner key value (l.all owner has) row;
  only = λ key value own got. put_owner n owners l.only key value (sym (same key own) ∙ got);
}

pub same_options : {X : Type 0} (a b : Option X) → ((v : X) → a ≡ Some v → b ≡ Some v) → ((v : X) → b ≡ Some v → a ≡ Some v) → a ≡ b
same_options None None f g = refl
same_options None (Some v) f g = g v refl
same_options (Some v) b f g = sym (f v refl)

pub written_where_are : (rows : Rows) (n : Numbered) (cat : Catalog) (owners : List Owner) → IsWith n cat → ListsOwners n owners → RowsAre rows n → (q : List ℕ) → is_others q ≡ false → finite_map.get rows q ≡ put_behind (rows_of_all owners) no_put q
written_where_are rows n cat owners w l are q own = same_options _ _
    (λ value got. let o = are.only q value own got in owner_put n owners l.only (one_value n cat w) o.0 q value (l.all o.0 o.1) o.2)
    (λ value put. let o = put_owner n owners l.only q value put in are.all o.0 q value o.1 o.2)

-- ## Written again

-- some of the catalog's owners, of which some are erased before all are written
record Again (rows : Rows) (n : Numbered) (cat : Catalog) (gone owners : List Owner) : Type 0 where
  pub with_ids : IsWith n cat
  pub are : RowsAre rows n
  pub had : AreHad n owners
  pub among : (owner : Owner) → IsOne owner gone → IsOne owner owners

none_lost : (rows : Rows) (n : Numbered) (cat : Catalog) (gone owners : List Owner) → Again rows n cat gone owners → (q value : List ℕ) → are_erased gone q ≡ true → put_behind (rows_of_all owners) no_put q ≡ None → finite_map.get rows q ≡ Some value → ⊥
none_lost rows n cat gone owners a q value away none got =
    let one = one_gone gone q away in
    let own : is_others q ≡ false = erased_ours one.0 q one.2 in
    let o = a.are.only q value own got in
    let same : one.0 ≡ o.0 = erases_own n cat a.with_ids one.0 o.0 (a.had one.0 (a.among one.0 one.1)) o.1 q value o.2 one.2 in
    let put : put_behind (rows_of_all owners) no_put q ≡ Some value =
    owner_put n owners a.had (one_value n cat a.with_ids) o.0 q value (subst (λ (x : Owner). IsOne x owners) same (a.among one.0 one.1)) o.2 in
    none_some value (sym none ∙ put)

same_at : (rows : Rows) (n : Numbered) (cat : Catalog) (gone owners : List Owner) → Again rows n cat gone owners → (q : List ℕ) (put : Option (List ℕ)) (away : Bool) (old : Option (List ℕ))
    → put_behind (rows_of_all owners) no_put q ≡ put → are_erased gone q ≡ away → finite_map.get rows q ≡ old → option_or put (cond away None old) ≡ old
same_at rows n cat gone owners a q (Some value) away old put gone_is got = let o = put_owner n owners a.had q value put in sym (a.are.all o.0 q value o.1 o.2) ∙ got
same_at rows n cat gone owners a q None false old put gone_is got = refl
same_at rows n cat gone owners a q None true None put gone_is got = refl
same_at rows n cat gone owners a q None true (Some value) put gone_is got = absurd (none_lost rows n cat gone owners a q value gone_is put got)

pub same_again : (operations : List Operation) (rows after : Rows) (n : Numbered) (cat : Catalog) (gone owners : List Owner) → IsWith n cat → RowsAre rows n → AreHad n owners → ((owner : Owner) → IsOne owner gone → IsOne owner owners)
    → Exchanges operations gone owners None → MakesOf operations rows after → after ≡ rows
same_again operations rows after n cat gone owners w are had among means makes =
    let a : Again rows n cat gone owners = record { with_ids = w; are = are; had = had; among = among } in
    finite_map.same_map nat_list_cmp_total key_alone after rows
    (λ q. makes.is q ∙ means.is q (finite_map.get rows q) ∙ same_at rows n cat gone owners a q (put_behind (rows_of_all owners) no_put q) (are_erased gone q) (finite_map.get rows q) refl refl refl)

pub same_beside : (operations : List Operation) (rows after : Rows) (n : Numbered) (cat : Catalog) (gone owners : List Owner) → IsWith n cat → RowsAre rows n → AreHad n owners → ((owner : Owner) → IsOne owner gone → IsOne owner owners)
    → ExchangesBeside operations gone owners None → MakesOf operations rows after → (q : List ℕ) → is_record q ≡ false → finite_map.get after q ≡ finite_map.get rows q
same_beside operations rows after n cat gone owners w are had among means makes q own =
    let a : Again rows n cat gone owners = record { with_ids = w; are = are; had = had; among = among } in
    makes.is q ∙ means.is q own (finite_map.get rows q) ∙ same_at rows n cat gone owners a q (put_behind (rows_of_all owners) no_put q) (are_erased gone q) (finite_map.get rows q) refl refl refl
