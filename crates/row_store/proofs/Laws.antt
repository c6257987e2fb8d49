-- What operations make of entries in key order is what they make of the rows.
use Rattle.std.proofs.Common.{◌≡◌, ℕ, Equal, Bool, true, false, cond, not, List, [], ◌∷◌, ◌++◌, None, refl, sym, ap, subst, ◌∙◌}
use Rattle.std.specs.Prelude.{IsTrue}
use lib.Dec.{T}
use Rattle.std.specs.List.{filter}
use Rattle.std.specs.Str.{bytes_eq}
use Rattle.std.specs.Ordering.{eq_by_cmp}
use Rattle.std.specs.Cmp.Lexicographic.{nat_list_cmp_total}
use Rattle.std.specs.FinMap.{IsAntisymmetric, slice_cmp-IsAntisymmetric, nat_cmp-IsAntisymmetric, insert, remove, retain_keys, same_entries_map, same_map, entries-from_sorted, entries-insert, get-from_sorted, get-retain_keys, get-remove, get-empty}
use Rattle.std.specs.FinMap.Entries.{put, find, is_sorted-put, is_sorted-where_key, find-where_key}
use Rattle.std.proofs.lemmas.Map.Text.{is_eq-slice_cmp}
use Rattle.row_batch.specs.declared.operation.Operation.{Operation}
use Rattle.row_batch.specs.declared.operation.Operation.TheVariants.{Delete, DeletePrefix, Put}
use Rattle.row_batch.specs.Order.{key_cmp}
use Rattle.row_batch.specs.Rows.{Rows, is_under, after, applied, no_rows}
use Rattle.row_store.specs.Entries.{Entries, rows_of, in_key_order, entries_after, entries_applied}
use Rattle.row_store.specs.Value.{rows_after}

pub as_T : (b : Bool) → IsTrue b → T b
as_T true h = tt
as_T false h = absurd cc

pub as_true : (b : Bool) → T b → IsTrue b
as_true true h = refl
as_true false h = absurd h

alone : IsAntisymmetric key_cmp
alone = slice_cmp-IsAntisymmetric nat_cmp-IsAntisymmetric

alike : (p : List ℕ → Bool) (q x : List ℕ) → key_cmp q x ≡ Equal → p x ≡ p q
alike p q x e = ap p (sym (alone q x e))

kept : (p : List ℕ → Bool) (es : Entries) → IsTrue (in_key_order es) → rows_of (filter (λ e. p e.0) es) ≡ retain_keys (rows_of es) p
kept p es h = same_map nat_list_cmp_total alone _ _ (λ q.
    get-from_sorted key_cmp (filter (λ e. p e.0) es) q (is_sorted-where_key key_cmp p es (as_T (in_key_order es) h))
    ∙ find-where_key key_cmp p q (alike p q) es
    ∙ sym (get-retain_keys (rows_of es) p q (alike p q) ∙ ap (λ o. cond (p q) o None) (get-from_sorted key_cmp es q (as_T (in_key_order es) h))))

turned : {A : Type 0} (b : Bool) (x y : A) → cond (not b) x y ≡ cond b y x
turned true x y = refl
turned false x y = refl

removed : (key : List ℕ) (es : Entries) → IsTrue (in_key_order es) → rows_of (filter (λ e. not (bytes_eq e.0 key)) es) ≡ remove (rows_of es) key
removed key es h =
    let p : List ℕ → Bool = λ k. not (bytes_eq k key) in
    same_map nat_list_cmp_total alone _ _ (λ q.
    get-from_sorted key_cmp (filter (λ e. p e.0) es) q (is_sorted-where_key key_cmp p es (as_T (in_key_order es) h))
    ∙ find-where_key key_cmp p q (alike p q) es
    ∙ turned (bytes_eq q key) (find key_cmp q es) None
    ∙ ap (λ b. cond b None (find key_cmp q es)) (sym (is_eq-slice_cmp q key))
    ∙ sym (get-remove nat_list_cmp_total (rows_of es) key q ∙ ap (λ o. cond (eq_by_cmp key_cmp q key) None o) (get-from_sorted key_cmp es q (as_T (in_key_order es) h))))

inserted : (key value : List ℕ) (es : Entries) → IsTrue (in_key_order es) → rows_of (put key_cmp key value es) ≡ insert (rows_of es) key value
inserted key value es h =
    same_entries_map _ _
    (entries-from_sorted key_cmp (put key_cmp key value es) (is_sorted-put key_cmp nat_list_cmp_total key value es (as_T (in_key_order es) h))
    ∙ sym (entries-insert nat_list_cmp_total (rows_of es) key value ∙ ap (put key_cmp key value) (entries-from_sorted key_cmp es (as_T (in_key_order es) h))))

stays_in_order : (x : Operation) (es : Entries) → IsTrue (in_key_order es) → IsTrue (in_key_order (entries_after x es))
stays_in_order (Delete key) es h = as_true (in_key_order (filter (λ e. not (bytes_eq e.0 key)) es)) (is_sorted-where_key key_cmp (λ k. not (bytes_eq k key)) es (as_T (in_key_order es) h))
stays_in_order (DeletePrefix prefix) es h = as_true (in_key_order (filter (λ e. not (is_under prefix e.0)) es)) (is_sorted-where_key key_cmp (λ k. not (is_under prefix k)) es (as_T (in_key_order es) h))
stays_in_order (Put key value) es h = as_true (in_key_order (put key_cmp key value es)) (is_sorted-put key_cmp nat_list_cmp_total key value es (as_T (in_key_order es) h))

rows_after_one : (x : Operation) (es : Entries) → IsTrue (in_key_order es) → rows_of (entries_after x es) ≡ after x (rows_of es)
rows_after_one (Delete key) es h = removed key es h
rows_after_one (DeletePrefix prefix) es h = kept (λ k. not (is_under prefix k)) es h
rows_after_one (Put key value) es h = inserted key value es h

pub in_order-applied : (xs : List Operation) (es : Entries) → IsTrue (in_key_order es) → IsTrue (in_key_order (entries_applied xs es))
in_order-applied [] es h = h
in_order-applied (x ∷ xs) es h = in_order-applied xs (entries_after x es) (stays_in_order x es h)

pub rows-applied : (xs : List Operation) (es : Entries) → IsTrue (in_key_order es) → rows_of (entries_applied xs es) ≡ applied xs (rows_of es)
rows-applied [] es h = refl
rows-applied (x ∷ xs) es h = rows-applied xs (entries_after x es) (stays_in_order x es h) ∙ ap (applied xs) (rows_after_one x es h)

-- a batch more at the end
pub rows_after-push : (batches : List (List Operation)) (batch : List Operation) (rows : Rows) → rows_after (batches ++ batch ∷ []) rows ≡ applied batch (rows_after batches rows)
rows_after-push [] batch rows = refl
rows_after-push (b ∷ bs) batch rows = rows_after-push bs batch (applied b rows)

-- no entries are no rows
pub rows-nothing : (es : Entries) → es ≡ [] → IsTrue (in_key_order es) × (rows_of es ≡ no_rows)
rows-nothing es is =
    let none : rows_of [] ≡ no_rows = same_map nat_list_cmp_total alone _ _ (λ q. get-from_sorted key_cmp [] q tt ∙ sym (get-empty key_cmp q)) in
    (subst (λ (e : Entries). IsTrue (in_key_order e)) (sym is) refl, ap rows_of is ∙ none)
