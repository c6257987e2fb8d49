-- The foreign keys of a renamed table and of its children stay well formed.
use Rattle.std.specs.Prelude.{◌≡◌, suc, Bool, true, false, ◌&&◌, ◌||◌, nat_le, List, [], ◌∷◌, ◌++◌, map, length, refl}
use Rattle.std.specs.List.{list_any, list_all}
use Rattle.std.specs.Ordering.{is_le}
use Rattle.std.proofs.Common.{sym, ◌∙◌, ap, subst}
use Rattle.std.proofs.lemmas.Bool.{and_parts, and_from, or_parts, cond_both}
use Rattle.std.proofs.lemmas.List.{length-map, append_assoc, append-nil}
use Rattle.dd_names.specs.Names.{same, fold, name_cmp}
use Rattle.dd_names.specs.declared.object_name.ObjName.{ObjName}
use Rattle.dd_names.specs.declared.object_name.ObjectKey.TheVariants as keys
use Rattle.dd_definitions.specs.Columns.{are_columns_formed}
use Rattle.dd_definitions.specs.Distinct.{are_distinct}
use Rattle.dd_definitions.specs.ForeignKeys.{is_same_constraint, is_foreign_key_formed, is_before_next, are_in_order, are_foreign_keys_formed}
use Rattle.dd_definitions.specs.Indexes.{are_indexes_formed, are_autos_formed}
use Rattle.dd_definitions.specs.WellFormed.{is_well_formed}
use Rattle.dd_definitions.specs.declared.columns.ColumnDef.{ColumnDef}
use Rattle.dd_definitions.specs.declared.indexes.IndexDef.{IndexDef}
use Rattle.dd_definitions.specs.declared.foreign_keys.ForeignKeyDef.{ForeignKeyDef}
use Rattle.dd_definitions.specs.declared.parts.TableParts.{TableParts}
use Rattle.dd_catalog.specs.Catalog.{is_same_object}
use Rattle.dd_catalog.specs.Walks.{fine, run, look_at, refuse_if, every, over}
use Rattle.dd_catalog.specs.WalkLaws.{Look}
use Rattle.dd_catalog.specs.Asked.{fine_is, bind_fine}
use Rattle.rules_elements.specs.ForeignKeys.{is_owned_elsewhere, has_constraint_named}
use Rattle.rules_refusals.specs.Refusals.{fk_dup_name}
use Rattle.rules_create.specs.Tables.{put_in_order}
use Rattle.rules_create.proofs.Lists.{same_all, all_map, distinct_map, distinct_parts, distinct_push, none_stronger}
use Rattle.rules_create.proofs.Names.{not_refused, same_turned}
use Rattle.rules_create.proofs.Order.{put_all, put_none, put_distinct, put_ordered}
use Rattle.rules_rename.specs.Renames.{with_parent, renamed_key, fits_in_name, one_free, in_order, renamed_keys, with_parents}

-- ## Another parent

either_way : (from to : ObjName) (key : ForeignKeyDef) (P : ForeignKeyDef → Type 0) → P (record key { parent = to }) → P key → P (with_parent from to key)
either_way from to key P moved as_it_is = cond_both (is_same_object key.parent from) (record key { parent = to }) key P (λ _. moved) (λ _. as_it_is)

pub keeps_name : (from to : ObjName) (key : ForeignKeyDef) → (with_parent from to key).name ≡ key.name
keeps_name from to key = either_way from to key (λ k. k.name ≡ key.name) refl refl

parent_keeps : (columns : List ColumnDef) (indexes : List IndexDef) (from to : ObjName) (key : ForeignKeyDef) → is_foreign_key_formed columns indexes (with_parent from to key) ≡ is_foreign_key_formed columns indexes key
unfolding is_foreign_key_formed
parent_keeps columns indexes from to key = either_way from to key (λ k. is_foreign_key_formed columns indexes k ≡ is_foreign_key_formed columns indexes key) refl refl

same_names : (from to : ObjName) (a b : ForeignKeyDef) → is_same_constraint (with_parent from to a) (with_parent from to b) ≡ is_same_constraint a b
same_names from to a b = ap (λ n. same n (with_parent from to b).name) (keeps_name from to a) ∙ ap (same a.name) (keeps_name from to b)

stays_before : (from to : ObjName) (key : ForeignKeyDef) (rest : List ForeignKeyDef) → is_before_next (with_parent from to key) (map (with_parent from to) rest) ≡ is_before_next key rest
unfolding is_before_next
stays_before from to key [] = refl
stays_before from to key (next ∷ rest) =
    ap (λ n. is_le (name_cmp (fold n) (fold (with_parent from to next).name))) (keeps_name from to key) ∙ ap (λ n. is_le (name_cmp (fold key.name) (fold n))) (keeps_name from to next)

stay_ordered : (from to : ObjName) (keys : List ForeignKeyDef) → are_in_order (map (with_parent from to) keys) ≡ are_in_order keys
stay_ordered from to [] = refl
stay_ordered from to (key ∷ rest) = ap (λ b. b && are_in_order (map (with_parent from to) rest)) (stays_before from to key rest) ∙ ap (λ b. is_before_next key rest && b) (stay_ordered from to rest)

parents_keep : (columns : List ColumnDef) (indexes : List IndexDef) (from to : ObjName) (keys : List ForeignKeyDef) → are_foreign_keys_formed columns indexes (map (with_parent from to) keys) ≡ are_foreign_keys_formed columns indexes keys
unfolding are_foreign_keys_formed
parents_keep columns indexes from to keys =
    let counted : nat_le (length (map (with_parent from to) keys)) 1024 ≡ nat_le (length keys) 1024 = ap (λ n. nat_le n 1024) (length-map keys (with_parent from to)) in
    let formed : list_all (is_foreign_key_formed columns indexes) (map (with_parent from to) keys) ≡ list_all (is_foreign_key_formed columns indexes) keys =
    all_map (is_foreign_key_formed columns indexes) (with_parent from to) keys ∙ same_all (λ k. is_foreign_key_formed columns indexes (with_parent from to k)) (is_foreign_key_formed columns indexes) (parent_keeps columns indexes from to) keys in
    let distinct : are_distinct is_same_constraint (map (with_parent from to) keys) ≡ are_distinct is_same_constraint keys = distinct_map is_same_constraint (with_parent from to) (same_names from to) keys in
    let ordered : are_in_order (map (with_parent from to) keys) ≡ are_in_order keys = stay_ordered from to keys in
    cc

-- a child of a renamed table stays well formed
pub child_is_formed : (from to : ObjName) (parts : TableParts) → is_well_formed parts ≡ true → is_well_formed (with_parents from to parts) ≡ true
unfolding is_well_formed
child_is_formed from to parts formed =
    ap (λ b. are_columns_formed parts.columns && are_indexes_formed parts.columns parts.indexes && are_autos_formed parts.columns parts.indexes && b) (parents_keep parts.columns parts.indexes from to parts.foreign_keys) ∙ formed

-- ## Other names

renaming_keeps : (columns : List ColumnDef) (indexes : List IndexDef) (from to : ObjName) (key : ForeignKeyDef) → is_foreign_key_formed columns indexes (renamed_key from to key) ≡ is_foreign_key_formed columns indexes key
unfolding renamed_key is_foreign_key_formed
renaming_keeps columns indexes from to key = either_way from to _ (λ k. is_foreign_key_formed columns indexes k ≡ is_foreign_key_formed columns indexes key) refl refl

-- ## Free names

one_more_free : (look : Look) (from to : ObjName) (before : List ForeignKeyDef) (key : ForeignKeyDef) (next : List ForeignKeyDef) → run look (one_free from to before key) ≡ fine next → (has_constraint_named before key.name ≡ false) × (before ++ key ∷ [] ≡ next)
unfolding one_free
one_more_free look from to before key next is =
    let (owner, seen, after_owner) = bind_fine look (look_at (keys.Constraint to.schema (fold key.name))) _ next is in
    let (_, free, last) = bind_fine look (refuse_if (is_owned_elsewhere from owner || has_constraint_named before key.name) (fk_dup_name key.name)) _ next after_owner in
    ((or_parts (is_owned_elsewhere from owner) (has_constraint_named before key.name) (not_refused look (is_owned_elsewhere from owner || has_constraint_named before key.name) (fk_dup_name key.name) tt free)).1, fine_is last)

-- all are there, and no two have the same name
pub record AreFree (keys free : List ForeignKeyDef) : Type 0 where
  pub all : keys ≡ free
  pub distinct : are_distinct is_same_constraint free ≡ true

pub over_free : (look : Look) (from to : ObjName) (before keys free : List ForeignKeyDef) → are_distinct is_same_constraint before ≡ true → run look (over (one_free from to) before keys) ≡ fine free → AreFree (before ++ keys) free
over_free look from to before [] free distinct is = let same_list : before ≡ free = fine_is is in record { all = append-nil before ∙ same_list; distinct = subst (λ (ks : List ForeignKeyDef). are_distinct is_same_constraint ks ≡ true) same_list distinct }
over_free look from to before (key ∷ rest) free distinct is =
    let (next, one, others) = bind_fine look (one_free from to before key) _ free is in
    let (apart, same_list) = one_more_free look from to before key next one in
    let so_far : are_distinct is_same_constraint next ≡ true = subst (λ (ks : List ForeignKeyDef). are_distinct is_same_constraint ks ≡ true) same_list (distinct_push is_same_constraint before key distinct apart) in
    let all : AreFree (next ++ rest) free = over_free look from to next rest free so_far others in
    record { all = sym (append_assoc before (key ∷ []) rest) ∙ ap (λ (front : List ForeignKeyDef). front ++ rest) same_list ∙ all.all; distinct = all.distinct }

-- ## In order

pub in_order_all : (p : ForeignKeyDef → Bool) (keys : List ForeignKeyDef) → list_all p keys ≡ true → list_all p (in_order keys) ≡ true
in_order_all p [] all = refl
in_order_all p (key ∷ rest) all = let (here, later) = and_parts (p key) (list_all p rest) all in put_all p key (in_order rest) here (in_order_all p rest later)

in_order_none : (p : ForeignKeyDef → Bool) (keys : List ForeignKeyDef) → list_any p keys ≡ false → list_any p (in_order keys) ≡ false
in_order_none p [] none = refl
in_order_none p (key ∷ rest) none = let (here, later) = or_parts (p key) (list_any p rest) none in put_none p key (in_order rest) here (in_order_none p rest later)

in_order_distinct : (keys : List ForeignKeyDef) → are_distinct is_same_constraint keys ≡ true → are_distinct is_same_constraint (in_order keys) ≡ true
in_order_distinct [] distinct = refl
in_order_distinct (key ∷ rest) distinct =
    let (first, later) = distinct_parts is_same_constraint key rest distinct in
    let turned = none_stronger (is_same_constraint key) (λ (k : ForeignKeyDef). is_same_constraint k key) (λ k is. same_turned key.name k.name ∙ is) rest first in
    put_distinct key (in_order rest) (in_order_none (λ (k : ForeignKeyDef). is_same_constraint k key) rest turned) (in_order_distinct rest later)

in_order_ordered : (keys : List ForeignKeyDef) → are_in_order (in_order keys) ≡ true
in_order_ordered [] = refl
in_order_ordered (key ∷ rest) = put_ordered key (in_order rest) (in_order_ordered rest)

one_longer : (key : ForeignKeyDef) (keys : List ForeignKeyDef) → length (put_in_order key keys) ≡ suc (length keys)
one_longer key [] = refl
one_longer key (next ∷ rest) = cond_both (is_le (name_cmp (fold next.name) (fold key.name))) (next ∷ put_in_order key rest) (key ∷ next ∷ rest) (λ ks. length ks ≡ suc (length (next ∷ rest))) (λ _. ap suc (one_longer key rest)) (λ _. refl)

in_order_counted : (keys : List ForeignKeyDef) → length (in_order keys) ≡ length keys
in_order_counted [] = refl
in_order_counted (key ∷ rest) = one_longer key (in_order rest) ∙ ap suc (in_order_counted rest)

-- ## The renamed table

keys_formed : (look : Look) (columns : List ColumnDef) (indexes : List IndexDef) (from to : ObjName) (keys made : List ForeignKeyDef) → are_foreign_keys_formed columns indexes keys ≡ true → run look (renamed_keys from to keys) ≡ fine made → are_foreign_keys_formed columns indexes made ≡ true
unfolding renamed_keys are_foreign_keys_formed
keys_formed look columns indexes from to keys made before is =
    let renamed : List ForeignKeyDef = map (renamed_key from to) keys in
    let formed : ForeignKeyDef → Bool = is_foreign_key_formed columns indexes in
    let (_, _, after_names) = bind_fine look (every fits_in_name (map (renamed_key from to) keys)) _ made is in
    let (free, found, last) = bind_fine look (over (one_free from to) [] (map (renamed_key from to) keys)) _ made after_names in
    let all : AreFree (map (renamed_key from to) keys) free = over_free look from to [] (map (renamed_key from to) keys) free refl found in
    let (apart, _) = and_parts (nat_le (length keys) 1024 && list_all formed keys && are_distinct is_same_constraint keys) (are_in_order keys) before in
    let (both, _) = and_parts (nat_le (length keys) 1024 && list_all formed keys) (are_distinct is_same_constraint keys) apart in
    let (counted, each) = and_parts (nat_le (length keys) 1024) (list_all formed keys) both in
    let number : length (in_order free) ≡ length keys = in_order_counted free ∙ ap length (sym all.all) ∙ length-map keys (renamed_key from to) in
    let each_then : list_all (is_foreign_key_formed columns indexes) (map (renamed_key from to) keys) ≡ true =
    all_map (is_foreign_key_formed columns indexes) (renamed_key from to) keys ∙ same_all (λ k. is_foreign_key_formed columns indexes (renamed_key from to k)) (is_foreign_key_formed columns indexes) (renaming_keeps columns indexes from to) keys ∙ each in
    let each_free = in_order_all (is_foreign_key_formed columns indexes) free (subst (λ (ks : List ForeignKeyDef). list_all (is_foreign_key_formed columns indexes) ks ≡ true) all.all each_then) in
    let few = ap (λ n. nat_le n 1024) number ∙ counted in
    subst (λ (ks : List ForeignKeyDef). (nat_le (length ks) 1024 && list_all (is_foreign_key_formed columns indexes) ks && are_distinct is_same_constraint ks && are_in_order ks) ≡ true) (fine_is last)
    (and_from (nat_le (length (in_order free)) 1024 && list_all formed (in_order free) && are_distinct is_same_constraint (in_order free)) (are_in_order (in_order free))
    (and_from (nat_le (length (in_order free)) 1024 && list_all formed (in_order free)) (are_distinct is_same_constraint (in_order free)) (and_from (nat_le (length (in_order free)) 1024) (list_all formed (in_order free)) few each_free) (in_order_distinct free all.distinct))
    (in_order_ordered free))

-- a renamed table stays well formed
pub table_is_formed : (look : Look) (from to : ObjName) (parts : TableParts) (made : List ForeignKeyDef) → is_well_formed parts ≡ true → run look (renamed_keys from to parts.foreign_keys) ≡ fine made
    → is_well_formed (record parts { name = to; foreign_keys = made }) ≡ true
unfolding is_well_formed
table_is_formed look from to parts made formed is =
    let (others, keys) = and_parts (are_columns_formed parts.columns && are_indexes_formed parts.columns parts.indexes && are_autos_formed parts.columns parts.indexes) (are_foreign_keys_formed parts.columns parts.indexes parts.foreign_keys) formed in
    and_from (are_columns_formed parts.columns && are_indexes_formed parts.columns parts.indexes && are_autos_formed parts.columns parts.indexes) (are_foreign_keys_formed parts.columns parts.indexes made) others
    (keys_formed look parts.columns parts.indexes from to parts.foreign_keys made keys is)
