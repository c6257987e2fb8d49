-- What is kept where the set of one key is another.
use Rattle.std.proofs.Common.{◌≡◌, Bool, true, false, cond, ◌||◌, List, [], ◌∷◌, ◌++◌, Option, Some, None, refl, sym, ◌∙◌, ap, subst}
use Rattle.std.specs.declared.cmp.Ordering.{Ordering}
use Rattle.std.specs.declared.cmp.Ordering.TheVariants.{Less, Equal, Greater}
use Rattle.std.specs.Ordering.{is_eq}
use Rattle.std.specs.List.{list_any}
use Rattle.std.specs.BTreeMap as tree
use Rattle.std.specs.BTreeMap.{is_at}
use Rattle.std.specs.BTreeSet.{BTreeSet, contains}
use Rattle.std.proofs.lemmas.Bool.{true≢false}
use Rattle.std.proofs.lemmas.List.Folds.{list_any-append}
use Rattle.dd_names.specs.declared.object_name.ObjName.{ObjName}
use Rattle.dd_names.specs.declared.object_name.ObjectKey.{ObjectKey}
use Rattle.dd_catalog.specs.Catalog.{object_cmp}
use Rattle.dd_catalog.proofs.ObjectNames.{object_alone}
use Rattle.dd_index.specs.Keys.{key_cmp}
use Rattle.dd_index.specs.Index.{has, has_name, KeepsAll, KeepsOthers, KeepsBut, Enters}
use Rattle.dd_index.specs.declared.tables_at.TablesAt.{TablesAt}
use Rattle.dd_index.proofs.KeyOrder.{key_alone, apart}

-- the new has this under the key, and under others what the old has
pub record Changes (old new : TablesAt) (key : ObjectKey) (now : Option (BTreeSet ObjName)) : Type 0 where
  pub at : (q : ObjectKey) → tree.get key_cmp new.tables q ≡ cond (is_at (key_cmp key) q) now (tree.get key_cmp old.tables q)

stays : (old new : TablesAt) (key : ObjectKey) (now : Option (BTreeSet ObjName)) → Changes old new key now → (q : ObjectKey) (table : ObjName) → (key ≡ q → has old key table ≡ true → has_name table now ≡ true)
    → has old q table ≡ true → has new q table ≡ true
stays old new key now changes q table here is = on (key_cmp key q) refl
  where
    seen : (r : Ordering) → key_cmp key q ≡ r → has new q table ≡ has_name table (cond (is_eq r) now (tree.get key_cmp old.tables q))
    seen r order = ap (has_name table) (changes.at q ∙ ap (λ (o : Ordering). cond (is_eq o) now (tree.get key_cmp old.tables q)) order)

    on : (r : Ordering) → key_cmp key q ≡ r → has new q table ≡ true
    on Less order = seen Less order ∙ is
    on Equal order = seen Equal order ∙ here (key_alone key q order) (ap (λ k. has old k table) (key_alone key q order) ∙ is)
    on Greater order = seen Greater order ∙ is

-- a set with more under the key
pub more_kept : (old new : TablesAt) (key : ObjectKey) (before now : BTreeSet ObjName) → tree.get key_cmp old.tables key ≡ Some before → Changes old new key (Some now)
    → ((table : ObjName) → contains object_cmp before table ≡ true → contains object_cmp now table ≡ true) → KeepsAll old new
more_kept old new key before now was changes more =
    record { keeps = λ q table is. stays old new key (Some now) changes q table (λ _ had. more table (sym (ap (has_name table) was) ∙ had)) is }

-- a first set under the key
pub first_kept : (old new : TablesAt) (key : ObjectKey) (now : BTreeSet ObjName) → tree.get key_cmp old.tables key ≡ None → Changes old new key (Some now) → KeepsAll old new
first_kept old new key now none changes =
    record { keeps = λ q table is. stays old new key (Some now) changes q table (λ _ had. absurd (true≢false (sym had ∙ ap (has_name table) none))) is }

-- a set that has no table goes
pub empty_gone : (old new : TablesAt) (key : ObjectKey) → ((table : ObjName) → has old key table ≡ false) → Changes old new key None → KeepsAll old new
empty_gone old new key none changes =
    record { keeps = λ q table is. stays old new key None changes q table (λ _ had. absurd (true≢false (sym had ∙ none table))) is }

-- a set without that table
pub others_kept : (old new : TablesAt) (key : ObjectKey) (table : ObjName) (before now : BTreeSet ObjName) → tree.get key_cmp old.tables key ≡ Some before → Changes old new key (Some now)
    → ((t : ObjName) → is_at (object_cmp table) t ≡ false → contains object_cmp now t ≡ contains object_cmp before t) → KeepsOthers old new key table
others_kept old new key table before now was changes same =
    record {
      keeps = λ q t other is. stays old new key (Some now) changes q t (λ here had.
          same t (apart object_cmp object_alone table t (λ tied. other (sym here, tied))) ∙ sym (ap (has_name t) was) ∙ had) is;
    }

pub set_more : (old new : BTreeSet ObjName) (table other : ObjName) → contains object_cmp new other ≡ cond (is_at (object_cmp table) other) true (contains object_cmp old other)
    → contains object_cmp old other ≡ true → contains object_cmp new other ≡ true
set_more old new table other adds is = adds ∙ on (is_at (object_cmp table) other) is
  where
    on : (b : Bool) → contains object_cmp old other ≡ true → cond b true (contains object_cmp old other) ≡ true
    on true is = refl
    on false is = is

-- ## Keys one after another

either : (x y : Bool) → (x || (y || false)) ≡ true → x ≡ false → y ≡ true
either true y is none = absurd (true≢false none)
either false true is none = refl
either false false is none = is

pub enters_none : (index : TablesAt) (table : ObjName) → Enters index table []
enters_none index table = record { all = λ key is. absurd cc }

pub enters_more : (old new : TablesAt) (table : ObjName) (before : List ObjectKey) (key : ObjectKey) → Enters old table before → KeepsAll old new → has new key table ≡ true → Enters new table (before ++ key ∷ [])
enters_more old new table before key entered kept added = record {
  all = λ q is. on q (list_any (is_at (key_cmp q)) before) refl (key_cmp q key) refl (sym (list_any-append (is_at (key_cmp q)) before (key ∷ [])) ∙ is);
}
  where
    on : (q : ObjectKey) (x : Bool) → list_any (is_at (key_cmp q)) before ≡ x → (r : Ordering) → key_cmp q key ≡ r → (list_any (is_at (key_cmp q)) before || (is_at (key_cmp q) key || false)) ≡ true → has new q table ≡ true
    on q true had r order is = kept.keeps q table (entered.all q had)
    on q false none Equal order is = subst (λ k. has new k table ≡ true) (sym (key_alone q key order)) added
    on q false none Less order is = absurd (true≢false (sym (either (list_any (is_at (key_cmp q)) before) (is_at (key_cmp q) key) is none) ∙ ap (λ (o : Ordering). is_eq o) order))
    on q false none Greater order is = absurd (true≢false (sym (either (list_any (is_at (key_cmp q)) before) (is_at (key_cmp q) key) is none) ∙ ap (λ (o : Ordering). is_eq o) order))

pub kept_twice : (one two three : TablesAt) → KeepsAll one two → KeepsAll two three → KeepsAll one three
kept_twice one two three first second = record { keeps = λ key table is. second.keeps key table (first.keeps key table is) }

pub but_twice : (one two three : TablesAt) (table : ObjName) (keys : BTreeSet ObjectKey) → KeepsBut one two table keys → KeepsBut two three table keys → KeepsBut one three table keys
but_twice one two three table keys first second = record { keeps = λ key t later is. second.keeps key t later (first.keeps key t later is) }

-- a key that isn't among the later ones
pub but_left : (old new : TablesAt) (table : ObjName) (keys : BTreeSet ObjectKey) (key : ObjectKey) → contains key_cmp keys key ≡ false → KeepsOthers old new key table → KeepsBut old new table keys
but_left old new table keys key none kept =
    record { keeps = λ k t later is. kept.keeps k t (λ same. absurd (true≢false (sym (later same.1) ∙ ap (contains key_cmp keys) same.0 ∙ none))) is }
