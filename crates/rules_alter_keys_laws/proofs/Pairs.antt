-- Behind all actions the columns of the foreign keys are paired.
use Rattle.std.specs.Prelude.{◌≡◌, ℕ, Bool, true, false, ◌&&◌, ◌||◌, not, List, [], ◌∷◌, Option, Some, None, if◌then◌else◌, refl}
use Rattle.std.specs.List.{list_all}
use Rattle.std.specs.Option.{is_none}
use Rattle.std.proofs.Common.{◌∙◌, ap}
use Rattle.std.proofs.lemmas.Bool.{and_from}
use Rattle.dd_names.specs.declared.object_name.ObjectKey.TheVariants as keys
use Rattle.dd_errors.specs.Errors.{ErrorValue}
use Rattle.dd_definitions.specs.declared.foreign_keys.ForeignKeyDef.{ForeignKeyDef}
use Rattle.dd_definitions.specs.declared.parts.TableParts.{TableParts}
use Rattle.dd_catalog.specs.Catalog.{is_same_object}
use Rattle.dd_catalog.specs.Kinds.{first_odd_pair, sets_null, first_not_null}
use Rattle.dd_catalog.specs.Valid.{are_columns_paired}
use Rattle.dd_catalog.specs.Walks.{Walk, done, ◌>>=◌, fine, run, look_at, refuse_some, every}
use Rattle.dd_catalog.specs.WalkLaws.{Look}
use Rattle.dd_catalog.specs.Asked.{fine_is, bind_fine}
use Rattle.rules_elements.specs.ForeignKeys.{table_seen, parent_of, odd_pair_refused, not_null_refused, set_null_refused}
use Rattle.rules_alter.specs.ForeignKeys.{pairs_fit, own_key_fits, pairs_on_fit, child_fits, all_keys_fit}
use Rattle.rules_alter.specs.declared.states.Altering.{Altering}
use Rattle.rules_alter.specs.declared.states.Child.{Child}
use Rattle.rules_alter_laws.proofs.Dropped.{not_refused_some}
use Rattle.rules_alter_keys_laws.specs.Grounds.{is_own_paired, is_paired_there, is_child_paired, ArePaired}
use Rattle.rules_alter_keys_laws.proofs.Added.{parent_is_there}
use Rattle.rules_alter_keys_laws.proofs.Steps.{every_all}

no_odd : (written : List (List ℕ)) (name : List ℕ) (pair : Option (List ℕ × List ℕ)) → odd_pair_refused written name pair ≡ None → is_none pair ≡ true
no_odd written name None is = refl
no_odd written name (Some pair) is = cc

no_null : (written : List (List ℕ)) (name : List ℕ) (column : Option (List ℕ)) → not_null_refused written name column ≡ None → is_none column ≡ true
no_null written name None is = refl
no_null written name (Some column) is = cc

null_allowed : (nulls : Bool) (written : List (List ℕ)) (name : List ℕ) (column : Option (List ℕ)) → ◌≡◌ {A = Option ErrorValue} (if nulls then not_null_refused written name column else None) None → (not nulls || is_none column) ≡ true
null_allowed true written name column is = no_null written name column is
null_allowed false written name column is = refl

pairs_are : (look : Look) (child parent : TableParts) (key : ForeignKeyDef) → run look (pairs_fit child parent key) ≡ fine tt → are_columns_paired child parent key ≡ true
unfolding pairs_fit are_columns_paired
pairs_are look child parent key is =
    let (_, even, nulls) = bind_fine look (refuse_some (odd_pair_refused [] key.name (first_odd_pair child.columns parent.columns key.columns key.parent_columns))) (λ _. refuse_some (set_null_refused [] child.columns key)) tt is in
    and_from (is_none (first_odd_pair child.columns parent.columns key.columns key.parent_columns)) (not (sets_null key) || is_none (first_not_null child.columns key.columns))
    (no_odd [] key.name (first_odd_pair child.columns parent.columns key.columns key.parent_columns) (not_refused_some look (odd_pair_refused [] key.name (first_odd_pair child.columns parent.columns key.columns key.parent_columns)) tt even))
    (null_allowed (sets_null key) [] key.name (first_not_null child.columns key.columns) (not_refused_some look (set_null_refused [] child.columns key) tt nulls))

own_pairs : (look : Look) (parts : TableParts) (key : ForeignKeyDef) → run look (own_key_fits parts key) ≡ fine tt → is_own_paired look parts key ≡ true
unfolding own_key_fits parent_of
own_pairs look parts key is =
    let (parent, found, fit) = bind_fine look (parent_of parts key.parent) (λ parent. pairs_fit parts parent key) tt is in
    on (is_same_object key.parent parts.name) refl parent found (pairs_are look parts parent key fit)
  where
    on : (b : Bool) → is_same_object key.parent parts.name ≡ b → (parent : TableParts) → run look (if b then done parts else (look_at (keys.Object key.parent) >>= table_seen key.parent.name)) ≡ fine parent → are_columns_paired parts parent key ≡ true
        → ((not b || are_columns_paired parts parts key) && (b || is_paired_there parts key (look (keys.Object key.parent)))) ≡ true
    on true same parent found paired = and_from (are_columns_paired parts parts key) true (ap (λ (p : TableParts). are_columns_paired parts p key) (fine_is found) ∙ paired) refl
    on false other parent found paired =
        let (space, there) = parent_is_there look key.parent parent found in
        ap (is_paired_there parts key) there ∙ paired

child_pairs : (look : Look) (parts child : TableParts) (key : ForeignKeyDef) → run look (pairs_on_fit child parts key) ≡ fine tt → is_child_paired parts child key ≡ true
child_pairs look parts child key is = on (is_same_object key.parent parts.name) is
  where
    on : (b : Bool) → run look (if b then pairs_fit child parts key else done tt) ≡ fine tt → (not b || are_columns_paired child parts key) ≡ true
    on true is = pairs_are look child parts key is
    on false is = refl

pub every_passes : {A : Type 0} (p : A → Bool) (look : Look) (check : A → Walk ErrorValue (Unit {0})) → ((x : A) → run look (check x) ≡ fine tt → p x ≡ true) → (xs : List A) → run look (every check xs) ≡ fine tt → list_all p xs ≡ true
every_passes p look check gives [] is = refl
every_passes p look check gives (x ∷ xs) is =
    let (_, one, rest) = bind_fine look (check x) (λ _. every check xs) tt is in
    and_from (p x) (list_all p xs) (gives x one) (every_passes p look check gives xs rest)

pub all_are_paired : (look : Look) (state : Altering) → run look (all_keys_fit state) ≡ fine tt → ArePaired look state
unfolding all_keys_fit
all_are_paired look state is =
    let (_, own, others) = bind_fine look (every (own_key_fits state.parts) state.parts.foreign_keys) (λ _. every (child_fits state.parts) state.children) tt is in
    record {
      own = every_passes (is_own_paired look state.parts) look (own_key_fits state.parts) (own_pairs look state.parts) state.parts.foreign_keys own;
      children = every_all (λ (child : Child). list_all (is_child_paired state.parts child.parts) child.parts.foreign_keys ≡ true) look (child_fits state.parts)
          (λ child fits. every_passes (is_child_paired state.parts child.parts) look (pairs_on_fit child.parts state.parts) (child_pairs look state.parts child.parts) child.parts.foreign_keys fits) state.children others;
    }
