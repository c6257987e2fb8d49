-- How a directory stays right as the records of a plan come, and what done records ask for.
use Rattle.std.proofs.Common.{◌≡◌, inl, inr, ℕ, Bool, false, if◌then◌else◌, List, [], ◌∷◌, ◌++◌, Some, None, refl, sym, ◌∙◌, ap}
use Rattle.std.proofs.Math.Path.{fun_ext}
use Rattle.disk_trait.specs.Change.{Directory, unlinked}
use Rattle.disk_trait.proofs.Paths.{bytes_eq-same, by_path, update-here, update-off}
use Rattle.ddl_log.specs.declared.records.Kind.{Kind}
use Rattle.ddl_log.specs.declared.records.Kind.TheVariants.{DeleteSpace, RenameSpace, WriteSdi}
use Rattle.ddl_log.specs.declared.records.LogRecord.{LogRecord}
use Rattle.ddl_log.specs.Effect.{effect_at, effect_of, effect, Differs, IsOff, IsFree, AreBeside, IsApart, WantsSame, Agrees, IsDone}
use Rattle.ddl_log.proofs.Effects.{off_record, local, free, in_turn, commutes, same_effect, put_last, one_of_two, beside_old}
use Rattle.dict_store_laws.specs.System.{is_system, stripped, IsRight}
use Rattle.dict_store_laws.specs.Plans.{with_file, LeadsTo, AreApart}

-- ## The records of a plan

all_commute : (items ys : List LogRecord) (wanted d : Directory) → AreApart items ys → effect ys wanted (effect items wanted d) ≡ effect items wanted (effect ys wanted d)
all_commute [] ys wanted d it = refl
all_commute (item ∷ items) ys wanted d it =
    all_commute items ys wanted (effect_of item wanted d) it.1
    ∙ ap (effect items wanted) (commutes item ys wanted d it.0)

put_all_last : (xs items ys : List LogRecord) (wanted d : Directory) → AreApart items ys → effect (xs ++ (items ++ ys)) wanted d ≡ effect items wanted (effect (xs ++ ys) wanted d)
put_all_last xs items ys wanted d it =
    in_turn xs (items ++ ys) wanted d ∙ in_turn items ys wanted (effect xs wanted d) ∙ all_commute items ys wanted (effect xs wanted d) it
    ∙ ap (effect items wanted) (sym (in_turn xs ys wanted d))

deletes : (item : LogRecord) (wanted d : Directory) → item.kind ≡ DeleteSpace → effect_of item wanted d ≡ unlinked item.old_path d
deletes item wanted d kind = ap (λ (k : Kind). effect_at k item.old_path item.new_path wanted d) kind

module _ (xs items ys : List LogRecord) (before wanted d : Directory) where
  -- a plan that made no file
  pub right_planned : AreApart items ys → Agrees (xs ++ ys) before wanted → LeadsTo None items before wanted → IsRight (xs ++ ys) before d → IsRight (xs ++ (items ++ ys)) wanted d
  right_planned apart agrees leads right =
      put_all_last xs items ys wanted (stripped d) apart
      ∙ ap (effect items wanted) (same_effect (xs ++ ys) before wanted (stripped d) agrees ∙ right)
      ∙ leads

  -- a plan that made one: the record that deletes it goes
  pub right_made : (item : LogRecord) (p bytes : List ℕ) → item.kind ≡ DeleteSpace → item.old_path ≡ p → is_system p ≡ false → IsApart item ys → IsFree p (xs ++ ys) → d p ≡ Some bytes
      → AreApart items ys → Agrees (xs ++ ys) before wanted → LeadsTo (Some (p, bytes)) items before wanted → IsRight (xs ++ item ∷ ys) before d → IsRight (xs ++ (items ++ ys)) wanted d
  right_made item p bytes kind at own item_apart is_free there apart agrees leads right =
      let e = effect (xs ++ ys) before (stripped d) in
      let gone : unlinked p e ≡ before =
      sym (deletes item before e kind ∙ ap (λ (x : List ℕ). unlinked x e) at) ∙ sym (put_last item xs ys before (stripped d) item_apart) ∙ right in
      let here : e p ≡ Some bytes = free p (xs ++ ys) before (stripped d) is_free ∙ ap (λ (b : Bool). if b then None else d p) own ∙ there in
      let P : List ℕ → Type 0 = λ q. e q ≡ with_file (Some (p, bytes)) before q in
      let whole : e ≡ with_file (Some (p, bytes)) before = fun_ext (by_path p P (here ∙ sym (update-here before p (Some bytes)))
      (λ q off. sym (update-off e p None q off) ∙ ap (λ (f : Directory). f q) gone ∙ sym (update-off before p (Some bytes) q off))) in
      put_all_last xs items ys wanted (stripped d) apart
      ∙ ap (effect items wanted) (same_effect (xs ++ ys) before wanted (stripped d) agrees ∙ whole)
      ∙ leads

-- ## Records that are done

-- a record stays done where other files are wanted, but the same at what it writes anew
pub done_agrees : (item : LogRecord) (before wanted d : Directory) → WantsSame item.kind item.old_path before wanted → IsDone item before d → IsDone item wanted d
done_agrees item before wanted d it so = same_effect (item ∷ []) before wanted d (it, tt) ∙ so

-- the deletion of a file that isn't wanted has no effect on the wanted ones
pub done_absent : (item : LogRecord) (wanted : Directory) → item.kind ≡ DeleteSpace → wanted item.old_path ≡ None → IsDone item wanted wanted
done_absent item wanted kind absent =
    let p = item.old_path in
    let P : List ℕ → Type 0 = λ q. unlinked p wanted q ≡ wanted q in
    deletes item wanted wanted kind ∙ fun_ext (by_path p P (rw (bytes_eq-same p) (sym absent)) (λ q off. rw off refl))

beside_first : (kind : Kind) (old new : List ℕ) (f : LogRecord) (fs : List LogRecord) → AreBeside kind old new (f ∷ fs) → AreBeside kind old new (f ∷ []) × AreBeside kind old new fs
beside_first DeleteSpace old new f fs it = ((it.0, tt), it.1)
beside_first RenameSpace old new f fs it = (((it.0.0, tt), (it.1.0, tt)), (it.0.1, it.1.1))
beside_first WriteSdi old new f fs it = ((it.0, tt), it.1)

-- a record that is apart from a list is apart from its first and from the others
pub apart_first : (item f : LogRecord) (fs : List LogRecord) → IsApart item (f ∷ fs) → IsApart item (f ∷ []) × IsApart item fs
apart_first item f fs it = beside_first item.kind item.old_path item.new_path f fs it

-- a record stays done as the directory changes at the paths of a record that is apart from it
pub done_apart : (item f : LogRecord) (wanted d e : Directory) → IsApart item (f ∷ []) → ((q : List ℕ) → IsOff item q → e q ≡ d q) → IsDone f wanted d → IsDone f wanted e
done_apart item f wanted d e apart same so = fun_ext λ q. elim (one_of_two item.kind item.old_path item.new_path (f ∷ []) apart q) [
  | inl off ↦
      local f wanted d e q (same f.old_path (beside_old item.kind item.old_path item.new_path (f ∷ []) apart).0) (same q off)
      ∙ ap (λ (x : Directory). x q) so ∙ sym (same q off)
  | inr is_free ↦ off_record f wanted e q is_free.0
]

-- and as it changes at a path that the record doesn't name, and that isn't its old path
pub done_off : (f : LogRecord) (p : List ℕ) (wanted d e : Directory) → IsOff f p → Differs p f.old_path → ((q : List ℕ) → Differs p q → e q ≡ d q) → IsDone f wanted d → IsDone f wanted e
done_off f p wanted d e off old same so =
    let P : List ℕ → Type 0 = λ q. effect_of f wanted e q ≡ e q in
    fun_ext (by_path p P (off_record f wanted e p off)
    (λ q apart. local f wanted d e q (same f.old_path old) (same q apart) ∙ ap (λ (x : Directory). x q) so ∙ sym (same q apart)))
