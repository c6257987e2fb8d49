-- How the files of a directory stay right as records come, are done and go.
use Rattle.std.proofs.Common.{◌≡◌, inl, inr, ℕ, true, false, if◌then◌else◌, List, [], ◌∷◌, ◌++◌, Option, None, refl, sym, ◌∙◌, ap}
use Rattle.std.proofs.Math.Path.{fun_ext}
use Rattle.std.specs.List.{AllByRecursion}
use Rattle.std.proofs.lemmas.Bool.{cases_Bool}
use Rattle.disk_trait.specs.Change.{Directory}
use Rattle.disk_trait.proofs.Paths.{paths}
use Rattle.ddl_log.specs.declared.records.Kind.{Kind}
use Rattle.ddl_log.specs.declared.records.Kind.TheVariants.{DeleteSpace, RenameSpace, WriteSdi}
use Rattle.ddl_log.specs.declared.records.LogRecord.{LogRecord}
use Rattle.ddl_log.specs.Effect.{effect_of, effect, Differs, IsBeside, IsOff, IsFree, IsApart, IsDone, IsUnder}
use Rattle.ddl_log.proofs.Effects.{off_record, local, put_last, without_done, while_under, covered}
use Rattle.dict_store_laws.specs.System.{system_path, is_system, stripped, IsOrdinary, IsRight}

pub system_is : is_system system_path ≡ true
unfolding is_system
system_is = refl

-- a system file's path and another differ
pub system_differs : (p q : List ℕ) → is_system p ≡ false → is_system q ≡ true → Differs p q
system_differs p q own system = elim (paths p q) [
  | inl same ↦ let no : true ≡ false = sym system ∙ sym (ap is_system same) ∙ own in absurd cc
  | inr apart ↦ apart
]

beside_system : (kind : Kind) (old new q : List ℕ) → is_system old ≡ false → is_system new ≡ false → is_system q ≡ true → IsBeside kind old new q
beside_system DeleteSpace old new q one two system = system_differs old q one system
beside_system RenameSpace old new q one two system = (system_differs old q one system, system_differs new q two system)
beside_system WriteSdi old new q one two system = system_differs old q one system

pub off_system : (item : LogRecord) (q : List ℕ) → IsOrdinary item → is_system q ≡ true → IsOff item q
off_system item q own system = beside_system item.kind item.old_path item.new_path q own.old_path own.new_path system

-- ## Without the system files

at_own : (d : Directory) (q : List ℕ) → is_system q ≡ false → stripped d q ≡ d q
at_own d q own = rw own refl

at_system : (d : Directory) (q : List ℕ) → is_system q ≡ true → stripped d q ≡ None
at_system d q system = rw system refl

-- what holds of both kinds of paths holds of all
strip_both : (d e : Directory) → ((q : List ℕ) → is_system q ≡ true → d q ≡ None) → ((q : List ℕ) → is_system q ≡ false → d q ≡ e q) → d ≡ stripped e
strip_both d e none same = fun_ext λ q. elim (cases_Bool (is_system q)) [
  | inl system ↦ none q system ∙ sym (at_system e q system)
  | inr own ↦ same q own ∙ sym (at_own e q own)
]

-- a record's effect leaves the system files alone
pub strip_effect : (item : LogRecord) (wanted d : Directory) → IsOrdinary item → effect_of item wanted (stripped d) ≡ stripped (effect_of item wanted d)
strip_effect item wanted d own =
    strip_both (effect_of item wanted (stripped d)) (effect_of item wanted d)
    (λ q system. off_record item wanted (stripped d) q (off_system item q own system) ∙ at_system d q system)
    (λ q is. local item wanted d (stripped d) q (at_own d item.old_path own.old_path) (at_own d q is))

-- directories with the same other files are one without the system files
pub strip_same : (d e : Directory) → ((q : List ℕ) → is_system q ≡ false → e q ≡ d q) → stripped e ≡ stripped d
strip_same d e same = strip_both (stripped e) d (λ q system. at_system e q system) (λ q own. at_own e q own ∙ same q own)

stays : (d e : Directory) (q : List ℕ) → e q ≡ d q → stripped e q ≡ stripped d q
stays d e q same = ap (λ (v : Option (List ℕ)). if is_system q then None else v) same

strip_under : (item : LogRecord) (wanted d e : Directory) → IsOrdinary item → IsUnder item wanted d e → IsUnder item wanted (stripped d) (stripped e)
strip_under item wanted d e own it = record {
  effect = strip_effect item wanted e own ∙ ap stripped it.effect ∙ sym (strip_effect item wanted d own);
  others = λ q off. stays d e q (it.others q off);
}

-- ## A record among others

module _ (item : LogRecord) (xs ys : List LogRecord) (wanted d e : Directory) where
  -- its operation may be under way
  pub right_under : IsOrdinary item → IsApart item xs → IsUnder item wanted d e → IsRight (xs ++ item ∷ ys) wanted d → IsRight (xs ++ item ∷ ys) wanted e
  right_under own apart it right = while_under item xs ys wanted (stripped d) (stripped e) apart (strip_under item wanted d e own it) ∙ right

  -- it may go once it is done
  pub right_done : IsOrdinary item → IsApart item xs → IsDone item wanted d → IsRight (xs ++ item ∷ ys) wanted d → IsRight (xs ++ ys) wanted d
  right_done own apart it right = sym (without_done item xs ys wanted (stripped d) apart (strip_effect item wanted d own ∙ ap stripped it)) ∙ right

  -- it may come where it has no effect on the wanted files
  pub right_added : IsApart item ys → IsDone item wanted wanted → IsRight (xs ++ ys) wanted d → IsRight (xs ++ item ∷ ys) wanted d
  right_added apart it right = put_last item xs ys wanted (stripped d) apart ∙ ap (effect_of item wanted) right ∙ it

  -- a file that it deletes may change
  pub right_covered : item.kind ≡ DeleteSpace → IsFree item.old_path xs → ((q : List ℕ) → Differs item.old_path q → e q ≡ d q) → IsRight (xs ++ item ∷ ys) wanted d → IsRight (xs ++ item ∷ ys) wanted e
  right_covered kind is_free same right = covered item xs ys wanted (stripped d) (stripped e) kind is_free (λ q off. stays d e q (same q off)) ∙ right

-- a change of a system file leaves it right
pub right_same : (items : List LogRecord) (wanted d e : Directory) → ((q : List ℕ) → is_system q ≡ false → e q ≡ d q) → IsRight items wanted d → IsRight items wanted e
right_same items wanted d e same right = ap (effect items wanted) (strip_same d e same) ∙ right

-- ## Lists

module _ {A : Type 0} (P : A → Type 0) where
  pub each_front : (xs ys : List A) → AllByRecursion P (xs ++ ys) → AllByRecursion P xs
  each_front [] ys it = tt
  each_front (x ∷ xs) ys it = (it.0, each_front xs ys it.1)

  pub each_back : (xs ys : List A) → AllByRecursion P (xs ++ ys) → AllByRecursion P ys
  each_back [] ys it = it
  each_back (x ∷ xs) ys it = each_back xs ys it.1

  pub each_both : (xs ys : List A) → AllByRecursion P xs → AllByRecursion P ys → AllByRecursion P (xs ++ ys)
  each_both [] ys one two = two
  each_both (x ∷ xs) ys one two = (one.0, each_both xs ys one.1 two)

  pub one_of : (xs ys : List A) (x : A) → AllByRecursion P (xs ++ x ∷ ys) → P x
  one_of xs ys x it = (each_back xs (x ∷ ys) it).0

  pub without_one : (xs ys : List A) (x : A) → AllByRecursion P (xs ++ x ∷ ys) → AllByRecursion P (xs ++ ys)
  without_one xs ys x it = each_both xs ys (each_front xs (x ∷ ys) it) (each_back xs (x ∷ ys) it).1

  pub with_one : (xs ys : List A) (x : A) → P x → AllByRecursion P (xs ++ ys) → AllByRecursion P (xs ++ x ∷ ys)
  with_one xs ys x one it = each_both xs (x ∷ ys) (each_front xs ys it) (one, each_back xs ys it)
