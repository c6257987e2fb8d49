-- The laws of effects. They follow from two facts of one operation: elsewhere it does nothing, and what it does at a path depends
-- on that path and on its old path alone.
use Rattle.std.proofs.Common.{◌≡◌, ◌⊎◌, inl, inr, ℕ, Bool, true, false, cond, List, [], ◌∷◌, ◌++◌, Option, Some, None, refl, sym, ◌∙◌, ap, subst}
use Rattle.std.proofs.Math.Path.{fun_ext}
use Rattle.std.specs.Map.{update}
use Rattle.std.specs.Str.{bytes_eq}
use Rattle.disk_trait.specs.Change.{Directory, unlinked, relinked}
use Rattle.disk_trait.proofs.Paths.{bytes_eq-same, paths, update-here, by_path}
use Rattle.disk_trait.proofs.Follows.{apart-sym}
use Rattle.ddl_log.specs.declared.records.Kind.{Kind}
use Rattle.ddl_log.specs.declared.records.Kind.TheVariants.{DeleteSpace, RenameSpace, WriteSdi}
use Rattle.ddl_log.specs.declared.records.LogRecord.{LogRecord}
use Rattle.ddl_log.specs.Effect.{anew, effect_at, effect_of, effect, Differs, IsBeside, IsOff, IsFree, AreBeside, IsApart, WantsSame, Agrees, IsDone, IsUnder}

-- ---- one operation

relinked_off : (file : Option (List ℕ)) (old new : List ℕ) (d : Directory) (q : List ℕ) → Differs old q → Differs new q → relinked file old new d q ≡ d q
relinked_off None old new d q one two = refl
relinked_off (Some f) old new d q one two = rw two (rw one refl)

beside : (kind : Kind) (old new : List ℕ) (wanted d : Directory) (q : List ℕ) → IsBeside kind old new q → effect_at kind old new wanted d q ≡ d q
beside DeleteSpace old new wanted d q off = rw off refl
beside RenameSpace old new wanted d q off = relinked_off (d old) old new d q off.0 off.1
beside WriteSdi old new wanted d q off = rw off refl

pub off_record : (item : LogRecord) (wanted d : Directory) (q : List ℕ) → IsOff item q → effect_of item wanted d q ≡ d q
off_record item wanted d q off = beside item.kind item.old_path item.new_path wanted d q off

relinked_local : (file : Option (List ℕ)) (old new : List ℕ) (d e : Directory) (q : List ℕ) → e q ≡ d q → relinked file old new e q ≡ relinked file old new d q
relinked_local None old new d e q same = same
relinked_local (Some f) old new d e q same = ap (λ (v : Option (List ℕ)). cond (bytes_eq new q) (Some f) (cond (bytes_eq old q) None v)) same

local_at : (kind : Kind) (old new : List ℕ) (wanted d e : Directory) (q : List ℕ) → e old ≡ d old → e q ≡ d q → effect_at kind old new wanted e q ≡ effect_at kind old new wanted d q
local_at DeleteSpace old new wanted d e q read same = ap (λ (v : Option (List ℕ)). cond (bytes_eq old q) None v) same
local_at RenameSpace old new wanted d e q read same = relinked_local (e old) old new d e q same ∙ ap (λ (x : Option (List ℕ)). relinked x old new d q) read
local_at WriteSdi old new wanted d e q read same =
    ap (λ (v : Option (List ℕ)). cond (bytes_eq old q) (anew (wanted old) (e old)) v) same
    ∙ ap (λ (x : Option (List ℕ)). cond (bytes_eq old q) (anew (wanted old) x) (d q)) read

pub local : (item : LogRecord) (wanted d e : Directory) (q : List ℕ) → e item.old_path ≡ d item.old_path → e q ≡ d q → effect_of item wanted e q ≡ effect_of item wanted d q
local item wanted d e q read same = local_at item.kind item.old_path item.new_path wanted d e q read same

-- ---- done again

rename_again : (old new : List ℕ) (file : Option (List ℕ)) (d : Directory) → d old ≡ file → let e = relinked file old new d in relinked (e old) old new e ≡ e
rename_again old new None d is = ap (λ (x : Option (List ℕ)). relinked x old new d) is
rename_again old new (Some f) d is =
    let e = relinked (Some f) old new d in
    elim (paths new old) [
      | inl same ↦
          let kept : e old ≡ Some f = subst (λ (n : List ℕ). relinked (Some f) old n d old ≡ Some f) (sym same) (rw (bytes_eq-same old) refl) in
          ap (λ (x : Option (List ℕ)). relinked x old new e) kept ∙ fun_ext λ q. twice (bytes_eq new q) (bytes_eq old q) f (d q) (ap (λ (n : List ℕ). bytes_eq n q) same)
      | inr apart ↦ let gone : e old ≡ None = rw apart (rw (bytes_eq-same old) refl) in ap (λ (x : Option (List ℕ)). relinked x old new e) gone
    ]
  where
    twice : (a b : Bool) (f : List ℕ) (v : Option (List ℕ)) → a ≡ b → cond a (Some f) (cond b None (cond a (Some f) (cond b None v))) ≡ cond a (Some f) (cond b None v)
    twice true b f v same = refl
    twice false true f v same = absurd cc
    twice false false f v same = refl

anew_again : (w file : Option (List ℕ)) → anew w (anew w file) ≡ anew w file
anew_again None file = refl
anew_again (Some b) None = refl
anew_again (Some b) (Some f) = refl

cond_again : (b : Bool) (u v w : Option (List ℕ)) → u ≡ v → cond b u (cond b v w) ≡ cond b v w
cond_again true u v w same = same
cond_again false u v w same = refl

again_at : (kind : Kind) (old new : List ℕ) (wanted d : Directory) → let e = effect_at kind old new wanted d in effect_at kind old new wanted e ≡ e
again_at DeleteSpace old new wanted d = fun_ext λ q. cond_again (bytes_eq old q) None None (d q) refl
again_at RenameSpace old new wanted d = rename_again old new (d old) d refl
again_at WriteSdi old new wanted d = fun_ext λ q.
    cond_again (bytes_eq old q) (anew (wanted old) (update bytes_eq d old (anew (wanted old) (d old)) old)) (anew (wanted old) (d old)) (d q)
    (ap (λ (x : Option (List ℕ)). anew (wanted old) x) (update-here d old (anew (wanted old) (d old))) ∙ anew_again (wanted old) (d old))

pub again : (item : LogRecord) (wanted d : Directory) → effect_of item wanted (effect_of item wanted d) ≡ effect_of item wanted d
again item wanted d = again_at item.kind item.old_path item.new_path wanted d

pub is_done : (item : LogRecord) (wanted d e : Directory) → e ≡ effect_of item wanted d → IsDone item wanted e
is_done item wanted d e is = ap (λ (x : Directory). effect_of item wanted x) is ∙ again item wanted d ∙ sym is

pub is_under : (item : LogRecord) (wanted d e : Directory) → e ≡ effect_of item wanted d → IsUnder item wanted d e
is_under item wanted d e is = record {
  effect = ap (λ (x : Directory). effect_of item wanted x) is ∙ again item wanted d;
  others = λ q off. ap (λ (x : Directory). x q) is ∙ off_record item wanted d q off;
}

-- ---- several

pub free : (q : List ℕ) (items : List LogRecord) (wanted d : Directory) → IsFree q items → effect items wanted d q ≡ d q
free q [] wanted d it = refl
free q (item ∷ items) wanted d it = free q items wanted (effect_of item wanted d) it.1 ∙ off_record item wanted d q it.0

pub in_turn : (xs ys : List LogRecord) (wanted d : Directory) → effect (xs ++ ys) wanted d ≡ effect ys wanted (effect xs wanted d)
in_turn [] ys wanted d = refl
in_turn (x ∷ xs) ys wanted d = in_turn xs ys wanted (effect_of x wanted d)

-- directories that agree on a set of paths with each old path agree there after the records
module _ (P : List ℕ → Type 0) where
  abbrev pub AgreeOn : Directory → Directory → Type 0
  AgreeOn d e = (q : List ℕ) → P q → e q ≡ d q

  abbrev pub OldIn : List LogRecord → Type 0
  OldIn [] = Unit {0}
  OldIn (item ∷ items) = P item.old_path × OldIn items

  pub agree : (items : List LogRecord) (wanted d e : Directory) → OldIn items → AgreeOn d e → AgreeOn (effect items wanted d) (effect items wanted e)
  agree [] wanted d e within same = same
  agree (item ∷ items) wanted d e within same = agree items wanted (effect_of item wanted d) (effect_of item wanted e) within.1 (λ q in_p. local item wanted d e q (same item.old_path within.0) (same q in_p))

pub old_beside : (kind : Kind) (old new q : List ℕ) → IsBeside kind old new q → Differs old q
old_beside DeleteSpace old new q off = off
old_beside RenameSpace old new q off = off.0
old_beside WriteSdi old new q off = off

pub free_old : (p : List ℕ) (items : List LogRecord) → IsFree p items → OldIn (Differs p) items
free_old p [] it = tt
free_old p (item ∷ items) it = (apart-sym item.old_path p (old_beside item.kind item.old_path item.new_path p it.0), free_old p items it.1)

both_in : (P Q R : List ℕ → Type 0) → ((q : List ℕ) → P q → Q q → R q) → (items : List LogRecord) → OldIn P items → OldIn Q items → OldIn R items
both_in P Q R join [] one two = tt
both_in P Q R join (item ∷ items) one two = (join item.old_path one.0 two.0, both_in P Q R join items one.1 two.1)

pub beside_old : (kind : Kind) (old new : List ℕ) (items : List LogRecord) → AreBeside kind old new items → OldIn (IsBeside kind old new) items
beside_old DeleteSpace old new items it = free_old old items it
beside_old RenameSpace old new items it = both_in (Differs old) (Differs new) (IsBeside RenameSpace old new) (λ q one two. (one, two)) items (free_old old items it.0) (free_old new items it.1)
beside_old WriteSdi old new items it = free_old old items it

-- a path is one that the operation doesn't name, or one that no record names
pub one_of_two : (kind : Kind) (old new : List ℕ) (items : List LogRecord) → AreBeside kind old new items → (q : List ℕ) → IsBeside kind old new q ⊎ IsFree q items
one_of_two DeleteSpace old new items it q = elim (paths old q) [ inl is ↦ inr (subst (λ (x : List ℕ). IsFree x items) is it) | inr off ↦ inl off ]
one_of_two RenameSpace old new items it q = elim (paths old q) [
  | inl is ↦ inr (subst (λ (x : List ℕ). IsFree x items) is it.0)
  | inr off ↦ elim (paths new q) [ inl is ↦ inr (subst (λ (x : List ℕ). IsFree x items) is it.1) | inr off_new ↦ inl (off, off_new) ]
]
one_of_two WriteSdi old new items it q = elim (paths old q) [ inl is ↦ inr (subst (λ (x : List ℕ). IsFree x items) is it) | inr off ↦ inl off ]

pub old_free : (kind : Kind) (old new : List ℕ) (items : List LogRecord) → AreBeside kind old new items → IsFree old items
old_free DeleteSpace old new items it = it
old_free RenameSpace old new items it = it.0
old_free WriteSdi old new items it = it

-- a record that names no path of the others may be done before or after them
pub commutes : (item : LogRecord) (items : List LogRecord) (wanted d : Directory) → IsApart item items → effect items wanted (effect_of item wanted d) ≡ effect_of item wanted (effect items wanted d)
commutes item items wanted d it = fun_ext λ q. elim (one_of_two item.kind item.old_path item.new_path items it q) [
  | inl off ↦
      agree (IsOff item) items wanted d (effect_of item wanted d) (beside_old item.kind item.old_path item.new_path items it) (λ p off_p. off_record item wanted d p off_p) q off
      ∙ sym (off_record item wanted (effect items wanted d) q off)
  | inr is_free ↦
      free q items wanted (effect_of item wanted d) is_free
      ∙ sym (local item wanted d (effect items wanted d) q (free item.old_path items wanted d (old_free item.kind item.old_path item.new_path items it)) (free q items wanted d is_free))
]

same_at : (kind : Kind) (old new : List ℕ) (wanted others d : Directory) → WantsSame kind old wanted others → effect_at kind old new others d ≡ effect_at kind old new wanted d
same_at DeleteSpace old new wanted others d it = refl
same_at RenameSpace old new wanted others d it = refl
same_at WriteSdi old new wanted others d it = ap (λ (x : Option (List ℕ)). update bytes_eq d old (anew x (d old))) it

-- what is wanted matters at the paths that are written anew alone
pub same_effect : (items : List LogRecord) (wanted others d : Directory) → Agrees items wanted others → effect items others d ≡ effect items wanted d
same_effect [] wanted others d it = refl
same_effect (item ∷ items) wanted others d it =
    same_effect items wanted others (effect_of item others d) it.1
    ∙ ap (λ (e : Directory). effect items wanted e) (same_at item.kind item.old_path item.new_path wanted others d it.0)

-- ---- a record among others

module _ (item : LogRecord) (xs ys : List LogRecord) (wanted d : Directory) where
  pub put_last : IsApart item ys → effect (xs ++ item ∷ ys) wanted d ≡ effect_of item wanted (effect (xs ++ ys) wanted d)
  put_last it =
      in_turn xs (item ∷ ys) wanted d ∙ commutes item ys wanted (effect xs wanted d) it
      ∙ ap (λ (e : Directory). effect_of item wanted e) (sym (in_turn xs ys wanted d))

  pub put_first : IsApart item xs → effect (xs ++ item ∷ ys) wanted d ≡ effect (xs ++ ys) wanted (effect_of item wanted d)
  put_first it =
      in_turn xs (item ∷ ys) wanted d
      ∙ ap (λ (e : Directory). effect ys wanted e) (sym (commutes item xs wanted d it))
      ∙ sym (in_turn xs ys wanted (effect_of item wanted d))

  pub without_done : IsApart item xs → IsDone item wanted d → effect (xs ++ item ∷ ys) wanted d ≡ effect (xs ++ ys) wanted d
  without_done it so = put_first it ∙ ap (λ (x : Directory). effect (xs ++ ys) wanted x) so

pub while_under : (item : LogRecord) (xs ys : List LogRecord) (wanted d e : Directory) → IsApart item xs → IsUnder item wanted d e → effect (xs ++ item ∷ ys) wanted e ≡ effect (xs ++ item ∷ ys) wanted d
while_under item xs ys wanted d e it so =
    put_first item xs ys wanted e it ∙ ap (λ (x : Directory). effect (xs ++ ys) wanted x) so.effect ∙ sym (put_first item xs ys wanted d it)

-- a change at a path that a record deletes, and no earlier one names, has no effect
pub covered : (item : LogRecord) (xs ys : List LogRecord) (wanted d e : Directory) → item.kind ≡ DeleteSpace → IsFree item.old_path xs → ((q : List ℕ) → Differs item.old_path q → e q ≡ d q)
    → effect (xs ++ item ∷ ys) wanted e ≡ effect (xs ++ item ∷ ys) wanted d
covered item xs ys wanted d e kind is_free off =
    let p = item.old_path in
    let same = agree (Differs p) xs wanted d e (free_old p xs is_free) off in
    let P : List ℕ → Type 0 = λ q. unlinked p (effect xs wanted e) q ≡ unlinked p (effect xs wanted d) q in
    let at : unlinked p (effect xs wanted e) ≡ unlinked p (effect xs wanted d) = fun_ext (by_path p P (rw (bytes_eq-same p) refl) (λ q apart. rw apart (same q apart))) in
    let is : (f : Directory) → effect_of item wanted f ≡ unlinked p f = λ f. ap (λ (k : Kind). effect_at k item.old_path item.new_path wanted f) kind in
    in_turn xs (item ∷ ys) wanted e
    ∙ ap (λ (f : Directory). effect ys wanted f) (is (effect xs wanted e) ∙ at ∙ sym (is (effect xs wanted d)))
    ∙ sym (in_turn xs (item ∷ ys) wanted d)
