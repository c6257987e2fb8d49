-- A file that is to be written anew is there in what each crash leaves, since no other record names it.
use Rattle.std.proofs.Common.{◌≡◌, ℕ, Bool, true, false, if◌then◌else◌, List, [], ◌∷◌, ◌++◌, Option, Some, None, is_some, refl, sym, ◌∙◌, ap, subst}
use Rattle.disk_trait.specs.Change.{Directory}
use Rattle.disk_trait.specs.Story.{Story, Images, reads, IsSoundStory}
use Rattle.disk_trait.proofs.Paths.{update-here}
use Rattle.disk_trait.proofs.Acts.{reads_now}
use Rattle.data_dir.specs.Files.{IsAgreed}
use Rattle.row_store.specs.Value.{StoreValue}
use Rattle.ddl_log.specs.declared.records.Kind.{Kind}
use Rattle.ddl_log.specs.declared.records.Kind.TheVariants.{DeleteSpace, RenameSpace, WriteSdi}
use Rattle.ddl_log.specs.declared.records.LogRecord.{LogRecord}
use Rattle.ddl_log.specs.Effect.{anew, effect_at, effect_of, effect, IsFree, AreBeside}
use Rattle.ddl_log.proofs.Effects.{free, in_turn}
use Rattle.post_ddl.specs.Replays.{IsGiven, IsSteady, IsSteadyAt}
use Rattle.dict_store_laws.specs.System.{is_system, stripped, IsRight}
use Rattle.dict_store_laws.specs.Recovers.{IsLastAt, AreLast}
use Rattle.dict_store_laws.specs.Kept.{Work, IsKept}
use Rattle.dict_store_laws.specs.Steps.{MayReplay}
use Rattle.dict_store_laws.proofs.Phases.{item_ordinary}

there : (bytes : List ℕ) (file : Option (List ℕ)) → Some bytes ≡ anew (Some bytes) file → is_some file ≡ true
there bytes None it = absurd cc
there bytes (Some b) it = refl

last_at : (xs ys : List LogRecord) (item : LogRecord) → AreLast (xs ++ item ∷ ys) → IsLastAt item.kind item.old_path ys
last_at [] ys item it = it.0
last_at (x ∷ xs) ys item it = last_at xs ys item it.1

module _ (item : LogRecord) (xs ys : List LogRecord) (wanted d : Directory) (bytes : List ℕ) where
  present : item.kind ≡ WriteSdi → wanted item.old_path ≡ Some bytes → is_system item.old_path ≡ false → IsFree item.old_path xs → IsFree item.old_path ys → IsRight (xs ++ item ∷ ys) wanted d → is_some (d item.old_path) ≡ true
  present kind given own free_x free_y right =
      let p = item.old_path in
      let e = effect xs wanted (stripped d) in
      let at_e : e p ≡ d p = free p xs wanted (stripped d) free_x ∙ ap (λ (b : Bool). if b then None else d p) own in
      let at_item : effect_of item wanted e p ≡ anew (wanted p) (e p) = ap (λ (k : Kind). effect_at k p item.new_path wanted e p) kind ∙ update-here e p (anew (wanted p) (e p)) in
      let whole : effect (xs ++ item ∷ ys) wanted (stripped d) p ≡ anew (wanted p) (d p) =
      ap (λ (f : Directory). f p) (in_turn xs (item ∷ ys) wanted (stripped d)) ∙ free p ys wanted (effect_of item wanted e) free_y ∙ at_item ∙ ap (anew (wanted p)) at_e in
      there bytes (d p) (sym given ∙ sym (ap (λ (f : Directory). f p) right) ∙ whole ∙ ap (λ (x : Option (List ℕ)). anew x (d p)) given)

agreed : (s : Option Story) (now : ℕ) (p : List ℕ) → IsSoundStory s now → ((image : Directory) → Images s image → is_some (image p) ≡ true) → IsAgreed p s
agreed None now p sound all image it = absurd it
agreed (Some s) now p sound all image it = all image it ∙ sym (all (reads s) (reads_now s now sound))

module _ (s : Option Story) (now : ℕ) (store : StoreValue) (work : Work) (sound : IsSoundStory s now) (kept : IsKept s store work) (item : LogRecord) (bytes : List ℕ) (may : MayReplay item bytes work) where
  anew_steady : item.kind ≡ WriteSdi → IsAgreed item.old_path s
  anew_steady kind =
      let f = may.first in
      let given : work.wanted item.old_path ≡ Some bytes = subst (λ (k : Kind). IsGiven k item.old_path bytes work.wanted) kind may.given in
      let own = item_ordinary s store work kept item f in
      let free_x : IsFree item.old_path f.earlier = subst (λ (k : Kind). AreBeside k item.old_path item.new_path f.earlier) kind f.apart in
      let free_y : IsFree item.old_path f.later = subst (λ (k : Kind). IsLastAt k item.old_path f.later) kind (last_at f.earlier f.later item (subst AreLast f.are kept.fit.orderly.last)) in
      agreed s now item.old_path sound (λ image it.
      present item f.earlier f.later work.wanted image bytes kind given own.old_path free_x free_y (subst (λ (l : List LogRecord). IsRight l work.wanted image) f.are (kept.so_far image it).right))

  pub steady : IsSteady item s
  steady = by_kind item.kind refl
    where
      by_kind : (k : Kind) → item.kind ≡ k → IsSteady item s
      by_kind DeleteSpace is = subst (λ (k : Kind). IsSteadyAt k item.old_path s) (sym is) tt
      by_kind RenameSpace is = subst (λ (k : Kind). IsSteadyAt k item.old_path s) (sym is) tt
      by_kind WriteSdi is = subst (λ (k : Kind). IsSteadyAt k item.old_path s) (sym is) (anew_steady is)
