-- The operations of the kinds, as the effect of a record.
use Rattle.std.proofs.Common.{◌≡◌, inl, inr, ℕ, true, false, List, Option, Some, None, is_some, refl, sym, ◌∙◌, ap, subst}
use Rattle.std.proofs.Math.Path.{fun_ext}
use Rattle.std.specs.Str.{bytes_eq}
use Rattle.std.specs.Map.{update}
use Rattle.std.specs.Option.{option_map}
use Rattle.disk_trait.specs.Change.{Directory, unlinked, relinked}
use Rattle.disk_trait.specs.Story.{Story, Images, reads}
use Rattle.disk_trait.specs.Carried.{Off, Carries, Comes, Same, Moves, MayMove, Turns}
use Rattle.disk_trait.proofs.Paths.{bytes_eq-same, by_path, update-here, update-off}
use Rattle.disk_trait.proofs.Acts.{weaken}
use Rattle.data_dir.specs.Files.{Drops, Rewrites, MayRewrite, IsAgreed}
use Rattle.ddl_log.specs.declared.records.Kind.{Kind}
use Rattle.ddl_log.specs.declared.records.Kind.TheVariants.{DeleteSpace, RenameSpace, WriteSdi}
use Rattle.ddl_log.specs.declared.records.LogRecord.{LogRecord}
use Rattle.ddl_log.specs.Effect.{anew, effect_at, effect_of, IsOff, IsBeside, IsUnder}
use Rattle.ddl_log.proofs.Effects.{is_under}
use Rattle.post_ddl.specs.Replays.{Does, HasBytes, IsGiven, IsSteady, IsSteadyAt}

pub turn_by : (P Q : Directory → Directory → Type 0) → ((c d : Directory) → P c d → Q c d) → (s t : Option Story) → Turns s t P → Turns s t Q
turn_by P Q is None None it = tt
turn_by P Q is None (Some t) it = absurd it
turn_by P Q is (Some s) None it = absurd it
turn_by P Q is (Some s) (Some t) it = is (reads s) (reads t) it

pub come_by : (P Q : Directory → Directory → Type 0) → ((c d : Directory) → P c d → Q c d) → (s : Option Story) (image : Directory) → Comes P s image → Comes Q s image
come_by P Q is s image it = (it.0, it.1, is it.0 image it.2)

module _ (item : LogRecord) (wanted : Directory) where
  effect_as : (kind : Kind) (d : Directory) → item.kind ≡ kind → effect_of item wanted d ≡ effect_at kind item.old_path item.new_path wanted d
  effect_as kind d is = ap (λ (k : Kind). effect_at k item.old_path item.new_path wanted d) is

  off_as : (kind : Kind) (q : List ℕ) → item.kind ≡ kind → IsOff item q → IsBeside kind item.old_path item.new_path q
  off_as kind q is off = subst (λ (k : Kind). IsBeside k item.old_path item.new_path q) is off

  -- ---- a deletion

  unlinked_same : (p : List ℕ) (d e : Directory) → Off p d e → unlinked p e ≡ unlinked p d
  unlinked_same p d e off =
      let P : List ℕ → Type 0 = λ q. unlinked p e q ≡ unlinked p d q in
      fun_ext (by_path p P (rw (bytes_eq-same p) refl) (λ q apart. rw apart (off q apart)))

  delete_under : (path : List ℕ) → item.kind ≡ DeleteSpace → path ≡ item.old_path → (d e : Directory) → Off path d e → IsUnder item wanted d e
  delete_under path is at d e off =
      let p = item.old_path in
      let off_p : Off p d e = subst (λ (x : List ℕ). Off x d e) at off in
      record {
        effect = effect_as DeleteSpace e is ∙ unlinked_same p d e off_p ∙ sym (effect_as DeleteSpace d is);
        others = λ q apart. off_p q (off_as DeleteSpace q is apart);
      }

  delete_does : (path : List ℕ) → item.kind ≡ DeleteSpace → path ≡ item.old_path → (d e : Directory) → Drops path d e → Does item wanted d e
  delete_does path is at d e it =
      let p = item.old_path in
      let off : Off p d e = subst (λ (x : List ℕ). Off x d e) at it.off in
      let gone : e p ≡ None = subst (λ (x : List ℕ). e x ≡ None) at it.gone in
      let P : List ℕ → Type 0 = λ q. e q ≡ unlinked p d q in
      fun_ext (by_path p P (gone ∙ rw (bytes_eq-same p) refl) (λ q apart. off q apart ∙ rw apart refl)) ∙ sym (effect_as DeleteSpace d is)

  -- ---- a renaming

  rename_does : (from to : List ℕ) → item.kind ≡ RenameSpace → from ≡ item.old_path → to ≡ item.new_path → (d e : Directory) → Moves from to d e → Does item wanted d e
  rename_does from to is one two d e moves =
      fun_ext moves ∙ ap (λ (p : List ℕ). relinked (d p) p to d) one ∙ ap (λ (p : List ℕ). relinked (d item.old_path) item.old_path p d) two
      ∙ sym (effect_as RenameSpace d is)

  stays_under : (d e : Directory) → Same d e → IsUnder item wanted d e
  stays_under d e same = record { effect = ap (λ (x : Directory). effect_of item wanted x) (fun_ext same); others = λ q apart. same q }

  rename_under : (from to : List ℕ) → item.kind ≡ RenameSpace → from ≡ item.old_path → to ≡ item.new_path → (d e : Directory) → MayMove from to d e → IsUnder item wanted d e
  rename_under from to is one two d e (inl same) = stays_under d e same
  rename_under from to is one two d e (inr moves) = is_under item wanted d e (rename_does from to is one two d e moves)

  -- ---- a file written anew

  anew_map : (bytes : List ℕ) (x : Option (List ℕ)) → option_map (λ _. bytes) x ≡ anew (Some bytes) x
  anew_map bytes None = refl
  anew_map bytes (Some b) = refl

  anew_there : (bytes : List ℕ) (x y : Option (List ℕ)) → is_some y ≡ is_some x → anew (Some bytes) y ≡ anew (Some bytes) x
  anew_there bytes None None same = refl
  anew_there bytes None (Some b) same = let no_file : true ≡ false = same in absurd (cc)
  anew_there bytes (Some a) None same = let no_file : false ≡ true = same in absurd (cc)
  anew_there bytes (Some a) (Some b) same = refl

  module _ (path bytes : List ℕ) (is : item.kind ≡ WriteSdi) (at : path ≡ item.old_path) (given : HasBytes item bytes wanted) where
    is_wanted : wanted item.old_path ≡ Some bytes
    is_wanted = subst (λ (k : Kind). IsGiven k item.old_path bytes wanted) is given

    write_does : (d e : Directory) → Rewrites path bytes d e → Does item wanted d e
    write_does d e it =
        let p = item.old_path in
        let off : Off p d e = subst (λ (x : List ℕ). Off x d e) at it.off in
        let file : e p ≡ option_map (λ _. bytes) (d p) = subst (λ (x : List ℕ). e x ≡ option_map (λ _. bytes) (d x)) at it.file in
        let w = anew (wanted p) (d p) in
        let P : List ℕ → Type 0 = λ q. e q ≡ update bytes_eq d p w q in
        let here : P p = file ∙ anew_map bytes (d p) ∙ ap (λ (x : Option (List ℕ)). anew x (d p)) (sym is_wanted) ∙ sym (update-here d p w) in
        fun_ext (by_path p P here (λ q apart. off q apart ∙ sym (update-off d p w q apart))) ∙ sym (effect_as WriteSdi d is)

    write_under : (d e : Directory) → MayRewrite path d e → IsUnder item wanted d e
    write_under d e it =
        let p = item.old_path in
        let off : Off p d e = subst (λ (x : List ℕ). Off x d e) at it.off in
        let there : is_some (e p) ≡ is_some (d p) = subst (λ (x : List ℕ). is_some (e x) ≡ is_some (d x)) at it.there in
        let v = anew (wanted p) (e p) in
        let w = anew (wanted p) (d p) in
        let same : v ≡ w = ap (λ (x : Option (List ℕ)). anew x (e p)) is_wanted ∙ anew_there bytes (d p) (e p) there ∙ ap (λ (x : Option (List ℕ)). anew x (d p)) (sym is_wanted) in
        let P : List ℕ → Type 0 = λ q. update bytes_eq e p v q ≡ update bytes_eq d p w q in
        let whole : update bytes_eq e p v ≡ update bytes_eq d p w =
        fun_ext (by_path p P (update-here e p v ∙ same ∙ sym (update-here d p w)) (λ q apart. update-off e p v q apart ∙ off q apart ∙ sym (update-off d p w q apart))) in
        record {
          effect = effect_as WriteSdi e is ∙ whole ∙ sym (effect_as WriteSdi d is);
          others = λ q apart. off q (off_as WriteSdi q is apart);
        }

    pub write_reads : (s t : Option Story) → Turns s t (Rewrites path bytes) → Turns s t (Does item wanted)
    write_reads s t it = turn_by (Rewrites path bytes) (Does item wanted) write_does s t it

    pub write_turns : (s t : Option Story) → Turns s t (MayRewrite path) → Turns s t (IsUnder item wanted)
    write_turns s t it = turn_by (MayRewrite path) (IsUnder item wanted) write_under s t it

    pub write_carries : (before now : ℕ) (s t : Option Story) → Carries (MayRewrite path) before now s t → Carries (IsUnder item wanted) before now s t
    write_carries before now s t it = weaken (MayRewrite path) (IsUnder item wanted) before now s t (λ d e from may. write_under d e may) it

    pub write_images : (s t : Option Story) → (IsAgreed path s → (image : Directory) → Images t image → Comes (Rewrites path bytes) s image) → IsSteady item s → (image : Directory) → Images t image → Comes (Does item wanted) s image
    write_images s t it steady image now_it =
        let agreed : IsAgreed item.old_path s = subst (λ (k : Kind). IsSteadyAt k item.old_path s) is steady in
        come_by (Rewrites path bytes) (Does item wanted) write_does s image (it (subst (λ (p : List ℕ). IsAgreed p s) (sym at) agreed) image now_it)

  module _ (path : List ℕ) (is : item.kind ≡ DeleteSpace) (at : path ≡ item.old_path) where
    pub delete_reads : (s t : Option Story) → Turns s t (Drops path) → Turns s t (Does item wanted)
    delete_reads s t it = turn_by (Drops path) (Does item wanted) (delete_does path is at) s t it

    pub delete_turns : (s t : Option Story) → Turns s t (Off path) → Turns s t (IsUnder item wanted)
    delete_turns s t it = turn_by (Off path) (IsUnder item wanted) (delete_under path is at) s t it

    pub delete_carries : (before now : ℕ) (s t : Option Story) → Carries (Off path) before now s t → Carries (IsUnder item wanted) before now s t
    delete_carries before now s t it = weaken (Off path) (IsUnder item wanted) before now s t (λ d e from off. delete_under path is at d e off) it

    pub delete_images : (s t : Option Story) → ((image : Directory) → Images t image → Comes (Drops path) s image) → (image : Directory) → Images t image → Comes (Does item wanted) s image
    delete_images s t it image now_it = come_by (Drops path) (Does item wanted) (delete_does path is at) s image (it image now_it)

  module _ (from to : List ℕ) (is : item.kind ≡ RenameSpace) (one : from ≡ item.old_path) (two : to ≡ item.new_path) where
    pub rename_reads : (s t : Option Story) → Turns s t (Moves from to) → Turns s t (Does item wanted)
    rename_reads s t it = turn_by (Moves from to) (Does item wanted) (rename_does from to is one two) s t it

    pub rename_turns : (s t : Option Story) → Turns s t (MayMove from to) → Turns s t (IsUnder item wanted)
    rename_turns s t it = turn_by (MayMove from to) (IsUnder item wanted) (rename_under from to is one two) s t it

    pub rename_carries : (before now : ℕ) (s t : Option Story) → Carries (MayMove from to) before now s t → Carries (IsUnder item wanted) before now s t
    rename_carries before now s t it = weaken (MayMove from to) (IsUnder item wanted) before now s t (λ d e was may. rename_under from to is one two d e may) it

    pub rename_images : (s t : Option Story) → ((image : Directory) → Images t image → Comes (Moves from to) s image) → (image : Directory) → Images t image → Comes (Does item wanted) s image
    rename_images s t it image now_it = come_by (Moves from to) (Does item wanted) (rename_does from to is one two) s image (it image now_it)
