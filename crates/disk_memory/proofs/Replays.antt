-- One call done again.
use Rattle.std.proofs.Common.{◌≡◌, ◌⊎◌, inl, inr, ℕ, zero, suc, ◌<◌, ◌≤◌, List, [], ◌∷◌, length, take, Option, Some, None, refl, sym, ◌∙◌, ap, subst, arith}
use Rattle.std.specs.Option.{option_map, unwrap_or}
use Rattle.std.specs.Str.{bytes_eq}
use Rattle.std.specs.Map.{update}
use Rattle.std.proofs.lemmas.Bool.{cases_lt}
use Rattle.disk_trait.specs.Change.{Directory, Files, Loose, Step, Change, made, removed, moved, wrote, cut, tried, spoiled, settled, overlaid, clean, stepped, reads_after, files_after}
use Rattle.disk_trait.specs.Crash.{Events, did, state, MayLeave, Torn, Takes}
use Rattle.disk_memory.specs.Stands.{Stands, overlay_torn, take_cut, linked_stands, stepped_stands, clean_stands, updated_stands, moved_stands, tried_stands}
use Rattle.disk_memory.specs.Replay.{IsLike, Fills, Writes, TriesWrite, Cuts, Tears, Agrees, synced_of}
use Rattle.disk_memory.proofs.Synced.{update-own, all_synced, synced-made, synced-removed, synced-moved, synced-stepped, synced-settled}

stands_as : (files : Files) (d new : Directory) → Stands files d → IsLike new d → Stands files new
stands_as files d new stands is q = subst (λ (y : Option (List ℕ)). MayLeave (files q) y) (sym (is q)) (stands q)

-- the step of a file, of which a crash leaves something
module _ (files : Files) (t t' : Directory) (path : List ℕ) (stands : Stands files t) where
  abbrev after_step : Step → Files
  after_step step = update bytes_eq files path (option_map (stepped step) (files path))

  lost_stands : (step : Step) → IsLike t' t → Stands (after_step step) t'
  lost_stands step is = stands_as _ t t' (tried_stands files t path step stands) is

  filled_stands : (at size : ℕ) → Fills path at size t t' → Stands (after_step (inl (at, size))) t'
  filled_stands at size fills =
      stands_as _ _ t'
      (updated_stands files t path _ _ stands (stepped_stands (inl (at, size)) (overlaid at fills.0) (λ b. subst (λ (n : ℕ). Torn at n b (overlaid at fills.0 b)) fills.1 (overlay_torn at fills.0 b)) _ _ (stands path)))
      fills.2

  cut_stands : (size : ℕ) → IsLike t' (reads_after (cut path size) t) → Stands (after_step (inr size)) t'
  cut_stands size is = stands_as _ _ t' (updated_stands files t path _ _ stands (stepped_stands (inr size) (take size) (take_cut size) _ _ (stands path))) is

  writes_stands : (choice at : ℕ) (bytes : List ℕ) → Writes choice path at bytes t t' → Stands (after_step (inl (at, length bytes))) t'
  writes_stands zero at bytes writes = lost_stands (inl (at, length bytes)) (writes.none refl)
  writes_stands (suc zero) at bytes writes = filled_stands at (length bytes) (bytes, refl, writes.all refl)
  writes_stands (suc (suc n)) at bytes writes = filled_stands at (length bytes) (writes.other (omega arith))

  tries_stands : (choice at size : ℕ) → TriesWrite choice path at size t t' → Stands (after_step (inl (at, size))) t'
  tries_stands zero at size tries = lost_stands (inl (at, size)) (tries.none (omega arith))
  tries_stands (suc zero) at size tries = lost_stands (inl (at, size)) (tries.none (omega arith))
  tries_stands (suc (suc n)) at size tries = filled_stands at size (tries.other (omega arith))

  cuts_stands : (least choice size : ℕ) → (choice < least) ⊎ (least ≤ choice) → Cuts least choice path size t t' → Stands (after_step (inr size)) t'
  cuts_stands least choice size (inl lt) cuts = lost_stands (inr size) (cuts.none lt)
  cuts_stands least choice size (inr le) cuts = cut_stands size (cuts.all le)

module _ (choice : ℕ) (start : Directory) (events : Events) (moment : ℕ) (r t r' t' : Directory) (so : Agrees choice start events r t) where
  reads_on : (change : Change) → IsLike r' (reads_after change r) → IsLike r' (reads_after change (state start events).reads)
  reads_on change is q = is q ∙ ap (λ (f : Directory). reads_after change f q) (λ i q. so.reads_so q i)

  -- where all of a change is left
  all_left : (change : Change) → IsLike t' (reads_after change t) → choice ≡ 1 → IsLike t' (reads_after change (state start events).reads)
  all_left change is one q = is q ∙ ap (λ (f : Directory). reads_after change f q) (λ i q. so.done one q i)

  -- where what the syncs left changes as the directory does
  synced_left : (D : Directory → Directory) (new : Files) → IsLike t' (D t) → ((q : List ℕ) → D (all_synced (state start events).files) q ≡ synced_of (new q)) → choice ≡ 0 → (q : List ℕ) → t' q ≡ synced_of (new q)
  synced_left D new is same none q = is q ∙ ap (λ (f : Directory). D f q) (λ i q. so.synced none q i) ∙ same q

  -- where nothing of a step is left
  step_left : (path : List ℕ) (step : Step) → IsLike t' t → choice ≡ 0 → (q : List ℕ) → t' q ≡ synced_of (update bytes_eq (state start events).files path (option_map (stepped step) ((state start events).files path)) q)
  step_left path step is none = synced_left (λ d. d) _ is (synced-stepped (state start events).files path step) none

  settled_done : (path : List ℕ) → IsLike t' (update bytes_eq t path (r path)) → choice ≡ 1 → IsLike t' (state start events).reads
  settled_done path is one q =
      is q
      ∙ ap (λ (f : Directory). update bytes_eq f path (r path) q) (λ i q. so.done one q i)
      ∙ ap (λ (y : Option (List ℕ)). update bytes_eq (state start events).reads path y q) (so.reads_so path)
      ∙ update-own (state start events).reads path q

  settled_synced : (path : List ℕ) → IsLike t' (update bytes_eq t path (r path)) → choice ≡ 0 → (q : List ℕ) → t' q ≡ synced_of (update bytes_eq (state start events).files path (option_map clean ((state start events).reads path)) q)
  settled_synced path is none q =
      synced_left (λ d. update bytes_eq d path (r path)) _ is
      (λ q. ap (λ (y : Option (List ℕ)). update bytes_eq (all_synced (state start events).files) path y q) (so.reads_so path) ∙ synced-settled (state start events).files (state start events).reads path q)
      none q

  settled_stands : (path : List ℕ) → IsLike t' (update bytes_eq t path (r path)) → Stands (files_after (settled path) (state start events).reads (state start events).files) t'
  settled_stands path is =
      stands_as _ _ t'
      (subst (λ (y : Option (List ℕ)). Stands (files_after (settled path) (state start events).reads (state start events).files) (update bytes_eq t path y)) (sym (so.reads_so path))
      (updated_stands _ t path _ _ so.stands (clean_stands ((state start events).reads path))))
      is

  pub again_done : (change : Change) → Tears choice r change t t' → IsLike r' (reads_after change r) → Agrees choice start ((moment, did change) ∷ events) r' t'
  again_done (made path) tears is = record {
    reads_so = reads_on (made path) is;
    stands = stands_as _ _ t' (updated_stands _ t path _ _ so.stands (linked_stands _ _ (so.stands path))) tears;
    synced = synced_left (reads_after (made path)) _ tears (synced-made (state start events).files path);
    done = all_left (made path) tears;
  }
  again_done (removed path) tears is = record {
    reads_so = reads_on (removed path) is;
    stands = stands_as _ _ t' (updated_stands _ t path None None so.stands tt) tears;
    synced = synced_left (reads_after (removed path)) _ tears (synced-removed (state start events).files path);
    done = all_left (removed path) tears;
  }
  again_done (moved from to) tears is = record {
    reads_so = reads_on (moved from to) is;
    stands = stands_as _ _ t' (moved_stands _ t from to so.stands _ _ (so.stands from)) tears;
    synced = synced_left (reads_after (moved from to)) _ tears (synced-moved (state start events).files from to);
    done = all_left (moved from to) tears;
  }
  again_done (wrote path at bytes) tears is = record {
    reads_so = reads_on (wrote path at bytes) is;
    stands = writes_stands (state start events).files t t' path so.stands choice at bytes tears;
    synced = λ none. step_left path (inl (at, length bytes)) (tears.none none) none;
    done = λ one. all_left (wrote path at bytes) (tears.all one) one;
  }
  again_done (cut path size) tears is = record {
    reads_so = reads_on (cut path size) is;
    stands = cuts_stands (state start events).files t t' path so.stands 1 choice size (cases_lt choice 1) tears;
    synced = λ none. step_left path (inr size) (tears.none (omega arith)) none;
    done = λ one. all_left (cut path size) (tears.all (omega arith)) one;
  }
  again_done (tried path (inl range)) tears is = record {
    reads_so = reads_on (tried path (inl range)) is;
    stands = tries_stands (state start events).files t t' path so.stands choice range.0 range.1 tears;
    synced = λ none. step_left path (inl range) (tears.none (omega arith)) none;
    done = λ one. all_left (tried path (inl range)) (tears.none (omega arith)) one;
  }
  again_done (tried path (inr size)) tears is = record {
    reads_so = reads_on (tried path (inr size)) is;
    stands = cuts_stands (state start events).files t t' path so.stands 2 choice size (cases_lt choice 2) tears;
    synced = λ none. step_left path (inr size) (tears.none (omega arith)) none;
    done = λ one. all_left (tried path (inr size)) (tears.none (omega arith)) one;
  }
  again_done (spoiled path step bytes) tears is = absurd tears
  again_done (settled path) tears is = record { reads_so = reads_on (settled path) is; stands = settled_stands path tears; synced = settled_synced path tears; done = settled_done path tears }
