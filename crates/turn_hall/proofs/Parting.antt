-- The steps that make, split and join seats keep the rule, and what the rule says at the end.
use Rattle.std.proofs.Common.{◌≡◌, ◌≢◌, ℕ, zero, suc, ◌+◌, ◌<◌, List, [], ◌∷◌, ◌++◌, length, set, sym, refl, ap, ◌∙◌, subst, inl, inr, ⊎_elim, arith, length-set}
use mathlib.Core.Option.{some, none}
use mathlib.Core.Option as maybe
use mathlib.Core.Logic.{dite}
use native.Mathlib.Decide.{ℕ_discrete}
use lib.ListN.{get_elem?}
use Rattle.atomic_table.specs.Table.{State, Me, step, opening, Allows, Splits, Joins}
use Rattle.atomic_table.proofs.Lists.{at_set, set_else, at_last}
use Rattle.std.specs.Prelude.{Option, Some}
use Rattle.turn_hall.specs.declared.view.View.{View}
use Rattle.turn_hall.specs.declared.view.Stage.{Stage}
use Rattle.turn_hall.specs.declared.view.Stage.TheVariants.{Idle}
use Rattle.turn_hall.specs.Prefixes.{IsPrefix, longer}
use Rattle.turn_hall.specs.Numbers.{Has, AreParts, table_of, without}
use Rattle.turn_hall.specs.Rule.{Desk, home, away, first_open, homes_of, value_at, Owned, Knows, Shows, InStage, Fits, Taken, Turns}
use Rattle.turn_hall.specs.Moves.{first_view, quiet, cut, given, copied, joined, learned}
use Rattle.turn_hall.proofs.Lists.{put, put_here, put_else, there, changed, at_end, only, longer_begins, begins_longer, longer_left, longer_right}
use Rattle.turn_hall.proofs.Pairs.{has_without, has_alone, without_has, alone_has, has_append, append_has, some_pair, not_empty, has_table, table_has}
use Rattle.turn_hall.proofs.Views.{one_view, owned_set, owned_more, known_set, known_more, taken_set, taken_more, not_out}
use Rattle.turn_hall.proofs.Turning.{stands}

module _ {T E Q : Type 0} (history : T → List E) (part_of : T → ℕ → Q) where
  pub opens : (x : T) (numbers first : ℕ) → 0 < numbers
      → Turns history part_of numbers first (opening ((first + length (history x)) ∷ first_open ∷ []) (Some x ∷ []) (first_view history part_of numbers x))
  opens x numbers first some_number = record {
    desk = home x;
    now = history x;
    door = first_open;
    owner = λ _. 0;
    knower = 0;
    words = refl;
    homes = refl;
    shows = refl;
    kept = omega arith;
    taken = tt;
    each = only (Fits history part_of numbers (home x) (history x) (λ _. 0)) (first_view history part_of numbers x) record {
      stage = tt;
      seen = ([], sym (Rattle.std.proofs.Common.append-nil (history x)));
      told = (history x, refl);
      heard = (history x, refl);
      held = λ m q h. let t = has_table (part_of x) numbers m q h in (t.0, refl, t.1);
      bare = λ _. refl;
    };
    owned = λ m h. (first_view history part_of numbers x, refl, part_of x m, table_has (part_of x) numbers m h);
    known = (first_view history part_of numbers x, refl, not_empty (table_of (part_of x) numbers) 0 (part_of x 0) (table_has (part_of x) numbers 0 some_number), refl);
  }

module _ {T E Q : Type 0} (history : T → List E) (part_of : T → ℕ → Q) (numbers first : ℕ) where
  abbrev V : Type 0
  V = View T E Q

  abbrev St : Type 0
  St = State (Option T) V

  abbrev M : Type 0
  M = Me (Option T) V

  abbrev Rule : St → Type 0
  Rule = Turns history part_of numbers first

  -- a stage without the value fits anywhere
  idle_fits : (d : Desk T) (now : List E) (j : ℕ) (seen : List E) (st : Stage T) → st ≡ Idle → InStage history part_of d now j seen st
  idle_fits d now j seen st e = subst (InStage history part_of d now j seen) (sym e) tt

  -- a view's numbers are another seat's afterwards
  moved : (s : St) (r : Rule s) (owner' : ℕ → ℕ) (j : ℕ) (u : V) → Fits history part_of numbers r.desk r.now r.owner j u → ((n : ℕ) → r.owner n ≡ j → owner' n ≡ j)
      → Fits history part_of numbers r.desk r.now owner' j u
  moved s r owner' j u f same = record { stage = f.stage; seen = f.seen; told = f.told; heard = f.heard; held = λ m q h. let g = f.held m q h in (g.0, same m g.1, g.2); bare = f.bare }

  -- What the rule says of the value that a seat with all numbers leaves in the slot
  Ends : St → V → Type 0
  Ends s v = (x : T) × (get_elem? s.homes 0 ≡ some (some (Some x))) × (history x ≡ v.seen) × AreParts (part_of x) v.held

  ends : (s : St) (r : Rule s) (id : ℕ) (v : V) → get_elem? s.views id ≡ some v → v.stage ≡ Idle → ((j : ℕ) (u : V) → get_elem? s.views j ≡ some u → u.held ≢ [] → j ≡ id) → v.seen ≡ r.now
      → (d : Desk T) → r.desk ≡ d → Taken s.views d → Ends s v
  unfolding Ends
  ends s r id v at idle one all (home x) same h = (
    x,
    ap (λ (l : List (maybe.Option (Option T))). get_elem? l 0) (r.homes ∙ ap homes_of same),
    sym (all ∙ subst (λ (d : Desk T). Shows history part_of d r.now) same r.shows),
    λ m q g. ((r.each id v at).held m q g).2 ∙ ap (λ (d : Desk T). part_of (value_at d) m) same,
  )
  ends s r id v at idle one all (away j x) same h =
      let u : V = h.0 in let e : j ≡ id = one j u h.1 (λ none. not_out u ((r.each j u h.1).bare none) x h.2) in
      absurd (not_out v idle x (ap (λ (z : V). z.stage) (one_view s.views id j v u at h.1 e) ∙ h.2))

  -- a seat that has all numbers, at the end
  pub closes : (s : St) (id : ℕ) (v : V) → Rule s → get_elem? s.views id ≡ some v → v.stage ≡ Idle → ((n : ℕ) → n < numbers → (q : Q) × Has v.held n q)
      → (x : T) × (get_elem? s.homes 0 ≡ some (some (Some x))) × (history x ≡ v.seen) × AreParts (part_of x) v.held
  unfolding Ends
  closes s id v r at idle all =
      let mine = r.each id v at in
      let one : (j : ℕ) (u : V) → get_elem? s.views j ≡ some u → u.held ≢ [] → j ≡ id = λ j u h held. let p = some_pair u.held held in let f = (r.each j u h).held p.0 p.1 p.2 in let a = all p.0 f.0 in sym f.1 ∙ (mine.held p.0 a.0 a.1).1 in
      let known = r.known in let k_is : r.knower ≡ id = one r.knower known.0 known.1 known.2 in
      ends s r id v at idle one (ap (λ (z : V). z.seen) (one_view s.views id r.knower v known.0 at known.1 k_is) ∙ known.3) r.desk refl r.taken

  -- a new seat, where `owner'` says who has each number afterwards
  parts : (s : St) (r : Rule s) (id : ℕ) (v left right : V) (owner' : ℕ → ℕ) → get_elem? s.views id ≡ some v → v.stage ≡ Idle → left.stage ≡ Idle → right.stage ≡ Idle
      → left.seen ≡ v.seen → right.seen ≡ v.seen → left.told ≡ v.told → left.heard ≡ v.heard → right.told ≡ [] → right.heard ≡ [] → (v.held ≢ [] → left.held ≢ [])
      → ((n : ℕ) (q : Q) → Has left.held n q → Has v.held n q × (owner' n ≡ id)) → ((n : ℕ) (q : Q) → Has right.held n q → Has v.held n q × (owner' n ≡ length s.views))
      → ((j n : ℕ) → j ≢ id → r.owner n ≡ j → owner' n ≡ j) → ((n : ℕ) → n < numbers → Owned (set s.views id left ++ right ∷ []) owner' n)
      → Rule record { words = s.words; homes = s.homes; views = set s.views id left ++ right ∷ [] }
  parts s r id v left right owner' at idle idle_l idle_r seen_l seen_r told_l heard_l told_r heard_r kept lefts rights others owned =
      let mine = r.each id v at in let views' : List V = set s.views id left in
      let F : ℕ → V → Type 0 = Fits history part_of numbers r.desk r.now r.owner in let F' : ℕ → V → Type 0 = Fits history part_of numbers r.desk r.now owner' in
      let each' : (j : ℕ) (u : V) → get_elem? views' j ≡ some u → F' j u = changed F F' s.views id left r.each
      record {
        stage = idle_fits r.desk r.now id left.seen left.stage idle_l;
        seen = subst (λ (l : List E). IsPrefix l r.now) (sym seen_l) mine.seen;
        told = subst (λ (l : List E). IsPrefix l r.now) (sym told_l) mine.told;
        heard = subst (λ (l : List E). IsPrefix l r.now) (sym heard_l) mine.heard;
        held = λ m q h. let t = lefts m q h in let f = mine.held m q t.0 in (f.0, t.1, f.2);
        bare = λ _. idle_l;
      }
      (λ j u ne f. moved s r owner' j u f (λ n e. others j n ne e)) in
      let size : length views' ≡ length s.views = length-set s.views id left in
      let fits_r : F' (length s.views) right = record {
        stage = idle_fits r.desk r.now (length s.views) right.seen right.stage idle_r;
        seen = subst (λ (l : List E). IsPrefix l r.now) (sym seen_r) mine.seen;
        told = (r.now, ap (λ (l : List E). l ++ r.now) (sym told_r));
        heard = (r.now, ap (λ (l : List E). l ++ r.now) (sym heard_r));
        held = λ m q h. let t = rights m q h in let f = mine.held m q t.0 in (f.0, t.1, f.2);
        bare = λ _. idle_r;
      } in
      record {
        desk = r.desk;
        now = r.now;
        door = r.door;
        owner = owner';
        knower = r.knower;
        words = r.words;
        homes = r.homes;
        shows = r.shows;
        kept = r.kept;
        taken = taken_more r.desk views' right (taken_set r.desk s.views id left v at (not_out v idle) r.taken);
        each = λ j u e. ⊎_elim (λ (t : (j < length views') × (get_elem? views' j ≡ some u)). each' j u t.1)
            (λ (t : (j ≡ length views') × (right ≡ u)). subst (λ (z : ℕ × V). F' z.0 z.1) (λ k. (sym (t.0 ∙ size) k, t.1 k)) fits_r) (at_end views' right u j e);
        owned = owned;
        known = known_more views' r.knower r.now right (known_set s.views r.knower r.now id left v at kept seen_l r.known);
      }

  pub splits_off : (id n : ℕ) (v : V) → v.stage ≡ Idle → ((q : Q) × Has v.held n q) → ((m : ℕ) × ((q : Q) × Has v.held m q) × (m ≢ n)) → Splits Rule id v (cut n v) (given n v)
  splits_off id n v idle has another s r at =
      let mine = r.each id v at in let size : ℕ = length s.views in let owner' : ℕ → ℕ = put r.owner n size in let views' : List V = set s.views id (cut n v) in
      let here : Owned (views' ++ given n v ∷ []) owner' n = (given n v, ap (get_elem? (views' ++ given n v ∷ [])) (put_here r.owner n size) ∙ at_last views' (given n v) size (length-set s.views id (cut n v)), has.0, alone_has n v.held has.0 has.1) in
      let others : (m : ℕ) → m < numbers → m ≢ n → Owned (views' ++ given n v ∷ []) owner' m = λ m h ne.
      let o = owned_more views' r.owner (given n v) m (owned_set s.views r.owner id v (cut n v) m at (λ q g. (q, without_has n v.held m q g ne)) (r.owned m h)) in
      (o.0, ap (get_elem? (views' ++ given n v ∷ [])) (put_else r.owner n size m ne) ∙ o.1, o.2, o.3) in
      parts s r id v (cut n v) (given n v) owner' at idle idle refl refl refl refl refl refl refl (λ _. not_empty (without n v.held) another.0 another.1.0 (without_has n v.held another.0 another.1.0 another.1.1 another.2))
      (λ m q h. let t = has_without n v.held m q h in (t.0, put_else r.owner n size m t.1 ∙ (mine.held m q t.0).1))
      (λ m q h. let t = has_alone n v.held m q h in (t.0, ap owner' t.1 ∙ put_here r.owner n size))
      (λ j m ne e. put_else r.owner n size m (λ same. ne (sym e ∙ (ap r.owner same ∙ (mine.held n has.0 has.1).1))) ∙ e)
      (λ m h. dite (ℕ_discrete m n) (λ e. subst (Owned (views' ++ given n v ∷ []) owner') (sym e) here) (others m h))

  pub copies : (id : ℕ) (v : V) → v.stage ≡ Idle → Splits Rule id v v (copied v)
  copies id v idle s r at = let mine = r.each id v at in
      parts s r id v v (copied v) r.owner at idle idle refl refl refl refl refl refl refl (λ some. some) (λ m q h. (h, (mine.held m q h).1)) (λ m q h. absurd h) (λ j m ne e. e)
      (λ m h. owned_more (set s.views id v) r.owner (copied v) m (owned_set s.views r.owner id v v m at (λ q g. (q, g)) (r.owned m h)))

  module _ (s : St) (r : Rule s) (id other : ℕ) (v w : V) (at : get_elem? s.views id ≡ some v) (apart : other ≢ id) (at_w : get_elem? s.views other ≡ some w) where
    -- the other's numbers go to the seat
    abbrev move : ℕ → ℕ
    move = put (λ j. j) other id

    abbrev owner_after : ℕ → ℕ
    owner_after n = move (r.owner n)

    abbrev both : V
    both = joined v w

    abbrev views_both : List V
    views_both = set s.views id both

    abbrev views_after : List V
    views_after = set views_both other (quiet [] [])

    at_both : get_elem? views_after id ≡ some both
    at_both = set_else views_both other id (quiet [] []) (λ x. apart (sym x)) ∙ there s.views id both v at

    at_else : (j : ℕ) (u : V) → j ≢ id → j ≢ other → get_elem? s.views j ≡ some u → get_elem? views_after j ≡ some u
    at_else j u ne ne' e = set_else views_both other j (quiet [] []) ne' ∙ (set_else s.views id j both ne ∙ e)

    moved_other : move other ≡ id
    moved_other = put_here (λ j. j) other id

    moved_else : (j : ℕ) → j ≢ other → move j ≡ j
    moved_else j ne = put_else (λ i. i) other id j ne

    owned_join : (n : ℕ) → Owned s.views r.owner n → Owned views_after owner_after n
    owned_join n o = dite (ℕ_discrete (r.owner n) other)
        (λ e. let same : w ≡ o.0 = one_view s.views other (r.owner n) w o.0 at_w o.1 e in
        (both, ap (get_elem? views_after) (ap move e ∙ moved_other) ∙ at_both, o.2, append_has v.held w.held n o.2 (inr (subst (λ (z : V). Has z.held n o.2) (sym same) o.3))))
        (λ ne. dite (ℕ_discrete (r.owner n) id)
        (λ e. let same : v ≡ o.0 = one_view s.views id (r.owner n) v o.0 at o.1 e in
        (both, ap (get_elem? views_after) (moved_else (r.owner n) ne ∙ e) ∙ at_both, o.2, append_has v.held w.held n o.2 (inl (subst (λ (z : V). Has z.held n o.2) (sym same) o.3))))
        (λ ne'. (o.0, ap (get_elem? views_after) (moved_else (r.owner n) ne) ∙ at_else (r.owner n) o.0 ne' ne o.1, o.2, o.3)))

    known_join : IsPrefix v.seen r.now → IsPrefix w.seen r.now → Knows s.views r.knower r.now → Knows views_after (move r.knower) r.now
    known_join mine theirs k = dite (ℕ_discrete r.knower other)
        (λ e. let same : w ≡ k.0 = one_view s.views other r.knower w k.0 at_w k.1 e in let p = some_pair k.0.held k.2 in (
          both,
          ap (get_elem? views_after) (ap move e ∙ moved_other) ∙ at_both,
          not_empty both.held p.0 p.1 (append_has v.held w.held p.0 p.1 (inr (subst (λ (z : V). Has z.held p.0 p.1) (sym same) p.2))),
          longer_right v.seen w.seen r.now mine (ap (λ (z : V). z.seen) same ∙ k.3),
        ))
        (λ ne. dite (ℕ_discrete r.knower id)
        (λ e. let same : v ≡ k.0 = one_view s.views id r.knower v k.0 at k.1 e in let p = some_pair k.0.held k.2 in (
          both,
          ap (get_elem? views_after) (moved_else r.knower ne ∙ e) ∙ at_both,
          not_empty both.held p.0 p.1 (append_has v.held w.held p.0 p.1 (inl (subst (λ (z : V). Has z.held p.0 p.1) (sym same) p.2))),
          longer_left v.seen w.seen r.now theirs (ap (λ (z : V). z.seen) same ∙ k.3),
        ))
        (λ ne'. (k.0, ap (get_elem? views_after) (moved_else r.knower ne) ∙ at_else r.knower k.0 ne' ne k.1, k.2, k.3)))

  pub joins : (id other : ℕ) (v w : V) → v.stage ≡ Idle → w.stage ≡ Idle → Joins Rule id v other w (joined v w) (quiet [] [])
  joins id other v w idle_v idle_w s r at apart at_w' =
      let both : V = joined v w in let spent : V = quiet [] [] in let views' : List V = set s.views id both in
      let at_w : get_elem? s.views other ≡ some w = sym (set_else s.views id other both apart) ∙ at_w' in
      let mine = r.each id v at in let theirs = r.each other w at_w in
      let move : ℕ → ℕ = put (λ j. j) other id in let owner' : ℕ → ℕ = λ n. move (r.owner n) in
      let F' : ℕ → V → Type 0 = Fits history part_of numbers r.desk r.now owner' in
      let fits_both : F' id both = record {
        stage = idle_fits r.desk r.now id both.seen both.stage idle_v;
        seen = longer_begins v.seen w.seen r.now mine.seen theirs.seen;
        told = mine.seen;
        heard = theirs.seen;
        held = λ m q h. ⊎_elim
            (λ (t : Has v.held m q). let f = mine.held m q t in (f.0, put_else (λ j. j) other id (r.owner m) (λ e. apart (sym e ∙ f.1)) ∙ f.1, f.2))
            (λ (t : Has w.held m q). let f = theirs.held m q t in (f.0, ap move f.1 ∙ put_here (λ j. j) other id, f.2)) (has_append v.held w.held m q h);
        bare = λ _. idle_v;
      } in
      let fits_spent : F' other spent = record { stage = tt; seen = (r.now, refl); told = (r.now, refl); heard = (r.now, refl); held = λ m q h. absurd h; bare = λ _. refl } in
      record {
        desk = r.desk;
        now = r.now;
        door = r.door;
        owner = owner';
        knower = move r.knower;
        words = r.words;
        homes = r.homes;
        shows = r.shows;
        kept = r.kept;
        taken = taken_set r.desk views' other spent w at_w' (not_out w idle_w) (taken_set r.desk s.views id both v at (not_out v idle_v) r.taken);
        each = λ j u e. ⊎_elim
            (λ (t : (j ≡ other) × (spent ≡ u)). subst (λ (z : ℕ × V). F' z.0 z.1) (λ k. (sym t.0 k, t.1 k)) fits_spent)
            (λ (t : (j ≢ other) × (get_elem? views' j ≡ some u)). ⊎_elim
            (λ (a : (j ≡ id) × (both ≡ u)). subst (λ (z : ℕ × V). F' z.0 z.1) (λ k. (sym a.0 k, a.1 k)) fits_both)
            (λ (a : (j ≢ id) × (get_elem? s.views j ≡ some u)). moved s r owner' j u (r.each j u a.1) (λ n same. put_else (λ i. i) other id (r.owner n) (λ e'. t.0 (sym same ∙ e')) ∙ same))
            (at_set s.views id j both u t.1)) (at_set views' other j spent u e);
        owned = λ n h. owned_join s r id other v w at apart at_w n (r.owned n h);
        known = known_join s r id other v w at apart at_w mine.seen theirs.seen r.known;
      }

  -- of two lists that were seen once, and the longer one, both begin it
  pub learns : (n id : ℕ) (me : M) → me.0.seen ≡ longer me.0.told me.0.heard → Allows Rule n id me 0 (λ k. k) (learned (step n 0 0 0 none) me)
  learns n id me is s r wide at small = let mine = r.each id me.0 at in let b = begins_longer me.0.told me.0.heard r.now mine.told mine.heard in
      stands history part_of numbers first s 0 id me (λ m. learned (step n 0 0 0 none) me 0 m) r at (refl, subst (IsPrefix me.0.told) (sym is) b.0, subst (IsPrefix me.0.heard) (sym is) b.1)
