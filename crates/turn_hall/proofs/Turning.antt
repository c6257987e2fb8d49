-- The steps of a turn keep the rule.
use Rattle.std.proofs.Common.{◌≡◌, ◌≢◌, ℕ, ◌+◌, ◌<◌, ◌≤◌, List, [], ◌∷◌, length, set, get_or, sym, refl, ap, ◌∙◌, subst, eqb, arith, append-nil}
use mathlib.Core.Option.{some, none}
use mathlib.Core.Option as maybe
use mathlib.Core.Logic.{dite}
use native.Mathlib.Decide.{ℕ_discrete}
use lib.ListN.{get_elem?}
use lib.Seq.{set-get_or}
use prog.Atomic.{either}
use Rattle.atomic_table.specs.Table.{State, Me, step, stepped, Act, keeps, takes, gives, Valid, carried_after, put_back, rest, Allows}
use Rattle.atomic_table.proofs.Lists.{set_again, set_else, exchanged}
use Rattle.std.specs.Prelude.{Option, Some}
use Rattle.turn_hall.specs.declared.view.View.{View}
use Rattle.turn_hall.specs.declared.view.Stage.{Stage}
use Rattle.turn_hall.specs.declared.view.Stage.TheVariants.{Idle, Out}
use Rattle.turn_hall.specs.Prefixes.{IsPrefix}
use Rattle.turn_hall.specs.Numbers.{Has}
use Rattle.turn_hall.specs.Rule.{Desk, home, away, first_open, homes_of, value_at, Kept, Shows, InStage, Fits, Taken, Turns}
use Rattle.turn_hall.specs.Moves.{same, with_seen, took, tried, added, rested, handed}
use Rattle.turn_hall.proofs.Lists.{whole, further, there, changed}
use Rattle.turn_hall.proofs.Pairs.{refreshed_has, has_refreshed, refreshed_some}
use Rattle.turn_hall.proofs.Views.{owned_set}

module _ {T E Q : Type 0} (history : T → List E) (part_of : T → ℕ → Q) (numbers first : ℕ) where
  abbrev V : Type 0
  V = View T E Q

  abbrev St : Type 0
  St = State (Option T) V

  abbrev M : Type 0
  M = Me (Option T) V

  abbrev Rule : St → Type 0
  Rule = Turns history part_of numbers first

  -- a step goes on: the word i becomes n
  abbrev Goes : St → ℕ → ℕ → M → (M → Type 0) → ℕ → Type 0
  Goes s i id me then n = (w : V) × (a : Act (Option T)) × Valid s.homes me.1 a × Rule (stepped s i n id me.1 w a) × then (w, carried_after me.1 a)

  -- nothing changes
  pub stands : (s : St) (i id : ℕ) (me : M) (then : M → Type 0) → Rule s → get_elem? s.views id ≡ some me.0 → then me → Goes s i id me then (get_or s.words i 0)
  stands s i id me then r at told = (
    me.0,
    keeps,
    tt,
    subst Rule (λ k. record { words = sym (set-get_or s.words i 0) k; homes = s.homes; views = sym (set_again s.views id me.0 at) k }) r,
    told,
  )

  door_is : (s : St) (r : Rule s) → get_or s.words 1 0 ≡ r.door
  door_is s r = ap (λ (ws : List ℕ). get_or ws 1 0) r.words

  has_out : (s : St) (r : Rule s) (id : ℕ) (x : T) (v : V) → get_elem? s.views id ≡ some v → v.stage ≡ Out x → (r.desk ≡ away id x) × (v.seen ≡ r.now) × IsPrefix (history x) v.seen
  has_out s r id x v at is = subst (InStage history part_of r.desk r.now id v.seen) is (r.each id v at).stage

  out_held : (s : St) (r : Rule s) (id : ℕ) (x : T) (v : V) → get_elem? s.views id ≡ some v → v.stage ≡ Out x → v.held ≢ []
  out_held s r id x v at is e = let idle : v.stage ≡ Idle = (r.each id v at).bare e in let z : Idle ≡ Out x = sym idle ∙ is in cc

  -- where the door is open, the value is at home
  is_home : (door : ℕ) → first_open ≤ door → (d : Desk T) → Kept door d → (x : T) × (d ≡ home x)
  is_home door h (home x) k = (x, refl)
  is_home door h (away j x) k = absurd (omega arith)

  -- a shut door with another mark
  remarked : (door new : ℕ) → door < first_open → new < first_open → (d : Desk T) → Kept door d → Kept new d
  remarked door new h h' (home x) k = absurd (omega arith)
  remarked door new h h' (away j x) k = h'

  -- while the value is at home, no other has it out
  left_idle : (x : T) (now : List E) (id j : ℕ) (seen : List E) (st : Stage T) → InStage history part_of (home x) now j seen st → InStage history part_of (away id x) now j seen st
  left_idle x now id j seen Idle h = tt
  left_idle x now id j seen (Out y) h = absurd (let e : home x ≡ away j y = h.0 in cc)

  -- while one seat has the value out, no other has
  still_idle : (id : ℕ) (x : T) (now : List E) (d : Desk T) (now' : List E) (j : ℕ) (seen : List E) (st : Stage T) → j ≢ id → InStage history part_of (away id x) now j seen st → InStage history part_of d now' j seen st
  still_idle id x now d now' j seen Idle ne h = tt
  still_idle id x now d now' j seen (Out y) ne h = absurd (let e : away id x ≡ away j y = h.0 in let e' : id ≡ j = cc in ne (sym e'))

  pub tries : (n id : ℕ) (me : M) (old new : ℕ) → me.0.stage ≡ Idle → me.0.held ≢ [] → first_open ≤ old → new < first_open
      → Allows Rule n id me 1 (λ k. either (eqb k old) new k) (tried history part_of (step n 1 old new none) me)
  tries n id me old new idle held free shut s r wide at small =
      let k : ℕ = get_or s.words 1 0 in let then = tried history part_of (step n 1 old new none) me in let mine = r.each id me.0 at in
      exchanged k old new (Goes s 1 id me (then k))
      (λ hit. let door : first_open ≤ r.door = subst (λ (z : ℕ). first_open ≤ z) (sym hit ∙ door_is s r) free in let got = is_home r.door door r.desk r.kept in let x : T = got.0 in
      let w : V = took history part_of x me.0 in let now_is : r.now ≡ history x = subst (λ (d : Desk T). Shows history part_of d r.now) got.1 r.shows in
      let homes : s.homes ≡ some (Some x) ∷ [] = r.homes ∙ ap homes_of got.1 in (
        w,
        takes 0 (Some x),
        ap (λ (h : List (maybe.Option (Option T))). get_elem? h 0) homes,
        record {
          desk = away id x;
          now = r.now;
          door = new;
          owner = r.owner;
          knower = r.knower;
          words = ap (λ (ws : List ℕ). set ws 1 new) r.words;
          homes = ap (λ (h : List (maybe.Option (Option T))). set h 0 none) homes;
          shows = tt;
          kept = shut;
          taken = (w, there s.views id w me.0 at, refl);
          each = changed (Fits history part_of numbers r.desk r.now r.owner) (Fits history part_of numbers (away id x) r.now r.owner) s.views id w r.each
              record {
                stage = (refl, sym now_is, whole (history x));
                seen = ([], now_is ∙ sym (append-nil (history x)));
                told = mine.told;
                heard = mine.heard;
                held = λ m q h. let f = mine.held m q h in (f.0, f.1, f.2 ∙ ap (λ (d : Desk T). part_of (value_at d) m) got.1);
                bare = λ e. absurd (held e);
              }
              (λ j v ne f. record {
                stage = left_idle x r.now id j v.seen v.stage (subst (λ (d : Desk T). InStage history part_of d r.now j v.seen v.stage) got.1 f.stage);
                seen = f.seen;
                told = f.told;
                heard = f.heard;
                held = λ m q h. let g = f.held m q h in (g.0, g.1, g.2 ∙ ap (λ (d : Desk T). part_of (value_at d) m) got.1);
                bare = f.bare;
              });
          owned = λ m h. owned_set s.views r.owner id me.0 w m at (λ q o. (q, o)) (r.owned m h);
          known = dite (ℕ_discrete r.knower id)
              (λ e. (w, ap (get_elem? (set s.views id w)) e ∙ there s.views id w me.0 at, held, sym now_is))
              (λ ne. (r.known.0, set_else s.views id r.knower w ne ∙ r.known.1, r.known.2, r.known.3));
        },
        (
          (λ _. (x, refl, subst (IsPrefix me.0.seen) now_is mine.seen, λ m q h. (mine.held m q h).2 ∙ ap (λ (d : Desk T). part_of (value_at d) m) got.1)),
          λ miss. absurd (miss hit),
        ),
      ))
      (λ miss. stands s 1 id me (then k) r at ((λ hit. absurd (miss hit)), λ _. refl))

  pub marks : (n id : ℕ) (me : M) (old new : ℕ) → old < first_open → new < first_open → Allows Rule n id me 1 (λ k. either (eqb k old) new k) (same (step n 1 old new none) me)
  marks n id me old new shut shut' s r wide at small =
      let k : ℕ = get_or s.words 1 0 in let then = same (step n 1 old new none) me in
      exchanged k old new (Goes s 1 id me (then k))
      (λ hit. let door : r.door < first_open = subst (λ (z : ℕ). z < first_open) (sym hit ∙ door_is s r) shut in (
        me.0,
        keeps,
        tt,
        record {
          desk = r.desk;
          now = r.now;
          door = new;
          owner = r.owner;
          knower = r.knower;
          words = ap (λ (ws : List ℕ). set ws 1 new) r.words;
          homes = r.homes;
          shows = r.shows;
          kept = remarked r.door new door shut' r.desk r.kept;
          taken = subst (λ (vs : List V). Taken vs r.desk) (sym (set_again s.views id me.0 at)) r.taken;
          each = changed (Fits history part_of numbers r.desk r.now r.owner) (Fits history part_of numbers r.desk r.now r.owner) s.views id me.0 r.each (r.each id me.0 at) (λ j v ne f. f);
          owned = λ m h. owned_set s.views r.owner id me.0 me.0 m at (λ q o. (q, o)) (r.owned m h);
          known = (r.known.0, ap (λ (vs : List V). get_elem? vs r.knower) (set_again s.views id me.0 at) ∙ r.known.1, r.known.2, r.known.3);
        },
        refl,
      ))
      (λ miss. stands s 1 id me (then k) r at refl)

  pub adds : (n id new : ℕ) (x y : T) (me : M) → me.0.stage ≡ Out x → me.1 ≡ (0, Some y) ∷ [] → IsPrefix me.0.seen (history y) → new ≡ first + length (history y)
      → Allows Rule n id me 0 (λ _. new) (λ _. added history part_of (step n 0 new 0 none) me new)
  adds n id new x y me is has longer count s r wide at small =
      let o = has_out s r id x me.0 at is in let w : V = with_seen (history y) me.0 in let mine = r.each id me.0 at in let held = out_held s r id x me.0 at is in
      let grows : IsPrefix r.now (history y) = subst (λ (l : List E). IsPrefix l (history y)) o.1 longer in (
        w,
        keeps,
        tt,
        record {
          desk = r.desk;
          now = history y;
          door = r.door;
          owner = r.owner;
          knower = id;
          words = ap (λ (ws : List ℕ). set ws 0 new) r.words ∙ ap (λ (z : ℕ). z ∷ r.door ∷ []) count;
          homes = r.homes;
          shows = subst (λ (d : Desk T). Shows history part_of d (history y)) (sym o.0) tt;
          kept = r.kept;
          taken = subst (Taken (set s.views id w)) (sym o.0) (w, there s.views id w me.0 at, is);
          each = changed (Fits history part_of numbers r.desk r.now r.owner) (Fits history part_of numbers r.desk (history y) r.owner) s.views id w r.each
              record {
                stage = subst (InStage history part_of r.desk (history y) id (history y)) (sym is) (o.0, refl, further (history x) me.0.seen (history y) o.2 longer);
                seen = whole (history y);
                told = further me.0.told r.now (history y) mine.told grows;
                heard = further me.0.heard r.now (history y) mine.heard grows;
                held = mine.held;
                bare = λ e. absurd (held e);
              }
              (λ j v ne f. record {
                stage = still_idle id x r.now r.desk (history y) j v.seen v.stage ne (subst (λ (d : Desk T). InStage history part_of d r.now j v.seen v.stage) o.0 f.stage);
                seen = further v.seen r.now (history y) f.seen grows;
                told = further v.told r.now (history y) f.told grows;
                heard = further v.heard r.now (history y) f.heard grows;
                held = f.held;
                bare = f.bare;
              });
          owned = λ i h. owned_set s.views r.owner id me.0 w i at (λ q h'. (q, h')) (r.owned i h);
          known = (w, there s.views id w me.0 at, held, refl);
        },
        (y, has, refl),
      )

  pub hands_on : (n id new : ℕ) (x y : T) (me : M) → me.0.stage ≡ Out x → me.1 ≡ (0, Some y) ∷ [] → me.0.seen ≡ history y → first_open ≤ new
      → ((m : ℕ) → m < numbers → ((q : Q) × Has me.0.held m q → ⊥) → part_of y m ≡ part_of x m)
      → Allows Rule n id me 1 (λ _. new) (handed history part_of (step n 1 new 0 none) me)
  hands_on n id new x y me is has seen_is free keep s r wide at small =
      let o = has_out s r id x me.0 at is in let w : V = rested history part_of y me.0 in let mine = r.each id me.0 at in let held = out_held s r id x me.0 at is in (
        w,
        gives,
        tt,
        record {
          desk = home y;
          now = r.now;
          door = new;
          owner = r.owner;
          knower = id;
          words = ap (λ (ws : List ℕ). set ws 1 new) r.words;
          homes = (λ k. put_back (r.homes k) (has k)) ∙ ap (λ (d : Desk T). set (homes_of d) 0 (some (Some y))) o.0;
          shows = sym o.1 ∙ seen_is;
          kept = free;
          taken = tt;
          each = changed (Fits history part_of numbers r.desk r.now r.owner) (Fits history part_of numbers (home y) r.now r.owner) s.views id w r.each
              record {
                stage = tt;
                seen = mine.seen;
                told = mine.told;
                heard = mine.heard;
                held = λ i q h. let g = refreshed_has (part_of y) me.0.held i q h in let f = mine.held i g.0.0 g.0.1 in (f.0, f.1, g.1);
                bare = λ _. refl;
              }
              (λ j v ne f. record {
                stage = still_idle id x r.now (home y) r.now j v.seen v.stage ne (subst (λ (d : Desk T). InStage history part_of d r.now j v.seen v.stage) o.0 f.stage);
                seen = f.seen;
                told = f.told;
                heard = f.heard;
                held = λ i q h. let g = f.held i q h in (g.0, g.1, g.2 ∙ (ap (λ (d : Desk T). part_of (value_at d) i) o.0 ∙ sym (keep i g.0 (λ h'. ne (sym g.1 ∙ (mine.held i h'.0 h'.1).1)))));
                bare = f.bare;
              });
          owned = λ i h. owned_set s.views r.owner id me.0 w i at (λ q h'. (part_of y i, has_refreshed (part_of y) me.0.held i q h')) (r.owned i h);
          known = (w, there s.views id w me.0 at, refreshed_some (part_of y) me.0.held held, o.1);
        },
        (y, has, ap (λ (c : List (ℕ × Option T)). (w, rest c)) has),
      )
