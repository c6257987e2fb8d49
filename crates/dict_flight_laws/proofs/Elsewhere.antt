-- A commit changes no file that another session's records name, so what holds of that session stays.
use Rattle.std.proofs.Common.{◌≡◌, ◌⊎◌, inl, inr, ⊎_elim, ℕ, true, false, cond, List, [], ◌∷◌, ◌++◌, Option, Some, None, refl, sym, ◌∙◌, ap, subst}
use Rattle.std.proofs.Math.Path.{fun_ext}
use Rattle.std.specs.Str.{bytes_eq}
use Rattle.disk_trait.specs.Change.{Directory}
use Rattle.disk_trait.proofs.Paths.{bytes_eq-same, update-off}
use Rattle.ddl_log.specs.declared.records.Kind.{Kind}
use Rattle.ddl_log.specs.declared.records.Kind.TheVariants.{DeleteSpace, RenameSpace, WriteSdi}
use Rattle.ddl_log.specs.declared.records.LogRecord.{LogRecord}
use Rattle.ddl_log.specs.Effect.{effect, IsFree, IsOff, WantsSame, Agrees}
use Rattle.ddl_log.proofs.Effects.{free, old_beside, one_of_two, same_effect, agree, OldIn}
use Rattle.post_ddl.specs.Replays.{IsGiven}
use Rattle.dict_store_laws.specs.Plans.{LeadsTo, with_file}
use Rattle.dict_flight_laws.specs.Phases.{Plan, Creation, Phase, Idle, Planned, Prepared, Performed, Left, Replayed, items_of, file_of, records_of, claims, all_claims}
use Rattle.dict_flight_laws.specs.Flight.{In, AreClear, AreGiven, MayMakeAt, IsLocal, IsRightPlan, IsRightAt, Each}
use Rattle.dict_flight_laws.proofs.Lists.{in_left, in_right, apart_of, clear_sym, clear_of_part}
use Rattle.dict_flight_laws.proofs.Orders.{clear_free, free_parts}

-- a record names its own old path
itself : (x : LogRecord) → IsOff x x.old_path → ⊥
itself x off =
    let no : true ≡ false = sym (bytes_eq-same x.old_path) ∙ old_beside x.kind x.old_path x.new_path x.old_path off in cc

never_free : (xs : List LogRecord) (x : LogRecord) → In xs x → IsFree x.old_path xs → ⊥
never_free [] x absent it = absent
never_free (y ∷ ys) x place it = ⊎_elim (λ is. itself x (subst (λ (r : LogRecord). IsOff r x.old_path) is it.0)) (λ rest. never_free ys x rest it.1) place

-- where two lists are clear of each other, each path is free of the one or of the other
free_either : (xs ys : List LogRecord) → AreClear xs ys → (q : List ℕ) → IsFree q xs ⊎ IsFree q ys
free_either [] ys clear q = inl tt
free_either (x ∷ xs) ys clear q = ⊎_elim
    (λ off. ⊎_elim (λ l. inl (off, l)) (λ r. inr r) (free_either xs ys (λ a b in_a in_b. clear a b (inr in_a) in_b) q))
    (λ is_free. inr is_free)
    (one_of_two x.kind x.old_path x.new_path ys (apart_of x ys (λ y it. clear x y (inl refl) it)) q)

file_off : (creates : Option Creation) (records : List LogRecord) (wanted : Directory) (q : List ℕ) → IsFree q (items_of creates ++ records) → with_file (file_of creates) wanted q ≡ wanted q
file_off None records wanted q it = refl
file_off (Some c) records wanted q it = update-off wanted c.item.old_path (Some c.bytes) q (old_beside c.item.kind c.item.old_path c.item.new_path q it.0)

-- ## What is wanted at old paths

wants_same : (kind : Kind) (old : List ℕ) (wanted others : Directory) → others old ≡ wanted old → WantsSame kind old wanted others
wants_same DeleteSpace old wanted others it = tt
wants_same RenameSpace old wanted others it = tt
wants_same WriteSdi old wanted others it = it

pub agrees_of : (ys : List LogRecord) (wanted others : Directory) → ((y : LogRecord) → In ys y → others y.old_path ≡ wanted y.old_path) → Agrees ys wanted others
agrees_of [] wanted others all = tt
agrees_of (y ∷ ys) wanted others all = (wants_same y.kind y.old_path wanted others (all y (inl refl)), agrees_of ys wanted others (λ x it. all x (inr it)))

given_same : (kind : Kind) (old bytes : List ℕ) (wanted others : Directory) → others old ≡ wanted old → IsGiven kind old bytes wanted → IsGiven kind old bytes others
given_same DeleteSpace old bytes wanted others same it = tt
given_same RenameSpace old bytes wanted others same it = tt
given_same WriteSdi old bytes wanted others same it = same ∙ it

all_given : (texts : List ℕ → List ℕ) (items : List LogRecord) (wanted others : Directory) → ((x : LogRecord) → In items x → others x.old_path ≡ wanted x.old_path) → AreGiven texts items wanted → AreGiven texts items others
all_given texts [] wanted others all it = tt
all_given texts (x ∷ xs) wanted others all it = (given_same x.kind x.old_path (texts x.old_path) wanted others (all x (inl refl)) it.0, all_given texts xs wanted others (λ y h. all y (inr h)) it.1)

-- ## A plan leads on from other wanted files

module _ (plan : Plan) (wanted later : Directory) (local : IsLocal plan) (leads : LeadsTo (file_of plan.creates) plan.records wanted (plan.change wanted)) (same : (q : List ℕ) → IsFree q (records_of plan) ⊎ (later q ≡ wanted q)) where
  -- at a path that a record names the plan makes the same of both
  here : (q : List ℕ) → IsFree q (records_of plan) ⊎ (plan.change later q ≡ plan.change wanted q)
  here q = ⊎_elim (λ is_free. inl is_free) (λ one. ⊎_elim (λ is_free. inl is_free) (λ two. inr (one ∙ sym two)) (local.here wanted q)) (local.here later q)

  pub at_record : (x : LogRecord) → In plan.records x → (later x.old_path ≡ wanted x.old_path) × (plan.change later x.old_path ≡ plan.change wanted x.old_path)
  at_record x place =
      let mine = in_right (items_of plan.creates) plan.records x place in (
        ⊎_elim (λ is_free. absurd (never_free (records_of plan) x mine is_free)) (λ it. it) (same x.old_path),
        ⊎_elim (λ is_free. absurd (never_free (records_of plan) x mine is_free)) (λ it. it) (here x.old_path),
      )

  file_same : (creates : Option Creation) (q : List ℕ) → later q ≡ wanted q → with_file (file_of creates) later q ≡ with_file (file_of creates) wanted q
  file_same None q it = it
  file_same (Some c) q it = ap (λ (v : Option (List ℕ)). cond (bytes_eq c.item.old_path q) (Some c.bytes) v) it

  old_in : (xs : List LogRecord) → ((x : LogRecord) → In xs x → later x.old_path ≡ wanted x.old_path) → OldIn (λ q. later q ≡ wanted q) xs
  old_in [] all = tt
  old_in (x ∷ xs) all = (all x (inl refl), old_in xs (λ y it. all y (inr it)))

  at_free : (r : List ℕ) → IsFree r (records_of plan) → effect plan.records (plan.change later) (with_file (file_of plan.creates) later) r ≡ plan.change later r
  at_free r is_free =
      free r plan.records (plan.change later) (with_file (file_of plan.creates) later) (free_parts r (items_of plan.creates) plan.records is_free).1
      ∙ file_off plan.creates plan.records later r is_free
      ∙ sym (local.elsewhere later r is_free)

  at_named : (r : List ℕ) → later r ≡ wanted r → plan.change later r ≡ plan.change wanted r → effect plan.records (plan.change later) (with_file (file_of plan.creates) later) r ≡ plan.change later r
  at_named r same_wanted same_changed =
      let w = with_file (file_of plan.creates) wanted in
      let v = with_file (file_of plan.creates) later in
      ap (λ (d : Directory). d r) (same_effect plan.records (plan.change wanted) (plan.change later) v (agrees_of plan.records (plan.change wanted) (plan.change later) (λ x it. (at_record x it).1)))
      ∙ agree (λ q. later q ≡ wanted q) plan.records (plan.change wanted) w v (old_in plan.records (λ x it. (at_record x it).0)) (λ q it. file_same plan.creates q it) r same_wanted
      ∙ ap (λ (d : Directory). d r) leads ∙ sym same_changed

  pub leads_still : LeadsTo (file_of plan.creates) plan.records later (plan.change later)
  leads_still = fun_ext λ r. ⊎_elim (λ is_free. at_free r is_free) (λ changed. ⊎_elim (λ is_free. at_free r is_free) (λ it. at_named r it changed) (same r)) (here r)

-- ## The other sessions

module _ (wanted next : Directory) (mine : List LogRecord) (same : (q : List ℕ) → IsFree q mine → next q ≡ wanted q) where
  at_claim : (xs : List LogRecord) → AreClear mine xs → (x : LogRecord) → In xs x → next x.old_path ≡ wanted x.old_path
  at_claim xs clear x place = same x.old_path (clear_free x mine (λ y in_y. clear_sym y x (clear y x in_y place)))

  may_still : (creates : Option Creation) (records : List LogRecord) → AreClear mine (items_of creates ++ records) → MayMakeAt creates wanted → MayMakeAt creates next
  may_still None records clear it = tt
  may_still (Some c) records clear it = (it.0, at_claim (c.item ∷ records) clear c.item (inl refl) ∙ it.1)

  plan_still : (plan : Plan) → AreClear mine (records_of plan) → IsRightPlan plan wanted → IsRightPlan plan next
  plan_still plan clear it =
      let fits = it.fits in
      let either : (q : List ℕ) → IsFree q (records_of plan) ⊎ (next q ≡ wanted q) = λ q. ⊎_elim (λ l. inr (same q l)) (λ r. inl r) (free_either mine (records_of plan) clear q) in
      record {
        fits = record {
          leads = leads_still plan wanted next it.local fits.leads either;
          given = all_given plan.texts plan.records (plan.change wanted) (plan.change next) (λ x place. (at_record plan wanted next it.local fits.leads either x place).1) fits.given;
          may_make = may_still plan.creates plan.records clear fits.may_make;
          last = fits.last;
        };
        local = it.local;
      }

  with_creation : (c : Creation) (plan : Plan) → plan.creates ≡ Some c → AreClear mine (c.item ∷ plan.records) → AreClear mine (records_of plan)
  with_creation c plan creates clear = subst (λ (o : Option Creation). AreClear mine (items_of o ++ plan.records)) (sym creates) clear

  one_still : (o : Phase) → AreClear mine (claims o) → IsRightAt wanted o → IsRightAt next o
  one_still Idle clear it = tt
  one_still (Planned plan) clear it = plan_still plan clear it
  one_still (Prepared c plan) clear it = (plan_still plan (with_creation c plan it.1 clear) it.0, it.1)
  one_still (Performed c plan) clear it = (plan_still plan (with_creation c plan it.1 clear) it.0, it.1)
  one_still (Left texts items) clear it = (it.0, all_given texts items wanted next (λ x place. at_claim items clear x place) it.1)
  one_still (Replayed texts item items) clear it = (it.0, all_given texts items wanted next (λ x place. at_claim (item ∷ items) clear x (inr place)) it.1)

  pub all_still : (ps : List Phase) → AreClear mine (all_claims ps) → Each (λ o. IsRightAt wanted o → IsRightAt next o) ps
  all_still [] clear = tt
  all_still (p ∷ ps) clear = (
    one_still p (clear_of_part mine (all_claims (p ∷ ps)) (claims p) (λ z it. in_left (claims p) (all_claims ps) z it) clear),
    all_still ps (clear_of_part mine (all_claims (p ∷ ps)) (all_claims ps) (λ z it. in_right (claims p) (all_claims ps) z it) clear),
  )

  pub all_agree : (ys : List LogRecord) → AreClear mine ys → Agrees ys wanted next
  all_agree ys clear = agrees_of ys wanted next (λ y it. at_claim ys clear y it)
