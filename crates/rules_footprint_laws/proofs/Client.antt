-- Clients that were told what their checks needed.
use Rattle.std.specs.Prelude.{◌≡◌, Bool, true, false, List, [], ◌∷◌, ◌++◌, map, Option, Some, Result, Ok, Err, if◌then◌else◌, refl}
use Rattle.std.specs.Option.{option_map}
use Rattle.std.specs.List.{AllByRecursion, flat_map}
use Rattle.std.proofs.Common.{sym, ◌∙◌, ap, subst}
use Rattle.dd_names.specs.declared.object_name.ObjectKey.{ObjectKey}
use Rattle.dd_errors.specs.Errors.{ErrorValue}
use Rattle.sql_ast.specs.declared.session.SessionState.{SessionState}
use Rattle.sql_ast.specs.declared.statement.Statement.{Statement}
use Rattle.dd_catalog.specs.Catalog.{Catalog, sight_of}
use Rattle.dd_catalog.specs.Follow.{sights}
use Rattle.dd_catalog.specs.Sights.{sight}
use Rattle.dd_catalog.specs.Walks.{Walk, Found, run}
use Rattle.dd_catalog.specs.WalkLaws.{IsOf, Look}
use Rattle.dd_catalog.specs.declared.object.Object.{Object}
use Rattle.dd_catalog.specs.declared.stop.Stop.{Stop}
use Rattle.dd_catalog.specs.declared.stop.Stop.TheVariants as stops
use Rattle.metadata_locks.specs.declared.request.Request.{Request}
use Rattle.rules_outcome.specs.Choices.{Choice}
use Rattle.rules_outcome.specs.Decided.{AreBefore, Decides, IsBefore, chosen}
use Rattle.rules_outcome.specs.declared.decided.Decided.{Decided}
use Rattle.rules_outcome.specs.declared.decided.Decided.TheVariants as decided
use Rattle.rules_outcome.specs.declared.decided.Edit.{Edit}
use Rattle.rules_locks.specs.Claims.{with_claims}
use Rattle.rules_locks.specs.Held.{HasPlan, IsHeld, found_claims}
use Rattle.rules_locks.specs.Holdings.{AreAmong, Holding, holding}
use Rattle.rules_locks.specs.Locks.{Intent, locks, step_claims}
use Rattle.rules_locks.specs.Steps.{Step, rest, steps}
use Rattle.rules_locks.specs.Told.{is_same_place, seen_at}
use Rattle.rules_intents.specs.Intents.{intent}
use Rattle.rules_locks_laws.proofs.Known.{known_held, known_plan}
use Rattle.rules_footprint.specs.Plans.{AreTold, decided_claims, told_at}
use Rattle.rules_footprint.specs.Steps.{step_of}
use Rattle.rules_footprint.specs.declared.footprints.Told.{Told}
use Rattle.rules_footprint_laws.specs.Clients.{HasAnswer, IsClient, requests}
use Rattle.rules_footprint_laws.proofs.Once.{told_locks}

-- ## What it knows

pub told_seen : (told : List Told) (key : ObjectKey) → option_map sight (told_at told key) ≡ seen_at (map step_of told) key
told_seen [] key = refl
told_seen (t ∷ told) key = on (is_same_place t.key.now key) (told_seen told key)
  where
    on : (same : Bool) → option_map sight (told_at told key) ≡ seen_at (map step_of told) key
        → option_map sight (if same then Some t.object.now else told_at told key) ≡ (if same then Some (sight t.object.now) else seen_at (map step_of told) key)
    on true later = refl
    on false later = later

pub known_seen : (known : ObjectKey → Option Object) (told : List Told) → ((key : ObjectKey) → known key ≡ told_at told key) → (key : ObjectKey) → sights known key ≡ seen_at (map step_of told) key
known_seen known told same key = ap (option_map sight) (same key) ∙ told_seen told key

edits_before : (known : ObjectKey → Option Object) (told : List Told) (edits : List Edit) → ((key : ObjectKey) → known key ≡ told_at told key)
    → AllByRecursion (λ (edit : Edit). IsBefore (known edit.key) edit.before) edits → AllByRecursion (λ (edit : Edit). IsBefore (told_at told edit.key) edit.before) edits
edits_before known told [] same all = tt
edits_before known told (edit ∷ edits) same all = (subst (λ o. IsBefore o edit.before) (same edit.key) all.0, edits_before known told edits same all.1)

pub known_before : (known : ObjectKey → Option Object) (told : List Told) (d : Decided) → ((key : ObjectKey) → known key ≡ told_at told key) → AreBefore known d → AreTold told (Ok d)
known_before known told (decided.Edits edits) same are = edits_before known told edits.puts same are
known_before known told decided.Same same are = tt
known_before known told (decided.Rows listing) same are = tt

-- ## What is asked for

pub decided_found : (taken : List Step) (decided : Result Decided Stop) (found : Found ErrorValue Choice) → Decides decided found → HasAnswer decided → decided_claims taken decided ≡ found_claims taken found
decided_found taken (Ok d) found is answers = ap (found_claims taken) (sym is)
decided_found taken (Err (stops.Refused error)) found is answers = ap (found_claims taken) (sym is)
decided_found taken (Err (stops.Need key)) found is answers = ap (found_claims taken) (sym is)
decided_found taken (Err stops.Memory) found is answers = absurd answers

pub requests_found : (session : SessionState) (statement : Statement) (told : List Told) (decided : Result Decided Stop) (found : Found ErrorValue Choice) → Decides decided found → HasAnswer decided
    → requests session statement told decided
    ≡ with_claims [] ((intent session statement).claims ++ (flat_map (step_claims (intent session statement).grip) (map step_of told) ++ found_claims (map step_of told) found))
requests_found session statement told decided found is answers =
    let meant : Intent = intent session statement in
    let taken : List Step = map step_of told in
    ap (λ ends. with_claims [] (meant.claims ++ (flat_map (step_claims meant.grip) taken ++ ends))) (decided_found taken decided found is answers)

pub client_locks : (session : SessionState) (statement : Statement) (look : Look) (told : List Told) (check : Walk ErrorValue Choice) (decided : Result Decided Stop) → IsClient look told check decided
    → requests session statement told decided ≡ locks (intent session statement) (steps look check) (rest look check)
client_locks session statement look told check decided is =
    requests_found session statement told decided (run look check) is.decides is.answers ∙ told_locks (intent session statement) look (map step_of told) check is.in_order

-- ## What they hold

pub client_held : (cat : Catalog) (session : SessionState) (statement : Statement) (look : Look) (told : List Told) (check : Walk ErrorValue Choice) (decided : Result Decided Stop) (held : Holding) → IsClient look told check decided → IsOf (sight_of cat) look
    → AreAmong (holding (requests session statement told decided)) held → AreAmong held (holding (requests session statement told decided)) → IsHeld cat (intent session statement) check held (rest look check)
client_held cat session statement look told check decided held is of all only =
    let same = client_locks session statement look told check decided is in
    known_held cat (intent session statement) look check held of (subst (λ (r : List Request). AreAmong (holding r) held) same all) (subst (λ (r : List Request). AreAmong held (holding r)) same only)

pub client_plan : (cat : Catalog) (session : SessionState) (statement : Statement) (look : Look) (told : List Told) (check : Walk ErrorValue Choice) (d : Decided) (held : Holding) → IsClient look told check (Ok d) → IsOf (sight_of cat) look
    → AreAmong (holding (requests session statement told (Ok d))) held → AreAmong held (holding (requests session statement told (Ok d))) → HasPlan cat (intent session statement) check held (chosen d)
client_plan cat session statement look told check d held is of all only =
    let same = client_locks session statement look told check (Ok d) is in
    known_plan cat (intent session statement) look check held (chosen d) of is.decides
    (subst (λ (r : List Request). AreAmong (holding r) held) same all) (subst (λ (r : List Request). AreAmong held (holding r)) same only)
