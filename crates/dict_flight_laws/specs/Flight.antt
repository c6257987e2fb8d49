-- What holds of all sessions between two steps.
use Rattle.std.specs.Prelude.{◌≡◌, ◌⊎◌, ℕ, List, [], ◌∷◌, Option, Some, None}
use Rattle.disk_trait.specs.Change.{Directory}
use Rattle.disk_trait.specs.Story.{Story}
use Rattle.row_store.specs.Value.{StoreValue}
use Rattle.ddl_log.specs.declared.records.Kind.TheVariants.{DeleteSpace}
use Rattle.ddl_log.specs.declared.records.LogRecord.{LogRecord}
use Rattle.ddl_log.specs.Effect.{IsApart, IsFree}
use Rattle.post_ddl.specs.Replays.{HasBytes}
use Rattle.dict_store_laws.specs.System.{IsOrdinary}
use Rattle.dict_store_laws.specs.Recovers.{AreLast}
use Rattle.dict_store_laws.specs.Kept.{IsKept}
use Rattle.dict_store_laws.specs.Plans.{LeadsTo}
use Rattle.dict_flight_laws.specs.Phases.{Creation, Plan, Phase, Idle, Planned, Prepared, Performed, Left, Replayed, file_of, records_of, claims, all_claims, work_of}

abbrev pub In : {A : Type 0} → List A → A → Type 0
In [] x = ⊥
In (y ∷ ys) x = (y ≡ x) ⊎ In ys x

-- no record of the one list names a path that one of the other names
abbrev pub AreClear : List LogRecord → List LogRecord → Type 0
AreClear xs ys = (x y : LogRecord) → In xs x → In ys y → IsApart x (y ∷ [])

-- so it is of any two sessions, of what is there or will be
abbrev pub AllClear : List Phase → Type 0
AllClear [] = Unit {0}
AllClear (p ∷ ps) = AreClear (claims p) (all_claims ps) × AllClear ps

-- each file that is written anew is given the wanted bytes
abbrev pub AreGiven : (List ℕ → List ℕ) → List LogRecord → Directory → Type 0
AreGiven texts [] wanted = Unit {0}
AreGiven texts (item ∷ items) wanted = HasBytes item (texts item.old_path) wanted × AreGiven texts items wanted

-- a file is made where none is wanted
abbrev pub MayMakeAt : Option Creation → Directory → Type 0
MayMakeAt None wanted = Unit {0}
MayMakeAt (Some c) wanted = (c.item.kind ≡ DeleteSpace) × (wanted c.item.old_path ≡ None)

-- the records of the plan lead from the wanted files to the changed ones
pub record Fits (plan : Plan) (wanted : Directory) : Type 0 where
  pub leads : LeadsTo (file_of plan.creates) plan.records wanted (plan.change wanted)
  pub given : AreGiven plan.texts plan.records (plan.change wanted)
  pub may_make : MayMakeAt plan.creates wanted
  pub last : AreLast plan.records

-- Whatever was wanted, the plan makes the same files at the paths that its records name, and changes none elsewhere.
pub record IsLocal (plan : Plan) : Type 0 where
  pub files : Directory
  pub here : (wanted : Directory) (path : List ℕ) → IsFree path (records_of plan) ⊎ (plan.change wanted path ≡ files path)
  pub elsewhere : (wanted : Directory) (path : List ℕ) → IsFree path (records_of plan) → plan.change wanted path ≡ wanted path

pub record IsRightPlan (plan : Plan) (wanted : Directory) : Type 0 where
  pub fits : Fits plan wanted
  pub local : IsLocal plan

-- what holds of a session, as far as it is
abbrev pub IsRightAt : Directory → Phase → Type 0
IsRightAt wanted Idle = Unit {0}
IsRightAt wanted (Planned plan) = IsRightPlan plan wanted
IsRightAt wanted (Prepared c plan) = IsRightPlan plan wanted × (plan.creates ≡ Some c)
IsRightAt wanted (Performed c plan) = IsRightPlan plan wanted × (plan.creates ≡ Some c)
IsRightAt wanted (Left texts items) = AreLast items × AreGiven texts items wanted
IsRightAt wanted (Replayed texts item items) = AreLast (item ∷ items) × AreGiven texts items wanted

abbrev pub Each : (Phase → Type 0) → List Phase → Type 0
Each P [] = Unit {0}
Each P (p ∷ ps) = P p × Each P ps

-- what a session names is no system file
abbrev pub ClaimsOrdinary : Phase → Type 0
ClaimsOrdinary p = (item : LogRecord) → In (claims p) item → IsOrdinary item

-- The store is kept with the work of all sessions, of which none names a path of another's, and each is right as far as it is.
pub record IsInFlight (s : Option Story) (store : StoreValue) (wanted : Directory) (phases : List Phase) : Type 0 where
  pub kept : IsKept s store (work_of wanted phases)
  pub clear : AllClear phases
  pub ordinary : Each ClaimsOrdinary phases
  pub each : Each (IsRightAt wanted) phases

-- a session may commit: its plan makes no file, or the file is made
abbrev pub IsReady : Phase → Plan → Type 0
IsReady Idle plan = ⊥
IsReady (Planned it) plan = (it ≡ plan) × (plan.creates ≡ None)
IsReady (Prepared c it) plan = ⊥
IsReady (Performed c it) plan = it ≡ plan
IsReady (Left texts items) plan = ⊥
IsReady (Replayed texts item items) plan = ⊥
