-- Claims that clash have locks that don't go together.
use Rattle.std.specs.Prelude.{◌≡◌, ℕ, Bool, true, false, ◌&&◌, ◌||◌, List, refl}
use Rattle.std.proofs.Common.{sym, ◌∙◌, inl, inr}
use Rattle.std.proofs.lemmas.Bool.{true≢false, or_cases, and_parts}
use Rattle.dd_names.specs.declared.object_name.ObjName.{ObjName}
use Rattle.metadata_locks.specs.declared.request.LockKey.{LockKey}
use Rattle.metadata_locks.specs.declared.request.LockKey.TheVariants as on
use Rattle.metadata_locks.specs.declared.request.Mode.{Mode}
use Rattle.metadata_locks.specs.declared.request.Mode.TheVariants.{IX, S, X}
use Rattle.metadata_locks.specs.Modes.{goes_with}
use Rattle.rules_locks.specs.Holdings.{Holding, GoTogether}
use Rattle.rules_locks.specs.Claims.{KeepSchemas, KeepSchema, KeepObjects, KeepObject, KeepChildren, KeepFree, ChangeCatalog, ChangeSchema, ChangeObject, JoinParent, TakeName, reads, below, is_covered}

module _ (one other : Holding) (together : GoTogether one other) where
  clash : (key : LockKey) (mode mode' : Mode) → goes_with mode mode' ≡ false → one key mode ≡ true → other key mode' ≡ true → ⊥
  clash key mode mode' apart mine theirs = true≢false (sym (together.all key mode mode' mine theirs) ∙ apart)

  -- who reads the whole catalog, and who changes something
  or_rest : (b : Bool) → other on.All IX ≡ true → (b ≡ true → ⊥) → (one on.All S || b) ≡ true → ⊥
  or_rest b changes not_b is = elim (or_cases (one on.All S) b is) [ inl here ↦ clash on.All S IX refl here changes | inr there ↦ not_b there ]

  -- two that work below one schema clash where they clash on the object
  below_clash : (object : ObjName) (a b : Bool) → (a ≡ true → b ≡ true → ⊥) → below one object a ≡ true → below other object b ≡ true → ⊥
  below_clash object a b own mine theirs =
      elim (or_cases (one (on.Schema object.schema) X) (one (on.Schema object.schema) IX && a) mine) [
        | inl x ↦ elim (or_cases (other (on.Schema object.schema) X) (other (on.Schema object.schema) IX && b) theirs) [
          | inl theirs_x ↦ clash (on.Schema object.schema) X X refl x theirs_x
          | inr within ↦ clash (on.Schema object.schema) X IX refl x (and_parts (other (on.Schema object.schema) IX) b within).0
        ]
        | inr mine_within ↦
            let (ix, mine_own) = and_parts (one (on.Schema object.schema) IX) a mine_within in
            elim (or_cases (other (on.Schema object.schema) X) (other (on.Schema object.schema) IX && b) theirs) [
              | inl theirs_x ↦ clash (on.Schema object.schema) IX X refl ix theirs_x
              | inr within ↦ own mine_own (and_parts (other (on.Schema object.schema) IX) b within).1
            ]
      ]

  -- who reads a key, and who changes it
  read_clash : (key : LockKey) → reads one key ≡ true → other key X ≡ true → ⊥
  read_clash key mine theirs = elim (or_cases (one key S) (one key X) mine) [ inl s ↦ clash key S X refl s theirs | inr x ↦ clash key X X refl x theirs ]

  change_clash : (key : LockKey) → one key X ≡ true → reads other key ≡ true → ⊥
  change_clash key mine theirs = elim (or_cases (other key S) (other key X) theirs) [ inl s ↦ clash key X S refl mine s | inr x ↦ clash key X X refl mine x ]

  -- who reads a schema, and who changes something below it
  objects_below : (object : ObjName) (b : Bool) → reads one (on.Schema object.schema) ≡ true → below other object b ≡ true → ⊥
  objects_below object b mine theirs = elim (or_cases (other (on.Schema object.schema) X) (other (on.Schema object.schema) IX && b) theirs) [
    | inl x ↦ read_clash (on.Schema object.schema) mine x
    | inr within ↦
        let ix : other (on.Schema object.schema) IX ≡ true = (and_parts (other (on.Schema object.schema) IX) b within).0 in
        elim (or_cases (one (on.Schema object.schema) S) (one (on.Schema object.schema) X) mine) [
          | inl s ↦ clash (on.Schema object.schema) S IX refl s ix
          | inr x ↦ clash (on.Schema object.schema) X IX refl x ix
        ]
  ]

  pub schemas_clash : is_covered one KeepSchemas ≡ true → is_covered other ChangeCatalog ≡ true → ⊥
  schemas_clash mine changes = clash on.All S IX refl mine changes

  pub schema_clash : (name : List ℕ) → is_covered one (KeepSchema name) ≡ true → is_covered other ChangeCatalog ≡ true → is_covered other (ChangeSchema name) ≡ true → ⊥
  schema_clash name mine changes theirs =
      or_rest (one (on.Schema name) IX || reads one (on.Schema name)) changes (λ any.
      elim (or_cases (one (on.Schema name) IX) (reads one (on.Schema name)) any) [ inl ix ↦ clash (on.Schema name) IX X refl ix theirs | inr more ↦ read_clash (on.Schema name) more theirs ]) mine

  pub objects_clash : (object : ObjName) → is_covered one (KeepObjects object.schema) ≡ true → is_covered other ChangeCatalog ≡ true → is_covered other (ChangeObject object) ≡ true → ⊥
  objects_clash object mine changes theirs = or_rest (reads one (on.Schema object.schema)) changes (λ any. objects_below object (other (on.Object object) X) any theirs) mine

  pub object_clash : (object : ObjName) → is_covered one (KeepObject object) ≡ true → is_covered other ChangeCatalog ≡ true → is_covered other (ChangeObject object) ≡ true → ⊥
  object_clash object mine changes theirs =
      or_rest (below one object (reads one (on.Object object))) changes (λ within. below_clash object (reads one (on.Object object)) (other (on.Object object) X) (read_clash (on.Object object)) within theirs) mine

  pub children_clash : (parent : ObjName) → is_covered one (KeepChildren parent) ≡ true → is_covered other ChangeCatalog ≡ true → is_covered other (JoinParent parent) ≡ true → ⊥
  children_clash parent mine changes theirs =
      or_rest (below one parent (one (on.Object parent) X)) changes (λ within. below_clash parent (one (on.Object parent) X) (reads other (on.Object parent)) (change_clash (on.Object parent)) within theirs) mine

  pub name_clash : (schema folded : List ℕ) → is_covered one (KeepFree schema folded) ≡ true → is_covered other ChangeCatalog ≡ true → is_covered other (TakeName schema folded) ≡ true → ⊥
  name_clash schema folded mine changes theirs = or_rest (one (on.Constraint schema folded) X) changes (λ x. clash (on.Constraint schema folded) X X refl x theirs) mine
