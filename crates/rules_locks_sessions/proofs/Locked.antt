-- What granting and giving back leave of what each session has locked.
use Rattle.std.specs.Prelude.{◌≡◌, ◌≢◌, ℕ, Bool, true, false, ◌==◌, ◌&&◌, ◌||◌, List, if◌then◌else◌, refl}
use Rattle.std.proofs.Common.{sym, ◌∙◌, ap}
use Rattle.std.proofs.lemmas.Bool.{true≢false, ne_eqb, eq-eqb}
use Rattle.metadata_locks.specs.declared.request.Request.{Request}
use Rattle.metadata_locks.specs.Held.{ask_for}
use Rattle.rules_locks_sessions.specs.Sessions.{Common, IsWhole, HasNone, granted, gave_back}

-- the others have what they had
pub others_granted : (s t : ℕ) (requests : List Request) (c : Common) → t ≢ s → (granted s requests c).locked t ≡ c.locked t
others_granted s t requests c apart = λ i key mode. ap (λ (b : Bool). (b && ask_for requests key mode) || c.locked t key mode) (ne_eqb t s apart) i

pub others_keep : (s t : ℕ) (c : Common) → t ≢ s → (gave_back s c).locked t ≡ c.locked t
others_keep s t c apart = λ i key mode. ap (λ (b : Bool). if b then false else c.locked t key mode) (ne_eqb t s apart) i

-- the session has none
pub none_left : (s : ℕ) (c : Common) → HasNone ((gave_back s c).locked s)
none_left s c = record {
  none = record { all = λ key mode is. absurd (true≢false (sym is ∙ ap (λ (b : Bool). if b then false else c.locked s key mode) (eq-eqb s s refl))) };
}

-- less is locked then, so it goes together still
pub whole_behind : (s : ℕ) (c : Common) → IsWhole c → IsWhole (gave_back s c)
whole_behind s c whole = record { valid = whole.valid; together = λ a b apart. record { all = λ key mode mode' one other. (whole.together a b apart).all key mode mode' (was (a == s) (c.locked a key mode) one) (was (b == s) (c.locked b key mode') other) } }
  where
    was : (gone held : Bool) → (if gone then false else held) ≡ true → held ≡ true
    was true held is = cc
    was false held is = is
