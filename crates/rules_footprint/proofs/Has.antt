-- A request that is looked for in the set is one that is asked for.
use Rattle.std.specs.Prelude.{◌≡◌, Bool, true, false, ◌||◌, List, [], ◌∷◌, refl}
use Rattle.std.specs.List.{list_any}
use Rattle.std.specs.BTreeMap.{is_at}
use Rattle.std.specs.Ordering.{is_eq}
use Rattle.std.specs.declared.cmp.Ordering.TheVariants.{Equal}
use Rattle.std.proofs.Common.{sym, ◌∙◌, ap, subst}
use Rattle.std.proofs.lemmas.Bool.{and_parts}
use Rattle.std.proofs.lemmas.Cmp.{nat_list_cmp_total, tied_itself}
use Rattle.dd_names.specs.Names.{name_cmp}
use Rattle.metadata_locks.specs.declared.request.LockKey.{LockKey}
use Rattle.metadata_locks.specs.declared.request.LockKey.TheVariants as on
use Rattle.metadata_locks.specs.declared.request.Mode.{Mode}
use Rattle.metadata_locks.specs.declared.request.Mode.TheVariants.{IX, S, X}
use Rattle.metadata_locks.specs.declared.request.Request.{Request}
use Rattle.metadata_locks.specs.Held.{key_cmp, same_mode, is_for, ask_for}
use Rattle.metadata_locks.proofs.Keys.{key_alone}
use Rattle.rules_locks.specs.Holdings.{request, request_cmp}
use Rattle.rules_locks.proofs.Requests.{equal, mode_is, mode_itself, request_alone}

name_tied : (name : List _) → name_cmp name name ≡ Equal
name_tied name = tied_itself nat_list_cmp_total name

key_tied : (key : LockKey) → is_eq (key_cmp key key) ≡ true
key_tied on.All = refl
key_tied (on.Schema name) = simp name_tied
key_tied (on.Object object) = simp name_tied
key_tied (on.Constraint schema folded) = simp name_tied

is_itself : (r : Request) → is_for r.key r.mode r ≡ true
is_itself r = rw (key_tied r.key) (mode_itself r.mode)

request_tied : (r : Request) → is_eq (request_cmp r r) ≡ true
request_tied r = at r.mode
  where
    at : (mode : Mode) → is_eq (request_cmp (request mode r.key) (request mode r.key)) ≡ true
    at IX = rw (equal (key_cmp r.key r.key) (key_tied r.key)) refl
    at S = rw (equal (key_cmp r.key r.key) (key_tied r.key)) refl
    at X = rw (equal (key_cmp r.key r.key) (key_tied r.key)) refl

same_answer : (a b : Bool) → (a ≡ true → b ≡ true) → (b ≡ true → a ≡ true) → a ≡ b
same_answer true b there back = sym (there refl)
same_answer false true there back = back refl
same_answer false false there back = refl

one_is : (key : LockKey) (mode : Mode) (r : Request) → is_eq (request_cmp (request mode key) r) ≡ is_for key mode r
one_is key mode r = same_answer (is_eq (request_cmp (request mode key) r)) (is_for key mode r) there back
  where
    there : is_eq (request_cmp (request mode key) r) ≡ true → is_for key mode r ≡ true
    there is = subst (λ (q : Request). is_for q.key q.mode r ≡ true) (sym (request_alone (request mode key) r (equal (request_cmp (request mode key) r) is))) (is_itself r)

    back : is_for key mode r ≡ true → is_eq (request_cmp (request mode key) r) ≡ true
    back is =
        let parts = and_parts (is_eq (key_cmp r.key key)) (same_mode r.mode mode) is in
        let same_key : r.key ≡ key = key_alone r.key key (equal (key_cmp r.key key) parts.0) in
        let one_mode : r.mode ≡ mode = mode_is r.mode mode parts.1 in
        subst (λ (q : Request). is_eq (request_cmp q r) ≡ true) (λ i. record { key = same_key i; mode = one_mode i }) (request_tied r)

pub has_is : (requests : List Request) (key : LockKey) (mode : Mode) → list_any (is_at (request_cmp (request mode key))) requests ≡ ask_for requests key mode
has_is [] key mode = refl
has_is (r ∷ requests) key mode = ap (λ b. b || list_any (is_at (request_cmp (request mode key))) requests) (one_is key mode r) ∙ ap (λ b. is_for key mode r || b) (has_is requests key mode)
