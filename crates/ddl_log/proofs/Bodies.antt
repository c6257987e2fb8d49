-- What is read is a record of these bytes, and a record's bytes are read as the record.
use Rattle.std.proofs.Common.{◌≡◌, inl, inr, ℕ, suc, ◌^◌, ◌<◌, ◌/◌, ◌&&◌, Bool, true, false, cond, eqb, List, [], ◌∷◌, ◌++◌, length, Option, Some, None, refl, sym, ap, subst, ◌∙◌, append_assoc, arith}
use Rattle.std.specs.Int.{w16, w32, to_be_bytes}
use Rattle.std.specs.Str.{is_utf8, IsUtf8}
use Rattle.std.proofs.lemmas.Str.{IsUtf8-from_is_utf8}
use Rattle.std.proofs.lemmas.Bool.{eqb-true, eq-eqb, cases_Bool}
use Rattle.std.proofs.lemmas.List.{append-nil, nil_from_length}
use Rattle.row_batch.specs.Batches.{key_bytes}
use Rattle.row_batch.specs.Reading.{◌>>=◌, number_at, string_at}
use Rattle.row_batch.proofs.Fields.{IsBytes, bind_some, some_is, Takes, Takes-then, wide16, wide32, number_takes, number_again, string_takes, string_again}
use Rattle.ddl_log.specs.declared.reading.Head.{Head}
use Rattle.ddl_log.specs.declared.records.Kind.{Kind}
use Rattle.ddl_log.specs.declared.records.Kind.TheVariants.{DeleteSpace, RenameSpace, WriteSdi}
use Rattle.ddl_log.specs.declared.records.LogRecord.{LogRecord}
use Rattle.ddl_log.specs.Records.{kind_byte, head_bytes, record_bytes, IsPath, IsNewPathOf, IsRecord}
use Rattle.ddl_log.specs.Reading.{kind_of, kind_at, head_at, path_at, may_have, record_at}

guard : {A : Type 0} (b : Bool) (x y : A) → cond b (Some x) None ≡ Some y → (b ≡ true) × (x ≡ y)
guard true x y e = (refl, cc)
guard false x y e = absurd cc

both : (a b : Bool) → (a && b) ≡ true → (a ≡ true) × (b ≡ true)
both true b e = (refl, e)
both false b e = absurd cc

-- ---- the kind

kind_is : (n : ℕ) (k : Kind) → kind_of n ≡ Some k → n ≡ kind_byte k
kind_is n k e = by (eqb n 2) (eqb n 3) (eqb n 100) refl refl refl e
  where
    by : (a b c : Bool) → eqb n 2 ≡ a → eqb n 3 ≡ b → eqb n 100 ≡ c → cond a (Some DeleteSpace) (cond b (Some RenameSpace) (cond c (Some WriteSdi) None)) ≡ Some k → n ≡ kind_byte k
    by true b c one two three is = eqb-true n 2 one ∙ ap kind_byte (some_is DeleteSpace k is)
    by false true c one two three is = eqb-true n 3 two ∙ ap kind_byte (some_is RenameSpace k is)
    by false false true one two three is = eqb-true n 100 three ∙ ap kind_byte (some_is WriteSdi k is)
    by false false false one two three is = absurd cc

kind_again : (k : Kind) → kind_of (kind_byte k) ≡ Some k
kind_again DeleteSpace = refl
kind_again RenameSpace = refl
kind_again WriteSdi = refl

kind_takes : (bytes : List ℕ) (x : Kind × List ℕ) → IsBytes bytes → kind_at bytes ≡ Some x → Takes bytes (kind_byte x.0 ∷ []) x.1
unfolding kind_at
kind_takes [] x fits e = absurd cc
kind_takes (n ∷ rest) x fits e =
    let a = bind_some (kind_of n) (λ kind. Some (kind, rest)) x e in
    subst (λ (y : Kind × List ℕ). Takes (n ∷ rest) (kind_byte y.0 ∷ []) y.1) (some_is (a.0, rest) x a.2)
    (record { parts = ap (λ (m : ℕ). m ∷ rest) (kind_is n a.0 a.1); rest_fits = λ i. fits (suc i) })

-- ---- what stands before the paths

abbrev head_of : ℕ → Kind → ℕ → Head
head_of thread kind space = record { thread = thread; kind = kind; space = space }

-- what was read in front, and what it says of the numbers
record HeadTakes (bytes : List ℕ) (x : Head × List ℕ) : Type 0 where
  takes : Takes bytes (head_bytes x.0.thread x.0.kind x.0.space) x.1
  thread : x.0.thread < 2 ^ 32
  space : x.0.space < 2 ^ 32

head_takes : (bytes : List ℕ) (x : Head × List ℕ) → IsBytes bytes → head_at bytes ≡ Some x → HeadTakes bytes x
unfolding head_at
head_takes bytes x fits e =
    let a = bind_some (number_at w32 bytes) (λ thread. kind_at thread.1 >>= λ kind. number_at w32 kind.1 >>= λ space. Some (head_of thread.0 kind.0 space.0, space.1)) x e in
    let b = bind_some (kind_at a.0.1) (λ kind. number_at w32 kind.1 >>= λ space. Some (head_of a.0.0 kind.0 space.0, space.1)) x a.2 in
    let c = bind_some (number_at w32 b.0.1) (λ space. Some (head_of a.0.0 b.0.0 space.0, space.1)) x b.2 in
    let one = number_takes w32 (2 ^ 32) wide32 bytes a.0.0 a.0.1 fits a.1 in
    let two = kind_takes a.0.1 b.0 one.0.rest_fits b.1 in
    let three = number_takes w32 (2 ^ 32) wide32 b.0.1 c.0.0 c.0.1 two.rest_fits c.1 in
    let tail = Takes-then a.0.1 (kind_byte b.0.0 ∷ []) b.0.1 (to_be_bytes w32 c.0.0) c.0.1 two three.0 in
    let whole = Takes-then bytes (to_be_bytes w32 a.0.0) a.0.1 (kind_byte b.0.0 ∷ to_be_bytes w32 c.0.0) c.0.1 one.0 tail in
    subst (λ (y : Head × List ℕ). HeadTakes bytes y) (some_is (head_of a.0.0 b.0.0 c.0.0, c.0.1) x c.2) (record { takes = whole; thread = one.1; space = three.1 })

head_again : (thread : ℕ) (kind : Kind) (space : ℕ) (rest : List ℕ) → thread < 2 ^ 32 → space < 2 ^ 32 → head_at (head_bytes thread kind space ++ rest) ≡ Some (head_of thread kind space, rest)
unfolding head_at kind_at
head_again thread kind space rest small little =
    let parts : head_bytes thread kind space ++ rest ≡ to_be_bytes w32 thread ++ (kind_byte kind ∷ (to_be_bytes w32 space ++ rest)) = append_assoc (to_be_bytes w32 thread) (kind_byte kind ∷ to_be_bytes w32 space) rest in
    ap head_at parts ∙ rw (number_again w32 (2 ^ 32) wide32 thread (kind_byte kind ∷ (to_be_bytes w32 space ++ rest)) small, kind_again kind, number_again w32 (2 ^ 32) wide32 space rest little) refl

-- ---- a path

path_takes : (bytes : List ℕ) (x : List ℕ × List ℕ) → IsBytes bytes → path_at bytes ≡ Some x → Takes bytes (key_bytes x.0) x.1 × IsPath x.0
unfolding path_at
path_takes bytes x fits e =
    let a = bind_some (string_at w16 bytes) (λ path. cond (is_utf8 path.0) (Some path) None) x e in
    let g = guard (is_utf8 a.0.0) a.0 x a.2 in
    let t = string_takes w16 (2 ^ 16) wide16 bytes a.0.0 a.0.1 fits a.1 in
    subst (λ (y : List ℕ × List ℕ). Takes bytes (key_bytes y.0) y.1 × IsPath y.0) g.1 (t.0, record { short = t.1; text = g.0 })

path_again : (path rest : List ℕ) → IsPath path → path_at (key_bytes path ++ rest) ≡ Some (path, rest)
unfolding path_at
path_again path rest is = rw (string_again w16 (2 ^ 16) wide16 path rest is.short, is.text) refl

empty_is : (path : List ℕ) → eqb (length path) 0 ≡ true → path ≡ []
empty_is path e = nil_from_length path (eqb-true (length path) 0 e)

by_kind : (kind : Kind) (path : List ℕ) → may_have kind path ≡ true → IsNewPathOf kind path
by_kind DeleteSpace path e = empty_is path e
by_kind RenameSpace path e = tt
by_kind WriteSdi path e = empty_is path e

may_again : (kind : Kind) (path : List ℕ) → IsNewPathOf kind path → may_have kind path ≡ true
may_again DeleteSpace path is = rw is refl
may_again RenameSpace path is = refl
may_again WriteSdi path is = rw is refl

-- ---- a record

abbrev whole_of : ℕ → Head → List ℕ → List ℕ → LogRecord
whole_of id head old new = record { id = id; thread = head.thread; kind = head.kind; space = head.space; old_path = old; new_path = new }

-- what a record of these bytes says
record IsOf (id : ℕ) (bytes : List ℕ) (item : LogRecord) : Type 0 where
  is_record : IsRecord item
  id_is : item.id ≡ id
  bytes_are : bytes ≡ record_bytes item

record_takes : (id : ℕ) (bytes : List ℕ) (item : LogRecord) → id < 2 ^ 64 → IsBytes bytes → record_at id bytes ≡ Some item → IsOf id bytes item
unfolding record_at record_bytes
record_takes id bytes item small fits e =
    let is_good : Head → List ℕ × List ℕ → Bool = λ head new. (eqb (length new.1) 0 && eqb (id / 2 ^ 32) head.thread) && may_have head.kind new.0 in
    let a = bind_some (head_at bytes) (λ head. path_at head.1 >>= λ old. path_at old.1 >>= λ new. cond (is_good head.0 new) (Some (whole_of id head.0 old.0 new.0)) None) item e in
    let b = bind_some (path_at a.0.1) (λ old. path_at old.1 >>= λ new. cond (is_good a.0.0 new) (Some (whole_of id a.0.0 old.0 new.0)) None) item a.2 in
    let c = bind_some (path_at b.0.1) (λ new. cond (is_good a.0.0 new) (Some (whole_of id a.0.0 b.0.0 new.0)) None) item b.2 in
    let g = guard (is_good a.0.0 c.0) (whole_of id a.0.0 b.0.0 c.0.0) item c.2 in
    let second = both (eqb (length c.0.1) 0 && eqb (id / 2 ^ 32) a.0.0.thread) (may_have a.0.0.kind c.0.0) g.0 in
    let first = both (eqb (length c.0.1) 0) (eqb (id / 2 ^ 32) a.0.0.thread) second.0 in
    let one = head_takes bytes a.0 fits a.1 in
    let two = path_takes a.0.1 b.0 one.takes.rest_fits b.1 in
    let three = path_takes b.0.1 c.0 two.0.rest_fits c.1 in
    let front = head_bytes a.0.0.thread a.0.0.kind a.0.0.space in
    let tail = Takes-then a.0.1 (key_bytes b.0.0) b.0.1 (key_bytes c.0.0) c.0.1 two.0 three.0 in
    let all = Takes-then bytes front a.0.1 (key_bytes b.0.0 ++ key_bytes c.0.0) c.0.1 one.takes tail in
    let made = whole_of id a.0.0 b.0.0 c.0.0 in
    let same : bytes ≡ record_bytes made = all.parts ∙ ap (λ (l : List ℕ). (front ++ (key_bytes b.0.0 ++ key_bytes c.0.0)) ++ l) (empty_is c.0.1 first.0) ∙ append-nil (front ++ (key_bytes b.0.0 ++ key_bytes c.0.0)) in
    let is : IsRecord made = record { id = small; thread = eqb-true (id / 2 ^ 32) a.0.0.thread first.1; space = one.space; old_path = two.1; new_path = three.1; by_kind = by_kind a.0.0.kind c.0.0 second.1 } in
    subst (λ (v : LogRecord). IsOf id bytes v) g.1 (record { is_record = is; id_is = refl; bytes_are = same })

pub record_again : (item : LogRecord) → IsRecord item → record_at item.id (record_bytes item) ≡ Some item
unfolding record_at record_bytes
record_again item is =
    let small : item.thread < 2 ^ 32 = omega (arith, is.thread, is.id) in
    let last : path_at (key_bytes item.new_path) ≡ Some (item.new_path, []) = ap path_at (sym (append-nil (key_bytes item.new_path))) ∙ path_again item.new_path [] is.new_path in
    rw (
      head_again item.thread item.kind item.space (key_bytes item.old_path ++ key_bytes item.new_path) small is.space,
      path_again item.old_path (key_bytes item.new_path) is.old_path,
      last,
      eq-eqb (item.id / 2 ^ 32) item.thread is.thread,
      may_again item.kind item.new_path is.by_kind,
    ) refl

pub found : (id : ℕ) (bytes : List ℕ) (item : LogRecord) → id < 2 ^ 64 → IsBytes bytes → record_at id bytes ≡ Some item → IsRecord item × (item.id ≡ id) × (bytes ≡ record_bytes item)
found id bytes item small fits e = let it = record_takes id bytes item small fits e in (it.is_record, it.id_is, it.bytes_are)

again : (id : ℕ) (bytes : List ℕ) (item : LogRecord) → IsRecord item → item.id ≡ id → bytes ≡ record_bytes item → record_at id bytes ≡ Some item
again id bytes item is id_is same = ap (λ (n : ℕ). record_at n bytes) (sym id_is) ∙ ap (record_at item.id) same ∙ record_again item is

pub only : (id : ℕ) (bytes : List ℕ) (got item : LogRecord) → record_at id bytes ≡ Some got → IsRecord item → item.id ≡ id → bytes ≡ record_bytes item → got ≡ item
only id bytes got item e is id_is same = some_is got item (sym e ∙ again id bytes item is id_is same)

pub refused : (id : ℕ) (bytes : List ℕ) (item : LogRecord) → record_at id bytes ≡ None → IsRecord item → item.id ≡ id → bytes ≡ record_bytes item → ⊥
refused id bytes item e is id_is same = let x : record_at id bytes ≡ Some item = again id bytes item is id_is same in cc

pub not_text : (bytes : List ℕ) → (IsUtf8 bytes → ⊥) → is_utf8 bytes ≡ false
not_text bytes never = elim (cases_Bool (is_utf8 bytes)) [ inl is ↦ absurd (never (IsUtf8-from_is_utf8 bytes is)) | inr off ↦ off ]

-- a record that is made of the parts that were read
pub made : (id : ℕ) (head : Head) (old new a b : List ℕ) (item : LogRecord) (read : Option LogRecord) → Some (whole_of id head old new) ≡ read → a ≡ old → b ≡ new → item ≡ whole_of id head a b → read ≡ Some item
made id head old new a b item read was one two is = sym was ∙ ap Some (sym (is ∙ ap (λ (p : List ℕ). whole_of id head p b) one ∙ ap (λ (p : List ℕ). whole_of id head old p) two))

-- what is written, piece by piece
pub written : (before one two three a b : List ℕ) (item : LogRecord) → one ≡ before ++ head_bytes item.thread item.kind item.space → two ≡ one ++ key_bytes a → three ≡ two ++ key_bytes b → a ≡ item.old_path → b ≡ item.new_path → three ≡ before ++ record_bytes item
unfolding record_bytes
written before one two three a b item first second third a_is b_is =
    let head = head_bytes item.thread item.kind item.space in
    let old = key_bytes item.old_path in
    let new = key_bytes item.new_path in
    third ∙ ap (λ (l : List ℕ). two ++ key_bytes l) b_is
    ∙ ap (λ (l : List ℕ). l ++ new) (second ∙ ap (λ (l : List ℕ). one ++ key_bytes l) a_is ∙ ap (λ (l : List ℕ). l ++ old) first)
    ∙ append_assoc (before ++ head) old new
    ∙ append_assoc before head (old ++ new)
