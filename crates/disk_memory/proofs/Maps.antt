-- A map of files as a directory.
use Rattle.std.proofs.Common.{◌≡◌, ◌⊎◌, inl, inr, ℕ, ◌+◌, ◌-◌, ◌<◌, ◌≤◌, min, Bool, true, false, cond, List, [], ◌∷◌, ◌++◌, length, take, drop, Option, Some, None, is_some, is_eq, vec_len, Vec, String, Result, Ok, Err, MatchResult, IfOk, refl, sym, ◌∙◌, ap, subst, arith}
use Rattle.std.specs.Option.{option_map, unwrap_or}
use Rattle.std.specs.Str.{bytes_eq}
use Rattle.std.specs.Map.{update, lookup}
use Rattle.std.specs.BTreeMap.{BTreeMap, get_by_text, is_at, UpdatesBy}
use Rattle.std.specs.List.{AllZip}
use Rattle.std.specs.Cmp.Lexicographic.{slice_cmp}
use Rattle.std.specs.Ordering.{nat_cmp}
use Rattle.std.specs.String.{string_cmp, string_bytes}
use Rattle.std.specs.declared.alloc.Global.{Global}
use Rattle.std.specs.declared.alloc.AllocError.{AllocError}
use Rattle.std.proofs.lemmas.Map.Text.{btree_map_updates_text}
use Rattle.disk_trait.specs.Change.{linked, relinked}
use Rattle.disk_trait.proofs.Paths.{update-here, update-off, by_path, same_path}
use Rattle.disk_trait.proofs.Follows.{relinked_same, apart-sym}
use Rattle.disk_memory.specs.Record.{directory_of}

abbrev pub Contents : Type 0
Contents = BTreeMap (String Global) (Vec ℕ Global)

map_cond : (b : Bool) (w x : Option (Vec ℕ Global)) → option_map (λ v. v.items) (cond b w x) ≡ cond b (option_map (λ v. v.items) w) (option_map (λ v. v.items) x)
map_cond true w x = refl
map_cond false w x = refl

pub directory-update : (path : List ℕ) (m n : Contents) (w : Option (Vec ℕ Global)) → UpdatesBy string_cmp (λ k. slice_cmp nat_cmp path (string_bytes k)) m n w → (q : List ℕ) → directory_of n q ≡ update bytes_eq (directory_of m) path (option_map (λ v. v.items) w) q
directory-update path m n w updates q = ap (option_map (λ v. v.items)) (btree_map_updates_text path m n w updates q) ∙ map_cond (bytes_eq path q) w (get_by_text m q)

no_some : {X : Type 0} (o : Option X) → is_some o ≡ false → o ≡ None
no_some None is = refl
no_some (Some x) is = absurd (cc)

-- a file that wasn't there
pub directory-create : (path : List ℕ) (key : String Global) (m n : Contents) (v : Vec ℕ Global) → string_bytes key ≡ path → v.items ≡ [] → is_some (get_by_text m path) ≡ false → UpdatesBy string_cmp (string_cmp key) m n (Some v) → (q : List ℕ) → directory_of n q ≡ linked [] path (directory_of m) q
directory-create path key m n v is empty free updates q =
    let none : directory_of m path ≡ None = ap (option_map (λ v. v.items)) (no_some (get_by_text m path) free) in
    directory-update (string_bytes key) m n (Some v) updates q
    ∙ ap (λ (p : List ℕ). update bytes_eq (directory_of m) p (Some v.items) q) is
    ∙ ap (λ (b : List ℕ). update bytes_eq (directory_of m) path (Some b) q) empty
    ∙ sym (ap (λ (o : Option (List ℕ)). update bytes_eq (directory_of m) path (Some (unwrap_or o [])) q) none)

-- a file that is written
pub directory-write : (path : List ℕ) (m n : Contents) (old new : Vec ℕ Global) (f : List ℕ → List ℕ) → get_by_text m path ≡ Some old → new.items ≡ f old.items → UpdatesBy string_cmp (λ k. slice_cmp nat_cmp path (string_bytes k)) m n (Some new)
    → (q : List ℕ) → directory_of n q ≡ update bytes_eq (directory_of m) path (option_map f (directory_of m path)) q
directory-write path m n old new f there is updates q =
    directory-update path m n (Some new) updates q
    ∙ ap (λ (b : List ℕ). update bytes_eq (directory_of m) path (Some b) q) is
    ∙ sym (ap (λ (o : Option (Vec ℕ Global)). update bytes_eq (directory_of m) path (option_map f (option_map (λ v. v.items) o)) q) there)

pub directory-same : (path : List ℕ) (m n : Contents) (old new : Vec ℕ Global) → get_by_text m path ≡ Some old → new.items ≡ old.items → UpdatesBy string_cmp (λ k. slice_cmp nat_cmp path (string_bytes k)) m n (Some new) → (q : List ℕ) → directory_of n q ≡ directory_of m q
directory-same path m n old new there is updates =
    let d = directory_of m in
    by_path path (λ q. directory_of n q ≡ d q)
    (directory-update path m n (Some new) updates path ∙ update-here d path (Some new.items) ∙ ap Some is ∙ sym (ap (option_map (λ v. v.items)) there))
    (λ q apart. directory-update path m n (Some new) updates q ∙ update-off d path (Some new.items) q apart)

-- a file that is put in the place of any other
pub directory-put : (path : List ℕ) (key : String Global) (m n : Contents) (v : Vec ℕ Global) (bytes : List ℕ) → string_bytes key ≡ path → v.items ≡ bytes → UpdatesBy string_cmp (string_cmp key) m n (Some v) → (q : List ℕ) → directory_of n q ≡ update bytes_eq (directory_of m) path (Some bytes) q
directory-put path key m n v bytes is same updates q =
    directory-update (string_bytes key) m n (Some v) updates q
    ∙ ap (λ (p : List ℕ). update bytes_eq (directory_of m) p (Some v.items) q) is
    ∙ ap (λ (b : List ℕ). update bytes_eq (directory_of m) path (Some b) q) same

-- a file that gets another path, at which a file is
pub directory-over : (from to : List ℕ) (m mid n : Contents) (file : Vec ℕ Global) → get_by_text m from ≡ Some file → UpdatesBy string_cmp (λ k. slice_cmp nat_cmp from (string_bytes k)) m mid None
    → ((q : List ℕ) → directory_of n q ≡ update bytes_eq (directory_of mid) to (Some file.items) q) → (q : List ℕ) → directory_of n q ≡ relinked (directory_of m from) from to (directory_of m) q
directory-over from to m mid n file there gone is q =
    is q
    ∙ ap (λ (f : List ℕ → Option (List ℕ)). update bytes_eq f to (Some file.items) q) (λ i r. directory-update from m mid None gone r i)
    ∙ sym (ap (λ (o : Option (Vec ℕ Global)). relinked (option_map (λ v. v.items) o) from to (directory_of m) q) there)

-- a file that gets another path, once an empty file was made there where none was
pub moved-over : (from to : List ℕ) (m mid n : List ℕ → Option (List ℕ)) (bytes : List ℕ) → m from ≡ Some bytes → bytes_eq from to ≡ false
    → ((q : List ℕ) → mid q ≡ linked [] to m q) → ((q : List ℕ) → n q ≡ relinked (mid from) from to mid q) → (q : List ℕ) → n q ≡ relinked (m from) from to m q
moved-over from to m mid n bytes there apart makes moves q =
    let off : (r : List ℕ) → bytes_eq to r ≡ false → mid r ≡ m r = λ r away. makes r ∙ update-off m to (Some (unwrap_or (m to) [])) r away in
    let kept : mid from ≡ Some bytes = off from (apart-sym from to apart) ∙ there in
    moves q
    ∙ ap (λ (o : Option (List ℕ)). relinked o from to mid q) kept
    ∙ by_path to (λ r. update bytes_eq (update bytes_eq mid from None) to (Some bytes) r ≡ update bytes_eq (update bytes_eq m from None) to (Some bytes) r)
    (update-here (update bytes_eq mid from None) to (Some bytes) ∙ sym (update-here (update bytes_eq m from None) to (Some bytes)))
    (λ r away. update-off (update bytes_eq mid from None) to (Some bytes) r away ∙ ap (cond (bytes_eq from r) None) (off r away) ∙ sym (update-off (update bytes_eq m from None) to (Some bytes) r away))
    q
    ∙ sym (ap (λ (o : Option (List ℕ)). relinked o from to m q) there)

-- to its own path a file is unchanged
pub moved-same : (from to : List ℕ) (m : List ℕ → Option (List ℕ)) → bytes_eq from to ≡ true → (q : List ℕ) → m q ≡ relinked (m from) from to m q
moved-same from to m same q = sym (subst (λ (p : List ℕ). relinked (m from) from p m q ≡ m q) (same_path from to same) (relinked_same m from (m from) refl q))

-- what is there
pub there_some : (o : Option (List ℕ)) → is_some o ≡ true → (bytes : List ℕ) × (o ≡ Some bytes)
there_some None is = absurd (cc)
there_some (Some bytes) is = (bytes, refl)

zip_same : (xs ys : List ℕ) → AllZip (λ x y. y ≡ x) xs ys → ys ≡ xs
zip_same [] [] zip = refl
zip_same [] (y ∷ ys) zip = absurd zip
zip_same (x ∷ xs) [] zip = absurd zip
zip_same (x ∷ xs) (y ∷ ys) zip = λ i. zip.0 i ∷ zip_same xs ys zip.1 i

abbrev Entries : Type 0
Entries = List (String Global × Vec ℕ Global)

abbrev found : List ℕ → Entries → Option (List ℕ)
found path es = option_map (λ v. v.items) (lookup (is_at (λ k. slice_cmp nat_cmp path (string_bytes k))) es)

abbrev ClonedEntry : String Global × Vec ℕ Global → String Global × Vec ℕ Global → Type 0
ClonedEntry p q = (string_bytes q.0 ≡ string_bytes p.0) × (AllZip (λ x y. y ≡ x) p.1.items q.1.items × (vec_len q.1 ≡ vec_len p.1))

pub found_clone : (path : List ℕ) (es fs : Entries) → AllZip ClonedEntry es fs → found path fs ≡ found path es
found_clone path [] [] zip = refl
found_clone path [] (f ∷ fs) zip = absurd zip
found_clone path (e ∷ es) [] zip = absurd zip
found_clone path (e ∷ es) (f ∷ fs) zip =
    let here = zip.0 in
    let same = zip_same e.1.items f.1.items here.1.0 in
    let rest = found_clone path es fs zip.1 in
    let test : String Global → Bool = is_at (λ k. slice_cmp nat_cmp path (string_bytes k)) in
    map_cond (test f.0) (Some f.1) (lookup test fs)
    ∙ (λ i. cond (is_eq (slice_cmp nat_cmp path (here.0 i))) (Some (same i)) (rest i))
    ∙ sym (map_cond (test e.0) (Some e.1) (lookup test es))
