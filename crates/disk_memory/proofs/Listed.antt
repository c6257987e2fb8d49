-- The keys of a map of files, as its paths.
use Rattle.std.proofs.Common.{◌≡◌, ℕ, Bool, true, false, cond, ◌||◌, List, [], ◌∷◌, map, Option, Some, None, is_some, Vec, String, refl}
use Rattle.std.specs.Option.{option_map}
use Rattle.std.specs.Str.{bytes_eq}
use Rattle.std.specs.List.{AllByRecursion}
use Rattle.std.specs.List.Sorted.{IsStrictlySortedBy}
use Rattle.std.specs.Map.{lookup, keys_of}
use Rattle.std.specs.BTreeMap.{BTreeMap, keys, is_at}
use Rattle.std.specs.Cmp.Lexicographic.{slice_cmp}
use Rattle.std.specs.Ordering.{nat_cmp}
use Rattle.std.specs.String.{string_cmp, string_bytes}
use Rattle.std.specs.declared.alloc.Global.{Global}
use Rattle.std.specs.declared.cmp.Ordering.TheVariants.{Less}
use Rattle.std.proofs.lemmas.Map.Text.{is_eq-slice_cmp}
use Rattle.disk_trait.specs.Change.{is_in}
use Rattle.disk_trait.specs.Calls.{Lists}
use Rattle.disk_memory.specs.Record.{directory_of}

above : (k : String Global) (ks : List (String Global)) → AllByRecursion (λ y. string_cmp k y ≡ Less) ks → AllByRecursion (λ y. slice_cmp nat_cmp (string_bytes k) y ≡ Less) (map string_bytes ks)
above k [] all = tt
above k (x ∷ xs) all = (all.0, above k xs all.1)

sorted-bytes : (ks : List (String Global)) → IsStrictlySortedBy string_cmp ks → IsStrictlySortedBy (slice_cmp nat_cmp) (map string_bytes ks)
unfolding IsStrictlySortedBy
sorted-bytes [] sorted = tt
sorted-bytes (k ∷ ks) sorted = (above k ks sorted.0, sorted-bytes ks sorted.1)

found_or : (b r : Bool) (v : Vec ℕ Global) (rest : Option (Vec ℕ Global)) → r ≡ is_some (option_map (λ v. v.items) rest) → (b || r) ≡ is_some (option_map (λ v. v.items) (cond b (Some v) rest))
found_or true r v rest is = refl
found_or false r v rest is = is

each-there : (path : List ℕ) (es : List (String Global × Vec ℕ Global)) → is_in path (map string_bytes (keys_of es)) ≡ is_some (option_map (λ v. v.items) (lookup (is_at (λ k. slice_cmp nat_cmp path (string_bytes k))) es))
each-there path [] = refl
each-there path (e ∷ es) = rw (is_eq-slice_cmp path (string_bytes e.0)) (found_or (bytes_eq path (string_bytes e.0)) _ e.1 _ (each-there path es))

pub lists_keys : (m : BTreeMap (String Global) (Vec ℕ Global)) → IsStrictlySortedBy string_cmp (keys m) → Lists (map string_bytes (keys m)) (directory_of m)
lists_keys m sorted = record { sorted = sorted-bytes (keys m) sorted; each = λ path. each-there path m.entries }
