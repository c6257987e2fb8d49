use Rattle.std.proofs.Common.{◌≡◌, ℕ, List, [], ◌∷◌, map, String, Bor, refl, sym, ◌∙◌, ap, subst}
use Rattle.std.specs.String.{string_bytes}
use Rattle.std.specs.BTreeMap.{keys}
use Rattle.std.specs.declared.alloc.Global.{Global}
use Rattle.std.proofs.lemmas.Iterator.Consumers.{YieldsList-from_rest, YieldsList-end}
use Rattle.disk_trait.specs.Calls.{Lists}
use Rattle.disk_memory.specs.Record.{directory_of}
use Rattle.disk_memory.proofs.Listed.{lists_keys}
use Rattle.disk_memory.proofs.listing.paths.Goals as goal

as_bytes : (ks : List (Bor (String Global))) → map (λ k. string_bytes k.now) ks ≡ map string_bytes (map (λ k. k.now) ks)
as_bytes [] = refl
as_bytes (k ∷ ks) = ap (λ (rest : List (List ℕ)). string_bytes k.now ∷ rest) (as_bytes ks)

pub returns : goal.returns
returns c =
    let files = c.args.files.now in
    let all = YieldsList-end (YieldsList-from_rest {shows = λ (k : Bor (String Global)). k.now} (keys files) (c.into_iter-path-iterator.ensures.into_iter_gives ∙ c.keys-path-items.ensures.rest)) c.paths.yielded _ c.paths.yielded_by _ _ c.in-None.is c.next.ensures.steps in
    subst (λ (paths : List (List ℕ)). Lists paths (directory_of files)) (sym (c.paths.invariant ∙ as_bytes c.paths.yielded ∙ ap (map string_bytes) all.0)) (lists_keys files c.keys-path-items.ensures.ordered)
