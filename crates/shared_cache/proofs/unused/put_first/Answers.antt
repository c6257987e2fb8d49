use Rattle.std.proofs.Common.{rules, ℕ, List, ◌∷◌, take, drop, ◌∙◌, ap, sym, arith}
use Rattle.std.specs.Map.{keys_of}
use Rattle.dd_names.specs.declared.object_name.ObjectKey.{ObjectKey}
use Rattle.shared_cache.proofs.Entries.{all_kept, none_left, one_over, within}
use Rattle.shared_cache.proofs.unused.put_first.Goals as goal

pub returns-in-true-clause-kept : goal.returns-in-true-clause-kept
returns-in-true-clause-kept c =
    c.pop_last.ensures.kept
    ∙ ap (λ (n : ℕ). take n (keys_of c.add_first.new.unused.entries)) (one_over c.args.unused.now.entries c.add_first.new.unused.entries c.args.capacity c.args.key.now c.in_ok-add_first.ensures.added c.requires.fits (grind (arith, rules, c.in-true.is, c.len.ensures.len)))
    ∙ ap (λ (keys : List ObjectKey). take c.args.capacity keys) c.in_ok-add_first.ensures.added

pub returns-in-true-clause-last : goal.returns-in-true-clause-last
returns-in-true-clause-last c =
    sym (ap (λ (n : ℕ). drop n (keys_of c.add_first.new.unused.entries)) (one_over c.args.unused.now.entries c.add_first.new.unused.entries c.args.capacity c.args.key.now c.in_ok-add_first.ensures.added c.requires.fits (grind (arith, rules, c.in-true.is, c.len.ensures.len)))
    ∙ ap (λ (keys : List ObjectKey). drop c.args.capacity keys) c.in_ok-add_first.ensures.added)
    ∙ c.pop_last.ensures.last

pub returns-in-false-clause-kept : goal.returns-in-false-clause-kept
returns-in-false-clause-kept c =
    c.in_ok-add_first.ensures.added ∙ all_kept c.args.capacity (c.args.key.now ∷ keys_of c.args.unused.now.entries)
    (within c.args.unused.now.entries c.add_first.new.unused.entries c.args.capacity c.args.key.now c.in_ok-add_first.ensures.added (grind (arith, rules, c.in-false.is, c.len.ensures.len)))

pub returns-in-false-clause-last : goal.returns-in-false-clause-last
returns-in-false-clause-last c =
    none_left c.args.capacity (c.args.key.now ∷ keys_of c.args.unused.now.entries)
    (within c.args.unused.now.entries c.add_first.new.unused.entries c.args.capacity c.args.key.now c.in_ok-add_first.ensures.added (grind (arith, rules, c.in-false.is, c.len.ensures.len)))
