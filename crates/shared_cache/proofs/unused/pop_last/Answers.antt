use Rattle.std.proofs.Common.{◌-◌, length, ◌∙◌, ap}
use Rattle.std.specs.Map.{keys_of}
use Rattle.shared_cache.specs.Fields.{Unused}
use Rattle.shared_cache.proofs.Entries.{kept_taken, last_none, last_some}
use Rattle.shared_cache.proofs.unused.pop_last.Goals as goal

pub returns-in-Some-clause-kept : goal.returns-in-Some-clause-kept
returns-in-Some-clause-kept c = ap (λ (u : Unused). keys_of u.entries) c.pop_lru.ensures.entries ∙ kept_taken (length c.args.unused.now.entries - 1) c.args.unused.now.entries

pub returns-in-Some-clause-last : goal.returns-in-Some-clause-last
returns-in-Some-clause-last c = last_some c.args.unused.now.entries (c.in-Some.last, c.in-Some.field-0-1) c.in-Some.ensures.value

pub returns-in-None-clause-kept : goal.returns-in-None-clause-kept
returns-in-None-clause-kept c = ap (λ (u : Unused). keys_of u.entries) c.pop_lru.ensures.entries ∙ kept_taken (length c.args.unused.now.entries - 1) c.args.unused.now.entries

pub returns-in-None-clause-last : goal.returns-in-None-clause-last
returns-in-None-clause-last c = last_none c.args.unused.now.entries c.in-None.ensures.value
