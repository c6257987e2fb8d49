use Rattle.std.specs.Map.{keys_of}
use Rattle.std.proofs.lemmas.Map.Keys.{IsDistinct-cons}
use Rattle.shared_cache.specs.Fields.{key_eq}
use Rattle.shared_cache.proofs.Keys.{apart_from}
use Rattle.shared_cache.proofs.unused.rest.Goals as goal

pub returns-in-Ok-None-clause-apart : goal.returns-in-Ok-None-clause-apart
returns-in-Ok-None-clause-apart c = IsDistinct-cons key_eq c.args.key.now (keys_of c.args.unused.now.entries) (apart_from c.args.key.now (keys_of c.args.unused.now.entries) c.requires.absent) c.len.ensures.valid.0

pub returns-in-Ok-Some-clause-apart : goal.returns-in-Ok-Some-clause-apart
returns-in-Ok-Some-clause-apart c = IsDistinct-cons key_eq c.args.key.now (keys_of c.args.unused.now.entries) (apart_from c.args.key.now (keys_of c.args.unused.now.entries) c.requires.absent) c.len.ensures.valid.0

pub returns-in-Err-clause-apart : goal.returns-in-Err-clause-apart
returns-in-Err-clause-apart c = IsDistinct-cons key_eq c.args.key.now (keys_of c.args.unused.now.entries) (apart_from c.args.key.now (keys_of c.args.unused.now.entries) c.requires.absent) c.len.ensures.valid.0
