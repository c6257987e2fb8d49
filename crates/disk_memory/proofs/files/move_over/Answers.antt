use Rattle.std.proofs.Common.{None, is_some, sym, ◌∙◌, ap}
use Rattle.disk_trait.proofs.Paths.{update-off}
use Rattle.disk_memory.specs.Record.{directory_of}
use Rattle.disk_memory.proofs.Maps.{directory-update, directory-over}
use Rattle.disk_memory.proofs.files.move_over.Goals as goal

pub replace-requires : goal.replace-requires
replace-requires c =
    ap is_some
    (directory-update c.args.from.now c.args.files.now c.remove.new.self None c.remove.ensures.updates c.args.to.now
    ∙ update-off (directory_of c.args.files.now) c.args.from.now None c.args.to.now c.requires.apart)
    ∙ c.requires.there

pub returns-in-Some : goal.returns-in-Some
returns-in-Some c = λ q. directory-over c.args.from.now c.args.to.now c.args.files.now c.remove.new.self c.replace.new.files c.in-Some.bytes (sym c.in-Some.ensures.value) c.remove.ensures.updates c.replace.ensures q
