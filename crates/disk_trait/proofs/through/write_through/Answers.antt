use Rattle.std.proofs.Common.{inl, Option, length, sym, ◌∙◌, subst}
use Rattle.disk_trait.specs.Story.{Story, WhereTold}
use Rattle.disk_trait.specs.Calls.{IsThere}
use Rattle.disk_trait.specs.Carried.{Same, Wrote}
use Rattle.disk_trait.proofs.Acts.{writes, settles, then_by, wrote_on, was_done, there_after}
use Rattle.disk_trait.proofs.Turning.{write_turns, sync_turns}
use Rattle.disk_trait.proofs.through.write_through.Goals as goal

pub returns-then-is_err-clause-carries : goal.returns-then-is_err-clause-carries
returns-then-is_err-clause-carries g c = writes _ _ _ _ _ c.args.path.now c.args.at c.args.bytes.now c.write_at.ensures.acts c.write_at.ensures.passes.onward

pub returns-then-is_err-clause-turns : goal.returns-then-is_err-clause-turns
returns-then-is_err-clause-turns g c = write_turns _ _ _ _ c.args.path.now c.args.at c.args.bytes.now c.write_at.ensures.acts

pub sync-requires : goal.sync-requires
sync-requires g c =
    let d = was_done _ _ _ _ _ _ c.write_at.ensures.acts (sym c.is_err.ensures.value ∙ c.if-is_err.false) in
    subst (λ (s : Option Story). WhereTold s (IsThere c.args.path.now)) (sym d) (there_after _ _ _ c.args.at c.args.bytes.now c.requires)

pub returns-then-is_err-2-clause-carries : goal.returns-then-is_err-2-clause-carries
returns-then-is_err-2-clause-carries g c =
    then_by (Wrote c.args.path.now (inl (c.args.at, length c.args.bytes.now))) Same (Wrote c.args.path.now (inl (c.args.at, length c.args.bytes.now))) _ _ _ _ _ _
    (λ d e from it. it) (λ d e f from it mid same. wrote_on _ _ d e f it same)
    (writes _ _ _ _ _ c.args.path.now c.args.at c.args.bytes.now c.write_at.ensures.acts c.write_at.ensures.passes.onward)
    (settles _ _ _ _ _ c.args.path.now ((g.met.D.Disk g.world.𝓛 g.world.𝓜 g.world.𝓡 ((λ s x. x), (λ x. x), (λ x. x), λ x. x)).sound c.write_at.new.self) c.sync.ensures.acts c.sync.ensures.passes.onward)

pub returns-then-is_err-2-clause-turns : goal.returns-then-is_err-2-clause-turns
returns-then-is_err-2-clause-turns g c =
    let one = write_turns _ _ _ _ c.args.path.now c.args.at c.args.bytes.now c.write_at.ensures.acts in
    sync_turns (Wrote c.args.path.now (inl (c.args.at, length c.args.bytes.now))) _ _ _ _ _ c.args.path.now c.sync.ensures.acts one

pub returns-clause-carries : goal.returns-clause-carries
returns-clause-carries g c =
    then_by (Wrote c.args.path.now (inl (c.args.at, length c.args.bytes.now))) Same (Wrote c.args.path.now (inl (c.args.at, length c.args.bytes.now))) _ _ _ _ _ _
    (λ d e from it. it) (λ d e f from it mid same. wrote_on _ _ d e f it same)
    (writes _ _ _ _ _ c.args.path.now c.args.at c.args.bytes.now c.write_at.ensures.acts c.write_at.ensures.passes.onward)
    (settles _ _ _ _ _ c.args.path.now ((g.met.D.Disk g.world.𝓛 g.world.𝓜 g.world.𝓡 ((λ s x. x), (λ x. x), (λ x. x), λ x. x)).sound c.write_at.new.self) c.sync.ensures.acts c.sync.ensures.passes.onward)

pub returns-clause-turns : goal.returns-clause-turns
returns-clause-turns g c =
    let one = write_turns _ _ _ _ c.args.path.now c.args.at c.args.bytes.now c.write_at.ensures.acts in
    sync_turns (Wrote c.args.path.now (inl (c.args.at, length c.args.bytes.now))) _ _ _ _ _ c.args.path.now c.sync.ensures.acts one
