use Rattle.std.proofs.Common.{List, refl, sym, subst}
use Rattle.rules_outcome.specs.declared.decided.Edit.{Edit}
use Rattle.rules_named.specs.Answers.{AllBefore, AllIds}
use Rattle.rules_schema.proofs.schemas.create_database.Goals as goal

pub returns-clause-before : goal.returns-clause-before
returns-clause-before g c =
    let known = g.L.Lookup.known c.args.look.now in
    let empty : AllBefore known c.new-puts.result = rw c.new-puts.ensures tt in
    let absent = c.in_ok-is_schema_present.ensures.known c.if-branch.false in
    let all = c.in_ok-add_edit.ensures.before known empty (rw (c.in_ok-copy.ensures, absent) refl) in
    subst (λ (edits : List Edit). AllBefore known edits) (sym c.puts-2.view_is) all

pub returns-clause-ids : goal.returns-clause-ids
returns-clause-ids g c =
    let known = g.L.Lookup.known c.args.look.now in
    let empty : AllIds known c.new-puts.result = rw c.new-puts.ensures tt in
    let all = c.in_ok-add_edit.ensures.ids known empty tt in
    subst (λ (edits : List Edit). AllIds known edits) (sym c.puts-2.view_is) all
