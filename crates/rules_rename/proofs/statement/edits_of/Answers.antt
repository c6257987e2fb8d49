use Rattle.std.proofs.Common.{◌≡◌, ◌∷◌, [], ◌++◌, map, sym, ◌∙◌, ap, append_assoc, subst}
use Rattle.std.specs.Prelude.{reverse, List}
use Rattle.std.proofs.lemmas.List.{reverse-append, reverse-reverse}
use Rattle.rules_outcome.specs.declared.decided.Edit.{Edit}
use Rattle.rules_rename.specs.Puts.{Put, AreKnown}
use Rattle.rules_rename.specs.Pairs.{edit_of}
use Rattle.rules_rename.proofs.statement.edits_of.Goals as goal

pub rest-init : goal.rest-init
rest-init g c =
    let known = g.L.Lookup.known c.args.look.now in
    let all : reverse c.reverse.new.self.items ≡ c.args.overlay = ap reverse c.reverse.ensures.items ∙ reverse-reverse c.in_ok-rest.rest.items ∙ c.in_ok-rest.ensures.value in
    record {
      edits = ap (λ es. es ++ map (edit_of known) (reverse c.reverse.new.self.items)) c.new-edits.ensures ∙ ap (map (edit_of known)) all;
      known = λ are. subst (AreKnown known) all are;
    }

pub rest-preserved : goal.rest-preserved
rest-preserved g c =
    let known = g.L.Lookup.known c.args.look.now in
    let put : Put = (c.in-Some.name, c.in-Some.after) in
    let all : reverse c.rest.rest.items ≡ put ∷ reverse c.pop.new.self.items = ap reverse c.in-Some.ensures.items ∙ reverse-append c.pop.new.self.items (put ∷ []) in
    record {
      edits = ap (λ es. es ++ map (edit_of known) (reverse c.pop.new.self.items)) (c.in_ok-push.ensures.ok ∙ ap (λ (e : Edit). c.rest.edits ++ e ∷ []) c.in_ok-edit_of.ensures.edit)
          ∙ append_assoc c.rest.edits (edit_of known put ∷ []) (map (edit_of known) (reverse c.pop.new.self.items))
          ∙ sym (ap (λ l. c.rest.edits ++ map (edit_of known) l) all) ∙ c.rest.invariant.edits;
      known = λ are. c.rest.invariant.known (subst (AreKnown known) (sym all) (c.in_ok-edit_of.ensures.known, are));
    }
