use Rattle.std.proofs.Common.{◌∷◌, [], sym, ◌∙◌, ap}
use Rattle.std.specs.Prelude.{reverse}
use Rattle.std.proofs.lemmas.List.{reverse-append, reverse-reverse}
use Rattle.rules_rename.specs.Puts.{put_all}
use Rattle.rules_rename.proofs.all_pairs.put_all.Goals as goal

pub rest-init : goal.rest-init
rest-init c = ap (λ l. put_all l c.args.overlay.now) (ap reverse c.reverse.ensures.items ∙ reverse-reverse c.into_vec-rest.result.items ∙ c.into_vec-rest.ensures)

pub rest-preserved : goal.rest-preserved
rest-preserved c =
    ap (put_all (reverse c.pop.new.self.items)) c.in_ok-put.ensures ∙ sym (ap (λ l. put_all l c.rest.overlay) (ap reverse c.in-Some.ensures.items ∙ reverse-append c.pop.new.self.items ((c.in-Some.name, c.in-Some.left) ∷ []))) ∙ c.rest.invariant
