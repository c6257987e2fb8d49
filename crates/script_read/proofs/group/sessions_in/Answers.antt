use Rattle.std.proofs.Common.{◌≡◌, ℕ, List, [], ◌∷◌, ◌++◌, sym, ap, subst, ◌∙◌, append_assoc, Option}
use Rattle.std.specs.Prelude.{MatchOption}
use Rattle.std.proofs.lemmas.List.Elements.{All-rest}
use Rattle.script_cut.specs.declared.item.Item.{Item}
use Rattle.script_cut.specs.Items.{IsItemOf}
use Rattle.script_read.specs.declared.script.Script.{Script}
use Rattle.script_read.specs.Scripts.{sessions_in}
use Rattle.script_read.proofs.group.sessions_in.Goals as goal

skips : (text : List ℕ) (found total : List Script) (left rest : List Item) (item : Item) → left ≡ item ∷ rest → sessions_in text (item ∷ rest) ≡ sessions_in text rest
    → found ++ sessions_in text left ≡ total → found ++ sessions_in text rest ≡ total
skips text found total left rest item is none so_far = ap (λ more. found ++ more) (sym none ∙ ap (sessions_in text) (sym is)) ∙ so_far

adds : (text : List ℕ) (found total : List Script) (left rest : List Item) (item : Item) (script : Script) → left ≡ item ∷ rest → sessions_in text (item ∷ rest) ≡ script ∷ sessions_in text rest
    → found ++ sessions_in text left ≡ total → (found ++ script ∷ []) ++ sessions_in text rest ≡ total
adds text found total left rest item script is one so_far =
    append_assoc found (script ∷ []) (sessions_in text rest) ∙ ap (λ more. found ++ more) (sym one ∙ ap (sessions_in text) (sym is)) ∙ so_far

abbrev Means : List ℕ → Item → List Item → Option Script → Type 0
Means text item rest found =
    MatchOption found (sessions_in text (item ∷ rest) ≡ sessions_in text rest) (λ script. sessions_in text (item ∷ rest) ≡ script ∷ sessions_in text rest)

pub items-preserved : goal.items-preserved
items-preserved c =
    let text = c.args.text.now in
    let item = c.in-Some.item.now in
    let rest = c.in-Some.rest.now in
    let is = c.in-Some.ensures.cases.0 in
    let none = subst (Means text item rest) c.in_default-2.is c.in_ok-script.ensures in
    record { so_far = skips text c.items.found _ c.items.left.now rest item is none c.items.invariant.so_far; each = All-rest (IsItemOf text) item rest c.items.left.now is c.items.invariant.each }

pub items-preserved-in_ok-push : goal.items-preserved-in_ok-push
items-preserved-in_ok-push c =
    let text = c.args.text.now in
    let item = c.in-Some.item.now in
    let rest = c.in-Some.rest.now in
    let is = c.in-Some.ensures.cases.0 in
    let one = subst (Means text item rest) c.in-Some-2.is c.in_ok-script.ensures in
    let so_far = adds text c.items.found _ c.items.left.now rest item c.in-Some-2.script is one c.items.invariant.so_far in
    record { so_far = ap (λ found. found ++ sessions_in text rest) c.in_ok-push.ensures.ok ∙ so_far; each = All-rest (IsItemOf text) item rest c.items.left.now is c.items.invariant.each }
