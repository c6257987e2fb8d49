use Rattle.std.proofs.Common.{ap, subst, ℕ, List, [], ◌++◌, All, arith}
use Rattle.std.proofs.lemmas.List.Elements.{All-nil, All-push, All-same}
use Rattle.std.proofs.lemmas.Str.{IsCharBoundary-start}
use Rattle.script_cut.specs.declared.moves.Move.TheVariants.{Goes, Makes, Ends}
use Rattle.script_cut.specs.Items.{items_of, IsItemOf}
use Rattle.script_cut.proofs.Moved.{more_of, turns, goes_on, makes_one}
use Rattle.script_cut.proofs.cut.items.Goals as goal

pub pieces-init : goal.pieces-init
unfolding items_of
pieces-init c =
    let text = c.as_bytes-bytes.result.now in
    let empty = c.new-items.ensures.items in
    record {
      so_far = ap (λ x. x ++ items_of text) empty;
      place = omega arith;
      stands = IsCharBoundary-start text c.as_bytes-bytes.ensures.utf8;
      each = All-same (IsItemOf text) _ [] empty (All-nil (IsItemOf text));
    }

pub pieces-preserved-in-Goes : goal.pieces-preserved-in-Goes
pieces-preserved-in-Goes c =
    let text = c.as_bytes-bytes.result.now in
    let t = turns (Goes c.in-Goes.next) text c.pieces.state c.pieces.at c.piece_at-piece.result c.is_inside.result c.in-Goes.ensures c.is_inside.ensures c.as_bytes-bytes.ensures.utf8 c.pieces-test.true c.piece_at-piece.ensures.piece c.pieces.invariant.stands in
    record {
      so_far = goes_on c.pieces.items.items _ (items_of text) _ c.pieces.invariant.so_far t.comes;
      place = c.piece_at-piece.ensures.within;
      stands = t.stands;
      each = c.pieces.invariant.each;
    }

pub pieces-preserved : goal.pieces-preserved
pieces-preserved c =
    let text = c.as_bytes-bytes.result.now in
    let item = c.in-Makes.item in
    let t = turns (Makes item) text c.pieces.state c.pieces.at c.piece_at-piece.result c.is_inside.result c.in-Makes.ensures c.is_inside.ensures c.as_bytes-bytes.ensures.utf8 c.pieces-test.true c.piece_at-piece.ensures.piece c.pieces.invariant.stands in
    let pushed = c.in_ok-push-in-Makes.ensures.items in
    record {
      so_far = rw pushed (makes_one c.pieces.items.items _ (items_of text) _ item c.pieces.invariant.so_far t.comes);
      place = c.piece_at-piece.ensures.within;
      stands = t.stands.1;
      each = All-same (IsItemOf text) _ _ pushed (All-push (IsItemOf text) c.pieces.items.items item c.pieces.invariant.each t.stands.0);
    }

pub returns-in-Ends-clause-places : goal.returns-in-Ends-clause-places
returns-in-Ends-clause-places c =
    let text = c.as_bytes-bytes.result.now in
    let item = c.in-Ends.item in
    let t = turns (Ends item) text c.pieces.state c.pieces.at c.piece_at-piece.result c.is_inside.result c.in-Ends.ensures c.is_inside.ensures c.as_bytes-bytes.ensures.utf8 c.pieces-test.true c.piece_at-piece.ensures.piece c.pieces.invariant.stands in
    subst (λ (bytes : List ℕ). All (IsItemOf bytes) c.push-in-Ends.new.self.items) c.as_bytes-bytes.ensures.value (All-same (IsItemOf text) _ _ c.in_ok-push-in-Ends.ensures.items (All-push (IsItemOf text) c.pieces.items.items item c.pieces.invariant.each t.stands))
