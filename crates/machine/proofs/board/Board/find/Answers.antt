use Rattle.std.proofs.Common.{◌≡◌, ◌∙◌, ◌<◌, ◌+◌, sym, ap, subst, ℕ, Some, length, slice_get}
use Rattle.machine.specs.Boards.{BoardState}
use Rattle.machine.specs.Boards.Pieces.{pieces_at}
use Rattle.machine.proofs.BoardLemmas.PieceLemmas.{get_among, past_next}
use Rattle.machine.proofs.board.Board.find.Goals as goal

pub returns-in-Ok-clause-found : goal.returns-in-Ok-clause-found
returns-in-Ok-clause-found g c =
    let times = g.T.PartialOrder.times in
    let b = c.args.self.now in
    let here = pieces_at times b c.args.worker in
    let end : c.len-n-end.result ≡ length b.dataflow.nodes = c.len-n-end.ensures.len ∙ ap length c.plan.ensures in
    let found = subst (λ (z : BoardState g.row.T.Denot). slice_get (pieces_at times z c.args.worker c.new.result) c.loop-n.left ≡ Some c.in-Ok.piece) c.loop-n.invariant.kept c.in-Ok.ensures.found in
    get_among here c.loop-n.n (length b.dataflow.nodes) c.args.number c.loop-n.left c.in-Ok.piece
    (subst (λ (m : ℕ). c.loop-n.n < m) end c.loop-n-test.true)
    c.loop-n.invariant.past
    (ap (λ (n : ℕ). slice_get (here n) c.loop-n.left) (sym c.new.ensures) ∙ found)

pub loop-n-preserved : goal.loop-n-preserved
loop-n-preserved g c =
    let times = g.T.PartialOrder.times in
    let here = pieces_at times c.args.self.now c.args.worker in
    record {
      kept = c.find_at.ensures.kept ∙ c.loop-n.invariant.kept;
      past = past_next here c.loop-n.n c.args.number c.loop-n.left c.in-Err.rest c.loop-n.invariant.past
          (c.in-Err.ensures.past
          ∙ (ap (λ (z : BoardState g.row.T.Denot). length (pieces_at times z c.args.worker c.new.result) + c.in-Err.rest) c.loop-n.invariant.kept
          ∙ ap (λ (n : ℕ). length (here n) + c.in-Err.rest) c.new.ensures));
    }
