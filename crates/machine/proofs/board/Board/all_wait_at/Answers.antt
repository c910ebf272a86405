use Rattle.std.proofs.Common.{◌∙◌, ◌<◌, sym, ap, subst, ℕ, Bool}
use Rattle.std.specs.List.{list_all}
use Rattle.lattice.specs.Frontiers.{is_beyond}
use Rattle.machine.specs.Boards.{BoardState}
use Rattle.outstanding.specs.Loads.{lot_of}
use Rattle.machine.specs.Boards.Reads.{input_front, is_ready}
use Rattle.outstanding.proofs.OpenLemmas.{all_next, all_fails}
use Rattle.machine.proofs.BoardLemmas.FrontLemmas.{unready}
use Rattle.machine.proofs.board.Board.all_wait_at.Goals as goal

pub returns-then-is_ready-clause-value : goal.returns-then-is_ready-clause-value
returns-then-is_ready-clause-value g c =
    let b = c.args.self.now in
    let w = c.loop-worker.worker in
    let times = g.T.PartialOrder.times in
    let waits : ℕ → Bool = λ k. list_all (is_beyond times (input_front times b c.args.node)) (lot_of b.stations c.args.node k).held in
    let within : w < b.dataflow.workers = subst (λ (z : BoardState g.row.T.Denot). w < z.dataflow.workers) c.self.view_is c.loop-worker-test.true in
    let ready = ap (λ (z : BoardState g.row.T.Denot). is_ready times z w c.args.node) (sym c.loop-worker.invariant.kept) ∙ (sym c.is_ready.ensures.value ∙ c.if-is_ready.true) in
    sym (all_fails waits w b.dataflow.workers within (unready times g.met.T.PartialOrder.order b w c.args.node _ ready))

pub loop-worker-preserved : goal.loop-worker-preserved
loop-worker-preserved g c =
    let b = c.args.self.now in
    let w = c.loop-worker.worker in
    let times = g.T.PartialOrder.times in
    let waits : ℕ → Bool = λ k. list_all (is_beyond times (input_front times b c.args.node)) (lot_of b.stations c.args.node k).held in
    let ready = ap (λ (z : BoardState g.row.T.Denot). is_ready times z w c.args.node) (sym c.loop-worker.invariant.kept) ∙ (sym c.is_ready.ensures.value ∙ c.if-is_ready.false) in
    record {
      kept = c.is_ready.ensures.kept ∙ c.loop-worker.invariant.kept;
      waits = all_next waits w c.loop-worker.invariant.waits (unready times g.met.T.PartialOrder.order b w c.args.node _ ready);
    }
