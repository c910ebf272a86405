use Rattle.std.proofs.Common.{◌≡◌, ◌∙◌, ◌<◌, sym, ap, subst, ℕ, Bool, length, arith}
use Rattle.std.specs.List.{list_all}
use Rattle.lattice.specs.Frontiers.{is_beyond}
use Rattle.plan.specs.Ancestors.{numbers_below}
use Rattle.machine.specs.Boards.{BoardState}
use Rattle.outstanding.specs.Loads.{lot_of}
use Rattle.machine.specs.Boards.Reads.{input_front}
use Rattle.machine.proofs.BoardLemmas.FrontLemmas.{wait_found}
use Rattle.outstanding.proofs.OpenLemmas.{all_next, all_fails}
use Rattle.machine.proofs.board.Board.all_wait.Goals as goal

pub returns-then-not-all_wait_at-clause-value : goal.returns-then-not-all_wait_at-clause-value
returns-then-not-all_wait_at-clause-value g c =
    let b = c.args.self.now in
    let times = g.T.PartialOrder.times in
    let at : BoardState g.row.T.Denot → ℕ → Bool = λ z n. list_all (λ k. list_all (is_beyond times (input_front times z n)) (lot_of z.stations n k).held) (numbers_below z.dataflow.workers) in
    let end : c.len-n-end.result ≡ length b.dataflow.nodes = c.len-n-end.ensures.len ∙ ap length c.plan.ensures in
    let here : at b c.loop-n.n ≡ c.all_wait_at.result = ap (at b) (sym c.new.ensures) ∙ (ap (λ (z : BoardState g.row.T.Denot). at z c.new.result) (sym c.loop-n.invariant.kept) ∙ sym c.all_wait_at.ensures.value) in
    sym (all_fails (at b) c.loop-n.n (length b.dataflow.nodes) (subst (λ z. c.loop-n.n < z) end c.loop-n-test.true) (here ∙ c.if-not-all_wait_at.true))
    ∙ wait_found times g.met.T.PartialOrder.order b c.known.ensures.board

pub loop-n-preserved : goal.loop-n-preserved
loop-n-preserved g c =
    let b = c.args.self.now in
    let times = g.T.PartialOrder.times in
    let at : BoardState g.row.T.Denot → ℕ → Bool = λ z n. list_all (λ k. list_all (is_beyond times (input_front times z n)) (lot_of z.stations n k).held) (numbers_below z.dataflow.workers) in
    let here : at b c.loop-n.n ≡ c.all_wait_at.result = ap (at b) (sym c.new.ensures) ∙ (ap (λ (z : BoardState g.row.T.Denot). at z c.new.result) (sym c.loop-n.invariant.kept) ∙ sym c.all_wait_at.ensures.value) in
    record {
      kept = c.all_wait_at.ensures.kept ∙ c.loop-n.invariant.kept;
      waits = all_next (at b) c.loop-n.n c.loop-n.invariant.waits (here ∙ c.if-not-all_wait_at.false);
    }

pub returns-clause-value : goal.returns-clause-value
returns-clause-value g c =
    let b = c.args.self.now in
    let times = g.T.PartialOrder.times in
    let at : BoardState g.row.T.Denot → ℕ → Bool = λ z n. list_all (λ k. list_all (is_beyond times (input_front times z n)) (lot_of z.stations n k).held) (numbers_below z.dataflow.workers) in
    let last : c.loop-n.n ≡ c.len-n-end.result = omega (arith, c.loop-n-test.false, c.loop-n.auto.n-end) in
    let end : c.len-n-end.result ≡ length b.dataflow.nodes = c.len-n-end.ensures.len ∙ ap length c.plan.ensures in
    sym (ap (λ z. list_all (at b) (numbers_below z)) (sym (last ∙ end)) ∙ c.loop-n.invariant.waits)
    ∙ wait_found times g.met.T.PartialOrder.order b c.known.ensures.board
