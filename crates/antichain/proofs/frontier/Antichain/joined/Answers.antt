use Rattle.std.proofs.Common.{◌≡◌, ◌+◌, ◌*◌, ◌<◌, ◌≤◌, ◌∷◌, ◌&&◌, length, drop, ap, arith}
use Rattle.std.proofs.Math.Nat.{mul-le-mul_left}
use Rattle.std.proofs.lemmas.Grind.{common_steps}
use Rattle.std.proofs.lemmas.Result.{err_from_is_err_and}
use Rattle.lattice.specs.Frontiers.{is_beyond}
use Rattle.antichain.proofs.InsertionLemmas.{joined_step}
use Rattle.antichain.proofs.frontier.Antichain.joined.Goals as goal

pub returns-in_err-insert_joins-clause-small : goal.returns-in_err-insert_joins-clause-small
returns-in_err-insert_joins-clause-small g c =
    let p = err_from_is_err_and c.from_residual.result c.from_residual.ensures.1 in
    let full = c.in_err-insert_joins.ensures.full in
    let others = ap length c.elements.ensures.value in
    let here : c.loop-f.f-index + 1 ≤ length c.args.self.now = grind (arith, common_steps) in
    let pairs = mul-le-mul_left (length c.args.other.now) here in
    let many : 4 < length c.args.self.now * length c.args.other.now = omega (arith, full, c.loop-f.invariant.few, others, pairs) in
    rw p.1 many

pub loop-f-preserved : goal.loop-f-preserved
loop-f-preserved g c =
    let times = g.T.PartialOrder.times in
    let items = c.as_slice-f-items.result.now in
    let other = c.args.other.now in
    let rest = drop (c.loop-f.f-index + 1) items in
    let left : drop c.loop-f.f-index items ≡ c.f-item.result ∷ rest = grind (arith, common_steps) in
    let others = c.elements.ensures.value in
    record {
      beyond = λ s.
          let all = is_beyond times items s && is_beyond times other s in
          let inserted = rw others at (c.in_ok-insert_joins.ensures.beyond s) in
          let so_far = rw left at (c.loop-f.invariant.beyond s) in
          joined_step g.met.T.PartialOrder.order c.loop-f.both c.insert_joins.new.both rest other c.f-item.result s all inserted so_far;
      few = let more = c.in_ok-insert_joins.ensures.len in omega (arith, c.loop-f.invariant.few, more, ap length others);
    }
