use Rattle.std.proofs.Common.{ℕ, subst}
use Rattle.std.proofs.lemmas.Cmp.{then_total, on_total, nat_cmp_total}
use Rattle.lattice.specs.Bitimes.{bitime_times, bitime_cmp}
use Rattle.lattice.specs.Naturals.{nat_extends}
use Rattle.lattice.specs.Pairs.{pair_extends}
use Rattle.lattice.specs.declared.product.Pair.{Pair}
use Rattle.antichain.specs.Antichains.{SameElements, least}
use Rattle.engines.proofs.OrderLemmas.{frontier_in_order}
use Rattle.script.proofs.line.frontier_of.Goals as goal

pub returns-clause-made : goal.returns-clause-made
returns-clause-made c =
    let total = then_total (on_total (λ (t : Pair ℕ ℕ). t.first) nat_cmp_total) (on_total (λ (t : Pair ℕ ℕ). t.second) nat_cmp_total) in
    let frontier = c.in_ok-frontier.frontier in
    let same = subst (λ ts. SameElements frontier (least bitime_times ts)) c.as_slice.ensures c.in_ok-frontier.ensures.least in
    frontier_in_order bitime_cmp total (pair_extends nat_extends nat_extends).exact frontier (least bitime_times c.args.times.now) c.known.ensures.ascending same
