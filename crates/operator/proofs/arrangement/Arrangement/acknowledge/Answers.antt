use Rattle.std.proofs.Common.{IsTrue, sym, subst, rules}
use Rattle.std.specs.List.{Contains}
use Rattle.lattice.specs.Frontiers.{all_beyond}
use Rattle.lattice.proofs.FrontierLemmas.{beyond_itself}
use Rattle.trace.proofs.BatchListLemmas.{reached_boundary}
use Rattle.spine.specs.Spines.{boundaries}
use Rattle.operator.specs.Arrangements.{upper_of}
use Rattle.operator.proofs.ArrangementLemmas.{reader_behind}
use Rattle.operator.proofs.arrangement.Arrangement.acknowledge.Goals as goal

pub advance-requires : goal.advance-requires
advance-requires g c =
    let times = g.T.PartialOrder.times in
    let o = g.met.T.PartialOrder.order in
    let s = c.args.self.now.spine in
    let upper = upper_of s in
    let back = sym c.requires.upper in (
      search rules,
      (
        c.requires.reader,
        (
          c.requires.onward,
          (
            subst (Contains (boundaries s)) back (reached_boundary s.list),
            (
              (λ hold at. subst (λ F. IsTrue (all_beyond times hold.physical F)) back (reader_behind times o c.args.self.now c.args.reader hold c.trace-spine.ensures.known at)),
              subst (λ F. IsTrue (all_beyond times F upper)) back (beyond_itself o upper),
            ),
          ),
        ),
      ),
    )
