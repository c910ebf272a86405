use Rattle.std.proofs.Common.{below_more, arith}
use Rattle.std.proofs.lemmas.List.{nil_from_length}
use Rattle.histories.specs.Histories.States.{place}
use Rattle.outstanding.specs.Loads.{queue_of}
use Rattle.outstanding.specs.Stations.{lots}
use Rattle.outstanding.proofs.SurveyLemmas.{none_at_ports}
use Rattle.outstanding.proofs.stations.Stations.port_waiting.Goals as goal

pub loop-port-preserved : goal.loop-port-preserved
loop-port-preserved g c =
    let site = place c.args.node c.loop-port.port c.args.worker in
    let h = c.waiting.ensures in
    let n = c.if-waiting-gt0.false in
    below_more _ _ c.loop-port.invariant (nil_from_length (queue_of (lots c.args.self.now) site) (omega arith))

pub returns-clause-none : goal.returns-clause-none
returns-clause-none g c e = none_at_ports (lots c.args.self.now) c.args.node c.args.worker c.loop-port.port c.loop-port-test.false c.loop-port.invariant
