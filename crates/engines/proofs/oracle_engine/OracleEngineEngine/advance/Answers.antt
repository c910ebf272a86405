use Rattle.std.proofs.Common.{subst, ◌∙◌}
use Rattle.lattice.specs.Bitimes.{bitime_times}
use Rattle.engines.specs.Answers.{TakesFrontier}
use Rattle.engines.specs.OracleStates.{Records}
use Rattle.engines.proofs.OracleEngineLemmas.{input_answered}
use Rattle.engines.proofs.oracle_engine.OracleEngineEngine.advance.Goals as goal

pub returns-clause-answered : goal.returns-clause-answered
returns-clause-answered c s a =
    let r = c.take_frontier in
    let elements = c.in_ok-times.ensures ∙ c.elements.ensures.value in
    subst (λ ts. TakesFrontier c.args.self.now.plan s c.args.input ts (λ s. Records r.new.self s) r.result) elements
    (input_answered bitime_times c.args.self.now r.new.self c.args.input c.in_ok-times.times s r.result r.ensures.taken r.ensures.accepted r.ensures.refused r.ensures.unchanged a)
