use Rattle.std.proofs.Common.{ltb-true, subst, ◌∙◌}
use Rattle.std.proofs.lemmas.Bool.{and_parts}
use Rattle.lattice.specs.Bitimes.{bitime_times}
use Rattle.engines.specs.Answers.{TakesSince}
use Rattle.engines.specs.OracleStates.{Records}
use Rattle.engines.proofs.OracleEngineLemmas.{view_answered}
use Rattle.engines.proofs.oracle_engine.OracleEngineEngine.allow.Goals as goal

pub returns-clause-answered : goal.returns-clause-answered
returns-clause-answered c s a =
    let r = c.take_since in
    let elements = c.in_ok-times.ensures ∙ c.elements.ensures.value in
    subst (λ ts. TakesSince c.args.self.now.plan s c.args.view ts (λ s. Records r.new.self s) r.result) elements
    (view_answered bitime_times c.args.self.now r.new.self c.args.view c.in_ok-times.times s r.result r.ensures.register (ltb-true _ _ (and_parts _ _ c.requires).0) r.ensures.taken r.ensures.accepted r.ensures.refused r.ensures.unchanged a)
