use Rattle.std.proofs.Common.{ℕ, List, [], subst}
use Rattle.std.proofs.lemmas.Result.{IfErr-weaker}
use Rattle.plan.specs.declared.node.Node.{Node}
use Rattle.script.specs.RunEnds.{failures}
use Rattle.output.specs.Outs.{IsBeginning, Broke}
use Rattle.engines.specs.OracleStates.{Records}
use Rattle.engines.specs.Bitemporal.{opening_session}
use Rattle.script.specs.Text.{lines_text, text}
use Rattle.script.proofs.EndLemmas.{bound_ends, overflow_texts}
use Rattle.script.proofs.plain.plain_script_watched.Goals as goal

pub returns-clause-beginning : goal.returns-clause-beginning
returns-clause-beginning g c =
    let t = c.args.script.now in
    let stands = subst (λ (p : List Node). Records c.in_ok-engine.engine (opening_session p)) c.plan.ensures.plan c.in_ok-engine.ensures.stands in
    IfErr-weaker c.run.result
    (λ fault. Broke g.W.Out.took c.args.out.now [] (lines_text t (opening_session t.plan) t.commands) (failures fault) c.run.new.out)
    (λ fault. (part : List ℕ) × IsBeginning part (text t) × g.W.Out.took c.args.out.now part (failures fault) c.run.new.out)
    (λ fault b. (b.part, b.beginning, b.taken))
    (c.run.ensures.broke (opening_session t.plan) stands)

pub returns-clause-known : goal.returns-clause-known
returns-clause-known g c =
    let t = c.args.script.now in
    let stands = subst (λ (p : List Node). Records c.in_ok-engine.engine (opening_session p)) c.plan.ensures.plan c.in_ok-engine.ensures.stands in
    bound_ends t.plan (opening_session t.plan) t.commands c.run.result (c.run.ensures.known (opening_session t.plan) stands)

pub returns-clause-overflow : goal.returns-clause-overflow
returns-clause-overflow g c =
    let t = c.args.script.now in
    let stands = subst (λ (p : List Node). Records c.in_ok-engine.engine (opening_session p)) c.plan.ensures.plan c.in_ok-engine.ensures.stands in
    overflow_texts t (opening_session t.plan) t.commands (λ part. g.W.Out.took c.args.out.now part 0 c.run.new.out) c.run.result (c.run.ensures.overflow (opening_session t.plan) stands)
