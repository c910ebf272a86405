use Rattle.std.proofs.Common.{◌≡◌, ℕ, List, Result, Ok, Err}
use Rattle.std.specs.Prelude.{IfErr}
use Rattle.grammar.specs.ScriptModels.{ScriptModel}
use Rattle.script.specs.Ends.{IsTextBeforeOverflow}
use Rattle.output.specs.Outs.{IsBeginning}
use Rattle.engines.specs.Bitemporal.{opening_session}
use Rattle.script.specs.Text.{text}
use Rattle.script.specs.declared.fault.RunFault.{RunFault}
use Rattle.script.specs.declared.fault.RunFault.TheVariants.{Refused}
use Rattle.script.proofs.TextLemmas.{before_begins}
use Rattle.bitview.proofs.actions.write_asked.Goals as goal

-- the text before an overflow is a beginning of the script's
begins : {X : Type 0} (Took : List ℕ → Type 0) (t : ScriptModel) (r : Result X RunFault)
    → IfErr r (λ fault. fault ≡ Refused 10 → (part : List ℕ) × IsTextBeforeOverflow t part × Took part)
    → IfErr r (λ fault. fault ≡ Refused 10 → (part : List ℕ) × IsBeginning part (text t) × IsTextBeforeOverflow t part × Took part)
begins Took t (Ok x) e = tt
begins Took t (Err fault) e = λ ten. let (part, before, taken) = e ten in (part, before_begins t (opening_session t.plan) t.commands part before, before, taken)

pub returns-in-Run-clause-overflow : goal.returns-in-Run-clause-overflow
returns-in-Run-clause-overflow g c = rw c.in-Run.is (begins (λ part. g.W.Out.took c.args.out.now part 0 c.run_script_watched.new.out) c.args.script.now c.run_script_watched.result c.run_script_watched.ensures.overflow)

pub returns-in-Plain-clause-overflow : goal.returns-in-Plain-clause-overflow
returns-in-Plain-clause-overflow g c = rw c.in-Plain.is (begins (λ part. g.W.Out.took c.args.out.now part 0 c.plain_script_watched.new.out) c.args.script.now c.plain_script_watched.result c.plain_script_watched.ensures.overflow)
