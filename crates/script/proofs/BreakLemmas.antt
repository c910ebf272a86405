-- A line without text that breaks the run has broken the text of any line.
use Rattle.std.proofs.Common.{ℕ, List, [], Result, Ok, Err}
use Rattle.std.specs.Prelude.{IfErr}
use Rattle.output.specs.Outs.{Broke}
use Rattle.output.proofs.OutLemmas.{broke_before}
use Rattle.script.specs.RunEnds.{failures}
use Rattle.script.specs.declared.fault.RunFault.{RunFault}

module _ {W : Type 0} (took : W → List ℕ → ℕ → W → Type 0) where
  -- answers the clause `broke` of a line with the clause for a line without text
  pub breaks_before : {X : Type 0} (s u : W) (waiting bytes : List ℕ) (r : Result X RunFault)
      → IfErr r (λ fault. Broke took s waiting [] (failures fault) u) → IfErr r (λ fault. Broke took s waiting bytes (failures fault) u)
  breaks_before s u waiting bytes (Ok x) b = tt
  breaks_before s u waiting bytes (Err fault) b = broke_before took s u waiting [] bytes (failures fault) b
