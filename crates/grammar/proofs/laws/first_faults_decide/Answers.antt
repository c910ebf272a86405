use Rattle.grammar.specs.Text.{lines_of}
use Rattle.grammar.proofs.FaultLemmas.{script_found, script_again, fault_found, fault_again, later_lines}
use Rattle.grammar.proofs.laws.first_faults_decide.Goals as goal

pub returns : goal.returns
returns c = record {
  script = λ bytes t. (script_found (lines_of bytes) t, script_again (lines_of bytes) t);
  fault = λ bytes n refusal. (fault_found (lines_of bytes) n refusal, fault_again (lines_of bytes) n refusal);
  later = later_lines;
}
