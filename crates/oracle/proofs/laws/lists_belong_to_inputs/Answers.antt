use Rattle.std.proofs.Common.{[], length, get_or, ap}
use Rattle.plan.specs.Nodes.{node_at, is_input}
use Rattle.oracle.proofs.InputLemmas.{place_of}
use Rattle.oracle.proofs.laws.lists_belong_to_inputs.Goals as goal

pub returns : goal.returns
returns g c p lists i inside = ap (λ k. get_or lists k []) (place_of (λ m. is_input (node_at p m)) (length p) i inside)
