use Rattle.progress.proofs.kept.Kept.input_times.Goals as goal

pub returns-clause-current : goal.returns-clause-current
returns-clause-current g c e =
    let f = c.in_ok-find_all.ensures.fronts in
    record { output = f.output; input = f.input; first = f.first; second = f.second }
