use Rattle.spine_trials.proofs.spine_tests.end.Goals as goal

pub returns : goal.returns
returns g others same = g.holds_are_kept_apart.ensures.gone _ others _ _ g.release.ensures.gone same
