use Rattle.std.proofs.Common.{◌∙◌, ap, rules, FitsSigned, w64}
use Rattle.std.proofs.lemmas.Int.{to_z-of_z}
use Rattle.update.specs.Bags.{count_of}
use Rattle.reducer.specs.Tallies.{set_count}
use Rattle.reducer.proofs.TallyLemmas.{count_moved, set_among}
use Rattle.reducer.proofs.tally.Tally.add.Goals as goal

pub returns-clause-added : goal.returns-clause-added
returns-clause-added c _ other =
    let now = c.args.self.now in
    let n = c.in-Some.raised in
    let fits : FitsSigned w64 n = search rules in
    let diff : FitsSigned w64 c.args.diff = search rules in
    ap (λ es. count_of es other) (c.set.ensures ∙ ap (λ m. set_count c.in-Some.place m now) (to_z-of_z w64 n fits))
    ∙ count_moved now c.in-Some.place c.args.row.now n c.args.diff (rw (to_z-of_z w64 c.args.diff diff) at c.in-Some.ensures.moved) other

pub returns-clause-among : goal.returns-clause-among
returns-clause-among c p all = rw c.set.ensures (rw (set_among p c.in-Some.place _ c.args.self.now) all)
