use Rattle.std.proofs.Common.{◌∙◌, ap, rules, FitsSigned, w64}
use Rattle.std.proofs.lemmas.Int.{to_z-of_z}
use Rattle.update.specs.Bags.{count_of}
use Rattle.reducer.specs.Tallies.{set_count, undone}
use Rattle.reducer.proofs.TallyLemmas.{count_moved, set_among, set_back, undone_last}
use Rattle.reducer.proofs.tally.Tally.add_noting.Goals as goal

pub returns-clause-added : goal.returns-clause-added
returns-clause-added c _ other =
    let now = c.args.self.now in
    let n = c.in-Some.count in
    let fits : FitsSigned w64 n = search rules in
    let diff : FitsSigned w64 c.args.diff = search rules in
    ap (λ es. count_of es other) (c.set.ensures ∙ ap (λ m. set_count c.in-Some.place m now) (to_z-of_z w64 n fits))
    ∙ count_moved now c.in-Some.place c.args.row.now n c.args.diff (rw (to_z-of_z w64 c.args.diff diff) at c.in-Some.ensures.moved) other

pub returns-clause-undone : goal.returns-clause-undone
returns-clause-undone c =
    let now = c.args.self.now in
    let before = c.args.noted.now.items in
    let place = c.in-Some.place in
    let old = c.count.result in
    let fits : FitsSigned w64 old = search rules in
    ap (λ us. undone us c.set.new.self) c.in_ok-push.ensures.items
    ∙ (undone_last before (record { place = place; count = _ }) c.set.new.self
    ∙ ap (undone before)
    (ap (λ m. set_count place m c.set.new.self) (to_z-of_z w64 old fits) ∙ (ap (set_count place old) c.set.ensures ∙ set_back now place old _ c.count.ensures)))

pub returns-clause-among : goal.returns-clause-among
returns-clause-among c p all = rw c.set.ensures (rw (set_among p c.in-Some.place _ c.args.self.now) all)
