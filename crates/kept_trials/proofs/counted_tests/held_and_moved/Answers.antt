use Rattle.std.proofs.Common.{rules, ◌∷◌, Contains, length, ap, sym, subst, ◌∙◌}
use Rattle.std.specs.List.{filter}
use Rattle.kept_trials.proofs.counted_tests.held_and_moved.Goals as goal

-- the downgrade left it there at its later time
pub give_back-requires : goal.give_back-requires
give_back-requires c =
    let old = c.passed-first.new.tally.items in
    let new = c.downgrade-capability.new.self.items in
    let x = c.in_ok-capability.capability in
    let y = record x { time = c.at-2.result } in
    let counted = subst (λ xs. Contains xs x) (sym c.passed-first.ensures) c.in_ok-capability.ensures.there in
    let there = c.counts_tell_what_is_there.ensures.downgraded old new x c.at-2.result (record {
      counted = counted;
      onward = search rules;
      counts = λ test. c.downgrade-capability.ensures.counted test ∙ ap (λ z. length (filter test (z ∷ old))) c.downgrade-capability.ensures.capability;
    }) in
    subst (λ z. Contains c.passed-second.new.tally.items z) (sym c.downgrade-capability.ensures.capability) (subst (λ xs. Contains xs y) (sym c.passed-second.ensures) there)
