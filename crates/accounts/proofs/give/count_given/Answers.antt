use Rattle.std.proofs.Common.{◌++◌, ◌∙◌, sym, subst}
use Rattle.progress.specs.Several.{items_at, AreCounted}
use Rattle.progress.specs.Tallies.{SameCounts}
use Rattle.progress.specs.declared.place.Place.TheVariants.{Held}
use Rattle.accounts.proofs.EventLemmas.{just_added, taken_back}
use Rattle.accounts.proofs.give.count_given.Goals as goal

pub give_back-requires : goal.give_back-requires
give_back-requires g c =
    let place = Held c.node.result in
    let mid = c.add_sent.new.tally.items in
    subst (λ ts. AreCounted mid (items_at place ts)) (sym c.in_ok-next.ensures.held)
    (just_added (items_at place c.args.held) c.args.tally.now.items mid (λ test. c.in-Err.ensures.unchanged test ∙ c.in_ok-next.ensures.counted test))

pub returns-in-Err-clause-unchanged : goal.returns-in-Err-clause-unchanged
returns-in-Err-clause-unchanged g c =
    let place = Held c.node.result in
    let mid = c.add_sent.new.tally.items in
    let new = c.give_back.new.tally.items in
    taken_back (items_at place c.args.held) c.args.tally.now.items mid new
    (λ test. c.in-Err.ensures.unchanged test ∙ c.in_ok-next.ensures.counted test)
    (subst (λ ts. SameCounts (items_at place ts ++ new) mid) c.in_ok-next.ensures.held c.give_back.ensures.counted)
