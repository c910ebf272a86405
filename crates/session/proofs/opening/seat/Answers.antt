use Rattle.std.proofs.Common.{rules, ◌≡◌, ◌<◌, ◌+◌, ◌∙◌, length, sym, subst}
use Rattle.shared_board.specs.Tenures.{IsFirst, opening_for}
use Rattle.session.proofs.OpeningLemmas.{next_number}
use Rattle.session.proofs.opening.seat.Goals as goal

pub new-requires : goal.new-requires
new-requires g c =
    let crew = c.args.crew.now.items in
    let seats = c.args.seats.now.items in
    let first = c.requires.first in
    let long : c.len-number.result ≡ length crew = search rules in
    let less : length crew < c.args.workers = subst (λ n. n < c.args.workers) long c.if-number-workers.true in
    let number : length crew + length seats ≡ c.len-number.result = next_number c.args.workers crew seats c.requires.order less ∙ sym long in
    (search rules, (c.if-number-workers.true, (first.0, subst (λ n. IsFirst (opening_for c.args.plan.now c.args.workers first.0) n c.args.actor) number first.1)))
