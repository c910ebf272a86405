use Rattle.std.proofs.Common.{rules, ◌≡◌, ◌++◌, ◌∷◌, ◌∙◌, [], append-nil, length, sym, ap}
use Rattle.session.specs.Openings.{actors_of}
use Rattle.session.proofs.OpeningLemmas.{all_seated, next_place, nothing_left, seated_next}
use Rattle.session.proofs.opening.seat_all.Goals as goal

pub seat-requires : goal.seat-requires
seat-requires g c =
    let l = c.loop-actor in
    let crew = l.crew.items in
    let seats = l.seats.items in
    let rest = c.next.new.self.rest.items in
    let next : l.actor-iterator.rest.items ≡ c.in-Some.actor ∷ rest = search rules in
    let whole : actors_of crew seats ++ c.in-Some.actor ∷ rest ≡ c.args.actors.items = ap (λ r. actors_of crew seats ++ r) (sym next) ∙ l.invariant.whole in
    (search rules, ((c.args.clients, c.requires.each _ c.in-Some.actor (next_place crew seats rest c.args.actors.items c.in-Some.actor whole)), l.invariant.order))

pub loop-actor-preserved : goal.loop-actor-preserved
loop-actor-preserved g c =
    let l = c.loop-actor in
    let crew = l.crew.items in
    let seats = l.seats.items in
    let rest = c.next.new.self.rest.items in
    let next : l.actor-iterator.rest.items ≡ c.in-Some.actor ∷ rest = search rules in
    let whole : actors_of crew seats ++ c.in-Some.actor ∷ rest ≡ c.args.actors.items = ap (λ r. actors_of crew seats ++ r) (sym next) ∙ l.invariant.whole in
    let s = seated_next c.args.workers c.in-Some.actor crew c.seat.new.crew.items seats c.seat.new.seats.items rest c.args.actors.items l.invariant.order c.in_ok-seat.ensures.seated whole l.invariant.fresh in
    record { whole = s.0; order = s.1; fresh = s.2 }

pub returns-clause-opened : goal.returns-clause-opened
returns-clause-opened g c =
    let l = c.loop-actor in
    let crew = l.crew.items in
    let seats = l.seats.items in
    let zero : length l.actor-iterator.rest.items ≡ 0 = search rules in
    let none : l.actor-iterator.rest.items ≡ [] = nothing_left l.actor-iterator.rest.items zero in
    let all : actors_of crew seats ≡ c.args.actors.items = sym (append-nil (actors_of crew seats)) ∙ ap (λ r. actors_of crew seats ++ r) (sym none) ∙ l.invariant.whole in
    all_seated c.args.plan.now c.args.workers c.args.clients crew seats c.args.actors.items all l.invariant.order l.invariant.fresh c.requires.count c.requires.each c.requires.one_hub
