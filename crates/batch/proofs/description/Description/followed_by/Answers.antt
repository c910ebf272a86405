use Rattle.std.proofs.Common.{◌≡◌, Result, Ok, Err, OnOk, rules}
use Rattle.batch.specs.Descriptions.{Follows}
use Rattle.batch.proofs.IntervalLemmas.{whole_interval, both_still}
use Rattle.batch.proofs.description.Description.followed_by.Goals as goal

pub new-requires : goal.new-requires
new-requires g c =
    let a = c.args.self.now in
    let b = c.args.next.now in
    let follows : Follows a b = search rules in
    rw (c.lower.ensures.value, c.upper.ensures.value)
    (whole_interval g.met.T.PartialOrder.order a.lower a.upper b.lower b.upper c.args.since.now c.lower.ensures.frontier c.upper.ensures.frontier c.requires c.lower.ensures.forward c.upper.ensures.forward follows.2)

-- what holds anyway holds where a result is Ok
on_any : {A E : Type 0} (r : Result A E) {P : Type 0} → P → OnOk r P
on_any (Ok x) p = p
on_any (Err e) p = tt

pub returns-clause-still : goal.returns-clause-still
returns-clause-still g c =
    let a = c.args.self.now in
    let b = c.args.next.now in
    let follows : Follows a b = search rules in
    let both : a.lower ≡ b.upper → (a.lower ≡ a.upper) × (b.lower ≡ b.upper) = both_still g.met.T.PartialOrder.order g.met.T.Ord.total a.lower a.upper b.lower b.upper c.lower.ensures.frontier c.upper-end.ensures.frontier c.lower-begin.ensures.frontier c.upper.ensures.frontier c.lower.ensures.forward c.upper.ensures.forward follows.2 in
    on_any c.new.result both
