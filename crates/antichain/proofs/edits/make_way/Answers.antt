use Rattle.std.proofs.Common.{◌≡◌, not, length, arith}
use Rattle.std.proofs.lemmas.Grind.{common_steps}
use Rattle.std.proofs.lemmas.Result.{err_from_is_err_and}
use Rattle.std.specs.List.{filter}
use Rattle.antichain.proofs.Lists.{filter_shorter, filter_whole}
use Rattle.antichain.proofs.edits.make_way.Goals as goal

-- if the number of elements is unchanged, then the elements are
pub returns-in_err-reserve-clause-err : goal.returns-in_err-reserve-clause-err
returns-in_err-reserve-clause-err g c =
    let p = err_from_is_err_and c.from_residual.result c.from_residual.ensures.1 in
    let long : length (filter (λ e. not (g.T.PartialOrder.times.below c.args.t e)) c.args.elements.now.items) ≡ length c.args.elements.now.items = grind (arith, common_steps) in
    let whole = filter_whole (λ e. not (g.T.PartialOrder.times.below c.args.t e)) c.args.elements.now.items long in
    let kept : c.reserve.new.self.items ≡ c.args.elements.now.items = cc in
    rw p.1 kept

pub returns-in_err-reserve-clause-none_above : goal.returns-in_err-reserve-clause-none_above
returns-in_err-reserve-clause-none_above g c =
    let p = err_from_is_err_and c.from_residual.result c.from_residual.ensures.1 in
    let long : length (filter (λ e. not (g.T.PartialOrder.times.below c.args.t e)) c.args.elements.now.items) ≡ length c.args.elements.now.items = grind (arith, common_steps) in
    rw p.1 (filter_whole (λ e. not (g.T.PartialOrder.times.below c.args.t e)) c.args.elements.now.items long)

pub returns-else-len-before-clause-room : goal.returns-else-len-before-clause-room
returns-else-len-before-clause-room g c =
    let shorter = filter_shorter (λ e. not (g.T.PartialOrder.times.below c.args.t e)) c.args.elements.now.items in
    grind (arith, common_steps, shorter)
