use Rattle.std.proofs.Common.{◌≡◌, ◌++◌, ◌∙◌, ap, take, length, arith}
use Rattle.std.proofs.Math.Seq.{take-append_seam}
use Rattle.progress.proofs.capabilities.Capabilities.hold_more.Goals as goal

pub returns-in-Err-clause-kept : goal.returns-in-Err-clause-kept
returns-in-Err-clause-kept g c =
    let old = c.self.inside.times.items in
    let long : c.len-before.result ≡ length old = omega (arith, c.len-before.ensures) in
    c.truncate.ensures.items
    ∙ (ap (take c.len-before.result) c.in_ok-extend_from_slice.ensures.items
    ∙ (ap (λ n. take n (old ++ c.args.times.now)) long
    ∙ (take-append_seam old c.args.times.now ∙ c.self.view_is)))
