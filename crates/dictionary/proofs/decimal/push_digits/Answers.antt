use Rattle.std.proofs.Common.{◌≡◌, ◌<◌, ◌-◌, ◌∷◌, [], ◌++◌, ◌/◌, ◌%◌, ◌+◌, ◌^◌, ap, ◌∙◌, arith}
use Rattle.std.specs.Prelude.{string_bytes}
use Rattle.dictionary.proofs.DigitLemmas.{digit_pushed, all_pushed}
use Rattle.dictionary.proofs.decimal.push_digits.Goals as goal

pub loop-left-preserved : goal.loop-left-preserved
loop-left-preserved c =
    let some : 0 < c.loop-left.left = omega arith in
    let e : string_bytes c.push_digit.new.text ≡ string_bytes c.loop-left.text ++ ((48 + c.args.number / 10 ^ (c.loop-left.left - 1) % 10) ∷ []) =
    c.in_ok-push_digit.ensures ∙ ap (λ d. string_bytes c.loop-left.text ++ ((48 + d) ∷ [])) c.digit_at.ensures in
    record {
      few = omega arith;
      pushed = digit_pushed _ _ _ c.loop-left.left c.args.number some e c.loop-left.invariant.pushed;
    }

pub returns : goal.returns
returns c = all_pushed _ _ c.loop-left.left c.args.number (omega arith) c.loop-left.invariant.pushed
