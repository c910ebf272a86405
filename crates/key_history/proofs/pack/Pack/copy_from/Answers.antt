use Rattle.std.proofs.Common.{◌<◌, ◌++◌, ◌∷◌, [], ◌∙◌, length, take, drop, ap, sym, append_assoc, arith}
use Rattle.key_history.proofs.PackLemmas.{drop_more_taken}
use Rattle.key_history.proofs.pack.Pack.copy_from.Goals as goal

pub loop-i-preserved : goal.loop-i-preserved
loop-i-preserved g c =
    let us = c.args.self.now in
    let i = c.loop-i.i in
    let list = c.args.list.now.items in
    let test = c.loop-i-test.true in
    let end = c.len-i-end.ensures in
    let within : i < length us = omega (arith, test, end) in
    record {
      copied =
          c.in_ok-push.ensures.items
          ∙ ap (λ vs. vs ++ c.copy.result ∷ []) c.loop-i.invariant.copied
          ∙ append_assoc list (drop c.args.from (take i us)) (c.copy.result ∷ [])
          ∙ ap (λ vs. list ++ vs) (sym (drop_more_taken us c.args.from i c.copy.result c.loop-i.auto.i within c.copy.ensures));
      place = c.place_behind-place.ensures;
    }
