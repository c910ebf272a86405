use Rattle.std.proofs.Common.{◌≡◌, ◌<◌, ◌∷◌, ◌++◌, [], length, ap, sym, ◌∙◌, append_assoc, arith, rules}
use Rattle.std.specs.List.{filter}
use Rattle.std.proofs.lemmas.List.{length-append}
use Rattle.progress.proofs.CountLemmas.{exchanged, more_alike, pushed}
use Rattle.progress.proofs.CountListLemmas.{behind, same_length}
use Rattle.progress.proofs.time_counts.TimeCounts.replace.Goals as goal

pub put-requires : goal.put-requires
put-requires g c =
    let l = same_length (c.args.t.now ∷ (c.take.new.entries ++ c.take.new.moved.items)) (c.self.inside.entries ++ c.self.inside.moved.items) c.take.ensures.counted in
    let both = length-append c.take.new.entries c.take.new.moved.items in
    let few : c.self.inside.len < 18446744073709551616 = first_of (search rules, omega arith) in
    omega (arith, few, l, both, c.self.invariant.0)

pub push_reserved-requires : goal.push_reserved-requires
push_reserved-requires g c =
    let l = same_length (c.args.t.now ∷ (c.take.new.entries ++ c.take.new.moved.items)) (c.self.inside.entries ++ c.self.inside.moved.items) c.take.ensures.counted in
    let both = length-append c.take.new.entries c.take.new.moved.items in
    omega (arith, l, both, c.self.invariant.0, c.self.invariant.1, c.take.ensures.room, c.take.new.moved.ok.0)

pub invariant_of-self : goal.invariant_of-self
invariant_of-self g c =
    let l = same_length (c.args.t.now ∷ (c.take.new.entries ++ c.take.new.moved.items)) (c.self.inside.entries ++ c.self.inside.moved.items) c.take.ensures.counted in
    let both = length-append c.take.new.entries c.take.new.moved.items in
    let now = length-append c.put.new.self c.push_reserved.new.self.items in
    let last = ap length c.push_reserved.ensures.items ∙ length-append c.take.new.moved.items (c.in-Err.later ∷ []) in
    let same = ap length c.in-Err.ensures.unchanged in
    (omega (arith, l, both, now, last, same, c.self.invariant.0), omega (arith, c.self.invariant.1, c.take.ensures.room, c.push_reserved.ensures.capacity))

pub invariant_of-self-in_default : goal.invariant_of-self-in_default
invariant_of-self-in_default g c =
    let l = same_length (c.args.t.now ∷ (c.take.new.entries ++ c.take.new.moved.items)) (c.self.inside.entries ++ c.self.inside.moved.items) c.take.ensures.counted in
    let both = length-append c.take.new.entries c.take.new.moved.items in
    let now = length-append c.put.new.self c.take.new.moved.items in
    let more = same_length c.put.new.self (c.args.later ∷ c.take.new.entries) c.in_default.ensures.counted in
    (omega (arith, l, both, now, more, c.self.invariant.0), omega (arith, c.self.invariant.1, c.take.ensures.room))

pub returns-in-Err : goal.returns-in-Err
returns-in-Err g c test =
    let x = c.args.t.now in
    let later = c.args.later in
    let left = c.take.new.entries in
    let moved = c.take.new.moved.items in
    let old = c.self.inside.entries ++ c.self.inside.moved.items in
    let last : c.push_reserved.new.self.items ≡ moved ++ later ∷ [] = c.push_reserved.ensures.items ∙ ap (λ z. moved ++ z ∷ []) c.in-Err.ensures.back in
    let seen : old ≡ c.args.self.now = c.self.view_is in
    (λ i. length (filter test (x ∷ (c.in-Err.ensures.unchanged i ++ last i))))
    ∙ (ap (λ ys. length (filter test (x ∷ ys))) (sym (append_assoc left moved (later ∷ [])))
    ∙ (more_alike ((left ++ moved) ++ later ∷ []) (later ∷ (left ++ moved)) x (pushed (left ++ moved) later) test
    ∙ (exchanged (left ++ moved) x later test
    ∙ (more_alike (x ∷ (left ++ moved)) old later c.take.ensures.counted test
    ∙ ap (λ ys. length (filter test (later ∷ ys))) seen))))

pub returns-in_default : goal.returns-in_default
returns-in_default g c test =
    let x = c.args.t.now in
    let later = c.args.later in
    let left = c.take.new.entries in
    let moved = c.take.new.moved.items in
    let old = c.self.inside.entries ++ c.self.inside.moved.items in
    let seen : old ≡ c.args.self.now = c.self.view_is in
    more_alike (c.put.new.self ++ moved) (later ∷ (left ++ moved)) x (behind c.put.new.self (later ∷ left) moved c.in_default.ensures.counted) test
    ∙ (exchanged (left ++ moved) x later test
    ∙ (more_alike (x ∷ (left ++ moved)) old later c.take.ensures.counted test
    ∙ ap (λ ys. length (filter test (later ∷ ys))) seen))
