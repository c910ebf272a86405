use Rattle.std.proofs.Common.{◌≡◌, ◌<◌, false, ◌∷◌, ◌++◌, length, sym, subst, ◌∙◌, ⊎_elim, rules}
use Rattle.std.specs.List.{filter, remove}
use Rattle.std.specs.Prelude.{Contains, slice_index_or}
use Rattle.antichain.proofs.Lists.{among_contains, contains_among}
use Rattle.progress.specs.CountLists.{CountAlike}
use Rattle.progress.proofs.CountLemmas.{removed}
use Rattle.progress.proofs.CountListLemmas.{among_both, carried}
use Rattle.progress.proofs.time_counts.take.Goals as goal

pub position-number-requires : goal.position-number-requires
position-number-requires g c =
    let no : c.take.result ≡ false = search rules in
    let x = c.args.t.now in
    let entered = c.args.entries.now in
    let moved = c.args.moved.now.items in
    ⊎_elim
    (λ a. absurd (c.take.ensures.missing no (contains_among x entered a)))
    (λ b. subst (λ xs. Contains xs x) (sym c.as_slice.ensures.value) (contains_among x moved b))
    (among_both entered moved x (among_contains x (entered ++ moved) c.requires))

pub returns-then-not-take-clause-counted : goal.returns-then-not-take-clause-counted
returns-then-not-take-clause-counted g c test =
    let no : c.take.result ≡ false = search rules in
    let x = c.args.t.now in
    let entered = c.args.entries.now in
    let moved = c.args.moved.now.items in
    let number = c.position-number.result in
    let within = subst (λ xs. number < length xs) c.as_slice.ensures.value c.position-number.ensures.within in
    let there = subst (λ xs. slice_index_or xs number x ≡ x) c.as_slice.ensures.value c.position-number.ensures.there in
    let less : CountAlike (x ∷ remove moved number) moved = removed moved number x within (sym there) in
    (λ i. length (filter test (x ∷ (c.take.ensures.unchanged no i ++ c.remove.ensures.items i))))
    ∙ sym (carried entered moved (remove moved number) x (λ p. sym (less p)) test)
