use Rattle.std.proofs.Common.{◌≡◌, ◌<◌, ℕ, List, length, subst, sym, ap, ◌∙◌, arith}
use Rattle.std.specs.List.{filter}
use Rattle.std.specs.Prelude.{slice_index_or}
use Rattle.progress.specs.CountLists.{listed}
use Rattle.progress.proofs.EntryLemmas.{added, number_fits, one_up}
use Rattle.progress.proofs.entries.put_in_list.Goals as goal

pub overflow_add-entry : goal.overflow_add-entry
overflow_add-entry g c =
    let es = c.args.few.now.items in
    let i = c.in-Some.number in
    let a = c.index_mut-entry.result.now in
    let within = subst (λ fs. i < length fs) c.as_slice.ensures.value c.in-Some.ensures.within in
    let fits = subst (λ (p : g.row.T.Denot × ℕ). p.1 < length (listed es)) (sym c.index_mut-entry.ensures.value) (number_fits es i a within) in
    omega (arith, fits, c.requires)

pub returns-in-Some-clause-counted : goal.returns-in-Some-clause-counted
returns-in-Some-clause-counted g c _ =
    let es = c.args.few.now.items in
    let i = c.in-Some.number in
    let a = c.index_mut-entry.result.now in
    let x = c.args.t in
    let within = subst (λ fs. i < length fs) c.as_slice.ensures.value c.in-Some.ensures.within in
    let there = subst (λ (fs : List (g.row.T.Denot × ℕ)). (slice_index_or fs i a).0 ≡ x) c.as_slice.ensures.value (c.in-Some.ensures.there a) in
    one_up es i x a within c.index_mut-entry.ensures.value (ap (λ (p : g.row.T.Denot × ℕ). p.0) c.index_mut-entry.ensures.value ∙ there)

pub returns-in-Ok-clause-counted : goal.returns-in-Ok-clause-counted
returns-in-Ok-clause-counted g c _ test =
    ap (λ fs. length (filter test (listed fs))) c.in-Ok.ensures.items
    ∙ added c.args.few.now.items c.args.t test
