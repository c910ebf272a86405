use Rattle.std.proofs.Common.{◌≡◌, ◌<◌, ◌∷◌, ℕ, List, length, subst, ap, ◌∙◌, arith}
use Rattle.std.specs.List.{filter}
use Rattle.std.specs.Prelude.{slice_index_or}
use Rattle.progress.specs.CountLists.{listed}
use Rattle.progress.proofs.EntryLemmas.{let_go, one_down, same_entry}
use Rattle.progress.proofs.entries.take_from_list.Goals as goal

pub returns-then-index-gt0-clause-counted : goal.returns-then-index-gt0-clause-counted
returns-then-index-gt0-clause-counted g c _ =
    let es = c.args.few.now.items in
    let i = c.in-Some.number in
    let a = c.index_mut-entry.result.now in
    let x = c.args.t.now in
    let within = subst (λ fs. i < length fs) c.as_slice.ensures.value c.in-Some.ensures.within in
    let there = subst (λ (fs : List (g.row.T.Denot × ℕ)). (slice_index_or fs i a).0 ≡ x) c.as_slice.ensures.value (c.in-Some.ensures.there a) in
    let same = same_entry es i c.index.result.now a within c.index.ensures c.index_mut-entry.ensures.value in
    one_down es i x a within c.index_mut-entry.ensures.value (ap (λ (p : g.row.T.Denot × ℕ). p.0) c.index_mut-entry.ensures.value ∙ there) (subst (λ (p : g.row.T.Denot × ℕ). 0 < p.1) same c.if-index-gt0.true)

pub returns-clause-counted : goal.returns-clause-counted
returns-clause-counted g c _ test =
    let es = c.args.few.now.items in
    let i = c.in-Some.number in
    let a = c.index.result.now in
    let x = c.args.t.now in
    let within = subst (λ fs. i < length fs) c.as_slice.ensures.value c.in-Some.ensures.within in
    let there = subst (λ (fs : List (g.row.T.Denot × ℕ)). (slice_index_or fs i a).0 ≡ x) c.as_slice.ensures.value (c.in-Some.ensures.there a) in
    let none = c.if-index-gt0.false in
    ap (λ fs. length (filter test (x ∷ listed fs))) c.remove.ensures.items
    ∙ let_go es i x a within c.index.ensures (ap (λ (p : g.row.T.Denot × ℕ). p.0) c.index.ensures ∙ there) (omega (arith, none)) test
