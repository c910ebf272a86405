use Rattle.std.proofs.Common.{◌≡◌, ◌<◌, ◌≤◌, sym, ◌∙◌, ap, subst, length, arith}
use Rattle.std.specs.List.{AllPairs}
use Rattle.columns.specs.Runs.{run_number, row_starts, run_place}
use Rattle.columns.proofs.ColumnsLemmas.{starts_up}
use Rattle.columns.proofs.SearchLemmas.{own_run_begins}
use Rattle.columns.proofs.columns.Columns.first_kept.Goals as goal

pub run_at-requires-clause-ascending : goal.run_at-requires-clause-ascending
run_at-requires-clause-ascending g c =
    subst (λ ss. AllPairs (λ s t. s < t) ss) (sym c.as_slice-starts.ensures.value) (starts_up c.self.inside.starts.items c.self.inside.rows c.self.inside.times.items c.self.inside.diffs.items c.self.invariant)

pub run_kept-run-requires-clause-within : goal.run_kept-run-requires-clause-within
run_kept-run-requires-clause-within g c =
    let many = ap length (c.as_slice-starts.ensures.value ∙ c.self.invariant.starts_are ∙ ap row_starts c.self.view_is) in
    let within = c.run_at.ensures.within in
    omega (arith, many, within)

pub returns-clause-before : goal.returns-clause-before
returns-clause-before g c i d from l =
    let us = c.args.self.now in
    let length_is = c.len-length.ensures in
    let few = c.requires.within in
    let inside : c.args.from < length us = omega (arith, length_is, few, c.if-from-length.false) in
    let first : c.run_at.result ≡ run_number c.self.inside.starts.items c.args.from = c.run_at.ensures.number ∙ ap (λ ss. run_number ss c.args.from) c.as_slice-starts.ensures.value in
    let begins : run_place us c.run_at.result ≤ c.args.from = subst (λ n. run_place us n ≤ c.args.from) (sym first) (own_run_begins c.self.inside.starts.items c.self.inside.rows c.self.inside.times.items c.self.inside.diffs.items c.self.invariant us c.self.view_is c.args.from inside) in
    let greater = c.max.ensures in
    let place = c.run_start.ensures.place in
    c.run_kept-run.ensures.before i d (omega (arith, begins, from)) (omega (arith, l, greater, place, from))

pub returns-clause-rest : goal.returns-clause-rest
returns-clause-rest g c i d from l =
    let greater = c.max.ensures in
    let place = c.run_start.ensures.place in
    c.run_kept-run.ensures.rest i d (omega (arith, from, greater, place)) l
