use Rattle.std.proofs.Common.{◌<◌, ◌≤◌, ◌∙◌, sym, ap, subst, take, length}
use Rattle.std.specs.List.{AllPairs}
use Rattle.std.specs.List.Sorted.{IsPartitionPoint}
use Rattle.columns.specs.Runs.{updates_from}
use Rattle.columns.proofs.ColumnsLemmas.{starts_up, columns_alike}
use Rattle.columns.proofs.TruncateLemmas.{cut_off, cut_kept}
use Rattle.columns.proofs.columns.Columns.truncate.Goals as goal

pub runs_before-runs-requires : goal.runs_before-runs-requires
runs_before-runs-requires g c =
    subst (λ ss. AllPairs (λ s t. s < t) ss) (sym c.as_slice.ensures.value) (starts_up c.self.inside.starts.items c.self.inside.rows c.self.inside.times.items c.self.inside.diffs.items c.self.invariant)

pub invariant_of-self : goal.invariant_of-self
invariant_of-self g c =
    let n = c.args.len in
    let m = c.runs_before-runs.result in
    let within = subst (λ ss. m ≤ length ss) c.as_slice.ensures.value c.runs_before-runs.ensures.within in
    let point = subst (λ ss. IsPartitionPoint (λ s. s < n) (λ s. n ≤ s) ss m) c.as_slice.ensures.value c.runs_before-runs.ensures.parted in
    columns_alike _ c.truncate-3.new.self.items _ c.truncate-4.new.self _ c.truncate.new.self.items _ c.truncate-2.new.self.items
    c.truncate-3.ensures.items c.truncate-4.ensures c.truncate.ensures.items c.truncate-2.ensures.items
    (cut_kept c.self.inside.starts.items c.self.inside.rows c.self.inside.times.items c.self.inside.diffs.items c.self.invariant n m within point)

pub returns : goal.returns
returns g c =
    let n = c.args.len in
    let m = c.runs_before-runs.result in
    let within = subst (λ ss. m ≤ length ss) c.as_slice.ensures.value c.runs_before-runs.ensures.within in
    let point = subst (λ ss. IsPartitionPoint (λ s. s < n) (λ s. n ≤ s) ss m) c.as_slice.ensures.value c.runs_before-runs.ensures.parted in
    (λ j. updates_from 0 (c.truncate-3.ensures.items j) (c.truncate-4.ensures j) (c.truncate.ensures.items j) (c.truncate-2.ensures.items j))
    ∙ cut_off c.self.inside.starts.items c.self.inside.rows c.self.inside.times.items c.self.inside.diffs.items c.self.invariant n m within point
    ∙ ap (take n) c.self.view_is
