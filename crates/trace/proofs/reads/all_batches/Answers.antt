use Rattle.std.proofs.Common.{◌≡◌, [], ◌∷◌, inl, sym, subst}
use Rattle.trace.specs.Readings.{IsUpTo}
use Rattle.trace.proofs.ReadLemmas.{readable_itself}
use Rattle.trace.proofs.InsertionLemmas.{up_to_newest}
use Rattle.trace.proofs.reads.all_batches.Goals as goal

pub returns-clause-reads : goal.returns-clause-reads
returns-clause-reads g c [] stands =
    let times = g.R.Time.PartialOrder.times in
    let since = g.R.Trace.held c.args.trace.now in
    let content = g.R.Batch.BatchReader.content in
    let none : c.unwrap.result.now ≡ [] = rw c.unwrap.ensures at (c.through.ensures.start (c.upper.ensures.newest [] stands)) in
    rw none (readable_itself times since [])
returns-clause-reads g c (i ∷ h) stands =
    let all = i ∷ h in
    let here = subst (λ u. IsUpTo u all all) (sym (c.upper.ensures.newest all stands)) (up_to_newest i h) in
    rw c.unwrap.ensures at (c.through.ensures.reads all all stands (inl here))
