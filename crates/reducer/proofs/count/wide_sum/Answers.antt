use Rattle.std.proofs.Common.{◌<◌, ◌∙◌, ◌^◌, length, to_z, w64, FitsSigned, rules, arith}
use Rattle.std.specs.Int.{w128}
use Rattle.std.proofs.lemmas.Int.{to_z-of_z}
use Rattle.reducer.proofs.CountLemmas.{sum_more, small_more, wide_more}
use Rattle.reducer.proofs.DistinctLemmas.{no_entry}
use Rattle.reducer.proofs.count.wide_sum.Goals as goal

pub loop-i-preserved : goal.loop-i-preserved
loop-i-preserved g c =
    let rows = g.C.RowCounts.entries c.args.rows.now in
    let i = c.loop-i.i in
    let n = to_z w128 c.loop-i.sum-bits in
    let m = c.from-sum.result in
    let inside : i < length rows = omega arith in
    let few : i < 2 ^ 64 = omega arith in
    let read : FitsSigned w64 c.count_at.result = search rules in
    let fits : FitsSigned w64 m = search rules in
    let count = c.from-sum.ensures ∙ to_z-of_z w64 c.count_at.result read ∙ c.count_at.ensures no_entry in
    let here = wide_more n m i c.loop-i.invariant.small few fits in
    record {
      sum = here ∙ sum_more rows i no_entry n m inside c.loop-i.invariant.sum count;
      small = rw here (small_more n m i c.loop-i.invariant.small fits);
    }
