use Rattle.std.proofs.Common.{◌≡◌, ◌<◌, ◌∙◌, ◌∷◌, ◌++◌, [], length, slice_index_or, to_z, of_z, w64, FitsSigned, rules, arith}
use Rattle.std.proofs.lemmas.Int.{to_z-of_z}
use Rattle.update.specs.Bags.{entry_of}
use Rattle.oracle.specs.Listing.{at_time}
use Rattle.oracle.proofs.PutLemmas.{no_entry, put_more}
use Rattle.oracle.proofs.listing.push_at.Goals as goal

pub loop-i-preserved : goal.loop-i-preserved
loop-i-preserved g c =
    let e = slice_index_or c.args.bag.now c.loop-i.i no_entry in
    let inside : c.loop-i.i < length c.args.bag.now = omega arith in
    let fits : FitsSigned w64 c.count_at.result = search rules in
    let row : c.copy.result ≡ e.row = c.copy.ensures ∙ c.row_at.ensures no_entry in
    let count : to_z w64 (of_z w64 c.count_at.result) ≡ e.count = to_z-of_z w64 c.count_at.result fits ∙ c.count_at.ensures no_entry in
    let mid = c.loop-i.listed.items in
    put_more (at_time c.args.t) c.args.listed.now.items mid c.push.new.self.items c.args.bag.now c.loop-i.i no_entry inside
    c.loop-i.invariant (c.in_ok-push.ensures.items ∙ (λ j. mid ++ at_time c.args.t (entry_of (row j) (count j)) ∷ []))
