use Rattle.std.proofs.Common.{◌≡◌, ℕ, ◌<◌, ◌+◌, ◌-◌, ◌∙◌, ◌++◌, List, ℤ, map, take, length, slice_index_or, IsTrue, sym, subst, to_z, of_z, w64, FitsSigned, rules, arith}
use Rattle.std.specs.Prelude.{nat_le}
use Rattle.std.specs.List.{filter, list_all}
use Rattle.std.proofs.lemmas.Bool.{leb-true}
use Rattle.std.proofs.lemmas.List.{append-nil}
use Rattle.std.proofs.lemmas.Int.{to_z-of_z}
use Rattle.std.proofs.lemmas.Result.{err_from_is_err_and}
use Rattle.update.specs.Bags.{Entry}
use Rattle.plan.specs.Operators.{joined_entry}
use Rattle.plan.specs.Reductions.{has_key}
use Rattle.update.specs.Bags.{entry_of}
use Rattle.update.specs.Refusals.{IsMemoryOrOverflow}
use Rattle.oracle.specs.Keys.{IsKeyRange}
use Rattle.oracle.specs.Products.{HasLargePair}
use Rattle.oracle.proofs.PutLemmas.{no_entry, passes_at, put_flat}
use Rattle.oracle.proofs.PairLemmas.{large_pair}
use Rattle.oracle.proofs.join.put_joined.Goals as goal

pub loop-i-init : goal.loop-i-init
loop-i-init c = record {
  pairs = sym (append-nil c.args.entries.now);
  range = λ d none. absurd (omega (arith, none));
}

-- the range that was found is that of the row that is paired
pub put_pairs-requires-clause-range : goal.put_pairs-requires-clause-range
put_pairs-requires-clause-range c =
    let k = c.args.k in
    subst (λ (row : List ℤ). IsKeyRange k (take k row) c.args.right.now c.range_of-range.result.0 c.range_of-range.result.1) (sym (c.row_at.ensures no_entry)) (c.range_of-range.ensures no_entry)

pub put_pairs-requires-clause-key : goal.put_pairs-requires-clause-key
put_pairs-requires-clause-key c =
    let k = c.args.k in
    let inside : c.loop-i.i < length c.args.left.now = omega arith in
    leb-true k (length c.row_at.result.now)
    (subst (λ (row : List ℤ). IsTrue (nat_le k (length row))) (sym (c.row_at.ensures no_entry)) (passes_at (λ e. nat_le k (length e.row)) c.args.left.now c.loop-i.i no_entry inside c.requires.left))

pub put_pairs-requires-clause-room : goal.put_pairs-requires-clause-room
put_pairs-requires-clause-room c =
    let k = c.args.k in
    let right = c.args.right.now in
    let inside : c.loop-i.i < length c.args.left.now = omega arith in
    subst (λ (row : List ℤ). IsTrue (list_all (λ y. nat_le (length row + (length y.row - k)) 8) right)) (sym (c.row_at.ensures no_entry))
    (passes_at (λ x. list_all (λ y. nat_le (length x.row + (length y.row - k)) 8) right) c.args.left.now c.loop-i.i no_entry inside c.requires.room)

pub returns-in_err-put_pairs-clause-refused : goal.returns-in_err-put_pairs-clause-refused
returns-in_err-put_pairs-clause-refused c =
    let left = c.args.left.now in
    let i = c.loop-i.i in
    let inside : i < length left = omega arith in
    let fits : FitsSigned w64 c.count_at.result = search rules in
    let row = c.row_at.ensures no_entry in
    let count : to_z w64 (of_z w64 c.count_at.result) ≡ (slice_index_or left i no_entry).count = to_z-of_z w64 c.count_at.result fits ∙ c.count_at.ensures no_entry in
    let got = err_from_is_err_and c.from_residual.result c.from_residual.ensures.1 in
    let same : got.0 ≡ c.in_err-put_pairs.field-0.0 = search rules in
    let cause = large_pair c.args.k left c.args.right.now i (entry_of c.row_at.result.now (to_z w64 (of_z w64 c.count_at.result))) inside (λ j. entry_of (row j) (count j)) c.in_err-put_pairs.field-0.0 c.in_err-put_pairs.ensures.refused in
    rw got.1 (subst (λ r. IsMemoryOrOverflow (HasLargePair c.args.k left c.args.right.now) r) (sym same) cause)

pub loop-i-preserved : goal.loop-i-preserved
loop-i-preserved c =
    let k = c.args.k in
    let left = c.args.left.now in
    let right = c.args.right.now in
    let i = c.loop-i.i in
    let inside : i < length left = omega arith in
    let fits : FitsSigned w64 c.count_at.result = search rules in
    let row = c.row_at.ensures no_entry in
    let count : to_z w64 (of_z w64 c.count_at.result) ≡ (slice_index_or left i no_entry).count = to_z-of_z w64 c.count_at.result fits ∙ c.count_at.ensures no_entry in
    let mid = c.loop-i.entries in
    let pairs = λ (x : Entry). map (joined_entry k x) (filter (has_key k (take k x.row)) right) in
    let next : (i + 1) - 1 ≡ i = omega arith in
    record {
      pairs = put_flat pairs c.args.entries.now mid c.put_pairs.new.entries left i no_entry inside
          c.loop-i.invariant.pairs (c.in_ok-put_pairs.ensures.pairs ∙ (λ j. mid ++ pairs (entry_of (row j) (count j))));
      range = λ d some. subst (λ (n : ℕ). IsKeyRange k (take k (slice_index_or left n d).row) right c.range_of-range.result.0 c.range_of-range.result.1) (sym next) (c.range_of-range.ensures d);
    }
