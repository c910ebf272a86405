use Rattle.std.proofs.Common.{◌∙◌, ◌-◌, List, ℤ, length, slice_index_or, take, IsTrue, sym, subst, arith}
use Rattle.std.specs.Prelude.{nat_le}
use Rattle.std.proofs.lemmas.Bool.{leb-true}
use Rattle.plan.proofs.CountLemmas.{row_same}
use Rattle.oracle.specs.Keys.{IsKeyRange}
use Rattle.oracle.proofs.PutLemmas.{no_entry, passes_at}
use Rattle.oracle.proofs.join.range_of.Goals as goal

pub returns-then-have_one_key : goal.returns-then-have_one_key
returns-then-have_one_key c d =
    let k = c.args.k in
    let left = c.args.left.now in
    let i = c.args.i in
    let same = row_same (take k (slice_index_or left (c.args.i - 1) d).row) (take k (slice_index_or left i d).row) (sym (c.have_one_key.ensures d) ∙ c.if-have_one_key.true) in
    subst (λ (key : List ℤ). IsKeyRange k key c.args.right.now c.args.before.0 c.args.before.1) same (c.requires.before d (omega arith))

pub key_range-requires-clause-key : goal.key_range-requires-clause-key
key_range-requires-clause-key c =
    let k = c.args.k in
    leb-true k (length c.row_at.result.now)
    (subst (λ (row : List ℤ). IsTrue (nat_le k (length row))) (sym (c.row_at.ensures no_entry)) (passes_at (λ e. nat_le k (length e.row)) c.args.left.now c.args.i no_entry c.requires.inside c.requires.left))
