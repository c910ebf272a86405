use Rattle.std.proofs.Common.{◌∙◌, List, ℤ, length, IsTrue, ap, sym, subst, arith}
use Rattle.std.specs.Prelude.{nat_le}
use Rattle.std.proofs.lemmas.Bool.{leb-true}
use Rattle.std.proofs.lemmas.List.{length-take-le}
use Rattle.oracle.proofs.PutLemmas.{no_entry, passes_at}
use Rattle.oracle.proofs.keys.key_at.Goals as goal

pub key-requires : goal.key-requires
key-requires c =
    let k = c.args.k in
    leb-true k (length c.row_at-row.result.now)
    (subst (λ (row : List ℤ). IsTrue (nat_le k (length row))) (sym (c.row_at-row.ensures no_entry)) (passes_at (λ e. nat_le k (length e.row)) c.args.bag.now c.args.i no_entry c.requires.inside c.requires.keys))

pub returns-clause-width : goal.returns-clause-width
returns-clause-width c =
    let k = c.args.k in
    let wide = leb-true k (length c.row_at-row.result.now)
    (subst (λ (row : List ℤ). IsTrue (nat_le k (length row))) (sym (c.row_at-row.ensures no_entry)) (passes_at (λ e. nat_le k (length e.row)) c.args.bag.now c.args.i no_entry c.requires.inside c.requires.keys)) in
    ap length c.key.ensures ∙ length-take-le k c.row_at-row.result.now wide

pub returns-clause-few : goal.returns-clause-few
returns-clause-few c =
    let k = c.args.k in
    let wide = leb-true k (length c.row_at-row.result.now)
    (subst (λ (row : List ℤ). IsTrue (nat_le k (length row))) (sym (c.row_at-row.ensures no_entry)) (passes_at (λ e. nat_le k (length e.row)) c.args.bag.now c.args.i no_entry c.requires.inside c.requires.keys)) in
    omega (arith, wide, c.known.ensures.few)
