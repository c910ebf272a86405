use Rattle.std.proofs.Common.{◌≡◌, ◌<◌, ◌+◌, ◌-◌, ◌∙◌, ◌∷◌, ◌++◌, [], List, ℤ, map, take, drop, length, slice_index_or, IsTrue, ap, sym, subst, inr, refl, to_z, of_z, w64, FitsSigned, rules, arith, length-drop}
use Rattle.std.specs.Prelude.{nat_le, ◌*ℤ◌}
use Rattle.std.specs.List.{filter}
use Rattle.std.proofs.lemmas.Bool.{leb-true}
use Rattle.std.proofs.lemmas.Int.{to_z-of_z}
use Rattle.std.proofs.lemmas.List.{append-nil, get_or_default}
use Rattle.plan.specs.Operators.{joined_entry}
use Rattle.plan.specs.Reductions.{has_key}
use Rattle.update.specs.Bags.{entry_of}
use Rattle.oracle.proofs.PutLemmas.{no_entry, passes_at}
use Rattle.oracle.proofs.PairLemmas.{put_kept_as}
use Rattle.oracle.proofs.join.put_pairs.Goals as goal

pub loop-j-init : goal.loop-j-init
loop-j-init c =
    let old = c.args.entries.now in
    let f = joined_entry c.args.k (entry_of c.args.row.now (to_z w64 (of_z w64 c.args.count))) in
    sym (ap (λ es. old ++ map f es) c.requires.range.before ∙ append-nil old)

pub returns-in_default-clause-refused : goal.returns-in_default-clause-refused
returns-in_default-clause-refused c =
    let es = c.args.right.now in
    let j = c.loop-j.j in
    let range = c.requires.range in
    let e = slice_index_or es j no_entry in
    let inside : j < length es = omega arith in
    let fits : FitsSigned w64 c.args.count = search rules in
    let other_fits : FitsSigned w64 c.count_at.result = search rules in
    let one : to_z w64 (of_z w64 c.args.count) ≡ c.args.count = to_z-of_z w64 c.args.count fits in
    let other : to_z w64 (of_z w64 c.count_at.result) ≡ e.count = to_z-of_z w64 c.count_at.result other_fits ∙ c.count_at.ensures no_entry in
    let large : FitsSigned w64 (to_z w64 (of_z w64 c.args.count) *ℤ to_z w64 (of_z w64 c.count_at.result)) → ⊥ = c.in_default.ensures in
    let same : to_z w64 (of_z w64 c.args.count) *ℤ to_z w64 (of_z w64 c.count_at.result) ≡ c.args.count *ℤ e.count = λ i. one i *ℤ other i in
    inr (refl, (j, e, inside, get_or_default es j e no_entry inside, (range.within j no_entry c.loop-j.auto.j c.loop-j-test.true, λ f. large (subst (FitsSigned w64) (sym same) f))))

pub rest-requires : goal.rest-requires
rest-requires c =
    let k = c.args.k in
    let range = c.requires.range in
    let inside : c.loop-j.j < length c.args.right.now = omega arith in
    leb-true k (length c.row_at.result.now)
    (subst (λ (row : List ℤ). IsTrue (nat_le k (length row))) (sym (c.row_at.ensures no_entry)) (passes_at (λ e. nat_le k (length e.row)) c.args.right.now c.loop-j.j no_entry inside c.requires.keys))

pub followed_by-requires : goal.followed_by-requires
followed_by-requires c =
    let k = c.args.k in
    let row = c.args.row.now in
    let es = c.args.right.now in
    let range = c.requires.range in
    let inside : c.loop-j.j < length es = omega arith in
    let e = slice_index_or es c.loop-j.j no_entry in
    let room = leb-true (length row + (length e.row - k)) 8 (passes_at (λ y. nat_le (length row + (length y.row - k)) 8) es c.loop-j.j no_entry inside c.requires.room) in
    let rest : length c.rest.result.now ≡ length e.row - k = ap length c.rest.ensures ∙ (length-drop k c.row_at.result.now ∙ ap (λ (row : List ℤ). length row - k) (c.row_at.ensures no_entry)) in
    omega (arith, room, rest)

pub loop-j-preserved : goal.loop-j-preserved
loop-j-preserved c =
    let k = c.args.k in
    let row = c.args.row.now in
    let es = c.args.right.now in
    let j = c.loop-j.j in
    let range = c.requires.range in
    let inside : j < length es = omega arith in
    let e = slice_index_or es j no_entry in
    let count = to_z w64 (of_z w64 c.args.count) in
    let other_fits : FitsSigned w64 c.count_at.result = search rules in
    let other : to_z w64 (of_z w64 c.count_at.result) ≡ e.count = to_z-of_z w64 c.count_at.result other_fits ∙ c.count_at.ensures no_entry in
    let both : FitsSigned w64 (count *ℤ to_z w64 (of_z w64 c.count_at.result)) × (c.in-Some.product ≡ count *ℤ to_z w64 (of_z w64 c.count_at.result)) = c.in-Some.ensures in
    let stored : to_z w64 (of_z w64 c.in-Some.product) ≡ c.in-Some.product = to_z-of_z w64 c.in-Some.product (subst (FitsSigned w64) (sym both.1) both.0) in
    let product : to_z w64 (of_z w64 c.in-Some.product) ≡ count *ℤ e.count = stored ∙ (both.1 ∙ ap (λ n. count *ℤ n) other) in
    let pair : c.followed_by.result ≡ row ++ drop k e.row = c.followed_by.ensures ∙ ap (λ rest. row ++ rest) (c.rest.ensures ∙ ap (drop k) (c.row_at.ensures no_entry)) in
    let mid = c.loop-j.entries in
    put_kept_as (has_key k (take k row)) (joined_entry k (entry_of row count)) c.args.entries.now mid c.push.new.self es j no_entry inside
    (range.within j no_entry c.loop-j.auto.j c.loop-j-test.true) c.loop-j.invariant (c.in_ok-push.ensures.added ∙ (λ i. mid ++ entry_of (pair i) (product i) ∷ []))

pub returns-clause-pairs : goal.returns-clause-pairs
returns-clause-pairs c =
    let k = c.args.k in
    let row = c.args.row.now in
    let es = c.args.right.now in
    let old = c.args.entries.now in
    let range = c.requires.range in
    let count = to_z w64 (of_z w64 c.args.count) in
    let fits : FitsSigned w64 c.args.count = search rules in
    let one : count ≡ c.args.count = to_z-of_z w64 c.args.count fits in
    let order = range.order in
    let last = c.loop-j.auto.j-end order in
    let at_end : c.loop-j.j ≡ c.args.range.1 = omega (arith, last) in
    c.loop-j.invariant
    ∙ (ap (λ n. old ++ map (joined_entry k (entry_of row count)) (filter (has_key k (take k row)) (take n es))) at_end
    ∙ (ap (λ l. old ++ map (joined_entry k (entry_of row count)) l) range.behind
    ∙ ap (λ n. old ++ map (joined_entry k (entry_of row n)) (filter (has_key k (take k row)) es)) one))
