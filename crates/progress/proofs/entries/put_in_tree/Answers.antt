use Rattle.std.proofs.Common.{◌≡◌, suc, ◌+◌, ◌∷◌, None, Some, length, ap, sym, ◌∙◌, arith}
use Rattle.std.specs.BTreeMap.{insert_entry, is_at}
use Rattle.std.specs.List.{filter}
use Rattle.std.specs.Map.{lookup, set_value}
use Rattle.progress.specs.CountLists.{listed}
use Rattle.progress.proofs.CountListLemmas.{entered, fits, same_value, written}
use Rattle.progress.proofs.TieLemmas.{tied_one}
use Rattle.progress.proofs.entries.put_in_tree.Goals as goal

pub overflow_add-number : goal.overflow_add-number
overflow_add-number g c =
    let look : lookup (is_at (g.T.Ord.cmp c.args.t)) c.args.others.now.entries ≡ Some c.in-Some.number.now = sym c.in-Some.ensures.value in
    let l = fits (is_at (g.T.Ord.cmp c.args.t)) c.args.t c.args.others.now.entries c.in-Some.number.now look in
    omega (arith, l, c.requires)

pub returns-in-Some-clause-counted : goal.returns-in-Some-clause-counted
returns-in-Some-clause-counted g c test =
    let x = c.args.t in
    let at = is_at (g.T.Ord.cmp x) in
    let es = c.args.others.now.entries in
    let v = c.in-Some.number.now in
    let look : lookup at es ≡ Some v = sym c.in-Some.ensures.value in
    let after : (c.get_mut.follows.lender (v + 1)).entries ≡ set_value at es (v + 1) = (c.get_mut.follows.holds (v + 1)).0 in
    let next : v + 1 ≡ suc v = omega arith in
    ap (λ fs. length (filter test (listed fs))) (after ∙ ap (set_value at es) next)
    ∙ (written at x (tied_one g.T.Ord.cmp g.met.T.Lattice.extends.exact x) es v v look test
    ∙ ap (λ fs. length (filter test (x ∷ listed fs))) (same_value at x es v look))

pub returns-in-Ok-clause-counted : goal.returns-in-Ok-clause-counted
returns-in-Ok-clause-counted g c test =
    let x = c.args.t in
    let cmp = g.T.Ord.cmp in
    let es = c.args.others.now.entries in
    let look : lookup (is_at (cmp x)) es ≡ None = sym c.in_default.ensures.value in
    let after : c.insert.new.self.entries ≡ insert_entry cmp c.get_mut.follows.lender-at-none.entries x 0 = c.in-Ok.ensures.entries in
    ap (λ fs. length (filter test (listed fs))) (after ∙ (λ i. insert_entry cmp (c.get_mut.follows.holds-at-none i).entries x 0))
    ∙ entered cmp x es look test
