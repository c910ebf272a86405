use Rattle.std.proofs.Common.{◌≡◌, suc, ◌-◌, ◌∷◌, None, Some, length, ap, sym, ◌∙◌, arith}
use Rattle.std.specs.BTreeMap.{is_at}
use Rattle.std.specs.List.{filter}
use Rattle.std.specs.Map.{lookup, remove_entry, set_value}
use Rattle.antichain.proofs.Lists.{among_contains}
use Rattle.progress.specs.CountLists.{listed}
use Rattle.progress.proofs.CountListLemmas.{dropped, missing, same_value, written}
use Rattle.progress.proofs.TieLemmas.{one_tied, tied_one}
use Rattle.progress.proofs.entries.take_from_tree.Goals as goal

pub returns-in_default-clause-missing : goal.returns-in_default-clause-missing
returns-in_default-clause-missing g c e there =
    let x = c.args.t.now in
    let at = is_at (g.T.Ord.cmp x) in
    let es = c.args.others.now.entries in
    let look : lookup at es ≡ None = sym c.in_default.ensures.value in
    missing at x es (one_tied g.T.Ord.cmp g.met.T.Ord.total x) look (among_contains x (listed es) there)

pub returns-then-number-gt0-clause-counted : goal.returns-then-number-gt0-clause-counted
returns-then-number-gt0-clause-counted g c _ test =
    let x = c.args.t.now in
    let at = is_at (g.T.Ord.cmp x) in
    let es = c.args.others.now.entries in
    let v = c.in-Some.number.now in
    let look : lookup at es ≡ Some v = sym c.in-Some.ensures.value in
    let after : (c.get_mut.follows.lender (v - 1)).entries ≡ set_value at es (v - 1) = (c.get_mut.follows.holds (v - 1)).0 in
    let some = c.if-number-gt0.true in
    let next : suc (v - 1) ≡ v = omega (arith, some) in
    ap (λ fs. length (filter test (x ∷ listed fs))) after
    ∙ (sym (written at x (tied_one g.T.Ord.cmp g.met.T.Lattice.extends.exact x) es v (v - 1) look test)
    ∙ ap (λ fs. length (filter test (listed fs))) (ap (set_value at es) next ∙ same_value at x es v look))

pub returns-clause-counted : goal.returns-clause-counted
returns-clause-counted g c _ test =
    let x = c.args.t.now in
    let at = is_at (g.T.Ord.cmp x) in
    let es = c.args.others.now.entries in
    let v = c.in-Some.number.now in
    let none = c.if-number-gt0.false in
    let zero_left : v ≡ 0 = omega (arith, none) in
    let look : lookup at es ≡ Some v = sym c.in-Some.ensures.value in
    let after : (c.get_mut.follows.lender v).entries ≡ set_value at es v = (c.get_mut.follows.holds v).0 in
    let left : c.remove.new.self.entries ≡ remove_entry at (c.get_mut.follows.lender v).entries = c.remove.ensures.entries in
    ap (λ fs. length (filter test (x ∷ listed fs))) (left ∙ ap (remove_entry at) (after ∙ same_value at x es v look))
    ∙ dropped at x (tied_one g.T.Ord.cmp g.met.T.Lattice.extends.exact x) es (look ∙ ap Some zero_left) test
