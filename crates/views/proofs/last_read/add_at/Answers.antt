use Rattle.std.proofs.Common.{◌++◌, ◌∷◌, [], ◌∙◌, IsSomeAnd, length, slice_set, map, sym, ap, subst, refl, FitsSigned, to_z, of_z, w64, rules}
use Rattle.std.proofs.lemmas.Int.{to_z-of_z}
use Rattle.std.proofs.lemmas.Option.{slice_get_read}
use Rattle.update.specs.Bags.{Alike, entry_of}
use Rattle.update.specs.Updates.{entry}
use Rattle.views.proofs.CapturedLemmas.{some_same, sum_went, sum_put}
use Rattle.views.proofs.last_read.add_at.Goals as goal

pub returns-then-sum-eq0-clause-added : goal.returns-then-sum-eq0-clause-added
returns-then-sum-eq0-clause-added g c holds =
    let us = c.args.arrived.now.items in
    let x = c.index.result.now in
    let at = slice_get_read us (length us) c.args.place x refl c.requires c.index.ensures in
    subst (λ o. IsSomeAnd o (λ u. Alike (map entry c.remove.new.self.items) (map entry us ++ entry_of u.row c.args.diff ∷ []))) (sym at)
    (sum_went us c.remove.new.self.items c.args.place x c.args.diff c.remove.ensures.items at (search rules))

pub returns-else-sum-eq0-clause-added : goal.returns-else-sum-eq0-clause-added
returns-else-sum-eq0-clause-added g c holds =
    let us = c.args.arrived.now.items in
    let x = c.index.result.now in
    let sum = c.in-Some.sum in
    let y = record c.index_mut.result.now { diff = to_z w64 (of_z w64 sum) } in
    let at = slice_get_read us (length us) c.args.place x refl c.requires c.index.ensures in
    let there = slice_get_read us (length us) c.args.place c.index_mut.result.now refl c.requires c.index_mut.ensures.value in
    let own = ap (λ u. u.row) (some_same c.index_mut.result.now x (sym there ∙ at)) in
    let fits : FitsSigned w64 sum = search rules in
    subst (λ o. IsSomeAnd o (λ u. Alike (map entry (slice_set us c.args.place y)) (map entry us ++ entry_of u.row c.args.diff ∷ []))) (sym at)
    (sum_put us c.args.place x y c.args.diff at own (to_z-of_z w64 sum fits ∙ search rules))
