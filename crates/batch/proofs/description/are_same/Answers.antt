use Rattle.std.proofs.Common.{◌≡◌, true, sym, ◌∙◌, ap, rules}
use Rattle.std.specs.Ordering.{is_eq}
use Rattle.std.specs.Cmp.Lexicographic.{pointwise}
use Rattle.std.proofs.lemmas.Cmp.{tied_itself}
use Rattle.antichain.proofs.AntichainLemmas.{pointwise_exact, pointwise_same, equal_answer}
use Rattle.batch.proofs.description.are_same.Goals as goal

pub returns : goal.returns
returns g c =
    let ord = g.met.T.Ord in
    let exact = λ (x y : g.row.T.Denot) (e : g.T.PartialEq.eq x y ≡ true). g.met.T.Lattice.extends.exact x y (equal_answer _ (sym (ord.matches_eq x y) ∙ e)) in
    let same = λ (x : g.row.T.Denot). ord.matches_eq x x ∙ ap is_eq (tied_itself ord.total x) in
    let answer : c.eq.result ≡ pointwise g.T.PartialEq.eq c.args.f.now c.args.g.now = search rules in
    ((λ h. pointwise_exact exact same _ _ (sym answer ∙ h)), (λ e. answer ∙ pointwise_same exact same _ _ e))
