use Rattle.std.proofs.Common.{true, Contains, subst, ◌∙◌, rules}
use Rattle.progress.proofs.KeptLemmas.{gone, moved}
use Rattle.progress.proofs.elements.has_element_if.Goals as goal

pub returns-then-counts-clause-gone : goal.returns-then-counts-clause-gone
returns-then-counts-clause-gone g c e nodes scope place items is front =
    gone g.T.PartialOrder.times g.met.T.PartialOrder.order nodes scope place c.args.elements.now.items c.args.t.now items true (is ∙ search rules)
    (λ _. subst (λ xs. Contains xs c.args.t.now → ⊥) c.as_slice.ensures.value (c.has_element.ensures.missing e)) front

pub returns-then-counts-clause-later : goal.returns-then-counts-clause-later
returns-then-counts-clause-later g c e nodes scope place items u is onward front =
    moved g.T.PartialOrder.times g.met.T.PartialOrder.order nodes scope place c.args.elements.now.items c.args.t.now u items true (is ∙ search rules)
    (λ _. subst (λ xs. Contains xs c.args.t.now → ⊥) c.as_slice.ensures.value (c.has_element.ensures.missing e)) onward front
