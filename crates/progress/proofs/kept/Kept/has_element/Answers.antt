use Rattle.std.proofs.Common.{not, ◌&&◌, ap, sym, ◌∙◌}
use Rattle.progress.specs.declared.scope.Scope.TheVariants.{Output, Input, Port}
use Rattle.progress.specs.Tallies.{is_held_at}
use Rattle.progress.proofs.kept.Kept.has_element.Goals as goal

pub returns-clause-gone : goal.returns-clause-gone
returns-clause-gone g c e items f =
    let nodes = c.args.graph.now in
    let n = c.args.node in
    let place = c.args.place.now in
    record {
      output = c.has_element_if.ensures.gone c.if-has_element_if.false nodes (Output n) place items c.requires.reached f.output;
      input = c.has_element_if-2.ensures.gone c.if-has_element_if-2.false nodes (Input n) place items (ap (λ b. b && not (is_held_at n place)) c.requires.reached ∙ sym (ap not c.is_held_at.ensures)) f.input;
      first = c.has_element_if-3.ensures.gone c.if-has_element_if-3.false nodes (Port n 0) place items (sym c.counts-at_first.ensures) f.first;
      second = c.has_element_if-4.ensures.gone e nodes (Port n 1) place items (sym c.counts-at_second.ensures) f.second;
    }

pub returns-clause-later : goal.returns-clause-later
returns-clause-later g c e items u onward f =
    let nodes = c.args.graph.now in
    let n = c.args.node in
    let place = c.args.place.now in
    record {
      output = c.has_element_if.ensures.later c.if-has_element_if.false nodes (Output n) place items u c.requires.reached onward f.output;
      input = c.has_element_if-2.ensures.later c.if-has_element_if-2.false nodes (Input n) place items u (ap (λ b. b && not (is_held_at n place)) c.requires.reached ∙ sym (ap not c.is_held_at.ensures)) onward f.input;
      first = c.has_element_if-3.ensures.later c.if-has_element_if-3.false nodes (Port n 0) place items u (sym c.counts-at_first.ensures) onward f.first;
      second = c.has_element_if-4.ensures.later e nodes (Port n 1) place items u (sym c.counts-at_second.ensures) onward f.second;
    }
