use Rattle.std.proofs.Common.{not, ◌&&◌, ap, sym, ◌∙◌}
use Rattle.progress.specs.declared.scope.Scope.TheVariants.{Output, Input, Port}
use Rattle.progress.specs.Tallies.{is_held_at}
use Rattle.progress.proofs.kept.Kept.insert_in_all.Goals as goal

pub returns-clause-fronts : goal.returns-clause-fronts
returns-clause-fronts g c items f =
    let nodes = c.args.graph.now in
    let n = c.args.node in
    let place = c.args.place.now in
    record {
      output = c.in_ok-insert_if.ensures.front nodes (Output n) place items c.requires.reached f.output;
      input = c.in_ok-insert_if-2.ensures.front nodes (Input n) place items (ap (λ b. b && not (is_held_at n place)) c.requires.reached ∙ sym (ap not c.is_held_at.ensures)) f.input;
      first = c.in_ok-insert_if-3.ensures.front nodes (Port n 0) place items (sym c.counts-at_first.ensures) f.first;
      second = c.in_ok-insert_if-4.ensures.front nodes (Port n 1) place items (sym c.counts-at_second.ensures) f.second;
    }
