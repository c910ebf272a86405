use Rattle.std.proofs.Common.{◌∙◌, [], sym}
use Rattle.std.proofs.lemmas.List.{append-nil}
use Rattle.importer.proofs.change_writer.pass_line.Goals as goal

pub returns : goal.returns
returns g c =
    let wrote = c.in_ok-pass_on.ensures.wrote in
    record {
      part = wrote.part;
      taken = wrote.taken;
      in_order = sym c.in_ok-push.ensures ∙ sym (append-nil c.push.new.self) ∙ wrote.in_order;
    }
