use Rattle.desk.proofs.OpenLemmas.{one_more}
use Rattle.desk.proofs.fresh.add_reader_to.Goals as goal

pub returns-clause-more : goal.returns-clause-more
returns-clause-more g c =
    one_more g.T.PartialOrder.times c.args.arrangement.now c.add_reader.new.self c.in_ok-number.ensures.held c.in_ok-number.ensures.stands c.in_ok-number.ensures.«open»
