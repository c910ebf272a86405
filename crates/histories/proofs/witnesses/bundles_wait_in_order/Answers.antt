use Rattle.histories.proofs.HistoryLemmas.ExchangeLemmas.{in_order, not_overtaken, any_at_arrange}
use Rattle.histories.proofs.witnesses.bundles_wait_in_order.Goals as goal

pub returns : goal.returns
returns c = record { in_order = in_order; overtaken = not_overtaken; at_arrange = any_at_arrange }
