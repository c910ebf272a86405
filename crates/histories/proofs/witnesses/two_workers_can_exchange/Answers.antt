use Rattle.histories.proofs.HistoryLemmas.ExchangeLemmas.{exchange_legal, exchange_captured, exchange_frontier}
use Rattle.histories.proofs.witnesses.two_workers_can_exchange.Goals as goal

pub returns : goal.returns
returns c = record { legal = exchange_legal; captured = exchange_captured; frontier = exchange_frontier }
