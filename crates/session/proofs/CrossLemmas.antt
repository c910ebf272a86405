-- A worker of bitemporal boards may cross threads.
use denote.Builtin.{u64}
use denote.RattleType.{RattleType}
use denote.Param.Send.{IsSend, sendable}
use Rattle.std.specs.contracts.prelude.U64Clone.TheImpl as clone
use Rattle.std.specs.contracts.prelude.U64Default.TheImpl as default
use Rattle.std.specs.contracts.prelude.U64Eq.TheImpl as eq
use Rattle.std.specs.contracts.prelude.U64Ord.TheImpl as ord
use Rattle.std.specs.contracts.prelude.U64PartialEq.TheImpl as partial_eq
use Rattle.std.specs.contracts.prelude.U64PartialOrd.TheImpl as partial_ord
use Rattle.std.specs.declared.cmp.Ord as Ord
use Rattle.std.specs.declared.cmp.PartialEq as PartialEq
use Rattle.std.specs.declared.cmp.PartialOrd as PartialOrd
use Rattle.std.specs.declared.default.Default as Default
use Rattle.lattice.specs.declared.order.Minimum as Minimum
use Rattle.lattice.specs.declared.order.PartialOrder as PartialOrder
use Rattle.lattice.specs.contracts.natural.U64Lattice.TheImpl as lattice
use Rattle.lattice.specs.contracts.natural.U64Minimum.TheImpl as minimum
use Rattle.lattice.specs.contracts.natural.U64PartialOrder.TheImpl as partial_order
use Rattle.lattice.specs.contracts.product.Pair as Pair
use Rattle.lattice.specs.contracts.product.PairDefault.TheImpl as pair_default
use Rattle.lattice.specs.contracts.product.PairMinimum.TheImpl as pair_minimum
use Rattle.lattice.specs.contracts.product.PairOrd.TheImpl as pair_ord
use Rattle.lattice.specs.contracts.product.PairPartialEq.TheImpl as pair_partial_eq
use Rattle.lattice.specs.contracts.product.PairPartialOrd.TheImpl as pair_partial_ord
use Rattle.lattice.specs.contracts.product.PairPartialOrder.TheImpl as pair_partial_order
use Rattle.lattice.proofs.product.Pair.TheSendSync as pair
use Rattle.shared_board.specs.contracts.protocol.BitemporalBoards as BitemporalBoards
use Rattle.shared_board.specs.contracts.protocol.BitemporalBoardsProtocol.TheImpl as protocol
use Rattle.steps.specs.contracts.worker.Worker as Worker
use Rattle.steps.proofs.CrossLemmas.{worker_send}

-- what a time is, and how times are compared
abbrev bitime : RattleType
bitime = Pair.the_row u64 u64

abbrev eqs : PartialEq.Ghosts bitime.Denot
eqs = pair_partial_eq.ghosts u64 u64 partial_eq.ghosts partial_eq.dict partial_eq.ghosts partial_eq.dict

abbrev orders : PartialOrd.Ghosts bitime.Denot
orders = pair_partial_ord.ghosts u64 u64 partial_ord.ghosts partial_ord.dict partial_eq.ghosts partial_eq.dict partial_ord.ghosts partial_ord.dict partial_eq.ghosts partial_eq.dict

abbrev defaults : Default.Ghosts bitime.Denot
defaults = pair_default.ghosts u64 u64 default.ghosts default.dict default.ghosts default.dict

abbrev ords : Ord.Ghosts bitime.Denot
ords = pair_ord.ghosts u64 u64 ord.ghosts ord.dict eq.ghosts eq.dict partial_eq.ghosts partial_eq.dict partial_ord.ghosts partial_ord.dict
    ord.ghosts ord.dict eq.ghosts eq.dict partial_eq.ghosts partial_eq.dict partial_ord.ghosts partial_ord.dict

abbrev partial_orders : PartialOrder.Ghosts bitime.Denot
partial_orders = pair_partial_order.ghosts u64 u64 partial_order.ghosts partial_order.dict partial_order.ghosts partial_order.dict

abbrev minimums : Minimum.Ghosts bitime.Denot
minimums = pair_minimum.ghosts u64 u64
    minimum.ghosts minimum.dict lattice.ghosts lattice.dict partial_order.ghosts partial_order.dict ord.ghosts ord.dict eq.ghosts eq.dict partial_eq.ghosts partial_eq.dict partial_ord.ghosts partial_ord.dict clone.ghosts clone.dict default.ghosts default.dict
    minimum.ghosts minimum.dict lattice.ghosts lattice.dict partial_order.ghosts partial_order.dict ord.ghosts ord.dict eq.ghosts eq.dict partial_eq.ghosts partial_eq.dict partial_ord.ghosts partial_ord.dict clone.ghosts clone.dict default.ghosts default.dict

-- the worker of a script
abbrev pub board_worker : RattleType
board_worker = Worker.the_row bitime BitemporalBoards.the_row minimums partial_orders ords eqs orders defaults protocol.ghosts

pub board_worker_send : IsSend board_worker
board_worker_send = worker_send bitime BitemporalBoards.the_row minimums partial_orders ords eqs orders defaults protocol.ghosts
    (pair.the_send u64 u64 (search sendable) (search sendable))
