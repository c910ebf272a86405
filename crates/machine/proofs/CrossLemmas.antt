-- A board may cross threads, and so may the routing of its dataflow. Each field may: a snapshot has
-- no bytes and owns nothing, so it says the same to every thread.
use denote.Builtin.{usize}
use denote.RattleType.{RattleType}
use denote.Struct.Declared.{shape}
use denote.Param.Send.{IsSend, sendable, view_send, recorded_send, struct_send}
use Rattle.std.proofs.Crossing.{crosses, Vec-send}
use Rattle.std.proofs.option.Option.TheSendSync as option
use Rattle.std.specs.declared.cmp.Ord as Ord
use Rattle.std.specs.declared.cmp.PartialEq as PartialEq
use Rattle.std.specs.declared.cmp.PartialOrd as PartialOrd
use Rattle.std.specs.declared.default.Default as Default
use Rattle.lattice.specs.declared.order.Minimum as Minimum
use Rattle.lattice.specs.declared.order.PartialOrder as PartialOrder
use Rattle.plan.proofs.node.NodeId.TheSendSync as node_id
use Rattle.views.proofs.view.View.TheSendSync as view
use Rattle.accounts.proofs.accounts.Accounts.TheSendSync as accounts
use Rattle.machine.proofs.board.routing.Edges.TheSendSync as edges
use Rattle.machine.specs.contracts.board.Board as Board
use Rattle.machine.specs.contracts.board.Board.TheInside as BoardInside
use Rattle.machine.specs.contracts.board.routing.Routing as Routing
use Rattle.machine.specs.contracts.board.routing.Routing.TheInside as RoutingInside

pub routing_send : IsSend Routing.the_row
routing_send = view_send RoutingInside.the_row _ _ _ _ (recorded_send RoutingInside.the_field.row _ _ RoutingInside.the_type.to_one
    (struct_send (shape RoutingInside.the_type)
    (search (sendable, crosses), (search sendable, (Vec-send _ edges.the_send, (Vec-send _ (option.the_send usize (search sendable)), tt))))))

module _ (T : RattleType) (g : Minimum.Ghosts T.Denot) (p : PartialOrder.Ghosts T.Denot)
    (o : Ord.Ghosts T.Denot) (e : PartialEq.Ghosts T.Denot) (c : PartialOrd.Ghosts T.Denot) (d : Default.Ghosts T.Denot) where
  pub board_send : IsSend T → IsSend (Board.the_row T g p o e c d)
  board_send s = view_send (BoardInside.the_row T g p o e c d) _ _ _ _ (recorded_send (BoardInside.the_field T g p o e c d).row _ _ (BoardInside.the_type T g p o e c d).to_one
      (struct_send (shape (BoardInside.the_type T g p o e c d))
      (accounts.the_send T g p o e c d s, (search sendable, (Vec-send _ (option.the_send _ node_id.the_send), (search (sendable, crosses), (Vec-send _ (view.the_send T g p o e c d s), (search (sendable, crosses), tt))))))))
