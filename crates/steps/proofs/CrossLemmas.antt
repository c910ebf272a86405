-- A worker may cross threads if the board of its hub may.
use denote.RattleType.{RattleType}
use denote.Struct.Declared.{shape}
use denote.Param.Send.{IsSend, sendable, view_send, recorded_send, struct_send}
use Rattle.std.proofs.Crossing.{Box-send}
use Rattle.std.specs.declared.cmp.Ord as Ord
use Rattle.std.specs.declared.cmp.PartialEq as PartialEq
use Rattle.std.specs.declared.cmp.PartialOrd as PartialOrd
use Rattle.std.specs.declared.default.Default as Default
use Rattle.lattice.specs.declared.order.Minimum as Minimum
use Rattle.lattice.specs.declared.order.PartialOrder as PartialOrder
use Rattle.std.specs.Prelude.{Box}
use Rattle.std.specs.declared.alloc.Global.{Global}
use Rattle.hub.specs.declared.protocol.Protocol as Protocol
use Rattle.plan.proofs.plan.Plan.TheSendSync as plan
use Rattle.machine.proofs.CrossLemmas.{routing_send}
use Rattle.shared_board.specs.declared.board.SharedBoard.{SharedBoard}
use Rattle.shared_board.specs.declared.event.BoardEvent.{BoardEvent}
use Rattle.shared_board.proofs.CrossLemmas.{shared_board_send}
use Rattle.shared_board.proofs.actor.Actor.TheSendSync as actor
use Rattle.desk.proofs.desk.Desk.TheSendSync as desk
use Rattle.desk_laws.proofs.hand.Hand.TheSendSync as hand
use Rattle.steps.specs.contracts.worker.Worker as Worker
use Rattle.steps.specs.contracts.worker.Worker.TheInside as Inside

module _ (T P : RattleType) (g : Minimum.Ghosts T.Denot) (p : PartialOrder.Ghosts T.Denot)
    (o : Ord.Ghosts T.Denot) (e : PartialEq.Ghosts T.Denot) (c : PartialOrd.Ghosts T.Denot) (d : Default.Ghosts T.Denot)
    (h : Protocol.Ghosts P.Denot (Box (SharedBoard T.Denot) Global) (BoardEvent T.Denot)) where
  pub worker_send : IsSend T → IsSend (Worker.the_row T P g p o e c d h)
  worker_send s = view_send (Inside.the_row T P g p o e c d h) _ _ _ _ (recorded_send (Inside.the_field T P g p o e c d h).row _ _ (Inside.the_type T P g p o e c d h).to_one
      (struct_send (shape (Inside.the_type T P g p o e c d h)) (
        actor.the_send T P _ g p o e c d h (Box-send _ (shared_board_send T g p o e c d s)),
        (
          search sendable,
          (
            plan.the_send,
            (
              routing_send,
              (desk.the_send T g p o e c d s, (hand.the_field_send T p o e c d s, (search sendable, tt))),
            ),
          ),
        ),
      )))
