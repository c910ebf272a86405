-- A shared board may cross threads.
use denote.Builtin.{u64}
use denote.RattleType.{RattleType}
use denote.Struct.Declared.{shape}
use denote.Param.Send.{IsSend, sendable, view_send, recorded_send, struct_send}
use Rattle.std.proofs.option.Option.TheSendSync as option
use Rattle.std.specs.declared.cmp.Ord as Ord
use Rattle.std.specs.declared.cmp.PartialEq as PartialEq
use Rattle.std.specs.declared.cmp.PartialOrd as PartialOrd
use Rattle.std.specs.declared.default.Default as Default
use Rattle.lattice.specs.declared.order.Minimum as Minimum
use Rattle.lattice.specs.declared.order.PartialOrder as PartialOrder
use Rattle.machine.proofs.CrossLemmas.{board_send}
use Rattle.shared_board.specs.contracts.board.SharedBoard as SharedBoard
use Rattle.shared_board.specs.contracts.board.SharedBoard.TheInside as Inside

module _ (T : RattleType) (g : Minimum.Ghosts T.Denot) (p : PartialOrder.Ghosts T.Denot)
    (o : Ord.Ghosts T.Denot) (e : PartialEq.Ghosts T.Denot) (c : PartialOrd.Ghosts T.Denot) (d : Default.Ghosts T.Denot) where
  pub shared_board_send : IsSend T → IsSend (SharedBoard.the_row T g p o e c d)
  shared_board_send s = view_send (Inside.the_row T g p o e c d) _ _ _ _ (recorded_send (Inside.the_field T g p o e c d).row _ _ (Inside.the_type T g p o e c d).to_one
      (struct_send (shape (Inside.the_type T g p o e c d))
      (board_send T g p o e c d s, (search sendable, (option.the_field_send u64 (search sendable), (search sendable, tt))))))
