use denote.Exit.{no}
use denote.Param.Send.{param_send, arg_send}
use Rattle.session.proofs.CrossLemmas.{board_worker, board_worker_send}
use Rattle.crews.proofs.crew.Crew.run_ahead.Goals as goal

-- the workers may be sent
pub run_threads-requires-send-W : goal.run_threads-requires-send-W
run_threads-requires-send-W g c κs within = param_send 0 _ (arg_send _ no board_worker board_worker_send)
