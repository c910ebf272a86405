use denote.Exit.{no}
use denote.Param.Send.{param_send, arg_send}
use Rattle.session.proofs.CrossLemmas.{board_worker, board_worker_send}
use Rattle.thread_trials.proofs.run_tests.a_number_that_is_too_large_ends_the_run.Goals as goal

pub run_threads-requires-send-W : goal.run_threads-requires-send-W
run_threads-requires-send-W c κs within = param_send 0 _ (arg_send _ no board_worker board_worker_send)

pub run_threads-requires-2-send-W : goal.run_threads-requires-2-send-W
run_threads-requires-2-send-W c κs within = param_send 0 _ (arg_send _ no board_worker board_worker_send)
