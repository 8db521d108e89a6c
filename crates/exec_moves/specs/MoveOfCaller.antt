-- The move of an outside caller: by what its call is for, and from then on by its place.
use Rattle.std.specs.Prelude.{ℕ, [], slice_index_or, Option, Some, None}
use Rattle.exec_machine.specs.{declared.{config.Configuration.Configuration, step.Action.{Action, Action as action}}, World.{Common, task_of}}
use Rattle.exec_moves.specs.{declared.handing.{CallPlace.{CallPlace, CallPlace as call}, InGlobal.{InGlobal, InGlobal as global}, InSignal.{InSignal, InSignal as signals}}, State.{Things, word_of, wake_poll_of}, Cells.shard_of, Send.next_task, Thing.{call_puts, set_word, set_wake_poll, set_mailbox, set_global, set_idle, set_shard, mailbox_of}, Call.{CallDesk, Called, spawn, wake_task, send_root, append, load_global_set, add_global_count, return_global_count, claim_worker, set_latch, raise, returns}}

-- THE FIRST STEP

abbrev pub call_spawn : Configuration → Common → CallDesk → Things → ℕ → Called Things
call_spawn c s d x k =
    let n = shard_of c (next_task s) in call_puts (set_shard n x) (spawn k s d (slice_index_or x.shards n []))

-- the task is an ordinary one, or the root of worker `home`
abbrev pub call_wake : Common → CallDesk → Things → ℕ → Option ℕ → Called Things
call_wake s d x u None = call_puts (λ it. x) (wake_task u d (task_of s u))
call_wake s d x u (Some home) = call_puts (set_mailbox home x) (send_root s home d (mailbox_of x home))

-- A STEP FURTHER

abbrev pub call_global : Common → CallDesk → Things → InGlobal → Called Things
call_global s d x global.Append = call_puts (set_global x) (append s d x.global)
call_global s d x global.LoadGlobalSet = call_puts (set_idle x) (load_global_set d x.idle)
call_global s d x (global.AddGlobalCount set) = call_puts (set_idle x) (add_global_count set d x.idle)
call_global s d x global.ReturnGlobalCount = call_puts (set_idle x) (return_global_count d x.idle)

abbrev pub call_signal : Common → CallDesk → Things → InSignal → ℕ → Called Things
call_signal s d x signals.SetLatch j = call_puts (set_word j x) (set_latch j d (word_of x j))
call_signal s d x (signals.Raise ring) j = call_puts (set_wake_poll j x) (raise s ring j d (wake_poll_of x j))

abbrev pub call_on : Common → CallDesk → Things → CallPlace → Called Things
call_on s d x call.Nothing = call_puts (λ it. x) (returns d)
call_on s d x (call.Global p) = call_global s d x p
call_on s d x (call.ClaimWorker set) = call_puts (set_idle x) (claim_worker set d x.idle)
call_on s d x (call.Signal p j) = call_signal s d x p j
call_on s d x call.Return = call_puts (λ it. x) (returns d)

-- what a step of a caller does; only actions of callers are asked for
abbrev pub move_of_caller : Configuration → Common → CallDesk → Things → Action → Called Things
move_of_caller c s d x (action.Spawn j k) = call_spawn c s d x k
move_of_caller c s d x (action.Wake j t) = call_wake s d x t (task_of s t).home
move_of_caller c s d x _ = call_on s d x d.place
