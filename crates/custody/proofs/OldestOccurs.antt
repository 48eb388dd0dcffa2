-- Runs that `oldest_first` speaks of occur: the listener is made present, three buffers are lent, two of them before the first frame and
-- one while it is read out, and two frames are received; each goes into the oldest, and the third buffer is left. Computed.
-- Assumes nothing.
use Rattle.std.proofs.Common.{◌≡◌, ℕ, true, false, List, [], ◌∷◌, ◌++◌, replicate, refl}
use Rattle.rf233.specs.Calls.{Call, made}
use Rattle.rf233.specs.Calls.Call.{start, fire, complete, receive_buffer, listener}
use Rattle.rf233.specs.Case.{case_of, perform, trees, tree_at}
use Rattle.rf233.specs.Choice.{pick}
use Rattle.rf233.specs.Completion.{
  completed,
  interrupt_result,
  frame_end,
  ready_bookkeeping,
  pending_interrupt,
  waiting_commit,
  frame_done,
}
use Rattle.rf233.specs.Config.{begin_start, start_call}
use Rattle.rf233.specs.Create.{new_call}
use Rattle.rf233.specs.Data.{receive_buffer_call}
use Rattle.rf233.specs.Described.{described}
use Rattle.rf233.specs.Interrupt.{handle_interrupt, interrupt_state}
use Rattle.rf233.specs.Kernel.{completing, completion_call, fired_call}
use Rattle.rf233.specs.Pool.{command_written}
use Rattle.rf233.specs.Record.{count_of}
use Rattle.rf233.specs.Rows.{eval, holds}
use Rattle.rf233.specs.Starter.{register_transfer, frame_read_into}
use Rattle.rf233.specs.declared.driver.Client.TheVariants.{Receive}
use Rattle.custody.specs.Claim.{Event}
use Rattle.custody.specs.OldestFirst.{saw, seen, unseen}

pool : List ℕ
pool = replicate 3040 0

-- a call, and a completion with these two bytes
abbrev call : Call → Event
call c = record { call = c; pool = pool }

abbrev done : ℕ → ℕ → Event
done x y = call (complete (x ∷ y ∷ []))

-- to READY, with the listener present
abbrev startup : List Event
startup =
    call (listener Receive true) ∷ call start
    ∷ (replicate 28 (done 0 0) ++ (call fire ∷ done 9 1 ∷ done 22 0 ∷ []))

-- a frame, until its bytes are being read out, and what follows
abbrev frame : List Event
frame = call fire ∷ done 22 4 ∷ call fire ∷ done 9 0 ∷ done 9 8 ∷ done 9 14 ∷ []

abbrev frame_end_events : List Event
frame_end_events = done 9 14 ∷ done 9 128 ∷ done 22 0 ∷ done 22 0 ∷ []

pub events : List Event
events =
    startup ++ (call (receive_buffer 7 129) ∷ call (receive_buffer 2 160)
    ∷ (frame ++ (call (receive_buffer 5 129) ∷ (frame_end_events ++ (frame ++ frame_end_events)))))

pub oldest_occurs : seen (new_call 129 26).driver unseen events
    ≡ record { queue = record { accepted = 5 ∷ []; wrong = false }; listens = true; lent = true; unheard = false }
unfolding pool events saw seen made begin_start start_call new_call described count_of completing completion_call fired_call command_written
    completed interrupt_result interrupt_state frame_end ready_bookkeeping pending_interrupt waiting_commit frame_done handle_interrupt
    case_of perform eval trees tree_at holds register_transfer frame_read_into receive_buffer_call pick
oldest_occurs = refl
