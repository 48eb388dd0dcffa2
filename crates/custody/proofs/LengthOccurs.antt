-- Runs that `received_length` speaks of occur: of three frames the first is announced though an interrupt is handled between its length
-- read and its frame read, and shows a value that would be a length; the second is spoiled, and nothing is announced; the third goes into
-- the second's buffer and is announced. Computed. Assumes nothing.
use Rattle.std.proofs.Common.{◌≡◌, ℕ, true, false, List, [], ◌∷◌, ◌++◌, replicate, refl}
use Rattle.std.specs.List.{fold}
use Rattle.std.specs.Prelude.{None, Some}
use Rattle.rf233.specs.Calls.{Call, made, yields}
use Rattle.rf233.specs.Calls.Call.{start, fire, complete, receive_buffer, listener}
use Rattle.rf233.specs.Case.{case_of, perform, trees, tree_at}
use Rattle.rf233.specs.Choice.{pick}
use Rattle.rf233.specs.Completion.{
  completed,
  interrupt_result,
  frame_end,
  ready_bookkeeping,
  pending_interrupt,
  waiting_commit,
  frame_done,
}
use Rattle.rf233.specs.Config.{begin_start, start_call}
use Rattle.rf233.specs.Create.{new_call}
use Rattle.rf233.specs.Data.{receive_buffer_call}
use Rattle.rf233.specs.Described.{described}
use Rattle.rf233.specs.Interrupt.{handle_interrupt, interrupt_state}
use Rattle.rf233.specs.Kernel.{completing, completion_call, fired_call}
use Rattle.rf233.specs.Pool.{command_written}
use Rattle.rf233.specs.Record.{count_of}
use Rattle.rf233.specs.Rows.{eval, holds}
use Rattle.rf233.specs.Starter.{register_transfer, frame_read_into}
use Rattle.rf233.specs.declared.action.Action.{Action}
use Rattle.rf233.specs.declared.action.Action.TheVariants as action
use Rattle.rf233.specs.declared.driver.Client.TheVariants.{Receive}
use Rattle.rf233.specs.declared.driver.Driver.{Driver}
use Rattle.custody.specs.Claim.{Event}
use Rattle.custody.specs.ReceivedLength.{saw, seen, unread}

pool : List ℕ
pool = replicate 3040 0

-- a call, and a completion with these two bytes
abbrev call : Call → Event
call c = record { call = c; pool = pool }

abbrev done : ℕ → ℕ → Event
done x y = call (complete (x ∷ y ∷ []))

-- to READY, with the listener present
abbrev startup : List Event
startup =
    call (listener Receive true) ∷ call start
    ∷ (replicate 28 (done 0 0) ++ (call fire ∷ done 9 1 ∷ done 22 0 ∷ []))

-- a frame, until its length is being read; its second length byte, the check and the end of reception
abbrev frame : List Event
frame = call fire ∷ done 22 4 ∷ call fire ∷ done 9 0 ∷ done 9 8 ∷ []

abbrev frame_end_events : ℕ → List Event
frame_end_events n = done 9 n ∷ done 9 128 ∷ done 22 0 ∷ done 22 0 ∷ []

-- 20 bytes, with an interrupt behind the length read, which shows 67; 20 bytes, of which the frame read says 21; 14 bytes
pub events : List Event
events =
    startup ++ (call (receive_buffer 7 129) ∷ call (receive_buffer 2 160)
    ∷ (frame ++ (call fire ∷ done 9 20 ∷ done 9 67 ∷ (frame_end_events 20
    ++ (frame ++ (done 9 20 ∷ (frame_end_events 21
    ++ (frame ++ (done 9 14 ∷ frame_end_events 14)))))))))

-- the received notices of a list of calls: buffer and length
abbrev announced : List (ℕ × ℕ) → Action → List (ℕ × ℕ)
announced l action.Nothing = l
announced l (action.Power v) = l
announced l (action.Sent b a f) = l
announced l (action.Received b n v) = l ++ ((b, n) ∷ [])
announced l action.ConfigDone = l
announced l (action.Dropped b) = l
announced l action.IrqMakeInput = l
announced l action.IrqClear = l
announced l action.IrqSetFloatingState = l
announced l action.IrqEnableInterrupts = l
announced l action.IrqDisableInterrupts = l
announced l action.SleepMakeOutput = l
announced l action.SleepSet = l
announced l action.SleepClear = l
announced l action.ResetMakeOutput = l
announced l (action.ResetClear n) = l
announced l action.ResetSet = l

unfoldable pub notices : Driver → List (ℕ × ℕ) → List Event → List (ℕ × ℕ)
notices d l [] = l
notices d l (e ∷ es) = let o = yields d e.call e.pool in notices o.driver (fold announced l o.reply.actions.items) es

pub record Occurs : Type 0 where
  pub told : notices (new_call 129 26).driver [] events ≡ (7, 18) ∷ (2, 12) ∷ []
  pub reads : seen (new_call 129 26).driver unread events
      ≡ record {
        going = None;
        length = Some (record { buffer = 2; byte = 14 });
        frame = Some (record { buffer = 2; byte = 14 });
        wrong = false;
      }

pub length_occurs : Occurs
unfolding pool events saw seen notices made begin_start start_call new_call described count_of completing completion_call fired_call
    command_written completed interrupt_result interrupt_state frame_end ready_bookkeeping pending_interrupt waiting_commit frame_done
    handle_interrupt case_of perform eval trees tree_at holds register_transfer frame_read_into receive_buffer_call pick
length_occurs = record { told = refl; reads = refl }
