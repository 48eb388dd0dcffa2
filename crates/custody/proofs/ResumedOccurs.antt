-- A run that `resumed_is_declined` speaks of occurs: a register read, a register write, a length read, a frame read and a frame write are
-- each declined and offered again, the last one twice, and what was seen is right. Computed. Assumes nothing.
use Rattle.std.proofs.Common.{◌≡◌, ℕ, true, false, cond, List, [], ◌∷◌, ◌++◌, replicate, refl}
use Rattle.std.specs.Prelude.{Bool, None, Some}
use Rattle.rf233.specs.Calls.{Call, made, yields}
use Rattle.rf233.specs.Calls.Call.{start, fire, complete, transmit, receive_buffer, listener, declined, resume}
use Rattle.rf233.specs.Case.{case_of, perform, trees, tree_at}
use Rattle.rf233.specs.Choice.{pick}
use Rattle.rf233.specs.Completion.{
  completed,
  interrupt_result,
  frame_end,
  ready_bookkeeping,
  pending_interrupt,
  waiting_commit,
  frame_done,
}
use Rattle.rf233.specs.Config.{begin_start, start_call}
use Rattle.rf233.specs.Create.{new_call}
use Rattle.rf233.specs.Data.{begin_transmit, receive_buffer_call, transmit_call}
use Rattle.rf233.specs.Described.{described}
use Rattle.rf233.specs.Interrupt.{handle_interrupt, interrupt_state}
use Rattle.rf233.specs.Kernel.{completing, completion_call, declined_call, fired_call, resume_call}
use Rattle.rf233.specs.Pool.{command_written}
use Rattle.rf233.specs.Record.{count_of}
use Rattle.rf233.specs.Rows.{eval, holds}
use Rattle.rf233.specs.Starter.{register_transfer, frame_read_into, frame_write_from}
use Rattle.rf233.specs.Transfer.{kind_no}
use Rattle.rf233.specs.declared.driver.Client.TheVariants.{Receive}
use Rattle.rf233.specs.declared.driver.Driver.{Driver}
use Rattle.custody.specs.Book.{Fed}
use Rattle.custody.specs.Book.Fed.{lends_transmit, lends_receive, completes, declines, resumes, other}
use Rattle.custody.specs.Claim.{Event, fed}
use Rattle.custody.specs.ResumedIsDeclined.{saw, seen, unoffered}

pool : List ℕ
pool = replicate 3040 0

-- a call, and a completion with these two bytes
abbrev call : Call → Event
call c = record { call = c; pool = pool }

abbrev done : ℕ → ℕ → Event
done x y = call (complete (x ∷ y ∷ []))

-- the transfer under way is declined and offered again
abbrev again : List Event → List Event
again es = call declined ∷ call resume ∷ es

-- to READY, with the listener present; the first read and the first write are declined
abbrev startup : List Event → List Event
startup es =
    call (listener Receive true) ∷ call start
    ∷ again (done 0 0 ∷ done 0 0 ∷ done 0 0 ∷ again (replicate 25 (done 0 0) ++ (call fire ∷ done 9 1 ∷ done 22 0 ∷ es)))

-- a frame of 20 bytes, whose length read and frame read are declined; then a send, whose frame write is, twice
pub events : List Event
events =
    startup (call (receive_buffer 7 129) ∷ call fire ∷ done 22 4 ∷ call fire ∷ done 9 0 ∷ done 9 8
    ∷ again (done 9 20 ∷ again (done 9 20 ∷ done 9 128 ∷ done 22 0 ∷ done 22 0
    ∷ call (transmit 3 130 10) ∷ done 9 0 ∷ again (again []))))

-- the kinds of the transfers that resumes offered, in order
abbrev is_resume : Fed → Bool
is_resume (lends_transmit b) = false
is_resume (lends_receive b) = false
is_resume completes = false
is_resume declines = false
is_resume resumes = true
is_resume other = false

unfoldable pub offered_again : Driver → List Event → List ℕ
offered_again d [] = []
offered_again d (e ∷ es) =
    let o = yields d e.call e.pool in
    let more = offered_again o.driver es in
    cond (is_resume (fed e.call)) (kind_no o.reply.transfer ∷ more) more

pub record Occurs : Type 0 where
  pub kinds : offered_again (new_call 129 26).driver events ≡ 1 ∷ 2 ∷ 3 ∷ 3 ∷ 4 ∷ 4 ∷ []
  pub right : (seen (new_call 129 26).driver unoffered events).wrong ≡ false

pub resumed_occurs : Occurs
unfolding pool events saw seen offered_again made begin_start start_call new_call described count_of completing completion_call fired_call
    command_written completed interrupt_result interrupt_state frame_end ready_bookkeeping pending_interrupt waiting_commit frame_done
    handle_interrupt case_of perform eval trees tree_at holds register_transfer frame_read_into frame_write_from receive_buffer_call
    transmit_call begin_transmit declined_call resume_call pick
resumed_occurs = record { kinds = refl; right = refl }
