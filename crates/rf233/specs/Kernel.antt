-- What the kernel brings: a completion with its arrived bytes, a firing of the interrupt pin, and of a transfer that the SPI layer declined
-- the decline and the resume.
use Rattle.std.specs.Prelude.{ℕ, Bool, not, ◌||◌, List, [], ltb, length}
use Rattle.rf233.specs.Action.{actions}
use Rattle.rf233.specs.Arrived.{arrived_of}
use Rattle.rf233.specs.Choice.{pick}
use Rattle.rf233.specs.Completion.{completed}
use Rattle.rf233.specs.Decline.{declines, length_again, resumed}
use Rattle.rf233.specs.Guard.{Called, refusing, stepping, guarded}
use Rattle.rf233.specs.Interrupt.{handle_interrupt}
use Rattle.rf233.specs.Pool.{copied, read_buffer, shorter}
use Rattle.rf233.specs.Step.{quiet}
use Rattle.rf233.specs.Transfer.{to_complete, to_resume}
use Rattle.rf233.specs.declared.driver.Buffers.{Buffers}
use Rattle.rf233.specs.declared.driver.Driver.{Driver}

-- fewer than 2 bytes, or more than the shorter length
abbrev pub arrived_bad : List ℕ → Buffers → Bool
arrived_bad xs b = ltb (length xs) 2 || ltb (shorter b) (length xs)

-- a completion that is not refused: its bytes are copied first
unfoldable pub completing : Driver → List ℕ → List ℕ → Called
completing d xs p = stepping (completed (arrived_of xs) d) (copied (read_buffer d.buffers.under) xs p)

-- completion: 12; 11 with no transfer to complete; 13
unfoldable pub completion_call : Driver → List ℕ → List ℕ → Called
completion_call d xs p =
    guarded d p
    (pick (not (to_complete d.buffers)) (refusing 11 d p)
    (pick (arrived_bad xs d.buffers) (refusing 13 d p) (completing d xs p)))

-- firing: 12
unfoldable pub fired_call : Driver → List ℕ → Called
fired_call d p = guarded d p (stepping (handle_interrupt d) p)

-- decline: 12; 11 with no transfer under way. No byte of the pool is altered
unfoldable pub declined_call : Driver → List ℕ → Called
declined_call d p =
    guarded d p (pick (not (to_complete d.buffers)) (refusing 11 d p) (record { outcome = quiet (declines d) (actions []); pool = p }))

-- resume: 12; 22 with no transfer waiting. The command bytes are written anew, of a frame write both
unfoldable pub resume_call : Driver → List ℕ → Called
resume_call d p =
    guarded d p (pick (not (to_resume d.buffers)) (refusing 22 d p) (stepping (resumed d) (length_again d.buffers p)))
