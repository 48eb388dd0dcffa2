-- Both counts of the startup claim occur: a run of 30 completions whose first status is 0, the firing while the PLL_ON write is under way,
-- and one of 29 whose first status is TRX_OFF's, the firing after it; each ends in READY with radio on. Computed. Assumes nothing.
use Rattle.std.proofs.Common.{◌≡◌, ℕ, Bool, true, not, ◌&&◌, List, [], ◌∷◌, ◌++◌, replicate, refl}
use borrow.Author.Tests.{not-true}
use Rattle.rf233.specs.Case.{case_of, perform, trees, tree_at}
use Rattle.rf233.specs.Choice.{pick}
use Rattle.rf233.specs.Completion.{
  completed,
  interrupt_result,
  frame_end,
  ready_bookkeeping,
  pending_interrupt,
  waiting_commit,
  frame_done,
}
use Rattle.rf233.specs.Config.{begin_start, start_call}
use Rattle.rf233.specs.Create.{new_call}
use Rattle.rf233.specs.Described.{described}
use Rattle.rf233.specs.Guard.{after, accepted}
use Rattle.rf233.specs.Interrupt.{handle_interrupt, interrupt_state}
use Rattle.rf233.specs.Kernel.{completing, completion_call, fired_call}
use Rattle.rf233.specs.Pool.{command_written}
use Rattle.rf233.specs.Record.{count_of}
use Rattle.rf233.specs.Rows.{eval, holds}
use Rattle.rf233.specs.Starter.{register_transfer}
use Rattle.rf233.specs.declared.driver.Driver.{Driver}
use Rattle.laws.proofs.Logic.{both_left, both_right}
use Rattle.rf233.specs.StartupClaim.{Seen, Run, Starting, at_start, at_completion, at_firing, shows_lock, pll_on_sent, is_ready}
use Rattle.rf233.specs.StartupClaim.Run.{here, completes, fires}

pub pool : List ℕ
pool = replicate 3040 0

-- a completion with these two bytes, or the firing
data Event : Type 0 where
  done : ℕ → ℕ → Event
  fired : Event

-- a point of a run
record Point : Type 0 where
  seen : Seen
  driver : Driver

abbrev bytes : ℕ → ℕ → List ℕ
bytes x y = x ∷ y ∷ []

then : Point → Event → Point
then w (done x y) =
    let c = completion_call w.driver (bytes x y) pool in
    record { seen = at_completion (bytes x y) c.outcome w.seen; driver = after c }
then w fired = let c = fired_call w.driver pool in record { seen = at_firing c.outcome w.seen; driver = after c }

-- the event may come there
may : Point → Event → Bool
may w (done x y) = accepted (completion_call w.driver (bytes x y) pool) && shows_lock w.seen (bytes x y)
may w fired = accepted (fired_call w.driver pool) && (not w.seen.fired && pll_on_sent w.seen.sent)

all_may : Point → List Event → Bool
all_may w [] = true
all_may w (e ∷ es) = may w e && all_may (then w e) es

last : Point → List Event → Point
last w [] = w
last w (e ∷ es) = last (then w e) es

-- such events are a run
one : {s : Seen} {d : Driver} (w : Point) (e : Event) → may w e ≡ true → Run s d w.seen w.driver → Run s d (then w e).seen (then w e).driver
unfolding may then
one w (done x y) h r =
    let c = completion_call w.driver (bytes x y) pool in
    completes r (bytes x y) pool (both_left (accepted c) _ h) (both_right (accepted c) _ h)
one w fired h r =
    let c = fired_call w.driver pool in
    let i = both_right (accepted c) _ h in
    fires r pool (both_left (accepted c) _ h) (not-true w.seen.fired (both_left (not w.seen.fired) _ i)) (both_right (not w.seen.fired) _ i)

all : {s : Seen} {d : Driver} (w : Point) (es : List Event) → all_may w es ≡ true → Run s d w.seen w.driver
    → Run s d (last w es).seen (last w es).driver
unfolding all_may last
all w [] h r = r
all w (e ∷ es) h r = all (then w e) es (both_right (may w e) _ h) (one w e (both_left (may w e) _ h) r)

pub fresh_driver : Driver
fresh_driver = (new_call 129 26).driver

abbrev begin : Point
begin = record { seen = at_start (start_call fresh_driver pool).outcome; driver = after (start_call fresh_driver pool) }

-- the firing before the completion of the PLL_ON write, which is the 28th; where the first status is 8 it is the 27th, the firing after it
thirty : List Event
thirty = replicate 27 (done 0 0) ++ (fired ∷ done 0 0 ∷ done 0 1 ∷ done 0 0 ∷ [])

twenty_nine : List Event
twenty_nine = replicate 27 (done 8 0) ++ (fired ∷ done 0 1 ∷ done 0 0 ∷ [])

pub record Occurs (n : ℕ) : Type 0 where
  pub seen : Seen
  pub driver : Driver
  pub run : Starting fresh_driver pool seen driver
  pub count : seen.completions ≡ n
  pub ready : is_ready driver ≡ true

occurs : (n : ℕ) (es : List Event) → all_may begin es ≡ true → (last begin es).seen.completions ≡ n → is_ready (last begin es).driver ≡ true
    → Occurs n
occurs n es h c r = record { seen = (last begin es).seen; driver = (last begin es).driver; run = all begin es h here; count = c; ready = r }

pub both_occur : Occurs 30 × Occurs 29
unfolding pool fresh_driver thirty twenty_nine then may all_may last begin_start start_call new_call described count_of completing
    completion_call fired_call command_written completed interrupt_result interrupt_state frame_end ready_bookkeeping pending_interrupt
    waiting_commit frame_done handle_interrupt case_of perform eval trees tree_at holds register_transfer pick
both_occur = (occurs 30 thirty refl refl refl, occurs 29 twenty_nine refl refl refl)
