-- `ready_bookkeeping` meets its contract: what is marked goes on to the pending interrupt either way (`of_choice`). Assumes nothing.
use Rattle.rf233.specs.Completion.{now_on, pending_interrupt, ready_bookkeeping}
use Rattle.rf233.specs.Driver.{in_no}
use Rattle.rf233.proofs.ChoiceLaws.{of_choice}
use Rattle.rf233.proofs.driver.Driver.ready_bookkeeping.Goals as goal

pub returns : goal.returns
unfolding ready_bookkeeping
returns c =
    let x = c.args in
    rw (
      c.pending_interrupt.ensures,
      c.ready_marked.ensures,
      of_choice (pending_interrupt x.a) (in_no 29 x.self) (now_on x.self) x.self,
    )
