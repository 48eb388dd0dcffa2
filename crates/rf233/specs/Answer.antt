-- Document 01's refusals by number ("Who can cause which refusal"), and what a refusal yields.
use Rattle.std.specs.Prelude.{ℕ, cond, List, [], ◌∷◌, ◌==◌, get_or, None}
use Rattle.rf233.specs.Action.{actions}
use Rattle.rf233.specs.declared.answer.Answer.{Answer}
use Rattle.rf233.specs.declared.answer.Answer.TheVariants.{
  Done,
  Off,
  Busy,
  Size,
  Long,
  Inval,
  Already,
  Handle,
  Held,
  Short,
  Full,
  Idle,
  Pool,
  Arrived,
  Configure,
  New,
  Nothing,
}
use Rattle.rf233.specs.declared.answer.Outcome.{Outcome}
use Rattle.rf233.specs.declared.driver.Driver.{Driver}

-- the number of an answer: 0, or the refusal's
abbrev pub answer_no : Answer → ℕ
answer_no Done = 0
answer_no Off = 1
answer_no Busy = 2
answer_no Size = 3
answer_no Long = 4
answer_no Inval = 5
answer_no Already = 6
answer_no Handle = 7
answer_no Held = 8
answer_no Short = 9
answer_no Full = 10
answer_no Idle = 11
answer_no Pool = 12
answer_no Arrived = 13
answer_no Configure = 14
answer_no New = 15
answer_no Nothing = 22

-- the answers in the order of their numbers, but for 22
abbrev pub answers : List Answer
answers =
    Done ∷ Off ∷ Busy ∷ Size ∷ Long ∷ Inval ∷ Already ∷ Handle
    ∷ Held ∷ Short ∷ Full ∷ Idle ∷ Pool ∷ Arrived ∷ Configure ∷ New ∷ []

-- the answer of a number; `answer_no` gives it back (`answer_of_number` and `number_of_answer` in proofs/Answers.antt)
abbrev pub answer_of : ℕ → Answer
answer_of n = cond (n == 22) Nothing (get_or answers n Done)

-- the refusal of this number: no transfer, no actions
abbrev pub refused : ℕ → Driver → Outcome
refused n d = record { driver = d; reply = record { answer = answer_of n; transfer = None; actions = actions [] } }
