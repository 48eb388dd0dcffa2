-- An answer and its number tell each other: `number_of_answer` and `answer_of_number`. So an equation between answers and one between their
-- numbers say the same (`same_number`). Assumes nothing.
use mathlib.Core.Path.{◌≡◌, refl, sym, ap, ◌∙◌}
use Prim.Native.Nat.{ℕ, ◌<◌}
use lib.Dec.{eqb, eqb→eq}
use Rattle.laws.proofs.Logic.{below_at}
use Rattle.rf233.specs.Answer.{answer_no, answer_of}
use Rattle.rf233.specs.declared.answer.Answer.{Answer}
use Rattle.rf233.specs.declared.answer.Answer.TheVariants as answer

-- the answer of an answer's number is that answer
pub answer_of_number : (a : Answer) → answer_of (answer_no a) ≡ a
answer_of_number answer.Done = refl
answer_of_number answer.Off = refl
answer_of_number answer.Busy = refl
answer_of_number answer.Size = refl
answer_of_number answer.Long = refl
answer_of_number answer.Inval = refl
answer_of_number answer.Already = refl
answer_of_number answer.Handle = refl
answer_of_number answer.Held = refl
answer_of_number answer.Short = refl
answer_of_number answer.Full = refl
answer_of_number answer.Idle = refl
answer_of_number answer.Pool = refl
answer_of_number answer.Arrived = refl
answer_of_number answer.Configure = refl
answer_of_number answer.New = refl
answer_of_number answer.Nothing = refl

-- the number of the answer that a number from 0 to 15 has is that number
pub number_of_answer : (n : ℕ) → n < 16 → answer_no (answer_of n) ≡ n
number_of_answer n h = eqb→eq _ _ (below_at (λ n. eqb (answer_no (answer_of n)) n) 16 tt n h)

-- answers of the same number are the same
pub same_number : (a b : Answer) → answer_no a ≡ answer_no b → a ≡ b
same_number a b e = sym (answer_of_number a) ∙ (ap answer_of e ∙ answer_of_number b)
