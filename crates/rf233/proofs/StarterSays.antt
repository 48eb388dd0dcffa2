-- What a starter says of what it found, and that the record then has the very transfer that it offered: `starter_says` of
-- specs/DeclineClaim.antt. Assumes nothing.
use Rattle.std.proofs.Common.{◌≡◌, ℕ, true, false, not, ◌||◌, ◌&&◌, ◌+◌, ◌-◌, T, cond, eqb, None, Some, refl, sym, ap, ◌∙◌, arith}
use Rattle.std.specs.Prelude.{Option}
use borrow.Author.Tests.{not-false}
use Rattle.rf233.specs.Choice.{pick}
use Rattle.rf233.specs.DeclineClaim.{Starter, StarterSays, asked, offered, read_offer}
use Rattle.rf233.specs.DeclineClaim.Starter.{register, reads, writes}
use Rattle.rf233.specs.Line.{front, line}
use Rattle.rf233.specs.Starter.{begins, begun, found, frame_read, frame_read_into, frame_write, frame_write_from, refrains}
use Rattle.rf233.specs.Starter.{register_transfer}
use Rattle.rf233.specs.Transfer.{free_to_start, kind_value, to_complete, to_resume, under_way, waits}
use Rattle.rf233.specs.declared.driver.Driver.{Driver}
use Rattle.rf233.specs.declared.driver.Lent.{Lent}
use Rattle.rf233.specs.declared.driver.Under.{Under}
use Rattle.rf233.specs.declared.starter.Started.{Started}
use Rattle.rf233.specs.declared.starter.StarterAnswer.{StarterAnswer}
use Rattle.rf233.specs.declared.starter.StarterAnswer.TheVariants.{Began, UnderWay, Waiting}
use Rattle.rf233.specs.declared.transfer.Transfer.{Transfer}
use Rattle.rf233.specs.declared.transfer.TransferKind.{TransferKind}
use Rattle.rf233.specs.declared.transfer.TransferKind.TheVariants as kind
use Rattle.laws.proofs.Logic.{clash, is_true, left}
use Rattle.rf233.proofs.ChoiceLaws.{branch, either}
use Rattle.rf233.proofs.Conditions.{by_flag}
use Rattle.rf233.proofs.OwnBuffers.{found_none, register_refrains}

-- where none may begin, no starter begins one
reads_refrain : (s : Option Lent) (n : ℕ) (d : Driver) → free_to_start d.buffers ≡ false → frame_read_into s n d ≡ refrains d
unfolding frame_read_into pick
reads_refrain None n d i = refl
reads_refrain (Some x) n d i = rw i

writes_refrain : (s : Option Lent) (d : Driver) → free_to_start d.buffers ≡ false → frame_write_from s d ≡ refrains d
unfolding frame_write_from pick
writes_refrain None d i = refl
writes_refrain (Some x) d i = rw i

pub asked_refrains : (s : Starter) (d : Driver) → free_to_start d.buffers ≡ false → asked s d ≡ refrains d
asked_refrains (register k x y) d i = register_refrains d k x y i
asked_refrains (reads n) d i = reads_refrain (front (line d.buffers)) n d i
asked_refrains writes d i = writes_refrain d.buffers.tx_buf d i

-- what it says then
found_way : (u : Under) → under_way u ≡ true → (found u ≡ UnderWay) × (not (under_way u || waits u) ≡ false)
found_way u i = grind arith

found_waiting : (u : Under) → waits u ≡ true → (found u ≡ Waiting) × (not (under_way u || waits u) ≡ false)
found_waiting u i = grind arith

says : (s : Starter) (d : Driver) (a : StarterAnswer) → (found d.buffers.under ≡ a) × (free_to_start d.buffers ≡ false)
    → asked s d ≡ record { answer = a; driver = d }
says s d a f = asked_refrains s d f.1 ∙ ap (λ (a : StarterAnswer). record { answer = a; driver = d }) f.0

-- a starter that refrains gives no transfer
module _ {A : Type 0} (d : Driver) (t : Transfer) where
  none_begins : (refrains d).answer ≡ Began t → A
  none_begins e =
      let z : ◌≡◌ {A = Option Transfer} None (Some t) = sym (found_none d.buffers.under) ∙ ap begun e in
      cc

-- what a starter that began left in the record is what it offered
module _ (t : Transfer) where
  abbrev Offers : Started → Type 0
  Offers s = s.answer ≡ Began t → offered s.driver.buffers ≡ Some t

  same_offer : (a b : Transfer) → ◌≡◌ {A = StarterAnswer} (Began a) (Began t) → a ≡ b → ◌≡◌ {A = Option Transfer} (Some b) (Some t)
  same_offer a b e f = ap Some (sym f) ∙ ap begun e

  reads_offer : (s : Option Lent) (n : ℕ) (d : Driver) → Offers (frame_read_into s n d)
  unfolding frame_read_into
  reads_offer None n d = λ e. none_begins d t e
  reads_offer (Some x) n d =
      either Offers _ _ _ (λ e. let m : n + 2 - 2 ≡ n = omega arith in rw m (ap begun e)) (λ e. none_begins d t e)

  writes_offer : (s : Option Lent) (d : Driver) → Offers (frame_write_from s d)
  unfolding frame_write_from
  writes_offer None d = λ e. none_begins d t e
  writes_offer (Some x) d = either Offers _ _ _ (λ e. ap begun e) (λ e. none_begins d t e)

  read_offers : (x y : ℕ) (d : Driver) → Offers (register_transfer kind.RegisterRead x y d)
  unfolding register_transfer
  read_offers x y d = either Offers _ _ _ (λ e. ap begun e) (λ e. none_begins d t e)

  write_offers : (x y : ℕ) (d : Driver) → Offers (register_transfer kind.RegisterWrite x y d)
  unfolding register_transfer
  write_offers x y d = either Offers _ _ _ (λ e. ap begun e) (λ e. none_begins d t e)

pub starter_says : StarterSays
starter_says =
    record {
      under_way = λ s d i. says s d UnderWay (found_way d.buffers.under i);
      waiting = λ s d i. says s d Waiting (found_waiting d.buffers.under i);
      began = λ s d t e.
          by_flag (free_to_start d.buffers) (λ f. f)
          (λ f. none_begins d t (ap (λ (s : Started). s.answer) (sym (asked_refrains s d f)) ∙ e));
      read = λ d x y t. read_offers t x y d;
      write = λ d x y t. write_offers t x y d;
      frame_reads = λ d n t. reads_offer t (front (line d.buffers)) n d;
      frame_writes = λ d t. writes_offer t d.buffers.tx_buf d;
    }
