-- What the book is fed of a call has the buffer's number as a byte. To a book of 19 places that is the same as the call itself
-- (`same_entry`): a number past a byte is no buffer's, and neither is 255. Assumes nothing.
use Prim.Native.Nat.{ℕ, ◌≤◌}
use mathlib.Core.Path.{◌≡◌, refl}
use native.Mathlib.Omega.{arith}
use lib.Dec.{ltb}
use lib.ListN.{length}
use lib.Seq.{set_out}
use borrow.Author.Tests.{lt-ltb, ltb-false}
use Rattle.custody.specs.Book.{Fed, Page, brought, called, entered}
use Rattle.custody.specs.Book.Fed.{lends_transmit, lends_receive, completes, declines, resumes, other}
use Rattle.rf233.proofs.Conditions.{by_flag}
use Rattle.rf233.specs.declared.answer.Reply.{Reply}
use Rattle.scripted.specs.Feeding.{in_byte, shortened}

module _ (k : Page) (places : length k.places ≤ 19) where
  -- a buffer that there is not changes no place, and lending it is a fault
  brought_in_byte : (b p : ℕ) → brought (in_byte b) p k ≡ brought b p k
  brought_in_byte b p =
      by_flag (ltb b 256) (λ low. rw low)
      (λ high.
      let past = ltb-false b 256 high in
      rw (
        high,
        set_out k.places 255 p (omega (arith, places)),
        set_out k.places b p (omega (arith, places, past)),
        lt-ltb 18 b (omega (arith, past)),
      ))

  called_in_byte : (f : Fed) → called (shortened f) k ≡ called f k
  called_in_byte (lends_transmit b) = brought_in_byte b 2
  called_in_byte (lends_receive b) = brought_in_byte b 3
  called_in_byte completes = refl
  called_in_byte declines = refl
  called_in_byte resumes = refl
  called_in_byte other = refl

  pub same_entry : (f : Fed) (y : Reply) → entered (shortened f) y k ≡ entered f y k
  unfolding entered
  same_entry f y = rw (called_in_byte f)
