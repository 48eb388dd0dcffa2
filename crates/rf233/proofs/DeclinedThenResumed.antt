-- A decline and the resume behind it leave the driver as it was, and offer the very transfer again: `declined_then_resumed` of
-- specs/DeclineClaim.antt. By the kind of transfer, from what refusal 12 asks of its places (DeclinedFit.antt). Assumes nothing.
use Rattle.std.proofs.Common.{◌≡◌, ℕ, true, false, not, ◌||◌, ◌&&◌, ◌+◌, ◌*◌, ◌-◌, ◌%◌, eqb, leb, List, [], ◌∷◌, Option, None, Some, refl}
use Rattle.std.proofs.Common.{sym, ap, ◌∙◌, arith, get_or, length, set, Bool, ◌<◌, ◌≤◌}
use Rattle.std.specs.Prelude.{is_some, cond}
use borrow.Author.Tests.{not-false, eq-eqb, eqb-false, leb-false, ltb-false}
use lib.ListN.{length-set}
use lib.Seq.{get_or-set_same, get_or-set_other}
use mathlib.Core.Bool.{and-true}
use Rattle.rf233.specs.Action.{actions}
use Rattle.rf233.specs.Calls.{with_pool}
use Rattle.rf233.specs.Choice.{pick}
use Rattle.rf233.specs.Completion.{places_back}
use Rattle.rf233.specs.Decline.{again, declines, length_again_of, resumed, waiting, waits_no_more}
use Rattle.rf233.specs.DeclineClaim.{Again, DeclinedThenResumed, commands, offer_of, offered, is_offered, others_same}
use Rattle.rf233.specs.Described.{described, is_above, tx_length_bad, meets}
use Rattle.rf233.specs.Driver.{with_buffers, with_under}
use Rattle.rf233.specs.Guard.{Called, stepping}
use Rattle.rf233.specs.Kernel.{declined_call, resume_call}
use Rattle.rf233.specs.Line.{line, line_of, line_room, listed, behind, names}
use Rattle.rf233.specs.Pool.{command_written, pool_length, start_of}
use Rattle.rf233.specs.Starter.{command_kind, command_first, command_second, command_of, frame_read_into, frame_write_from}
use Rattle.rf233.specs.Starter.{register_transfer, frame_read, frame_write}
use Rattle.rf233.specs.Step.{done_step, quiet, step_of}
use Rattle.rf233.specs.Transfer.{kind_value, to_complete, to_resume, under_way, waits, transfer_of}
use Rattle.rf233.specs.declared.answer.Outcome.{Outcome}
use Rattle.rf233.specs.declared.driver.Buffers.{Buffers}
use Rattle.rf233.specs.declared.driver.Command.{Command}
use Rattle.rf233.specs.declared.driver.Command.TheVariants as kept
use Rattle.rf233.specs.declared.driver.Driver.{Driver}
use Rattle.rf233.specs.declared.driver.Lent.{Lent}
use Rattle.rf233.specs.declared.driver.Under.{Under}
use Rattle.rf233.specs.declared.driver.Under.TheVariants.{Idle, Register, FrameRead, FrameWrite, Waits}
use Rattle.rf233.specs.declared.line.Line.{Line}
use Rattle.rf233.specs.declared.line.Line.TheVariants.{Empty, One, Two, Three, Four}
use Rattle.rf233.specs.declared.transfer.Transfer.{Transfer}
use Rattle.rf233.specs.declared.transfer.TransferKind.{TransferKind}
use Rattle.rf233.specs.declared.transfer.TransferKind.TheVariants as kind
use Rattle.laws.proofs.Logic.{clash, none_left, none_right}
use Rattle.rf233.proofs.DeclineLaws.{n_again, by_command}
use Rattle.rf233.proofs.DeclinedFit.{Asked, twelve_asks, waiting_fit}
use Rattle.rf233.proofs.Facts.{waits_waiting}
use Rattle.rf233.proofs.LineLaws.{listed_is}
use Rattle.rf233.proofs.Starred.{Passes12}
use Rattle.rf233.proofs.StarredSteps.{unguarded}

-- ---- the record once the transfer is offered again

-- the line of what a line lists is that line
line_is : (l : Line) → line_of (listed l) ≡ l
line_is Empty = refl
line_is (One a) = refl
line_is (Two a b) = refl
line_is (Three a b c) = refl
line_is (Four a b c d) = refl

-- the command of a kept register transfer is that command
pub command_is : (c : Command) → command_of (command_kind c) (command_first c) (command_second c) ≡ c
command_is (kept.Read x y) = refl
command_is (kept.Write x y) = refl

-- the record whose parts are those of b
abbrev rebuilt : Buffers → Bool → Bool → Bool → ℕ → Option Lent → Line → Under → Command → Buffers
rebuilt b t r s l x q u c =
    record b { spi_tx = t; spi_rx = r; spi_buf = s; spi_buf_len = l; tx_buf = x; rx_line = q; under = u; command = c }

same_record : (b : Buffers) {t r s : Bool} {l : ℕ} {x : Option Lent} {q : Line} {u : Under} {c : Command} → t ≡ b.spi_tx → r ≡ b.spi_rx
    → s ≡ b.spi_buf → l ≡ b.spi_buf_len → x ≡ b.tx_buf → q ≡ b.rx_line → u ≡ b.under → c ≡ b.command → rebuilt b t r s l x q u c ≡ b
same_record b e f g h i j k m = rw (e, f, g, h, i, j, k, m) refl

-- no buffer in a place
pub no_buffer : (s : Option Lent) → is_some s ≡ false → s ≡ None
no_buffer s e = grind arith

-- ---- the starter, once more

-- the driver with the buffers of u back and no transfer, and with u under way as it was
module _ (d : Driver) where
  abbrev b : Buffers
  b = d.buffers

  abbrev at_rest : Under → Driver
  at_rest u = with_buffers (with_under Idle (places_back u b)) d

  -- what the starter of u makes there
  abbrev Restored : Under → Outcome → Type 0
  Restored u o = o ≡ done_step (with_buffers (with_under u b) d) (offer_of u b) (actions [])

  register_again : Asked Register d → Restored Register (step_of (again (waiting Register) (at_rest Register)) (actions []))
  unfolding register_transfer pick
  register_again a =
      let t = none_left b.spi_tx _ a.own in
      let r = none_left b.spi_rx _ (none_right b.spi_tx _ a.own) in
      ap (λ (z : Buffers). done_step (with_buffers z d) (offer_of Register b) (actions []))
      (same_record (with_under Register b) (sym t) (sym r) refl refl refl refl refl (command_is b.command))

  read_again : (x : Lent) (m : ℕ) → Asked (FrameRead x) d → m + 2 ≡ b.spi_buf_len
      → Restored (FrameRead x) (step_of (frame_read m (at_rest (FrameRead x))) (actions []))
  unfolding frame_read_into pick
  read_again x m a e =
      let l = line b in
      let h = d.flags.interrupt_handling in
      let full = leb line_room (length l) in
      let s = none_left b.spi_buf _ a.own in
      let room = leb-false line_room (length l) (none_left full _ (none_right h _ a.frame)) in
      let there : listed (line_of (x ∷ l)) ≡ x ∷ l = listed_is (x ∷ l) (omega (arith, room)) in
      let n : m ≡ b.spi_buf_len - 2 = omega (arith, e) in
      rw (there, e, n)
      (ap (λ (z : Buffers). done_step (with_buffers z d) (offer_of (FrameRead x) b) (actions []))
      (same_record (with_under (FrameRead x) b) refl refl (sym s) refl refl
      (ap (λ l. line_of (behind l)) there ∙ line_is b.rx_line) refl refl))

  write_again : (x : Lent) → Asked (FrameWrite x) d
      → Restored (FrameWrite x) (step_of (frame_write (at_rest (FrameWrite x))) (actions []))
  unfolding frame_write_from pick
  write_again x a =
      let h = d.flags.interrupt_handling in
      let s = none_left b.spi_buf _ a.own in
      let t = none_left (is_some b.tx_buf) _ (none_right h _ a.frame) in
      ap (λ (z : Buffers). done_step (with_buffers z d) (offer_of (FrameWrite x) b) (actions []))
      (same_record (with_under (FrameWrite x) b) refl refl (sym s) refl (sym (no_buffer b.tx_buf t)) refl refl refl)

  restored : (u : Under) → under_way u ≡ true → Asked u d → Restored u (step_of (again (waiting u) (at_rest u)) (actions []))
  restored Register i a = register_again a
  restored (FrameRead x) i a = read_again x _ a (n_again b.spi_buf_whole b.spi_buf_len a.whole a.present)
  restored (FrameWrite x) i a = write_again x a
  restored Idle i a = clash false refl i
  restored (Waits o) i a = clash false refl i

-- ---- the bytes

-- a pool with two bytes next to each other, written in either order, and with one
module _ (q : List ℕ) (a x y : ℕ) (l : a + 1 < length q) where
  two_set : (get_or (set (set q a x) (a + 1) y) a 0 ≡ x) × (get_or (set (set q a x) (a + 1) y) (a + 1) 0 ≡ y)
  two_set = (
    get_or-set_other (set q a x) (a + 1) a y 0 (λ z. omega (arith, z)) ∙ get_or-set_same q a x 0 (omega (arith, l)),
    get_or-set_same (set q a x) (a + 1) y 0 (rw length-set l),
  )

  two_turned : (get_or (set (set q (a + 1) y) a x) a 0 ≡ x) × (get_or (set (set q (a + 1) y) a x) (a + 1) 0 ≡ y)
  two_turned = (
    get_or-set_same (set q (a + 1) y) a x 0 (rw length-set (omega (arith, l))),
    get_or-set_other (set q (a + 1) y) a (a + 1) x 0 (λ z. omega (arith, z)) ∙ get_or-set_same q (a + 1) y 0 l,
  )

  module _ (i : ℕ) (f : eqb i a ≡ false) (g : eqb i (a + 1) ≡ false) where
    two_same : get_or (set (set q a x) (a + 1) y) i 0 ≡ get_or q i 0
    two_same = get_or-set_other (set q a x) (a + 1) i y 0 (eqb-false i (a + 1) g) ∙ get_or-set_other q a i x 0 (eqb-false i a f)

    turned_same : get_or (set (set q (a + 1) y) a x) i 0 ≡ get_or q i 0
    turned_same = get_or-set_other (set q (a + 1) y) a i x 0 (eqb-false i a f) ∙ get_or-set_other q (a + 1) i y 0 (eqb-false i (a + 1) g)

-- the commands of transfer t, and nothing else, are written from q to p
abbrev Only : Transfer → List ℕ → List ℕ → Type 0
Only t q p = commands t p × others_same t q p

module _ (d : Driver) (q : List ℕ) (m : length q ≡ pool_length) where
  register_writes : (c : Command)
      → let t = transfer_of (command_kind c) 16 17 (command_first c) (command_second c) 2 2 in Only t q (command_written (Some t) q)
  unfolding command_written pick
  register_writes c =
      let P : TransferKind → Type 0 = λ k.
      let t = transfer_of k 16 17 (command_first c) (command_second c) 2 2 in Only t q (command_written (Some t) q) in
      let w = two_set q 2560 (command_first c) (command_second c) (omega (arith, m)) in
      let same = two_same q 2560 (command_first c) (command_second c) (omega (arith, m)) in
      by_command P ((w.0, λ z. w.1), λ i f g. same i f (rw and-true at g)) ((w.0, λ z. w.1), λ i f g. same i f (rw and-true at g)) c

  read_writes : (x : Lent)
      → let t = transfer_of kind.FrameRead 18 x.buffer 0x20 (d.buffers.spi_buf_len - 2) d.buffers.spi_buf_len x.length in
      Only t q (command_written (Some t) q)
  unfolding command_written pick
  read_writes x = (
    (get_or-set_same q 2880 0x20 0 (omega (arith, m)), λ z. clash false refl (sym z)),
    λ i f g. get_or-set_other q 2880 i 0x20 0 (eqb-false i 2880 f),
  )

  write_writes : (x : Lent) → x.buffer ≤ 15
      → let n = d.buffers.tx_len in
      let t = transfer_of kind.FrameWrite x.buffer 18 0x60 n (n + 2) d.buffers.spi_buf_len in
      Only t q (command_written (Some t) (set q (start_of x.buffer + 1) n))
  unfolding command_written pick
  write_writes x h =
      let a = start_of x.buffer in
      let n = d.buffers.tx_len in
      let l : a + 1 < length q = omega (arith, m, h) in
      let w = two_turned q a 0x60 n l in ((w.0, λ z. w.1), λ i f g. turned_same q a 0x60 n l i f (rw and-true at g))

-- so of whatever transfer is offered
lift : (q : List ℕ) (o : Option Transfer) (r p : List ℕ) → p ≡ command_written o r
    → is_offered (λ t. Only t q (command_written (Some t) r)) o
    → is_offered (λ t. commands t p) o × is_offered (λ t. others_same t q p) o
lift q None r p e w = absurd w
lift q (Some t) r p e w = rw e w

-- ---- the two calls

module _ (d : Driver) (p q : List ℕ) (e : described d ≡ false) (i : to_complete d.buffers ≡ true) (l : length p ≡ pool_length)
    (m : length q ≡ pool_length)
  where
    fit : described (declines d) ≡ false
    fit = waiting_fit d e i

    declined_is : declined_call d p ≡ with_pool (quiet (declines d) (actions [])) p
    unfolding declined_call pick
    declined_is = rw (unguarded d p _ (record { pool = l; fit = e }), i)

    -- the pool before the command bytes are written
    abbrev with_length : List ℕ
    with_length = length_again_of (waiting d.buffers.under) (declines d).buffers q

    resumed_is : resume_call (declines d) q ≡ stepping (done_step d (offered d.buffers) (actions [])) with_length
    unfolding resume_call pick
    resumed_is =
        rw (unguarded (declines d) q _ (record { pool = m; fit = fit }), waits_waiting d.buffers.under i)
        (ap (λ o. stepping o with_length) (restored d d.buffers.under i (twelve_asks d e)))

    -- the bytes, by the transfer
    abbrev Writes : Under → Type 0
    Writes u =
        let r = length_again_of (waiting u) (with_under (waiting u) (places_back u d.buffers)) q in
        is_offered (λ t. commands t (command_written (Some t) r) × others_same t q (command_written (Some t) r)) (offer_of u d.buffers)

    writes : (u : Under) → under_way u ≡ true → Asked u d → Writes u
    writes Register i a = register_writes d q m d.buffers.command
    writes (FrameRead x) i a = read_writes d q m x
    writes (FrameWrite x) i a =
        let h = d.flags.interrupt_handling in
        let b = d.buffers in
        let f = none_right (is_some b.tx_buf) _ (none_right h _ a.frame) in
        let low = none_left (is_above x) (tx_length_bad (Some x) b.tx_len) (none_left _ (meets (names (line b)) (x.buffer ∷ [])) f) in
        write_writes d q m x (omega (arith, ltb-false 15 x.buffer low))
    writes Idle i a = clash false refl i
    writes (Waits o) i a = clash false refl i

    again_bytes : Writes d.buffers.under
    again_bytes = writes d.buffers.under i (twelve_asks d e)

    again_holds : Again d p q
    again_holds =
        let p = (resume_call (declines d) q).pool in
        let b = lift q (offered d.buffers) with_length p (ap (λ (c : Called). c.pool) resumed_is) again_bytes in
        record {
          declined = declined_is;
          waits = fit;
          resumed = ap (λ (c : Called). c.outcome) resumed_is;
          commands_written = b.0;
          others_kept = b.1;
        }

pub declined_then_resumed : DeclinedThenResumed
declined_then_resumed = again_holds
