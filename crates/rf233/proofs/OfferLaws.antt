-- The transfer that the record has stays the same over a decline (`declined_offer`), is the one that a resume offers (`resume_offers`), and
-- over whatever a call lays down (`laid_offer`). Assumes nothing.
use Rattle.std.proofs.Common.{◌≡◌, ℕ, Bool, true, false, not, ◌||◌, ◌&&◌, ◌+◌, ◌-◌, ◌%◌, T, eqb, leb, List, [], ◌∷◌, Option, None, Some}
use Rattle.std.proofs.Common.{refl, sym, ap, ◌∙◌, arith, length}
use Rattle.std.specs.Prelude.{is_some}
use borrow.Author.Tests.{not-false, leb-false}
use Rattle.rf233.specs.Calls.{Call}
use Rattle.rf233.specs.Calls.Call.{
  start,
  stop,
  commit,
  fire,
  query,
  declined,
  resume,
  complete,
  transmit,
  receive_buffer,
  reset,
  address,
  pan,
  channel,
  address_long,
  power,
  listener,
}
use Rattle.rf233.specs.Choice.{pick}
use Rattle.rf233.specs.Completion.{places_back}
use Rattle.rf233.specs.Data.{rx_full, tx_busy}
use Rattle.rf233.specs.Decline.{again, begun_again, declines, waiting, waits_no_more}
use Rattle.rf233.specs.DeclineClaim.{offer_of, offered, read_offer, write_offer, register_offer}
use Rattle.rf233.specs.Described.{described, own_wrong, unplaced}
use Rattle.rf233.specs.Driver.{with_under, with_tx_len, with_line, with_tx}
use Rattle.rf233.specs.Line.{append, front, line, line_room, some}
use Rattle.rf233.specs.Record.{lent, receive_count, tx_under_way}
use Rattle.rf233.specs.Starter.{begun, frame_read_into, frame_write_from, register_transfer, command_kind}
use Rattle.rf233.specs.Transfer.{to_complete, to_resume, under_way, waits, transfer_of}
use Rattle.rf233.specs.declared.driver.Buffers.{Buffers}
use Rattle.rf233.specs.declared.driver.Driver.{Driver}
use Rattle.rf233.specs.declared.driver.Lent.{Lent}
use Rattle.rf233.specs.declared.driver.Offer.TheVariants as offer
use Rattle.rf233.specs.declared.driver.Under.{Under}
use Rattle.rf233.specs.declared.driver.Under.TheVariants.{Idle, Register, FrameRead, FrameWrite, Waits}
use Rattle.rf233.specs.declared.starter.Started.{Started}
use Rattle.rf233.specs.declared.transfer.Transfer.{Transfer}
use Rattle.laws.proofs.Logic.{clash, none_left, none_right}
use Rattle.rf233.proofs.DeclineLaws.{n_again}
use Rattle.rf233.proofs.DeclinedFit.{Asked, twelve_asks}
use Rattle.rf233.proofs.DeclinedThenResumed.{command_is}
use Rattle.rf233.proofs.EveryCall.{laid, lending, sending}
use Rattle.rf233.proofs.LineLaws.{front_is}

-- a decline leaves it
pub declined_offer : (d : Driver) → to_complete d.buffers ≡ true → offered (declines d).buffers ≡ offered d.buffers
declined_offer d i = go d.buffers.under i
  where
    go : (u : Under) → under_way u ≡ true → offer_of (waiting u) (with_under (waiting u) (places_back u d.buffers)) ≡ offer_of u d.buffers
    go Register i = refl
    go (FrameRead x) i = rw (front_is (x ∷ line d.buffers)) refl
    go (FrameWrite x) i = refl
    go Idle i = clash false refl i
    go (Waits o) i = clash false refl i

-- ---- what a resume offers

some_front : (l : List Lent) → some l ≡ true → is_some (front l) ≡ true
some_front [] e = clash false refl e
some_front (x ∷ l) e = refl

-- the transfer t goes out, and the record has it then
pub record Offers (t : Option Transfer) (s : Started) : Type 0 where
  pub begins : begun s.answer ≡ t
  pub has : under_way s.driver.buffers.under ≡ true
  pub keeps : offered s.driver.buffers ≡ t
  pub some : is_some t ≡ true

module _ (d : Driver) where
  abbrev b : Buffers
  b = d.buffers

  abbrev Resumes : Under → Type 0
  Resumes u = Offers (offer_of u b) (again u (waits_no_more d))

  register_offers : own_wrong (Waits offer.Register) b ≡ false → Resumes (Waits offer.Register)
  unfolding register_transfer pick
  register_offers e =
      let t = not-false b.spi_tx (none_left (not b.spi_tx) _ e) in
      let r = not-false b.spi_rx (none_left (not b.spi_rx) _ (none_right (not b.spi_tx) _ e)) in
      rw (t, r)
      (record {
        begins = refl;
        has = refl;
        keeps = ap register_offer (command_is b.command);
        some = refl;
      })

  read_offers : (s : Option Lent) (m : ℕ) → is_some s ≡ true → b.spi_buf ≡ true → m + 2 ≡ b.spi_buf_len
      → Offers (read_offer s b.spi_buf_len) (frame_read_into s m (waits_no_more d))
  unfolding frame_read_into pick
  read_offers None m i s e = clash false refl i
  read_offers (Some x) m i s e =
      let n : m ≡ b.spi_buf_len - 2 = omega (arith, e) in
      rw (s, e, n) (record { begins = refl; has = refl; keeps = refl; some = refl })

  write_offers : (s : Option Lent) → is_some s ≡ true → b.spi_buf ≡ true
      → Offers (write_offer s b.tx_len b.spi_buf_len) (frame_write_from s (waits_no_more d))
  unfolding frame_write_from pick
  write_offers None i s = clash false refl i
  write_offers (Some x) i s = rw s (record { begins = refl; has = refl; keeps = refl; some = refl })

  offers : (u : Under) → waits u ≡ true → Asked u d → Resumes u
  offers (Waits offer.Register) w a = register_offers a.own
  offers (Waits offer.FrameRead) w a =
      let s = not-false b.spi_buf (none_left (not b.spi_buf) _ a.placed) in
      let f = not-false (some (line b)) (none_right (not b.spi_buf) _ a.placed) in
      read_offers (front (line b)) _ (some_front (line b) f) s (n_again b.spi_buf_whole b.spi_buf_len a.whole a.present)
  offers (Waits offer.FrameWrite) w a =
      let s = not-false b.spi_buf (none_left (not b.spi_buf) _ a.placed) in
      write_offers b.tx_buf (not-false (is_some b.tx_buf) (none_right (not b.spi_buf) _ a.placed)) s
  offers Idle w a = clash false refl w
  offers Register w a = clash false refl w
  offers (FrameRead x) w a = clash false refl w
  offers (FrameWrite x) w a = clash false refl w

-- the very transfer that waits
pub resume_offers : (d : Driver) → described d ≡ false → to_resume d.buffers ≡ true → Offers (offered d.buffers) (begun_again d)
resume_offers d e i = offers d d.buffers.under i (twelve_asks d e)

-- ---- what a call lays down

-- with a buffer in the transmit place or not, what is no frame write stays
no_write : (u : Under) (b : Buffers) (s : Option Lent) (n : ℕ) → is_some b.tx_buf ≡ false → is_some (tx_under_way u) ≡ false
    → unplaced u b ≡ false → offer_of u (with_tx_len n (with_tx s b)) ≡ offer_of u b
no_write Idle b s n t w p = refl
no_write Register b s n t w p = refl
no_write (FrameRead x) b s n t w p = refl
no_write (FrameWrite x) b s n t w p = clash true w refl
no_write (Waits offer.Register) b s n t w p = refl
no_write (Waits offer.FrameRead) b s n t w p = refl
no_write (Waits offer.FrameWrite) b s n t w p = clash (is_some b.tx_buf) t (not-false (is_some b.tx_buf) (none_right (not b.spi_buf) _ p))

-- the front of a line stays the front where another comes behind it
front_stays : (l : List Lent) (y : Lent) → some l ≡ true → front (append l y) ≡ front l
front_stays [] y e = clash false refl e
front_stays (x ∷ l) y e = refl

no_read : (u : Under) (b : Buffers) (y : Lent) → unplaced u b ≡ false → offer_of u (with_line (append (line b) y) b) ≡ offer_of u b
no_read Idle b y p = refl
no_read Register b y p = refl
no_read (FrameRead x) b y p = refl
no_read (FrameWrite x) b y p = refl
no_read (Waits offer.Register) b y p = refl
no_read (Waits offer.FrameRead) b y p =
    rw (
      front_is (append (line b) y),
      front_stays (line b) y (not-false (some (line b)) (none_right (not b.spi_buf) _ p)),
    ) refl
no_read (Waits offer.FrameWrite) b y p = refl

pub laid_offer : (c : Call) (d : Driver) → described d ≡ false → (T (sending c) → tx_busy d ≡ false)
    → offered (laid c d.buffers) ≡ offered d.buffers
laid_offer (transmit b l n) d e t =
    let r = d.buffers in
    let f = t tt in
    no_write r.under r (Some (lent b l)) (n + 2) (none_left (is_some r.tx_buf) _ f)
    (none_left (is_some (tx_under_way r.under)) _ (none_right (is_some r.tx_buf) _ f)) (twelve_asks d e).placed
laid_offer (receive_buffer b l) d e t = no_read d.buffers.under d.buffers (lent b l) (twelve_asks d e).placed
laid_offer start d e t = refl
laid_offer stop d e t = refl
laid_offer commit d e t = refl
laid_offer fire d e t = refl
laid_offer query d e t = refl
laid_offer declined d e t = refl
laid_offer resume d e t = refl
laid_offer (complete xs) d e t = refl
laid_offer (reset v) d e t = refl
laid_offer (address a) d e t = refl
laid_offer (pan a) d e t = refl
laid_offer (channel c) d e t = refl
laid_offer (address_long l) d e t = refl
laid_offer (power p) d e t = refl
laid_offer (listener x v) d e t = refl
