-- The invariant (`Inv`): the book agrees with the driver's record, the record fits the state, the lengths are within their bounds. What a
-- starter does, and a row's access, keeps it (`access_keeps`). From the moves of Match.antt and the tests of Fit.antt. Assumes nothing.
use Rattle.std.proofs.Common.{rules}
use Rattle.std.proofs.Common.{◌≡◌, ℕ, ◌+◌, ◌≤◌, true, false, ◌&&◌, T, eqb, leb, List, sym, refl, ap, ◌∙◌, subst, arith, leb→le}
use Rattle.std.proofs.Common.{length, le-leb, leb-true}
use Rattle.rf233_const.specs.Command as command
use Rattle.rf233.specs.Case.{accessed, handed}
use Rattle.rf233.specs.Choice.{pick, within}
use Rattle.rf233.specs.Described.{tx_length_bad, rx_length_bad, receive_length_bad}
use Rattle.rf233.specs.Line.{line_room, line, front, behind, rotate, some, any_of}
use Rattle.rf233.specs.Driver.{with_line, with_spi_buf_len, with_command}
use Rattle.std.specs.Prelude.{Some, is_some}
use Rattle.rf233.specs.Reception.{in_range}
use Rattle.rf233.specs.Record.{tx_under_way, rx_under_way}
use Rattle.rf233.specs.Rows.{Access, Shown}
use Rattle.rf233.specs.Rows.Access.{none, reads, writes, reads_length, reads_frame, writes_frame}
use Rattle.rf233.specs.Starter as starter
use Rattle.rf233.specs.Starter.{buffers_away, register_transfer, frame_read, frame_read_into, frame_write, frame_write_from, command_of}
use Rattle.rf233.specs.Step.{step_of}
use Rattle.rf233.specs.Transfer.{kind_no, kind_value, transfer_of, free_to_start}
use Rattle.rf233.specs.declared.driver.Command.{Command}
use Rattle.rf233.specs.declared.driver.Lent.{Lent}
use Rattle.rf233.specs.declared.transfer.TransferKind.{TransferKind}
use Rattle.rf233.specs.declared.transfer.TransferKind.TheVariants as transfer
use Rattle.rf233.specs.declared.action.Actions.{Actions}
use Rattle.rf233.specs.declared.answer.Outcome.{Outcome}
use Rattle.rf233.specs.declared.arrived.Arrived.{Arrived}
use Rattle.rf233.specs.declared.driver.Buffers.{Buffers}
use Rattle.rf233.specs.declared.driver.Driver.{Driver}
use Rattle.rf233.specs.declared.driver.Under.TheVariants.{Idle, Register, FrameRead, FrameWrite}
use Rattle.rf233.specs.declared.starter.Started.{Started}
use Rattle.custody.specs.Book.{Page, write_no, read_no, begun, noted_all}
use Rattle.laws.proofs.Logic.{both_left, left, right, none_left, none_right}
use Rattle.rf233.proofs.Facts.{of, under, holding}
use Rattle.rf233.proofs.Facts.Kind.{access, reading}
use Rattle.rf233.proofs.Fit.{fit, ok_access, fuller_fits}
use Rattle.rf233.proofs.RowLaws.{handed_keeps}
use Rattle.rf233.proofs.LineLaws.{length_behind, length_rotate, listed_is, listed_most}
use Rattle.rf233.proofs.LineLaws.{listed_behind, any_behind, any_rotate, front_behind}
use Rattle.rf233.proofs.OwnBuffers.{idle_is}
use Rattle.custody.proofs.Actions.{full, full_line}
use Rattle.custody.proofs.Match.{Match, Own, begins}
use Rattle.custody.proofs.UnderKind.{kind_of}

-- every length of the record is within its bounds
pub record Lengths (r : Buffers) : Type 0 where
  pub whole : within 129 160 r.spi_buf_whole ≡ true
  pub present : within 2 r.spi_buf_whole r.spi_buf_len ≡ true
  pub tx : tx_length_bad r.tx_buf r.tx_len ≡ false
  pub tx_under : tx_length_bad (tx_under_way r.under) r.tx_len ≡ false
  pub rx : any_of receive_length_bad (line r) ≡ false
  pub rx_under : rx_length_bad (rx_under_way r.under) ≡ false

-- the invariant
pub record Inv (k : Page) (d : Driver) : Type 0 where
  pub match : Match d.buffers k
  pub fitted : T (fit (of d))
  pub lengths : Lengths d.buffers

-- the book once the transfer of a step is entered
abbrev pub with_transfer : Outcome → Page → Page
with_transfer o k = let t = o.reply.transfer in begun (kind_no t) (write_no t) (read_no t) k

-- the invariant after a step: its actions are entered, and then its transfer
abbrev pub After : Page → Outcome → Type 0
After k o = Inv (with_transfer o (noted_all o.reply.actions.items k)) o.driver

-- ---- buffers handed back

-- another line whose lengths are within their bounds
pub lengths_line : (l : List Lent) (b : Buffers) → length l ≤ line_room → any_of receive_length_bad l ≡ false → Lengths b
    → Lengths (with_line l b)
lengths_line l b h e g =
    record {
      whole = g.whole;
      present = g.present;
      tx = g.tx;
      tx_under = g.tx_under;
      rx = rw (listed_is l h) e;
      rx_under = g.rx_under;
    }

pub handed_lengths : (sh : List Shown) (b : Buffers) → Lengths b → Lengths (handed sh b)
handed_lengths =
    handed_keeps Lengths
    (λ b g. search rules)
    (λ b g. let l = line b in
    lengths_line (behind l) b (omega (arith, length_behind l, listed_most b.rx_line)) (any_behind receive_length_bad l g.rx) g)
    (λ b g. let l = line b in
    lengths_line (rotate l) b (omega (arith, length_rotate l, listed_most b.rx_line)) (any_rotate receive_length_bad l ∙ g.rx) g)

pub handed_free : (sh : List Shown) (b : Buffers) → free_to_start b ≡ true → free_to_start (handed sh b) ≡ true
handed_free = handed_keeps (λ b. free_to_start b ≡ true) (λ b e. e) (λ b e. e) (λ b e. e)

-- ---- the lengths once a transfer has begun

pub lengths_register : (c : Command) (b : Buffers) → Lengths b → Lengths (with_command c (buffers_away Register b))
lengths_register c b g = search rules

lengths_read : (x : Lent) (n : ℕ) (b : Buffers) → front (line b) ≡ Some x → within 2 b.spi_buf_whole (n + 2) ≡ true → Lengths b
    → Lengths (with_spi_buf_len (n + 2) (buffers_away (FrameRead x) b))
lengths_read x n b e h g =
    let l = behind (line b) in
    let all = rw (front_behind (line b) x e) at g.rx in
    record {
      whole = g.whole;
      present = h;
      tx = g.tx;
      tx_under = refl;
      rx = rw (listed_behind b.rx_line) (none_right (receive_length_bad x) (any_of receive_length_bad l) all);
      rx_under = none_left (receive_length_bad x) (any_of receive_length_bad l) all;
    }

lengths_write : (x : Lent) (b : Buffers) → b.tx_buf ≡ Some x → Lengths b → Lengths (buffers_away (FrameWrite x) b)
lengths_write x b e g = search rules

-- ---- what is started where a transfer may begin

module _ (k : Page) (e : Driver) (m : Match e.buffers k) (g : Lengths e.buffers) (i : free_to_start e.buffers ≡ true) where
  own_there : Own e.buffers.spi_tx e.buffers.spi_rx e.buffers.spi_buf Idle
  own_there = rw (idle_is e.buffers.under i) at m.own

  pub register_begins : (n : TransferKind) (x y : ℕ)
      → register_transfer n x y e
      ≡ starter.begins (transfer_of n 16 17 x y 2 2) (with_command (command_of n x y) (buffers_away Register e.buffers)) e
  unfolding register_transfer pick
  register_begins n x y = rw (i, own_there.tx, own_there.rx)

  read_begins : (n : ℕ) (x : Lent) → frame_read_into (Some x) n e
      ≡ starter.begins (transfer_of transfer.FrameRead 18 x.buffer command.frame_read n (n + 2) x.length)
      (with_spi_buf_len (n + 2) (buffers_away (FrameRead x) e.buffers)) e
  unfolding frame_read_into pick
  read_begins n x = rw (i, own_there.buf)

  write_begins : (x : Lent) → frame_write_from (Some x) e
      ≡ starter.begins
      (transfer_of transfer.FrameWrite x.buffer 18 command.frame_write e.buffers.tx_len (e.buffers.tx_len + 2) e.buffers.spi_buf_len)
      (buffers_away (FrameWrite x) e.buffers) e
  unfolding frame_write_from pick
  write_begins x = rw (i, own_there.buf)

  -- the invariant once a starter has done its part, whatever the actions beside it
  module _ (l : Actions) where
    abbrev Begun : Started → Type 0
    Begun s = Inv (with_transfer (step_of s l) k) s.driver

    pub register_keeps : (n : TransferKind) (x y : ℕ) → kind_of (kind_value n) ≡ 1 → eqb (kind_value n) 0 ≡ false
        → T (fit (under access (of e))) → Begun (register_transfer n x y e)
    register_keeps n x y q z o =
        subst Begun (sym (register_begins n x y))
        (record {
          match = rw z (begins e.buffers k m Register (kind_value n) tt q i);
          fitted = o;
          lengths = lengths_register _ e.buffers g;
        })

    pub reading_keeps : (n : ℕ) → within 2 e.buffers.spi_buf_whole (n + 2) ≡ true
        → T (some (line e.buffers) && fit (holding (of e).tx false (under reading (of e))))
        → Begun (frame_read n e)
    reading_keeps n h o =
        full_line (line e.buffers) (left (some (line e.buffers)) _ o)
        (λ x q. subst Begun (sym (ap (λ s. frame_read_into s n e) q ∙ read_begins n x))
        (record {
          match = begins e.buffers k m (FrameRead x) 3 q refl i;
          fitted = fuller_fits (record { more = _; same = refl }) (right (some (line e.buffers)) _ o);
          lengths = lengths_read x n e.buffers q h g;
        }))

    pub writing_keeps : T (ok_access writes_frame (of e)) → Begun (frame_write e)
    writing_keeps o =
        full e.buffers.tx_buf (left (is_some e.buffers.tx_buf) _ o)
        (λ x q. subst Begun (sym (ap (λ s. frame_write_from s e) q ∙ write_begins x))
        (record {
          match = begins e.buffers k m (FrameWrite x) 4 q refl i;
          fitted = right (is_some e.buffers.tx_buf) _ o;
          lengths = lengths_write x e.buffers q g;
        }))

    -- a frame of up to 127 bytes fits the buffer that it is read out by
    frame_fits : (n : ℕ) → n ≤ 127 → within 2 e.buffers.spi_buf_whole (n + 2) ≡ true
    frame_fits n h =
        let w = e.buffers.spi_buf_whole in
        let least = leb-true 129 w (both_left (leb 129 w) _ g.whole) in
        rw (le-leb 2 (n + 2) (omega arith), le-leb (n + 2) w (omega arith))

    -- an access that passes the test of the rows
    pub access_keeps : (a : Arrived) (x : Access) → T (ok_access x (of e))
        → Inv (with_transfer (accessed x a l e) k) (accessed x a l e).driver
    access_keeps a none o = record { match = m; fitted = o; lengths = g }
    access_keeps a (reads r) o = register_keeps transfer.RegisterRead _ _ refl refl o
    access_keeps a (writes r v) o = register_keeps transfer.RegisterWrite _ _ refl refl o
    access_keeps a reads_length o = reading_keeps 0 (frame_fits 0 (omega arith)) o
    access_keeps a reads_frame o =
        let n = e.reception.length in
        let f = in_range e.reception in
        reading_keeps n (frame_fits n (leb→le n 127 (right (leb 11 n) _ (left f _ o)))) (right f _ o)
    access_keeps a writes_frame o = writing_keeps o
