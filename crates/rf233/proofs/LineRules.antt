-- The rules of request 2026-07, each said once more, of the calls and not of the rows, and proved from the definitions as one table:
-- `line_rules`. With a rule altered in definition and code alike a line of it fails. Assumes nothing.
use Prim.Native.Nat.{ℕ, ◌≤◌, ◌<◌}
use mathlib.Core.Path.{◌≡◌, refl}
use mathlib.Core.Bool.{Bool, true, false}
use mathlib.Core.List.{List, [], ◌∷◌}
use lib.Dec.{ltb}
use borrow.Author.Tests.{le-leb, lt-leb}
use Rattle.std.specs.Prelude.{Some}
use Rattle.rf233.specs.Action.{actions}
use Rattle.rf233.specs.Answer.{refused}
use Rattle.rf233.specs.Case.{case_of, perform, trees, tree_at}
use Rattle.rf233.specs.Choice.{pick}
use Rattle.rf233.specs.Completion.{frame_done}
use Rattle.rf233.specs.Data.{handle_bad, receive_buffer_call}
use Rattle.rf233.specs.Kernel.{completion_call}
use Rattle.rf233.specs.Line.{line, front, behind, append, rotate}
use Rattle.rf233.specs.OneBuffer.{in_turn}
use Rattle.rf233.specs.Record.{lent, record_has, receive_count}
use Rattle.rf233.specs.Rows.{eval, holds}
use Rattle.rf233.specs.Starter.{register_transfer, frame_read_into}
use Rattle.rf233.specs.Transfer.{transfer_of}
use Rattle.rf233.specs.declared.action.Action.TheVariants.{Received}
use Rattle.rf233.specs.declared.action.Actions.{Actions}
use Rattle.rf233.specs.declared.answer.Answer.TheVariants.{Done}
use Rattle.rf233.specs.declared.answer.Outcome.{Outcome}
use Rattle.rf233.specs.declared.driver.Driver.{Driver}
use Rattle.rf233.specs.declared.driver.Lent.{Lent}
use Rattle.rf233.specs.declared.driver.Under.TheVariants.{Register, FrameRead}
use Rattle.rf233.specs.declared.transfer.TransferKind.TheVariants as kind
use Rattle.rf233.proofs.Conditions.{by_flag}
use Rattle.rf233.proofs.InTurn.{append_turn}
use Rattle.rf233.proofs.LineLaws.{front_is, listed_behind, listed_rotate}
use Rattle.rf233.proofs.OwnBuffers.{buf_home, frame_home}
use Rattle.rf233.proofs.Starred.{Completes}
use Rattle.rf233.proofs.StarredSteps.{straight}

-- buffer b, at length l, is one that could be lent: 7 and 9 do not refuse it
pub record MayReceive (b l : ℕ) : Type 0 where
  pub client : handle_bad b l ≡ false
  pub long : ltb l 129 ≡ false

-- a completion hands buffer b back with a received notice, and shows nothing else
pub record HandsBack (b : ℕ) (l : Actions) : Type 0 where
  pub length : ℕ
  pub crc : Bool
  pub notice : l ≡ actions (Received b length crc ∷ [])

-- a completion leaves these receive buffers in the line, and shows these actions
pub record Leaves (l : List Lent) (a : Actions) (o : Outcome) : Type 0 where
  pub remain : line o.driver.buffers ≡ l
  pub shown : o.reply.actions ≡ a

pub record LineRules : Type 0 where
  -- "FULL is now given when four are held, in cells or under way": any buffer is 10 then
  pub full : (d : Driver) (b l : ℕ) → MayReceive b l → 4 ≤ receive_count d.buffers → receive_buffer_call d b l ≡ refused 10 d
  -- with fewer, one that the driver has, wherever, is 8
  pub held : (d : Driver) (b l : ℕ) → MayReceive b l → receive_count d.buffers < 4 → record_has d.buffers b ≡ true
      → receive_buffer_call d b l ≡ refused 8 d
  -- "use them oldest first": another is accepted as the last
  pub last : (d : Driver) (b l : ℕ) → MayReceive b l → receive_count d.buffers < 4 → record_has d.buffers b ≡ false
      → let o = receive_buffer_call d b l in (o.reply.answer ≡ Done) × (in_turn o.driver.buffers ≡ append (in_turn d.buffers) (lent b l))
  -- a length read takes the front
  pub taken : (d : Driver) (xs p : List ℕ) (x : Lent) → Completes Register 62 d xs p → front (line d.buffers) ≡ Some x
      → let o = (completion_call d xs p).outcome in
      (o.reply.transfer ≡ Some (transfer_of kind.FrameRead 18 x.buffer 0x20 0 2 x.length)) × Leaves (behind (line d.buffers)) (actions []) o
  -- once a frame read is over its buffer is in front again
  pub returned : (d : Driver) (xs p : List ℕ) (x : Lent) → Completes (FrameRead x) 65 d xs p
      → front (line (completion_call d xs p).outcome.driver.buffers) ≡ Some x
  -- "hand back the one it filled wherever the old step handed back its one": the front, of a frame that is not spoiled
  pub handed : (d : Driver) (xs p : List ℕ) (x : Lent) → Completes Register 68 d xs p → d.reception.spoiled ≡ false
      → d.clients.rx_client ≡ true → front (line d.buffers) ≡ Some x
      → let o = (completion_call d xs p).outcome in (line o.driver.buffers ≡ behind (line d.buffers)) × HandsBack x.buffer o.reply.actions
  -- "a received buffer without a listener goes to the end of the line"
  pub turned : (d : Driver) (xs p : List ℕ) → Completes Register 68 d xs p → d.reception.spoiled ≡ false → d.clients.rx_client ≡ false
      → Leaves (rotate (line d.buffers)) (actions []) (completion_call d xs p).outcome

pub line_rules : LineRules
unfolding receive_buffer_call case_of tree_at trees eval holds perform register_transfer frame_read_into frame_done pick
line_rules =
    record {
      full = λ d b l m c. rw (m.client, m.long, le-leb 4 (receive_count d.buffers) c) refl;
      held = λ d b l m c h. rw (m.client, m.long, lt-leb 4 (receive_count d.buffers) c, h) refl;
      last = λ d b l m c h.
          let few = lt-leb 4 (receive_count d.buffers) c in
          rw (m.client, m.long, few, h) (refl, append_turn d.buffers (lent b l) few);
      taken = λ d xs p x h f.
          let own = buf_home d h.passes.fit (rw h.is_under_way) in
          rw (straight h 62 refl (rw h.state h.state) refl, h.is_under_way, f, own) (
            refl {a = Some (transfer_of kind.FrameRead 18 x.buffer 0x20 0 2 x.length)},
            record { remain = listed_behind d.buffers.rx_line; shown = refl },
          );
      returned = λ d xs p x h.
          let own = frame_home d h.passes.fit x h.is_under_way in
          rw (straight h 66 refl (rw h.state) refl, h.is_under_way, own.0, own.1) (front_is (x ∷ line d.buffers));
      handed = λ d xs p x h s c f.
          rw (straight h 68 refl (rw h.state h.state) refl, h.state, s, c)
          (by_flag d.flags.transmitting
          (λ t. rw (t, h.is_under_way, f) (listed_behind d.buffers.rx_line, record { length = _; crc = _; notice = refl }))
          (λ t. rw (t, h.is_under_way, f) (listed_behind d.buffers.rx_line, record { length = _; crc = _; notice = refl })));
      turned = λ d xs p h s c.
          rw (straight h 68 refl (rw h.state h.state) refl, h.state, s, c)
          (by_flag d.flags.transmitting
          (λ t. rw (t, h.is_under_way) (record { remain = listed_rotate d.buffers.rx_line; shown = refl }))
          (λ t. rw (t, h.is_under_way) (record { remain = listed_rotate d.buffers.rx_line; shown = refl })));
    }
