-- Document 01, "Corners in rf233.rs": the cases marked *, as one table in document 01's order, those on the PAN and on a commit as request
-- 2026-02 has altered them, and those on a received length as request 2026-13 has. Each line quotes its corner, or the request's words, and
-- says it of the definitions that the public calls promise, for every driver, pool and bytes that meet the corner's condition. The theorem
-- `starred` of StarredProofs.antt proves the table; StarredOccur.antt shows that its conditions occur. Assumes nothing.
use mathlib.Core.Path.{◌≡◌}
use mathlib.Core.Bool.{Bool, true, false}
use mathlib.Core.List.{List, [], ◌∷◌, map}
use Prim.Native.Nat.{ℕ, zero, suc, ◌+◌, ◌-◌, ◌/◌, ◌%◌, ◌≤◌}
use lib.Dec.{eqb}
use lib.IntN.{ℤ, pos}
use lib.ListN.{length, get_or}
use Rattle.std.specs.Prelude.{Option, None, Some, option_map}
use Rattle.rf233_const.specs.Bits.{bit_set}
use Rattle.rf233_const.specs.Status.{chip_status}
use Rattle.rf233.specs.Action.{actions}
use Rattle.rf233.specs.Step.{quiet}
use Rattle.rf233.specs.Answer.{refused}
use Rattle.rf233.specs.Guard.{Called, refusing}
use Rattle.rf233.specs.Choice.{within}
use Rattle.rf233.specs.Config.{start_call, commit_call, set_power}
use Rattle.rf233.specs.Driver.{with_settings, with_tx_power, flagged, set_flag}
use Rattle.rf233.specs.Driver.Flag.{receiving, crc_valid, config_pending, sleep_pending}
use Rattle.rf233.specs.Kernel.{completion_call, arrived_bad}
use Rattle.rf233.specs.Data.{transmit_call}
use Rattle.rf233.specs.Create.{new_call}
use Rattle.rf233.specs.Power.{minus, setting_to_power, power_to_setting}
use Rattle.rf233.specs.Record as rec
use Rattle.rf233.specs.Described.{described}
use Rattle.rf233.specs.Line.{line, front, behind}
use Rattle.rf233.specs.Record.{lent, record_has}
use Rattle.rf233.specs.State.{state_no}
use Rattle.rf233.specs.Transfer.{transfer_of, free_to_start, to_complete}
use Rattle.rf233.specs.declared.action.Action.TheVariants.{Sent, Received}
use Rattle.rf233.specs.declared.action.Actions.{Actions}
use Rattle.rf233.specs.declared.answer.Answer.TheVariants.{Done}
use Rattle.rf233.specs.declared.driver.Driver.{Driver}
use Rattle.rf233.specs.declared.driver.Flags.{Flags}
use Rattle.rf233.specs.declared.driver.Lent.{Lent}
use Rattle.rf233.specs.declared.driver.Settings.{Settings}
use Rattle.rf233.specs.declared.driver.Under.{Under}
use Rattle.rf233.specs.declared.driver.Under.TheVariants.{Idle, Register, FrameRead}
use Rattle.rf233.specs.declared.transfer.Transfer.{Transfer}
use Rattle.rf233.specs.declared.transfer.TransferKind.{TransferKind}
use Rattle.rf233.specs.declared.transfer.TransferKind.TheVariants as kind
use Rattle.rf233.proofs.Keys.{range}

-- the driver with another power
abbrev pub with_power : ℤ → Driver → Driver
with_power t d = with_settings (with_tx_power t d.settings) d

-- refusal 12 does not apply: the pool is 3,040 bytes long, the driver value is not one that 12 describes
pub record Passes12 (d : Driver) (p : List ℕ) : Type 0 where
  pub pool : length p ≡ 3040
  pub fit : described d ≡ false

-- the driver is in state n
abbrev pub In : ℕ → Driver → Type 0
In n d = state_no d.state ≡ n

-- radio on, nothing held: no transmit buffer held or under way, not transmitting, and the client's buffer b nowhere in the driver's record
pub record MaySend (d : Driver) (b : ℕ) (p : List ℕ) : Type 0 where
  pub passes : Passes12 d p
  pub on : d.flags.radio_on ≡ true
  pub held : d.buffers.tx_buf ≡ None
  pub is_under_way : rec.tx_under_way d.buffers.under ≡ None
  pub not_transmitting : d.flags.transmitting ≡ false
  pub clients : b ≤ 15
  pub new : record_has d.buffers b ≡ false

-- none of 12, 11 and 13 refuses the completion
pub record Accepts (d : Driver) (xs p : List ℕ) : Type 0 where
  pub passes : Passes12 d p
  pub has_transfer : to_complete d.buffers ≡ true
  pub arrived : arrived_bad xs d.buffers ≡ false

-- the transfer u, under way in state n, completes with bytes that it can bring (refusal 13), while no interrupt is being handled or pending
pub record Completes (u : Under) (n : ℕ) (d : Driver) (xs p : List ℕ) : Type 0 where
  pub passes : Passes12 d p
  pub state : In n d
  pub is_under_way : d.buffers.under ≡ u
  pub arrived : arrived_bad xs d.buffers ≡ false
  pub handling : d.flags.interrupt_handling ≡ false
  pub pending : d.flags.interrupt_pending ≡ false

-- the same after an interrupt's detour: the transfer is the read of IRQ_STATUS that the interrupt started, its value has bit 2 (RX_START)
-- clear, and no frame is being received
pub record Detours (n : ℕ) (d : Driver) (xs p : List ℕ) : Type 0 where
  pub passes : Passes12 d p
  pub state : In n d
  pub is_under_way : d.buffers.under ≡ Register
  pub arrived : arrived_bad xs d.buffers ≡ false
  pub handling : d.flags.interrupt_handling ≡ true
  pub pending : d.flags.interrupt_pending ≡ false
  pub no_start : bit_set 2 (get_or xs 1 0) ≡ false
  pub no_frame_lem : d.flags.receiving ≡ false

-- the call starts a register transfer of this kind and these two bytes, which stand at the beginning of buffer 16, and leaves the driver
-- in state n
pub record Sends (k : TransferKind) (first second n : ℕ) (c : Called) : Type 0 where
  pub transfer : c.outcome.reply.transfer ≡ Some (transfer_of k 16 17 first second 2 2)
  pub byte_0 : get_or c.pool 2560 0 ≡ first
  pub byte_1 : get_or c.pool 2561 0 ≡ second
  pub state : In n c.outcome.driver

-- the same, of a read and of a write: first byte, second byte, state
abbrev pub Reads : ℕ → ℕ → ℕ → Called → Type 0
Reads = Sends kind.RegisterRead

abbrev pub Writes : ℕ → ℕ → ℕ → Called → Type 0
Writes = Sends kind.RegisterWrite

-- accepted: buffer b of length l is held for sending, n is its frame's length plus 2
pub record Takes (b l n : ℕ) (c : Called) : Type 0 where
  pub answer : c.outcome.reply.answer ≡ Done
  pub held : c.outcome.driver.buffers.tx_buf ≡ Some (lent b l)
  pub frame : c.outcome.driver.buffers.tx_len ≡ n

-- TX_RETURN_TO_RX completes with status 0x16 and this result: the transmit listener is told so, and handed the buffer back
abbrev pub Told : ℕ → Bool → Bool → Type 0
Told result ack fail =
    (d : Driver) (xs p : List ℕ) (b l : ℕ) → Completes Register 43 d xs p → d.clients.tx_client ≡ true → d.buffers.tx_buf ≡ Some (lent b l)
    → chip_status (get_or xs 0 0) ≡ 0x16 → get_or xs 1 0 ≡ result
    → (completion_call d xs p).outcome.reply.actions ≡ actions (Sent b ack fail ∷ [])

-- a frame read of n into buffer b of length l, after which the state is RX_READING_FRAME
pub record ReadsOut (n b l : ℕ) (c : Called) : Type 0 where
  pub transfer : c.outcome.reply.transfer ≡ Some (transfer_of kind.FrameRead 18 b 0x20 n (2 + n) l)
  pub state : In 65 c.outcome.driver

-- the frame read that brings the length n completes, and RX_READING_FRAME_LEN_DONE is entered: the frame is read out, or only TRX_STATUS
-- is read
abbrev pub ReadOut : ℕ → Type 0
ReadOut n =
    (d : Driver) (xs p : List ℕ) (b l : ℕ) → Completes (FrameRead (lent b l)) 63 d xs p → get_or xs 1 0 ≡ n
    → ReadsOut n b l (completion_call d xs p)

abbrev pub NotReadOut : ℕ → Type 0
NotReadOut n =
    (d : Driver) (xs p : List ℕ) (b l : ℕ) → Completes (FrameRead (lent b l)) 63 d xs p → get_or xs 1 0 ≡ n
    → (completion_call d xs p).outcome.reply.transfer ≡ Some (transfer_of kind.RegisterRead 16 17 0x81 0x00 2 2)

-- after a detour in RX_READING_FRAME_LEN_DONE, the same by the held length n
abbrev pub DetourReadOut : ℕ → Type 0
DetourReadOut n =
    (d : Driver) (xs p : List ℕ) (b l : ℕ) → Detours 64 d xs p → front (line d.buffers) ≡ Some (lent b l) → d.reception.length ≡ n
    → ReadsOut n b l (completion_call d xs p)

abbrev pub DetourNotReadOut : ℕ → Type 0
DetourNotReadOut n =
    (d : Driver) (xs p : List ℕ) → Detours 64 d xs p → d.reception.length ≡ n
    → (completion_call d xs p).outcome.reply.transfer ≡ Some (transfer_of kind.RegisterRead 16 17 0x81 0x00 2 2)

-- once the frame read is over: the frame is spoiled, or not; nothing is announced, the buffer is in front again, PHY_RSSI is read, the flags
-- f stay
pub record Frame (f : Flags) (spoiled : Bool) (x : Lent) (c : Called) : Type 0 where
  pub spoils : c.outcome.driver.reception.spoiled ≡ spoiled
  pub shows_nothing : c.outcome.reply.actions ≡ actions []
  pub held : front (line c.outcome.driver.buffers) ≡ Some x
  pub asks : c.outcome.reply.transfer ≡ Some (transfer_of kind.RegisterRead 16 17 0x86 0x00 2 2)
  pub state : In 67 c.outcome.driver
  pub flags : c.outcome.driver.flags ≡ f

-- the frame read completes with the second length byte n: the frame is spoiled
abbrev pub SpoiledBy : ℕ → Type 0
SpoiledBy n =
    (d : Driver) (xs p : List ℕ) (x : Lent) → Completes (FrameRead x) 65 d xs p → get_or xs 1 0 ≡ n
    → Frame d.flags true x (completion_call d xs p)

-- once PHY_RSSI is read, whether the frame is spoiled or not: reception is turned on again, of the flags f the check's is set by what was
-- read, and the mark stays
pub record Checked (f : Flags) (spoiled : Bool) (byte : ℕ) (c : Called) : Type 0 where
  pub command : Writes 0xC2 0x16 68 c
  pub flags : c.outcome.driver.flags ≡ set_flag crc_valid (bit_set 7 byte) f
  pub spoils : c.outcome.driver.reception.spoiled ≡ spoiled

-- once RX_ENABLING_RECEPTION is over: these buffers are in the line, these actions are shown, TRX_STATUS is read, and of the flags f
-- receiving and a waiting stop are cleared
pub record EndsReception (f : Flags) (l : List Lent) (shown : Actions) (c : Called) : Type 0 where
  pub remain : line c.outcome.driver.buffers ≡ l
  pub shows : c.outcome.reply.actions ≡ shown
  pub asks : c.outcome.reply.transfer ≡ Some (transfer_of kind.RegisterRead 16 17 0x81 0x00 2 2)
  pub flags : c.outcome.driver.flags ≡ set_flag sleep_pending false (set_flag receiving false f)

-- completions one after another: completion k brings ys k to the driver and the pool that the call before left
unfoldable pub run : (ℕ → List ℕ) → ℕ → Called → Called
run ys zero c = c
run ys (suc k) c = completion_call (run ys k c).outcome.driver (ys k) (run ys k c).pool

-- the first two bytes that are sent, where the call starts a transfer
abbrev pub bytes_sent : Called → Option (ℕ × ℕ)
bytes_sent c = option_map (λ (t : Transfer). (t.first, t.second)) c.outcome.reply.transfer

-- both bytes of the short address 0xABCD are written: this step sends the low one and shows nothing, the next completion sends the high one
pub record BothBytes (c : Called) : Type 0 where
  pub low : Writes 0xE0 0xCD 45 c
  pub shows_nothing : c.outcome.reply.actions ≡ actions []
  pub high : (ys : List ℕ) → length ys ≡ 2 → Writes 0xE1 0xAB 46 (completion_call c.outcome.driver ys c.pool)

-- what a commit sends from its first write on, by these settings with the address 0xABCD, until TRX_STATUS is read
abbrev pub commit_sends : Settings → List (ℕ × ℕ)
commit_sends s =
    (0xE0, 0xCD) ∷ (0xE1, 0xAB) ∷ (0xE2, s.pan % 256) ∷ (0xE3, s.pan / 256)
    ∷ (0xE4, get_or s.addr_long 0 0) ∷ (0xE5, get_or s.addr_long 1 0) ∷ (0xE6, get_or s.addr_long 2 0)
    ∷ (0xE7, get_or s.addr_long 3 0) ∷ (0xE8, get_or s.addr_long 4 0) ∷ (0xE9, get_or s.addr_long 5 0)
    ∷ (0xEA, get_or s.addr_long 6 0) ∷ (0xEB, get_or s.addr_long 7 0)
    ∷ (0xC5, power_to_setting s.tx_power) ∷ (0xC8, s.channel) ∷ (0x81, 0x00) ∷ []

pub record StarredCases : Type 0 where
  -- "`setting_to_power`: 0x0F gives -17, 0x10 gives -127."
  pub setting_0F : setting_to_power 0x0F ≡ minus 17
  pub setting_10 : setting_to_power 0x10 ≡ minus 127
  -- "`power_to_setting`: -5 gives 0x0C, -13 gives 0x0F."
  pub wish_minus_5 : power_to_setting (minus 5) ≡ 0x0C
  pub wish_minus_13 : power_to_setting (minus 13) ≡ 0x0F
  -- "`set_tx_power`: 4 and -17 pass; 5 and -18 are INVAL."
  pub power_4 : (d : Driver) → set_power d (pos 4) ≡ quiet (with_power (pos 4) d) (actions [])
  pub power_minus_17 : (d : Driver) → set_power d (minus 17) ≡ quiet (with_power (minus 17) d) (actions [])
  pub power_5 : (d : Driver) → set_power d (pos 5) ≡ refused 5 d
  pub power_minus_18 : (d : Driver) → set_power d (minus 18) ≡ refused 5 d
  -- "`transmit`, radio on, nothing held: length 125 in a buffer of 130 passes; in 129 it is SIZE; 126 in 160 is LONG."
  pub transmit_125_in_130 : (d : Driver) (b : ℕ) (p : List ℕ) → MaySend d b p → Takes b 130 127 (transmit_call d b 130 125 p)
  pub transmit_125_in_129 : (d : Driver) (b : ℕ) (p : List ℕ) → MaySend d b p → transmit_call d b 129 125 p ≡ refusing 3 d p
  pub transmit_126_in_160 : (d : Driver) (b : ℕ) (p : List ℕ) → MaySend d b p → transmit_call d b 160 126 p ≡ refusing 4 d p
  -- "A new driver's `start` sends 0x9C 0x00 and stays in state 0."
  pub new_start : (l c : ℕ) (p : List ℕ) → length p ≡ 3040 → Reads 0x9C 0x00 0 (start_call (new_call l c).driver p)
  -- "From SLEEP, no transfer under way, it sends 0x81 0x00 and enters 32."
  pub sleep_start : (d : Driver) (p : List ℕ) → Passes12 d p → In 31 d → d.buffers.under ≡ Idle → Reads 0x81 0x00 32 (start_call d p)
  -- 2026-02: "The datasheet puts the low byte in PAN_ID_0, so startup shall too." PAN 0x1234: startup sends 0xE2 0x34, 0xE3 0x12;
  pub startup_pan_0 : (d : Driver) (xs p : List ℕ) → Completes Register 10 d xs p → d.settings.pan ≡ 0x1234
      → Writes 0xE2 0x34 11 (completion_call d xs p)
  pub startup_pan_1 : (d : Driver) (xs p : List ℕ) → Completes Register 11 d xs p → d.settings.pan ≡ 0x1234
      → Writes 0xE3 0x12 12 (completion_call d xs p)
  -- "a commit sends 0xE2 0x34, 0xE3 0x12."
  pub commit_pan_0 : (d : Driver) (xs p : List ℕ) → Completes Register 46 d xs p → d.settings.pan ≡ 0x1234
      → Writes 0xE2 0x34 47 (completion_call d xs p)
  pub commit_pan_1 : (d : Driver) (xs p : List ℕ) → Completes Register 47 d xs p → d.settings.pan ≡ 0x1234
      → Writes 0xE3 0x12 48 (completion_call d xs p)
  -- 2026-02: "A waiting commit [...] shall write both short address bytes: the step that starts the first write ends there". Address
  -- 0xABCD, commit waiting when READY completes with no interrupt pending:
  pub waiting_commit_lem : (d : Driver) (xs p : List ℕ) → Completes Register 29 d xs p → d.flags.config_pending ≡ true
      → d.settings.addr ≡ 0xABCD
      → BothBytes (completion_call d xs p)
  -- and the whole run of its writes, until the driver is in READY again
  pub waiting_commit_run : (d : Driver) (xs p : List ℕ) (ys : ℕ → List ℕ) → Completes Register 29 d xs p → d.flags.config_pending ≡ true
      → d.settings.addr ≡ 0xABCD → ((k : ℕ) → length (ys k) ≡ 2)
      → (map (λ k. bytes_sent (run ys k (completion_call d xs p))) (range 0 15) ≡ map Some (commit_sends d.settings))
      × In 29 (run ys 14 (completion_call d xs p)).outcome.driver
  -- 2026-02: "and a busy call only leaves the commit waiting." In READY, whatever transfer is under way: nothing is sent, and nothing but
  -- the pending commit changes
  pub commit_during : (d : Driver) (p : List ℕ) → Passes12 d p → In 29 d → d.flags.config_pending ≡ false
      → free_to_start d.buffers ≡ false
      → commit_call d p ≡ record { outcome = quiet (flagged config_pending true d) (actions []); pool = p }
  -- both bytes go out once READY completes, after a register transfer and after a read of IRQ_STATUS
  pub commit_during_access : (d : Driver) (xs p : List ℕ) → Completes Register 29 d xs p → d.flags.config_pending ≡ false
      → d.settings.addr ≡ 0xABCD
      → BothBytes (completion_call (commit_call d p).outcome.driver xs (commit_call d p).pool)
  pub commit_during_interrupt : (d : Driver) (xs p : List ℕ) → Detours 29 d xs p → d.flags.config_pending ≡ false
      → d.settings.addr ≡ 0xABCD
      → BothBytes (completion_call (commit_call d p).outcome.driver xs (commit_call d p).pool)
  -- "TX_RETURN_TO_RX, status 0x16: result 0x00 gives ack and success; 0x20 no ack, success; 0x60 no ack, FAIL."
  pub result_00 : Told 0x00 true false
  pub result_20 : Told 0x20 false false
  pub result_60 : Told 0x60 false true
  -- "RX_READING_FRAME_LEN_DONE: 11 and 127 are read out, 10 and 128 are not."
  pub length_11 : ReadOut 11
  pub length_127 : ReadOut 127
  pub length_10 : NotReadOut 10
  pub length_128 : NotReadOut 128
  -- 2026-13: "The length is now held from the length read over any detour". The end of the length read holds its byte 1, whatever is
  -- pending or handled; no other completion alters it; after a detour the same lengths are read out, whatever IRQ_STATUS shows but bit 2
  pub length_held : (d : Driver) (xs p : List ℕ) → Accepts d xs p → In 63 d
      → (completion_call d xs p).outcome.driver.reception.length ≡ get_or xs 1 0
  pub length_stays : (d : Driver) (xs p : List ℕ) → Accepts d xs p → eqb (state_no d.state) 63 ≡ false
      → (completion_call d xs p).outcome.driver.reception.length ≡ d.reception.length
  pub detour_11 : DetourReadOut 11
  pub detour_127 : DetourReadOut 127
  pub detour_10 : DetourNotReadOut 10
  pub detour_128 : DetourNotReadOut 128
  -- 2026-13: "the second byte is compared as its frame read completes. Exactly one that differs spoils the reception": 0, 1, any other but
  -- the held length
  pub second_0 : SpoiledBy 0
  pub second_1 : SpoiledBy 1
  pub second_same : (d : Driver) (xs p : List ℕ) (x : Lent) → Completes (FrameRead x) 65 d xs p → get_or xs 1 0 ≡ d.reception.length
      → Frame d.flags false x (completion_call d xs p)
  pub second_differs : (d : Driver) (xs p : List ℕ) (x : Lent) → Completes (FrameRead x) 65 d xs p
      → eqb (get_or xs 1 0) d.reception.length ≡ false
      → Frame d.flags true x (completion_call d xs p)
  -- "the frame is not announced and the buffer stays held at its place in the line; all else, flags too, goes on as before": of a spoiled
  -- frame and of another the same in 67, and the same flags and transfers
  pub checked : (d : Driver) (xs p : List ℕ) → Completes Register 67 d xs p
      → Checked d.flags d.reception.spoiled (get_or xs 1 0) (completion_call d xs p)
  pub not_announced : (d : Driver) (xs p : List ℕ) → Completes Register 68 d xs p → d.reception.spoiled ≡ true
      → EndsReception d.flags (line d.buffers) (actions []) (completion_call d xs p)
  -- "The notice gives the held length less 2"
  pub announced : (d : Driver) (xs p : List ℕ) (x : Lent) → Completes Register 68 d xs p → d.reception.spoiled ≡ false
      → d.clients.rx_client ≡ true → front (line d.buffers) ≡ Some x
      → EndsReception d.flags (behind (line d.buffers)) (actions (Received x.buffer (d.reception.length - 2) d.flags.crc_valid ∷ []))
      (completion_call d xs p)
  -- "In states 65 to 68 one outside these bounds is POOL"
  pub outside : (d : Driver) (xs p : List ℕ) → within 65 68 (state_no d.state) ≡ true → within 11 127 d.reception.length ≡ false
      → completion_call d xs p ≡ refusing 12 d p
