-- The conditions of the starred table (Starred.antt) and of the rules of the line (LineRules.antt) occur: an example of each, so that no
-- line of them holds for want of a case. Assumes nothing.
use mathlib.Core.Path.{◌≡◌, refl}
use mathlib.Core.Bool.{Bool, true, false}
use mathlib.Core.List.{List, [], ◌∷◌}
use Prim.Native.Nat.{ℕ}
use lib.Dec.{lit≤}
use lib.ListN.{replicate, length-replicate}
use Rattle.rf233_const.specs.Bits.{bit_set}
use Rattle.rf233.specs.Create.{new_driver}
use Rattle.rf233.specs.Driver.{flagged, with_state, with_settings, with_addr, with_pan, with_buffers, with_reception}
use Rattle.rf233.specs.Driver.{with_registers, with_spi_buf, with_spi_buf_len, with_tx, with_line, with_tx_len, with_under}
use Rattle.rf233.specs.declared.driver.Client.TheVariants as listener
use Rattle.rf233.specs.Driver.Flag.{radio_on, interrupt_handling, config_pending}
use Rattle.rf233.specs.Listeners.{set_client}
use Rattle.rf233.specs.Described.{described}
use Rattle.std.specs.Prelude.{Option, None, Some}
use Rattle.rf233.specs.Record.{lent, count_of, receive_count, record_has}
use Rattle.rf233.specs.declared.driver.Driver.{Driver}
use Rattle.rf233.specs.declared.driver.Lent.{Lent}
use Rattle.rf233.specs.declared.driver.Under.{Under}
use Rattle.rf233.specs.declared.driver.Under.TheVariants.{Idle, Register, FrameRead}
use Rattle.rf233.specs.declared.state.InternalState.{InternalState}
use Rattle.rf233.specs.declared.state.InternalState.TheVariants.{
  START_XAH0_SET,
  START_PANID0_SET,
  READY,
  SLEEP,
  TX_RETURN_TO_RX,
  CONFIG_SHORT1_SET,
  CONFIG_PAN0_SET,
  RX_READING_FRAME_LEN,
  RX_READING_FRAME_LEN_DONE,
  RX_START_READING,
  RX_READING_FRAME,
  RX_READING_FRAME_FCS_DONE,
  RX_ENABLING_RECEPTION,
}
use Rattle.rf233.proofs.LineRules.{MayReceive}
use Rattle.rf233.proofs.Starred.{Passes12, In, MaySend, Completes, Detours}

-- a pool
pub pool : List ℕ
pool = replicate 3040 0

-- a driver in this state, with every listener, PAN 0x1234, address 0xABCD and the held length 11: w, a commit waits; h, an interrupt is
-- handled; t and b, the buffers of a register transfer, and spi_buf, are in their places; then the client's places and the transfer under
-- way
abbrev example : InternalState → Bool → Bool → Bool → Bool → Option Lent → List Lent → Under → Driver
example s w h t b x y u =
    let new = new_driver 129 26 in
    let frames = set_client listener.Receive (set_client listener.Transmit new true) true in
    let listening = set_client listener.Power (set_client listener.Config frames true) true in
    let own = with_spi_buf_len 2 (with_spi_buf b (with_registers t new.buffers)) in
    let held = with_under u (with_tx_len 10 (with_line y (with_tx x own))) in
    let reading = with_reception (record { length = 11; spoiled = false }) listening in
    flagged radio_on true (flagged interrupt_handling h (flagged config_pending w
    (with_state s (with_buffers held (with_settings (with_pan 0x1234 (with_addr 0xABCD new.settings)) reading)))))

passes : (d : Driver) → described d ≡ false → Passes12 d pool
unfolding pool
passes d e = record { pool = length-replicate {A = ℕ} 3040 0; fit = e }

-- a register transfer under way
abbrev during : Bool → InternalState → Driver
during w s = example s w false false true None [] Register

registers : (n : ℕ) (w : Bool) (s : InternalState) → In n (during w s) → described (during w s) ≡ false
    → Completes Register n (during w s) (0 ∷ 0 ∷ []) pool
registers n w s i e =
    record { passes = passes (during w s) e; state = i; is_under_way = refl; arrived = refl; handling = refl; pending = refl }

-- a read of IRQ_STATUS under way, with this line
abbrev detouring : InternalState → List Lent → Driver
detouring s y = example s false true false true None y Register

detours : (n : ℕ) (s : InternalState) (y : List Lent) (r : ℕ) → In n (detouring s y) → described (detouring s y) ≡ false
    → bit_set 2 r ≡ false
    → Detours n (detouring s y) (0 ∷ r ∷ []) pool
detours n s y r i e b =
    record {
      passes = passes (detouring s y) e;
      state = i;
      is_under_way = refl;
      arrived = refl;
      handling = refl;
      pending = refl;
      no_start = b;
      no_frame_lem = refl;
    }

-- two receive buffers, and a driver that reads a frame into one of four
abbrev two : List Lent
two = lent 4 129 ∷ lent 5 160 ∷ []

abbrev reading_one_of_four : Driver
reading_one_of_four =
    example RX_READING_FRAME false false true false None (lent 5 160 ∷ lent 6 129 ∷ lent 7 129 ∷ []) (FrameRead (lent 4 129))

-- a detour in 64 while n is held, and a frame that is to be announced, unless it is spoiled
abbrev detouring_with : ℕ → Driver
detouring_with n = with_reception (record { length = n; spoiled = false }) (detouring RX_READING_FRAME_LEN_DONE (lent 4 129 ∷ []))

abbrev announcing : Bool → Driver
announcing v =
    with_reception (record { length = 11; spoiled = v }) (example RX_ENABLING_RECEPTION false false false true None two Register)

pub record Occurs : Type 0 where
  pub sleeping : Passes12 (example SLEEP false false true true None [] Idle) pool
  pub sendable : MaySend (example READY false false true true None [] Idle) 3 pool
  pub in_10 : Completes Register 10 (during false START_XAH0_SET) (0 ∷ 0 ∷ []) pool
  pub in_11 : Completes Register 11 (during false START_PANID0_SET) (0 ∷ 0 ∷ []) pool
  pub in_29 : Completes Register 29 (during false READY) (0 ∷ 0 ∷ []) pool
  pub in_29_waiting : Completes Register 29 (during true READY) (0 ∷ 0 ∷ []) pool
  pub in_46 : Completes Register 46 (during false CONFIG_SHORT1_SET) (0 ∷ 0 ∷ []) pool
  pub in_47 : Completes Register 47 (during false CONFIG_PAN0_SET) (0 ∷ 0 ∷ []) pool
  pub in_43 : Completes Register 43 (example TX_RETURN_TO_RX false false false true (Some (lent 3 130)) [] Register)
      (0x16 ∷ 0x60 ∷ []) pool
  pub in_63 : Completes (FrameRead (lent 4 129)) 63 (example RX_READING_FRAME_LEN false false true false None [] (FrameRead (lent 4 129)))
      (0 ∷ 127 ∷ []) pool
  pub in_29_detour : Detours 29 (detouring READY []) (0 ∷ 0 ∷ []) pool
  -- whatever length is held, and whatever IRQ_STATUS shows but bit 2
  pub in_64 : (n r : ℕ) → bit_set 2 r ≡ false → Detours 64 (detouring_with n) (0 ∷ r ∷ []) pool × (detouring_with n).reception.length ≡ n
  -- of the line: two in it; three, while a frame is read into the fourth
  pub in_62 : Completes Register 62 (example RX_START_READING false false false true None two Register) (0 ∷ 0 ∷ []) pool
  -- whatever second length byte arrives, and whether the frame is spoiled or not
  pub in_65 : (r : ℕ) → Completes (FrameRead (lent 4 129)) 65 reading_one_of_four (0 ∷ r ∷ []) pool
  pub in_67 : Completes Register 67 (during false RX_READING_FRAME_FCS_DONE) (0 ∷ 0 ∷ []) pool
  pub in_68 : (v : Bool) → Completes Register 68 (announcing v) (0 ∷ 0 ∷ []) pool
  pub four : receive_count reading_one_of_four.buffers ≡ 4
  pub other : MayReceive 8 129 × (record_has reading_one_of_four.buffers 8 ≡ false) × (record_has reading_one_of_four.buffers 6 ≡ true)

pub occurs : Occurs
unfolding described count_of
occurs =
    record {
      sleeping = passes _ refl;
      sendable =
          record {
            passes = passes _ refl;
            on = refl;
            held = refl;
            is_under_way = refl;
            not_transmitting = refl;
            clients = lit≤ tt;
            new = refl;
          };
      in_10 = registers 10 _ _ refl refl;
      in_11 = registers 11 _ _ refl refl;
      in_29 = registers 29 _ _ refl refl;
      in_29_waiting = registers 29 _ _ refl refl;
      in_46 = registers 46 _ _ refl refl;
      in_47 = registers 47 _ _ refl refl;
      in_43 = record { passes = passes _ refl; state = refl; is_under_way = refl; arrived = refl; handling = refl; pending = refl };
      in_63 = record { passes = passes _ refl; state = refl; is_under_way = refl; arrived = refl; handling = refl; pending = refl };
      in_29_detour = detours 29 READY [] 0 refl refl refl;
      in_64 = λ n r b. (
        record {
          passes = passes _ refl;
          state = refl;
          is_under_way = refl;
          arrived = refl;
          handling = refl;
          pending = refl;
          no_start = b;
          no_frame_lem = refl;
        },
        refl,
      );
      in_62 = record { passes = passes _ refl; state = refl; is_under_way = refl; arrived = refl; handling = refl; pending = refl };
      in_65 = λ r. record { passes = passes _ refl; state = refl; is_under_way = refl; arrived = refl; handling = refl; pending = refl };
      in_67 = registers 67 _ _ refl refl;
      in_68 = λ v. record { passes = passes _ refl; state = refl; is_under_way = refl; arrived = refl; handling = refl; pending = refl };
      four = refl;
      other = (record { client = refl; long = refl }, refl, refl);
    }
