-- The stages of a startup, by number, over any new driver with any settings and listeners: which driver each is, what a run shows there
-- (specs/StartupClaim.antt), and where a completion and a firing lead. Each property is one computed test over all stages. Assumes nothing.
use Rattle.std.proofs.Common.{◌≡◌, ℕ, suc, ◌+◌, ◌≤◌, Bool, true, false, not, ◌||◌, List, []}
use Rattle.std.proofs.Common.{◌∷◌, ◌++◌, get_or, map, eqb, leb}
use Rattle.std.proofs.Common.{refl, sym, subst, arith, ltb, le-leb, leb-true}
use borrow.Author.Tests.{eqb-true}
use Rattle.std.specs.Prelude.{Option, None, Some, is_some}
use mathlib.Core.Bool.{and-false}
use Rattle.std.proofs.lemmas.Bool.{and_from}
use Rattle.rf233_const.specs.declared.register.RF233Register.TheVariants.{IRQ_STATUS, TRX_STATUS}
use Rattle.rf233.specs.Case.{case_of, perform, trees, tree_at}
use Rattle.rf233.specs.Choice.{pick, one_of, within}
use Rattle.rf233.specs.Completion.{
  completed,
  interrupt_result,
  frame_end,
  ready_bookkeeping,
  pending_interrupt,
  waiting_commit,
  frame_done,
}
use Rattle.rf233.specs.Create.{new_driver}
use Rattle.rf233.specs.Config.{begin_start}
use Rattle.rf233.specs.Described.{described}
use Rattle.rf233.specs.Driver.{flagged, in_no}
use Rattle.rf233.specs.Driver.Flag.{sleep_pending}
use Rattle.rf233.specs.Driver.{flags_of, with_state, with_flags, with_clients, with_settings, with_buffers, with_registers, with_under}
use Rattle.rf233.specs.Driver.{with_command}
use Rattle.rf233.specs.Interrupt.{handle_interrupt, interrupt_state, pll_lock, rx_start, trx_end}
use Rattle.rf233.specs.Pool.{shorter}
use Rattle.rf233.specs.Record.{count_of}
use Rattle.rf233.specs.Rows.{eval, holds}
use Rattle.rf233.specs.Starter.{register_transfer}
use Rattle.rf233.specs.Transfer.{to_complete}
use Rattle.rf233.specs.declared.arrived.Arrived.{Arrived}
use Rattle.rf233.specs.declared.driver.Driver.{Driver}
use Rattle.rf233.specs.declared.driver.Under.TheVariants.{Idle, Register}
use Rattle.rf233.specs.declared.state.InternalState.{InternalState}
use Rattle.rf233.specs.declared.state.InternalState.TheVariants as state
use Rattle.rf233.specs.declared.transfer.Transfer.{Transfer}
use Rattle.rf233.proofs.Conditions.{by_flag}
use Rattle.rf233.proofs.Keys.{range}
use Rattle.rf233.proofs.Tables.{in_range_lem, in_list}
use Rattle.laws.proofs.Logic.{both_left}
use Rattle.rf233.specs.StartupClaim.{Seen, is_ready, at_start, reads, last_reads, turns_pll_on, pll_on_sent}

-- ---- the stages

-- what the startup makes of a new driver: its state, whether the radio is on, an interrupt is handled or pending, `wake_pending`, and
-- whether a register transfer is under way
record Stage : Type 0 where
  state : InternalState
  radio_on : Bool
  handling : Bool
  pending : Bool
  wake_pending : Bool
  under_way : Bool

-- a state's transfer under way
sends : InternalState → Stage
sends s = record { state = s; radio_on = false; handling = false; pending = false; wake_pending = true; under_way = true }

-- 0 to 27: the transfer of this state. 28: in 27, the PLL_ON write is over. After the firing, 29: in 27, the PLL_ON write is not over; 30:
-- IRQ_STATUS is read; 31: in READY, RX_AACK_ON is written; 32: READY with radio on
stages : List Stage
stages =
    sends state.START ∷ sends state.START_PART_READ ∷ sends state.START_STATUS_READ ∷ sends state.START_TURNING_OFF
    ∷ sends state.START_CTRL1_SET ∷ sends state.START_CCA_SET ∷ sends state.START_PWR_SET ∷ sends state.START_CTRL2_SET
    ∷ sends state.START_IRQMASK_SET ∷ sends state.START_XAH1_SET ∷ sends state.START_XAH0_SET ∷ sends state.START_PANID0_SET
    ∷ sends state.START_PANID1_SET ∷ sends state.START_IEEE0_SET ∷ sends state.START_IEEE1_SET ∷ sends state.START_IEEE2_SET
    ∷ sends state.START_IEEE3_SET ∷ sends state.START_IEEE4_SET ∷ sends state.START_IEEE5_SET ∷ sends state.START_IEEE6_SET
    ∷ sends state.START_IEEE7_SET ∷ sends state.START_SHORT0_SET ∷ sends state.START_SHORT1_SET ∷ sends state.START_CSMA_0_SEEDED
    ∷ sends state.START_CSMA_1_SEEDED ∷ sends state.START_RPC_SET ∷ sends state.ON_STATUS_READ ∷ sends state.ON_PLL_WAITING
    ∷ record (sends state.ON_PLL_WAITING) { under_way = false }
    ∷ record (sends state.ON_PLL_WAITING) { pending = true }
    ∷ record (sends state.ON_PLL_WAITING) { handling = true }
    ∷ sends state.READY
    ∷ record (sends state.READY) { radio_on = true; wake_pending = false; under_way = false }
    ∷ []

-- a new driver with the settings and the listeners of x, and its length of spi_buf
abbrev pub fresh : Driver → Driver
fresh x = with_settings x.settings (with_clients x.clients (new_driver x.buffers.spi_buf_whole 0))

-- it, in a stage, with the command of x
staged : Driver → Stage → Driver
staged x s =
    let b = with_command x.buffers.command (fresh x).buffers in
    with_state s.state (with_flags (flags_of s.radio_on false false false s.handling s.pending false false s.wake_pending false)
    (with_buffers (with_under (pick s.under_way Register Idle) (with_registers (not s.under_way) b)) (fresh x)))

pub stage : Driver → ℕ → Driver
stage x n = staged x (get_or stages n (sends state.START))

-- no stop waits in any
pub no_stop : (x : Driver) (n : ℕ) → (stage x n).flags.sleep_pending ≡ false
unfolding stage staged
no_stop x n = refl

-- ---- what a run shows in each

-- the firing has come, PLL_ON was sent, the first status has arrived, the last transfer reads TRX_STATUS, or IRQ_STATUS
pub record View : Type 0 where
  pub fired : Bool
  pub pll_on : Bool
  pub known : Bool
  pub status : Bool
  pub interrupt : Bool

abbrev pub seen_view : Seen → View
seen_view s =
    record {
      fired = s.fired;
      pll_on = pll_on_sent s.sent;
      known = is_some s.status;
      status = last_reads TRX_STATUS s.sent;
      interrupt = last_reads IRQ_STATUS s.sent;
    }

abbrev pub stage_view : ℕ → View
stage_view n =
    record {
      fired = leb 29 n;
      pll_on = leb 27 n;
      known = leb 3 n;
      status = one_of (2 ∷ 26 ∷ []) n;
      interrupt = one_of (1 ∷ 30 ∷ []) n;
    }

-- with the transfer that a call began
abbrev pub sent_view : Option Transfer → View → View
sent_view None v = v
sent_view (Some t) v =
    record v { pll_on = turns_pll_on t || v.pll_on; status = reads TRX_STATUS t; interrupt = reads IRQ_STATUS t }

-- after a completion, and after a firing
abbrev pub completion_view : Option Transfer → View → View
completion_view t v = record (sent_view t v) { known = v.known || v.status }

abbrev pub firing_view : Option Transfer → View → View
firing_view t v = record (sent_view t v) { fired = true }

-- ---- what holds in each

-- two tests of a number that agree on all stages agree on each
pub on_stages : {A : Type 0} (f g : ℕ → A) (n : ℕ) → n ≤ 32 → map f (range 0 33) ≡ map g (range 0 33) → f n ≡ g n
on_stages f g n h e = in_range_lem f g 0 33 n e (omega arith) (omega (arith, h))

-- of a new driver whose length of spi_buf is within its bounds
module _ (x : Driver) (fits : within 129 160 x.buffers.spi_buf_whole ≡ true) where
  -- the bounds of its present length, which is the same
  bounds : within 2 x.buffers.spi_buf_whole x.buffers.spi_buf_whole ≡ true
  bounds =
      let l = x.buffers.spi_buf_whole in
      let low = leb-true 129 l (both_left (leb 129 l) (leb l 160) fits) in
      and_from (leb 2 l) (leb l l) (le-leb 2 l (omega arith)) (le-leb l l (omega arith))

  -- refusal 12 does not describe it
  pub new_undescribed : described (fresh x) ≡ false
  unfolding described count_of
  new_undescribed = rw (fits, bounds) refl

  -- READY with radio on is the last stage; a transfer is under way but in 28 and 32, and two bytes fit it; 27 is the state of four stages,
  -- 2 of one; an interrupt is handled in 30; refusal 12 describes none
  pub record Holds (n : ℕ) : Type 0 where
    pub ready : is_ready (stage x n) ≡ eqb n 32
    pub under_way : to_complete (stage x n).buffers ≡ not (one_of (28 ∷ 32 ∷ []) n)
    pub two : ltb (shorter (stage x n).buffers) 2 ≡ one_of (28 ∷ 32 ∷ []) n
    pub in_27 : in_no 27 (stage x n) ≡ one_of (27 ∷ 28 ∷ 29 ∷ 30 ∷ []) n
    pub in_2 : in_no 2 (stage x n) ≡ eqb n 2
    pub handling : (stage x n).flags.interrupt_handling ≡ eqb n 30
    pub undescribed : described (stage x n) ≡ false

  pub holds_at : (n : ℕ) → n ≤ 32 → Holds n
  unfolding described count_of stage staged stages sends pick
  holds_at n h =
      record {
        ready = on_stages (λ m. is_ready (stage x m)) (λ m. eqb m 32) n h refl;
        under_way = on_stages (λ m. to_complete (stage x m).buffers) (λ m. not (one_of (28 ∷ 32 ∷ []) m)) n h refl;
        two = on_stages (λ m. ltb (shorter (stage x m).buffers) 2) (one_of (28 ∷ 32 ∷ [])) n h refl;
        in_27 = on_stages (λ m. in_no 27 (stage x m)) (one_of (27 ∷ 28 ∷ 29 ∷ 30 ∷ [])) n h refl;
        in_2 = on_stages (λ m. in_no 2 (stage x m)) (λ m. eqb m 2) n h refl;
        handling = on_stages (λ m. (stage x m).flags.interrupt_handling) (λ m. eqb m 30) n h refl;
        undescribed = on_stages (λ m. described (stage x m)) (λ m. false) n h (rw (fits, bounds) refl);
      }

-- ---- where calls lead

-- what stage n is: its driver, and what is seen there
abbrev pub entered : Driver → ℕ → Driver × View
entered x n = (stage x n, stage_view n)

-- x with the command that driver e keeps
abbrev pub commanded : Driver → Driver → Driver
commanded e x = with_buffers (with_command e.buffers.command x.buffers) x

-- `start` on a new driver, with nothing seen before it, leads to stage 0
pub start_leads : (x : Driver)
    → let o = begin_start (flagged sleep_pending false (fresh x)) in (o.driver, seen_view (at_start o)) ≡ entered (commanded o.driver x) 0
unfolding stage staged stages sends begin_start register_transfer pick
start_leads x = refl

-- a firing in stage n: what it makes, and what is seen after it
abbrev pub firing : Driver → ℕ → Driver × View
firing x n = let o = handle_interrupt (stage x n) in (o.driver, firing_view o.reply.transfer (stage_view n))

-- during the PLL_ON write it waits, after it IRQ_STATUS is read: it leads two on
pub firing_leads : (x : Driver) (n : ℕ) → one_of (27 ∷ 28 ∷ []) n ≡ true
    → firing x n ≡ entered (commanded (handle_interrupt (stage x n)).driver x) (n + 2)
unfolding stage staged stages sends handle_interrupt register_transfer pick
firing_leads x n h =
    in_list (firing x) (λ m. entered (commanded (handle_interrupt (stage x m)).driver x) (m + 2)) (27 ∷ 28 ∷ []) n refl h

-- a completion in stage n
abbrev pub completion : Driver → Arrived → ℕ → Driver × View
completion x a n = let o = completed a (stage x n) in (o.driver, completion_view o.reply.transfer (stage_view n))

-- the stage that it leads to: the next, or from 2, where the status is not 0, the one after that
abbrev pub next : Arrived → ℕ → ℕ
next a n = suc n + pick (eqb n 2) (pick (eqb a.status 0) 0 1) 0

-- which is a stage again, from each but the last
pub next_among : (a : Arrived) (n : ℕ) → n ≤ 31 → next a n ≤ 32
unfolding pick
next_among a n h =
    by_flag (eqb n 2) (λ i. by_flag (eqb a.status 0) (λ e. rw (i, e) (omega arith)) (λ e. rw (i, e) (omega (arith, eqb-true n 2 i))))
    (λ i. rw i (omega arith))

-- the stages with a transfer under way in which the bytes are not looked at
plain : List ℕ
plain = 0 ∷ 1 ∷ (range 3 25 ++ (29 ∷ 31 ∷ []))

module _ (x : Driver) (a : Arrived) where
  -- the next stage
  abbrev onward : ℕ → Driver × View
  onward n = entered (commanded (completed a (stage x n)).driver x) (next a n)

  abbrev To : ℕ → Type 0
  To n = completion x a n ≡ onward n

  -- what completions lead to: in the plain stages, in 2, where the status is looked at, and in 30, where what is read from IRQ_STATUS shows
  -- bit 0 and not bit 2, whatever bit 3 is
  record Tested : Type 0 where
    in_plain : map (completion x a) plain ≡ map onward plain
    in_2 : To 2
    in_30 : (pll_lock a ≡ true) × (rx_start a ≡ false) → To 30

  tested : Tested
  unfolding plain stage staged stages sends completed interrupt_result interrupt_state frame_end ready_bookkeeping pending_interrupt
      handle_interrupt waiting_commit frame_done case_of perform eval trees tree_at register_transfer pick holds
  tested =
      record {
        in_plain = refl;
        in_2 = by_flag (eqb a.status 0) (λ e. rw e refl) (λ e. rw e refl);
        in_30 = λ b. rw (b.0, b.1, and-false (trx_end a)) refl;
      }

  pub completion_leads : (n : ℕ) → n ≤ 32 → one_of (28 ∷ 32 ∷ []) n ≡ false
      → (eqb n 30 ≡ true → (pll_lock a ≡ true) × (rx_start a ≡ false)) → To n
  unfolding plain
  completion_leads n h u b =
      by_flag (eqb n 2) (λ i. subst To (sym (eqb-true n 2 i)) tested.in_2)
      (λ i. by_flag (eqb n 30) (λ j. subst To (sym (eqb-true n 30 j)) (tested.in_30 (b j)))
      (λ j. in_list (completion x a) onward plain n tested.in_plain (rw (u, i, j) at
      (on_stages (λ m. one_of (28 ∷ 32 ∷ []) m || (eqb m 2 || (eqb m 30 || one_of plain m))) (λ m. true) n h refl))))
