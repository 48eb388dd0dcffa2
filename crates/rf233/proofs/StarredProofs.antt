-- The starred cases of document 01 hold: `starred` proves the table of Starred.antt, corner by corner. Assumes nothing.
use mathlib.Core.Path.{◌≡◌, refl, ap}
use mathlib.Core.Bool.{true, ◌&&◌}
use mathlib.Core.List.{List}
use Prim.Native.Nat.{ℕ, ◌+◌}
use lib.ListN.{length, set}
use borrow.Author.Tests.{le-ltb}
use Rattle.std.specs.Prelude.{Some}
use Rattle.rf233.specs.Choice.{pick, within}
use Rattle.rf233.specs.Guard.{stepping, refusing}
use Rattle.rf233.specs.Config.{channel_fits, begin_start, start_call, set_power}
use Rattle.rf233.specs.Data.{begin_transmit, transmit_call}
use Rattle.rf233.specs.Completion.{frame_done}
use Rattle.rf233.specs.Case.{case_of, perform, trees, tree_at}
use Rattle.rf233.specs.Transmit.{acknowledged, failed}
use Rattle.rf233.specs.Create.{new_call, new_driver}
use Rattle.rf233.specs.Pool.{start_of}
use Rattle.rf233.specs.Rows.{eval, holds}
use Rattle.rf233.specs.Record.{lent}
use Rattle.rf233.specs.Starter.{register_transfer}
use Rattle.rf233.specs.declared.answer.Outcome.{Outcome}
use Rattle.rf233.specs.declared.driver.Driver.{Driver}
use Rattle.rf233.specs.declared.driver.Under.TheVariants.{Idle}
use Rattle.rf233.specs.declared.starter.Started.{Started}
use Rattle.rf233.specs.declared.transfer.TransferKind.TheVariants as kind
use Rattle.laws.proofs.Logic.{both_left}
use Rattle.rf233.proofs.ChoiceLaws.{either}
use Rattle.rf233.proofs.Conditions.{by_flag}
use Rattle.rf233.proofs.OwnBuffers.{tx_home, rx_home, new_fit}
use Rattle.rf233.proofs.StarredSteps.{unguarded, sends, straight, write_case}
use Rattle.rf233.proofs.StarredLengths.{
  read_out,
  not_read_out,
  held,
  stays,
  detoured,
  detour_not_out,
  below_range,
  same,
  differs,
  checked_lem,
  silent,
  told_length,
  outside_lem,
}
use Rattle.rf233.proofs.StarredCommit.{second, high, low, of_access, of_interrupt, both_bytes, during, busy, whole}
use Rattle.rf233.proofs.Starred.{Passes12, In, MaySend, Sends, Takes, Told, StarredCases}

-- `transmit`: its refusals in order, none of which applies but the named one
module _ {d : Driver} {b : ℕ} {p : List ℕ} (h : MaySend d b p) where
  in_129 : transmit_call d b 129 125 p ≡ refusing 3 d p
  unfolding transmit_call pick
  in_129 = rw (unguarded d p _ h.passes, le-ltb 15 b h.clients, h.on, h.held, h.is_under_way, h.not_transmitting)

  in_160 : transmit_call d b 160 126 p ≡ refusing 4 d p
  unfolding transmit_call pick
  in_160 = rw (unguarded d p _ h.passes, le-ltb 15 b h.clients, h.on, h.held, h.is_under_way, h.not_transmitting)

  in_130 : transmit_call d b 130 125 p ≡ stepping (begin_transmit d b 130 125) (set p (start_of b + 1) 127)
  unfolding transmit_call pick
  in_130 = rw (unguarded d p _ h.passes, le-ltb 15 b h.clients, h.on, h.new, h.held, h.is_under_way, h.not_transmitting)

  sent_130 : Takes b 130 127 (transmit_call d b 130 125 p)
  unfolding begin_transmit register_transfer
  sent_130 =
      rw in_130
      (either (λ (o : Outcome). Takes b 130 127 (stepping o (set p (start_of b + 1) 127))) _ _ _
      (record {
        answer = refl;
        held = either (λ (s : Started). s.driver.buffers.tx_buf ≡ Some (lent b 130)) _ _ _ refl refl;
        frame = either (λ (s : Started). s.driver.buffers.tx_len ≡ 127) _ _ _ refl refl;
      })
      (record { answer = refl; held = refl; frame = refl }))

-- `start`
new_sends : (l c : ℕ) (p : List ℕ) → within 129 160 l ≡ true → length p ≡ 3040
    → Sends kind.RegisterRead 0x9C 0x00 0 (start_call (new_driver l c) p)
unfolding start_call begin_start register_transfer pick
new_sends l c p h e = rw (unguarded (new_driver l c) p _ (record { pool = e; fit = new_fit l c h })) (sends _ _ e refl refl refl)

new_starts : (l c : ℕ) (p : List ℕ) → length p ≡ 3040 → Sends kind.RegisterRead 0x9C 0x00 0 (start_call (new_call l c).driver p)
unfolding new_call pick
new_starts l c p e =
    by_flag (within 129 160 l && channel_fits c)
    (λ t. rw t (new_sends l c p (both_left (within 129 160 l) _ t) e))
    (λ t. rw t (new_sends 129 26 p refl e))

sleep_starts : (d : Driver) (p : List ℕ) → Passes12 d p → In 31 d → d.buffers.under ≡ Idle
    → Sends kind.RegisterRead 0x81 0x00 32 (start_call d p)
unfolding start_call begin_start register_transfer pick
sleep_starts d p h s u =
    let t = tx_home d h.fit (rw u) in
    let r = rx_home d h.fit (rw u) in
    rw (unguarded d p _ h, s) (sends _ _ h.pool refl (rw (u, t, r)) (rw (u, t, r)))

-- TX_RETURN_TO_RX
told : (result : ℕ) → Told result (acknowledged result) (failed result)
unfolding case_of tree_at trees eval holds perform register_transfer frame_done pick
told result d xs p b l h t x s r =
    rw (straight h 43 refl (rw h.state h.state) refl, s, t, h.is_under_way, x, r)

pub starred : StarredCases
unfolding set_power tree_at trees pick
starred =
    record {
      setting_0F = refl;
      setting_10 = refl;
      wish_minus_5 = refl;
      wish_minus_13 = refl;
      power_4 = λ d. refl;
      power_minus_17 = λ d. refl;
      power_5 = λ d. refl;
      power_minus_18 = λ d. refl;
      transmit_125_in_130 = λ d b p h. sent_130 h;
      transmit_125_in_129 = λ d b p h. in_129 h;
      transmit_126_in_160 = λ d b p h. in_160 h;
      new_start = new_starts;
      sleep_start = sleep_starts;
      startup_pan_0 = λ d xs p h e. second (ap low e) (write_case {n = 10} (search) refl refl h).sent;
      startup_pan_1 = λ d xs p h e. second (ap high e) (write_case {n = 11} (search) refl refl h).sent;
      commit_pan_0 = λ d xs p h e. second (ap low e) (write_case {n = 46} (search) refl refl h).sent;
      commit_pan_1 = λ d xs p h e. second (ap high e) (write_case {n = 47} (search) refl refl h).sent;
      waiting_commit_lem = λ d xs p h w a. both_bytes (of_access h a) w;
      waiting_commit_run = λ d xs p ys h w a two. whole ys two (of_access h a) w;
      commit_during = during;
      commit_during_access = λ d xs p h c a. busy (of_access h a) c;
      commit_during_interrupt = λ d xs p h c a. busy (of_interrupt h a) c;
      result_00 = told 0x00;
      result_20 = told 0x20;
      result_60 = told 0x60;
      length_11 = read_out 11 refl refl;
      length_127 = read_out 127 refl refl;
      length_10 = not_read_out 10 refl;
      length_128 = not_read_out 128 refl;
      length_held = held;
      length_stays = stays;
      detour_11 = detoured 11 refl refl;
      detour_127 = detoured 127 refl refl;
      detour_10 = detour_not_out 10 refl;
      detour_128 = detour_not_out 128 refl;
      second_0 = below_range 0 refl;
      second_1 = below_range 1 refl;
      second_same = same;
      second_differs = differs;
      checked = checked_lem;
      not_announced = silent;
      announced = told_length;
      outside = outside_lem;
    }
