-- What refusal 12 describes, place by place as `is_described` asks it instead of clause by clause: `regrouped`, from `uncounted` and the
-- law of tests that are grouped otherwise, which computes that the same tests are asked. Assumes nothing.
use Prim.Native.Nat.{ℕ, ◌+◌, ◌≤◌}
use mathlib.Core.Path.{◌≡◌, refl, sym, ◌∙◌}
use mathlib.Core.Bool.{Bool, false, not, ◌&&◌, ◌||◌, and-false, or-true, or-false}
use mathlib.Core.List.{List, [], ◌∷◌}
use native.Mathlib.Omega.{arith}
use lib.Dec.{eqb, leb, ltb}
use lib.ListN.{get_or, length}
use borrow.Author.Tests.{le-ltb, lt-ltb, leb-true, leb-false}
use Rattle.std.specs.Prelude.{Option, None, Some, is_some}
use Rattle.rf233.specs.Line.{line_room, line, names}
use Rattle.rf233.specs.Line as lines
use Rattle.rf233.specs.Record.{one, tx_under_way, rx_under_way}
use Rattle.rf233.specs.State.{state_no, state_frame}
use Rattle.rf233.specs.Described.{is_above, slot_above, under_slot, named_in, meets, repeats, receive_length_bad, own_wrong}
use Rattle.rf233.specs.Described.{tx_length_bad, rx_length_bad, length_bad, held_besides, crowded, frame_no, frame_unfit, frame_bad}
use Rattle.rf233.specs.Described.{buffer_missing, held_length_bad, described, by_place, unplaced}
use Rattle.rf233.specs.Choice.{within}
use Rattle.rf233.specs.declared.driver.Buffers.{Buffers}
use Rattle.rf233.specs.declared.driver.Driver.{Driver}
use Rattle.rf233.specs.declared.driver.Lent.{Lent}
use Rattle.rf233.specs.declared.driver.Under.{Under}
use Rattle.rf233.specs.declared.driver.Under.TheVariants.{Idle, Register, FrameRead, FrameWrite, Waits}
use Rattle.rf233.proofs.Conditions.{by_flag}
use Rattle.rf233.proofs.LineLaws.{listed_most}
use Rattle.rf233.proofs.Twice.{uncounted, pairs, meets_empty}
use Rattle.laws.proofs.Logic as logic
use Rattle.laws.proofs.Logic.{Tests}
use Rattle.laws.proofs.Logic.Tests.{test, any_of}

-- the tests of a list by their places in it
abbrev of : List Bool → ℕ → Bool
of l n = get_or l n false

-- four tests of a frame write, and six of a frame read, in the clauses' order and in the code's
writing_order : (l : List Bool) → of l 0 || (of l 1 || (of l 2 || of l 3)) ≡ of l 3 || ((of l 0 || of l 2) || of l 1)
writing_order l =
    logic.regrouped (of l) (any_of (test 0) (any_of (test 1) (any_of (test 2) (test 3))))
    (any_of (test 3) (any_of (any_of (test 0) (test 2)) (test 1))) tt tt

reading_order : (l : List Bool) → of l 0 || (of l 1 || (of l 2 || (of l 3 || (of l 4 || of l 5))))
    ≡ of l 5 || (of l 4 || ((of l 0 || of l 3) || (of l 1 || of l 2)))
reading_order l =
    logic.regrouped (of l) (any_of (test 0) (any_of (test 1) (any_of (test 2) (any_of (test 3) (any_of (test 4) (test 5))))))
    (any_of (test 5) (any_of (test 4) (any_of (any_of (test 0) (test 3)) (any_of (test 1) (test 2))))) tt tt

-- one more than the line has room for, where one is under way and where none is
one_more : (n : ℕ) → ltb line_room (n + 1) ≡ leb line_room n
one_more n =
    by_flag (leb line_room n) (λ e. rw e (lt-ltb line_room (n + 1) (omega (arith, leb-true line_room n e))))
    (λ e. rw e (le-ltb line_room (n + 1) (omega (arith, leb-false line_room n e))))

no_more : (n : ℕ) → n ≤ line_room → ltb line_room (n + 0) ≡ false
no_more n h = le-ltb line_room (n + 0) (omega arith)

-- a test of each buffer in the line, and two
any_two : (s t : Lent → Bool) (l : List Lent) → lines.any_of (λ x. s x || t x) l ≡ lines.any_of s l || lines.any_of t l
any_two s t [] = refl
any_two s t (x ∷ l) =
    rw (any_two s t l)
    (logic.regrouped (of (s x ∷ t x ∷ lines.any_of s l ∷ lines.any_of t l ∷ []))
    (any_of (any_of (test 0) (test 1)) (any_of (test 2) (test 3))) (any_of (any_of (test 0) (test 2)) (any_of (test 1) (test 3))) tt tt)

-- what the clauses ask of a frame transfer. That a frame write's buffer is held in the transmit place is asked already where any is.
module _ (n : ℕ) (handling : Bool) (l : List Lent) (room : length l ≤ line_room) where
  frame_asked : (u : Under) (tx : Option Lent) → slot_above (under_slot u) || (meets (named_in tx) (named_in (under_slot u))
      || (meets (names l) (named_in (under_slot u)) || (tx_length_bad (tx_under_way u) n || (rx_length_bad (rx_under_way u)
      || ((is_some tx && is_some (tx_under_way u))
      || (ltb line_room (length l + one (is_some (rx_under_way u))) || (ltb 0 (frame_no u) && handling)))))))
      ≡ frame_bad u tx l n handling
  frame_asked Idle tx = rw (no_more (length l) room) (simp (meets_empty, and-false, or-false))
  frame_asked Register tx = rw (no_more (length l) room) (simp (meets_empty, and-false, or-false))
  frame_asked (FrameRead x) tx =
      rw (and-false (is_some tx), one_more (length l))
      (reading_order (is_above x ∷ meets (named_in tx) (x.buffer ∷ []) ∷ meets (names l) (x.buffer ∷ []) ∷ receive_length_bad x
      ∷ leb line_room (length l) ∷ handling ∷ []))
  frame_asked (FrameWrite x) None =
      rw (no_more (length l) room)
      (writing_order (is_above x ∷ meets (names l) (x.buffer ∷ []) ∷ not (within 2 127 n && within (n + 3) 160 x.length) ∷ handling ∷ []))
  frame_asked (FrameWrite x) (Some y) = simp or-true
  frame_asked (Waits o) tx = rw (no_more (length l) room) (simp (meets_empty, and-false, or-false))

-- all the tests, clause by clause and place by place; 0 to 20 are `tests` below
abbrev in_clauses : Tests
in_clauses =
    any_of (any_of (test 2) (any_of (test 4) (test 9)))
    (any_of (any_of (any_of (test 6) (test 10)) (any_of (test 11) (test 7)))
    (any_of (test 8)
    (any_of (any_of (test 0) (any_of (test 1) (any_of (test 3) (any_of (test 12) (any_of (test 5) (test 13))))))
    (any_of (test 14) (any_of (test 15) (any_of (any_of (test 17) (test 16)) (any_of (test 18) (any_of (test 19) (test 20)))))))))

abbrev in_places : Tests
in_places =
    any_of (test 0) (any_of (test 1) (any_of (any_of (test 2) (test 3))
    (any_of (any_of (any_of (test 4) (test 5)) (any_of (test 7) (test 6)))
    (any_of (any_of (any_of (test 8) (any_of (test 9) (any_of (test 10) (any_of (test 11)
    (any_of (test 12) (any_of (test 13) (any_of (test 14) (any_of (test 15) (test 16))))))))) (test 20))
    (any_of (test 17) (any_of (test 18) (test 19)))))))

module _ (d : Driver) where
  abbrev r : Buffers
  r = d.buffers

  abbrev tx : Option Lent
  tx = r.tx_buf

  abbrev rx : List Lent
  rx = line r

  abbrev going : Option Lent
  going = under_slot r.under

  abbrev unfit : Bool
  unfit = not (eqb (frame_no r.under) (state_frame (state_no d.state)))

  abbrev missing : Bool
  missing = buffer_missing r (state_no d.state)

  abbrev handling : Bool
  handling = d.flags.interrupt_handling

  abbrev length_unfit : Bool
  length_unfit = held_length_bad d.reception (state_no d.state)

  abbrev home_missing : Bool
  home_missing = unplaced r.under r

  -- spi_buf's two lengths; the places, the line and what both name; the transfer and its buffer; the state; the held length; the places
  -- of a transfer that waits
  abbrev tests : List Bool
  tests =
      not (within 129 160 r.spi_buf_whole) ∷ not (within 2 r.spi_buf_whole r.spi_buf_len) ∷ slot_above tx
      ∷ tx_length_bad tx r.tx_len ∷ lines.any_of is_above rx ∷ lines.any_of receive_length_bad rx
      ∷ meets (named_in tx) (names rx) ∷ repeats (names rx) ∷ own_wrong r.under r ∷ slot_above going
      ∷ meets (named_in tx) (named_in going) ∷ meets (names rx) (named_in going) ∷ tx_length_bad (tx_under_way r.under) r.tx_len
      ∷ rx_length_bad (rx_under_way r.under) ∷ held_besides r ∷ crowded r ∷ (ltb 0 (frame_no r.under) && handling) ∷ unfit ∷ missing
      ∷ length_unfit ∷ home_missing ∷ []

  pub regrouped : by_place d ≡ described d
  unfolding described
  regrouped =
      rw (← frame_asked r.tx_len handling rx (listed_most r.rx_line) r.under tx, any_two is_above receive_length_bad rx)
      (logic.regrouped (of tests) in_places in_clauses tt tt
      ∙ sym (uncounted r
      (length_bad r || (held_besides r || (crowded r || (frame_unfit r.under (state_no d.state) handling
      || (missing || (length_unfit || home_missing))))))
      ∙ rw (← pairs tx going (names rx))))
