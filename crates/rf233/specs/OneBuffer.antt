-- `one-buffer-as-before` (request 2026-07): while the driver has at most one receive buffer, the line is document 01's one receive place.
-- Lending puts a buffer there, handing back takes it away, and its turn to the end of the line leaves it where it is; and no call does
-- anything else to the receive buffers.
use Rattle.std.specs.Prelude.{◌≡◌, ℕ, ◌≤◌, List, [], ◌∷◌, ◌++◌, Option, None, Some}
use Rattle.rf233.specs.Calls.{Call, yields}
use Rattle.rf233.specs.Calls.Call.{complete, receive_buffer}
use Rattle.rf233.specs.Line.{line, front, behind, append, rotate}
use Rattle.rf233.specs.Record.{lent, receive_count}
use Rattle.rf233.specs.declared.driver.Buffers.{Buffers}
use Rattle.rf233.specs.declared.driver.Driver.{Driver}
use Rattle.rf233.specs.declared.driver.Lent.{Lent}
use Rattle.rf233.specs.declared.driver.Under.{Under}
use Rattle.rf233.specs.declared.driver.Under.TheVariants.{Idle, Register, FrameRead, FrameWrite, Waits}

-- the buffer that a frame read has
abbrev pub reading : Under → List Lent
reading Idle = []
reading Register = []
reading (FrameRead x) = x ∷ []
reading (FrameWrite x) = []
reading (Waits o) = []

-- the receive buffers that the driver has, in turn: the one that a frame read took from the front, then the line
abbrev pub in_turn : Buffers → List Lent
in_turn r = reading r.under ++ line r

-- document 01's receive place, with a buffer or without, as such a list
abbrev pub as_list : Option Lent → List Lent
as_list None = []
as_list (Some x) = x ∷ []

-- what call c makes of the receive buffers l: they stay; the call's own buffer is the last of them; a completion hands the first back, or
-- turns it to the end
pub data Moved (c : Call) (l : List Lent) : List Lent → Type 0 where
  stays : Moved c l l
  lends : (b n : ℕ) → c ≡ receive_buffer b n → Moved c l (append l (lent b n))
  hands_back : (xs : List ℕ) → c ≡ complete xs → Moved c l (behind l)
  turns : (xs : List ℕ) → c ≡ complete xs → Moved c l (rotate l)

pub record OneBuffer : Type 0 where
  -- at most one receive buffer is what a place has
  pub place : (r : Buffers) → receive_count r ≤ 1 → in_turn r ≡ as_list (front (in_turn r))
  -- it is put there and taken away as with a place, and it stays where there is no other to be behind
  pub put : (x : Lent) → append (as_list None) x ≡ as_list (Some x)
  pub found : (s : Option Lent) → front (as_list s) ≡ s
  pub taken : (s : Option Lent) → behind (as_list s) ≡ as_list None
  pub left : (s : Option Lent) → rotate (as_list s) ≡ as_list s
  -- nothing else touches the receive buffers, on any driver value and with any pool
  pub moved : (d : Driver) (c : Call) (p : List ℕ) → Moved c (in_turn d.buffers) (in_turn (yields d c p).driver.buffers)
