-- Shortcuts of the register's steps: a formula that stands for n steps of a number, but for m steps that are still to come.
-- Assumes nothing.
use mathlib.Core.Path.{◌≡◌, sym, ◌∙◌}
use Prim.Native.Nat.{ℕ, ◌^◌, ◌<◌}
use lib.Dec.{T}
use Rattle.fcs.specs.Word.{reduced}
use Rattle.laws.proofs.Logic.{all_below}
use Rattle.fcs.proofs.Form.{Form, it, turned, value, agree, same}
use Rattle.fcs.proofs.Register.{reduced_turns}

-- the test of a formula, at the first k powers of 2
abbrev pub Right : Form → ℕ → ℕ → ℕ → Type 0
Right f m n k = T (all_below (agree (turned m f) (turned n it)) k)

pub shortcut : (f : Form) (m n k : ℕ) → Right f m n k → (x : ℕ) → x < 2 ^ k → reduced m (value f x) ≡ reduced n x
shortcut f m n k t x h =
    reduced_turns m (value f x) ∙ same (turned m f) (turned n it) k t x h ∙ sym (reduced_turns n x)
