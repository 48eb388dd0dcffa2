-- Laws of the pool: what a transfer writes and what a completion copies leave it as long as it was, and what a copy into a lent part of
-- it makes of the whole. Assumes nothing.
use mathlib.Core.Path.{◌≡◌, refl}
use mathlib.Core.List.{List, ◌++◌, append_assoc}
use Prim.Native.Nat.{ℕ, ◌+◌, ◌≤◌}
use native.Mathlib.Omega.{arith}
use lib.ListN.{length, take, drop, length-append, length-take, length-drop, length-set, take-append-drop}
use lib.Seq.{take-length, drop-append-le, drop-drop}
use borrow.Rule.Slice.PartMut.{mid_of, put_mid}
use Rattle.std.specs.Prelude.{Option, None, Some}
use Rattle.rf233.proofs.ChoiceLaws.{of_choice, same_choice}
use Rattle.rf233.specs.Pool.{start_of, command_written, copied}
use Rattle.rf233.specs.declared.transfer.Transfer.{Transfer}

-- a transfer's command bytes
pub command_written_length : (t : Option Transfer) (p : List ℕ) → length (command_written t p) ≡ length p
unfolding command_written
command_written_length None p = refl
command_written_length (Some t) p = simp (of_choice (length {A = ℕ}), length-set, same_choice)

-- arrived bytes that fit
pub copied_length : (b : ℕ) (xs p : List ℕ) → start_of b + length xs ≤ length p → length (copied b xs p) ≡ length p
copied_length b xs p h = simp (length-append, length-take, length-drop) (omega arith)

-- xs copied into the beginning of the k elements from a on
pub part_copied : (a k : ℕ) (xs p : List ℕ) → length xs ≤ length (mid_of a k p)
    → put_mid a k p (take (length xs) xs ++ drop (length xs) (mid_of a k p)) ≡ take a p ++ (xs ++ drop (a + length xs) p)
part_copied a k xs p h =
    rw (take-length, append_assoc, ← drop-append-le (length xs) (mid_of a k p) (drop k (drop a p)) h, take-append-drop, drop-drop)
