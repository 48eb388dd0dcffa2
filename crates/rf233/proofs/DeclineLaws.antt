-- Laws of the parts of a decline and a resume: of which kinds a kept register transfer is, and that the length of spi_buf gives back the n
-- of a frame read. Assumes nothing.
use Rattle.std.proofs.Common.{◌≡◌, ℕ, true, false, ◌+◌, ◌-◌, ◌%◌, leb, cond, arith}
use Rattle.std.proofs.Math.Nat.{mod-eq_of_lt}
use borrow.Author.Tests.{leb-true}
use mathlib.Core.Bool.{Bool}
use Rattle.rf233.specs.Choice.{within}
use Rattle.rf233.specs.Starter.{command_kind}
use Rattle.rf233.specs.declared.driver.Command.{Command}
use Rattle.rf233.specs.declared.driver.Command.TheVariants as kept
use Rattle.rf233.specs.declared.transfer.TransferKind.{TransferKind}
use Rattle.rf233.specs.declared.transfer.TransferKind.TheVariants as kind
use Rattle.laws.proofs.Logic.{both_left, both_right}

-- what holds of both kinds of register transfer holds of the one that is kept
pub by_command : (P : TransferKind → Type 0) → P kind.RegisterRead → P kind.RegisterWrite → (c : Command) → P (command_kind c)
by_command P r w (kept.Read x y) = r
by_command P r w (kept.Write x y) = w

-- spi_buf has the length that a frame read of n left, which is no shorter than 2 and no longer than its whole length
pub n_again : (w l : ℕ) → within 129 160 w ≡ true → within 2 w l ≡ true → (l - 2) % 256 + 2 ≡ l
n_again w l h e =
    let low = leb-true 2 l (both_left (leb 2 l) _ e) in
    let high = leb-true l w (both_right (leb 2 l) _ e) in
    let most = leb-true w 160 (both_right (leb 129 w) _ h) in
    rw (mod-eq_of_lt {n = l - 2} {m = 256} (omega arith)) (omega arith)
