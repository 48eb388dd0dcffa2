-- `copy_arrived` meets its contract: what `copy` leaves in the part stands where the part was lent (`part_copied`). Assumes nothing.
use Rattle.std.proofs.Common.{◌+◌, ◌-◌, ◌*◌, arith}
use lib.ListN.{length-take, length-drop}
use lib.Seq.{take-length}
use Rattle.rf233.proofs.PoolLaws.{part_copied}
use Rattle.rf233.proofs.pool.copy_arrived.Goals as goal

pub returns : goal.returns
returns c =
    let a = c.args.buffer * 160 in
    rw c.copy.ensures
    (simp take-length at
    (part_copied a (a + 160 - a) c.args.arrived.now c.args.pool.now
    (simp (length-take, length-drop) (omega (arith, c.requires.fits, c.requires.in_pool)))))
