-- `read_write_done` meets its contract: where 12 does not describe the driver, and the count is right, the arrived bytes fit the buffer
-- that is read into. Assumes nothing.
use Rattle.std.proofs.Common.{arith}
use Rattle.rf233.proofs.Sound.{driver_right, pool_right, read_fits, shorter_fits}
use Rattle.rf233.proofs.driver.Driver.read_write_done.Goals as goal

pub copy_arrived-requires : goal.copy_arrived-requires
copy_arrived-requires c =
    let x = c.args in
    let right = rw c.pool_fault.ensures at c.if-pool_fault.false in
    let sound = driver_right x.self x.pool.now right in
    record {
      fits = omega (arith, c.if-most-n.false, c.shorter_length-most.ensures, shorter_fits x.self sound);
      in_pool = omega (arith, c.read_buffer.ensures, read_fits x.self sound, pool_right x.self x.pool.now right);
    }
