-- `fill` stays within the script, and ends: each turn but the last reads a byte at least.
use Rattle.std.proofs.Common.{◌-◌, ◌≤◌}
use Rattle.script_lines.proofs.input.fill.Given as goal

abbrev pub invariant-loop-filled : goal.invariant-loop-filled
invariant-loop-filled g l = l.filled ≤ 65536

abbrev pub decreases-loop-filled : goal.decreases-loop-filled
decreases-loop-filled g l = 65536 - l.filled
