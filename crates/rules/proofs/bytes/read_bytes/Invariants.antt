-- From the last byte down, what is read is the number of the bytes passed.
use Rattle.std.proofs.Common.{◌≡◌, ◌+◌, ◌-◌, ◌^◌, ◌<◌}
use Rattle.rules.specs.Bytes.{word}
use Rattle.rules.proofs.bytes.read_bytes.Given as goal

abbrev pub invariant-loop-i : goal.invariant-loop-i
invariant-loop-i l = record { value : l.v ≡ word l.s (l.at + l.i) (l.n - l.i); below : l.v < 256 ^ (l.n - l.i) }
