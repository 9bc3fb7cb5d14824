-- What is still to be said, behind what is said, is the whole.
use Rattle.std.proofs.Common.{◌≡◌, ◌-◌}
use Rattle.rules.specs.Bytes.{bytes_of}
use Rattle.text.specs.Extended.{extended}
use Rattle.text.proofs.number.say_bytes.Given as goal

abbrev pub invariant-loop : goal.invariant-loop
invariant-loop l = extended l.next (bytes_of (l.n - l.counter) l.rest) ≡ extended l.initial.next (bytes_of l.n l.v)
