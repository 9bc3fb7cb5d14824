-- So many bytes of the word are on the page.
use Rattle.std.proofs.Common.{◌≡◌, take}
use Rattle.text.specs.Extended.{extended}
use Rattle.text.proofs.page.say.Given as goal

abbrev pub invariant-loop-b : goal.invariant-loop-b
invariant-loop-b l = l.next ≡ extended l.initial.next (take l.b-index l.word)
