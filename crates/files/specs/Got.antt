-- What a count of the bytes that were read promises.
--
--     Within r xs        if r is a count, so many bytes stand at the start of xs
--     TookAll o n r xs   of an input that had the bytes o and has n left, where these are known, and of reads until
--                        the room is full: if r is a count, so many at the start of xs are what it lost, and a
--                        count of fewer than there is room for is its end
--
-- Definitions only.
use Rattle.std.specs.Prelude.{ℕ, ◌<◌, List, length, take, Option, Result, Ok, Err}
use Rattle.std.specs.Io.KnownBytes.{Consumes, IsAtEnd}
use Rattle.io.specs.Counts.{IsPrefixLen}

abbrev pub Within : {E : Type 0} → Result ℕ E → List ℕ → Type 0
Within (Ok n) xs = IsPrefixLen n xs
Within (Err why) xs = Unit {0}

abbrev pub TookAll : {E : Type 0} → Option (List ℕ) → Option (List ℕ) → Result ℕ E → List ℕ → Type 0
TookAll old new (Ok n) xs = Consumes old new (take n xs) × (n < length xs → IsAtEnd new)
TookAll old new (Err why) xs = Unit {0}
