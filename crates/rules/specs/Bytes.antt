-- Bytes, little-endian numbers and 32-byte lines. A byte past the end is 0.
--
--     byte l k        byte k of l, counting from 0
--     word l k n      the number of the n bytes of l from byte k on
--     zeros l k n     these n bytes are all 0
--     bytes_of n v    v in n bytes
--     part a e s      the bytes of s from a up to e
--     line k s        line k of s, counting from 0
--     lines n s       the first n lines of s
--     lines_in s      all lines of s
--
-- Laws: proofs/BytesLaws.antt. Definitions only.
use Rattle.std.specs.Prelude.{ℕ, zero, suc, ◌+◌, ◌*◌, ◌/◌, ◌%◌, Bool, List, [], ◌∷◌, length, take, drop, ◌==◌, slice_index, slice_range}

abbrev pub byte : List ℕ → ℕ → ℕ
byte l k = slice_index l k

unfoldable pub word : List ℕ → ℕ → ℕ → ℕ
word l k zero = 0
word l k (suc n) = byte l k + 256 * word l (k + 1) n

abbrev pub zeros : List ℕ → ℕ → ℕ → Bool
zeros l k n = word l k n == 0

unfoldable pub bytes_of : ℕ → ℕ → List ℕ
bytes_of zero v = []
bytes_of (suc n) v = v % 256 ∷ bytes_of n (v / 256)

abbrev pub part : ℕ → ℕ → List ℕ → List ℕ
part a e s = slice_range s a e

abbrev pub line : ℕ → List ℕ → List ℕ
line k s = part (32 * k) (32 * k + 32) s

unfoldable pub lines : ℕ → List ℕ → List (List ℕ)
lines zero s = []
lines (suc n) s = take 32 s ∷ lines n (drop 32 s)

unfoldable pub lines_in : List ℕ → List (List ℕ)
lines_in s = lines (length s / 32) s
