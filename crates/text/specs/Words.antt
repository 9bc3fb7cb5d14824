-- Words and numbers as bytes.
--
--     codes k s i    the codes of k characters of a text, from byte i on
--     ascii s        the bytes of a quoted text of ASCII characters
--     newline        the byte that ends a line
--     digit d        the byte of a decimal digit
--     digits k n     n in decimal with no zero in front, where k digits are enough
--     decimal n      a number of 64 bits in decimal
--     field s n      a word and the number behind it
--     line s n       the same as a line
--
-- Laws: proofs/WordsLaws.antt. Definitions only.
use Rattle.std.specs.Prelude.{ℕ, suc, zero, ◌+◌, ◌/◌, ◌%◌, List, [], ◌∷◌, ◌++◌, nat_lt}
use Prim.Native.Char.{code}
use Prim.Native.String.{String, len, char_at}
use Rattle.choice.specs.Tests.{choose}

abbrev pub codes : ℕ → String → ℕ → List ℕ
codes zero s i = []
codes (suc k) s i = code (char_at s i) ∷ codes k s (i + 1)

abbrev pub ascii : String → List ℕ
ascii s = codes (len s) s 0

abbrev pub newline : List ℕ
newline = 10 ∷ []

abbrev pub digit : ℕ → ℕ
digit d = 48 + d

unfoldable pub digits : ℕ → ℕ → List ℕ
digits zero n = []
digits (suc k) n = choose (nat_lt n 10) (digit n ∷ []) (digits k (n / 10) ++ digit (n % 10) ∷ [])

-- Numbers of 64 bits are below 10^20.
unfoldable pub decimal : ℕ → List ℕ
decimal n = digits 20 n

abbrev pub field : List ℕ → ℕ → List ℕ
field s n = s ++ decimal n

abbrev pub line : List ℕ → ℕ → List ℕ
line s n = field s n ++ newline
