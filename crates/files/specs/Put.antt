-- Bytes at the start of a buffer, and bytes put behind them.
--
--     front n xs         the first n of xs, or all of them where there are fewer
--     put_end n xs ys     how many bytes stand there once ys is put behind the first n of xs
--     put_bytes n xs ys   xs with as much of ys behind its first n as fits, and the rest as it was
--
-- Laws: proofs/PutLaws.antt. Definitions only.
use Rattle.std.specs.Prelude.{ℕ, ◌+◌, ◌-◌, min, List, ◌++◌, length, take, drop}

abbrev pub front : ℕ → List ℕ → List ℕ
front n xs = take n xs

unfoldable pub put_end : ℕ → List ℕ → List ℕ → ℕ
put_end n xs ys = min (n + length ys) (length xs)

unfoldable pub put_bytes : ℕ → List ℕ → List ℕ → List ℕ
put_bytes n xs ys = take n xs ++ take (length xs - n) ys ++ drop (n + length ys) xs
