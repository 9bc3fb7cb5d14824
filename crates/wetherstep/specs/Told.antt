-- What a C caller reads, from a word and, where the number is 0, from its buffers. No contract cites
-- these: they say that a caller loses nothing.
--
--     told_number w, told_reason w, told_count w      the fields of a word
--     fresh_told w            the reply that the word of a fresh start tells
--     wake_told w             the reply that the word of a wake tells
--     report_told w fs        the reply that the word of a report tells, fs being the figures after it
--     left_told w             the reply that the word of a count tells
--
-- Laws: proofs/ToldLaws.antt. Definitions only.
use Rattle.std.specs.Prelude.{ℕ, ◌/◌, ◌%◌, List, [], ◌∷◌, nat_eq}
use Rattle.choice.specs.Tests.{choose}
use Rattle.job.specs.Reply.{Reply, reply}

unfoldable pub told_number : ℕ → ℕ
told_number w = w % 256

unfoldable pub told_reason : ℕ → ℕ
told_reason w = w / 256 % 256

unfoldable pub told_count : ℕ → ℕ
told_count w = w / 4294967296

unfoldable pub fresh_told : ℕ → Reply
fresh_told w = reply (told_number w) []

unfoldable pub wake_told : ℕ → Reply
wake_told w = choose (nat_eq (told_number w) 0) (reply 0 (told_count w ∷ [])) (reply (told_number w) [])

unfoldable pub report_told : ℕ → List ℕ → Reply
report_told w fs =
    choose (nat_eq (told_number w) 0) (reply 0 fs)
    (choose (nat_eq (told_number w) 40) (reply 40 (told_count w ∷ []))
    (choose (nat_eq (told_number w) 41) (reply 41 (told_count w ∷ told_reason w ∷ []))
    (reply (told_number w) [])))

-- As of a wake.
abbrev pub left_told : ℕ → Reply
left_told w = wake_told w
