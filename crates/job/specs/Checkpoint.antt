-- The 96 bytes of a checkpoint. RULES, "Checkpoint"; docs/FORMAT.md has the same by offset.
--
--     checkpoint_size                96
--     done_in c .. year_in c         the fields of a checkpoint c
--     ledger_place i                 where the ledger at place i stands
--     tonnes_in c i, rest_in c i     this ledger: whole tonnes, and ng
--     counts_in c, mass_in c i       the counts, and the mass of a ledger in ng
--     gap_in c, blank_in c           the bytes that no field names are 0
--     first_sound c                  index and reason of the first record set aside are right
--     ledger_sound c i               the ledger at place i is right
--     every t n                      the test t passes for 0 .. n - 1
--     sound h c                      c is sound for a book with the head h (else 31)
--     decode c                       the state that c says
--     front c                        the bytes that say the counts c
--     laid p ms                      the bytes p, and behind them a ledger for each mass of ms
--     encode h s                     the checkpoint that says s, of a book with the head h
--
-- Laws: proofs/CheckpointLaws.antt. Definitions only.
use Rattle.std.specs.Prelude.{ℕ, zero, suc, ◌+◌, ◌*◌, ◌/◌, ◌%◌, Bool, true, List, [], ◌∷◌, ◌++◌, nat_le, nat_lt, nat_eq}
use Rattle.choice.specs.Tests.{◌also◌, choose}
use Rattle.mass.specs.Ledger.{tonne, tonnes_each}
use Rattle.rules.specs.declared.book.Head.{Head}
use Rattle.rules.specs.Bytes.{word, zeros, bytes_of}
use Rattle.rules.specs.Record.{last_reason}
use Rattle.job.specs.declared.counts.Counts.{Counts}
use Rattle.job.specs.State.{State, each, ledgers}

abbrev pub checkpoint_size : ℕ
checkpoint_size = 96

-- ---- fields
abbrev pub done_in : List ℕ → ℕ
done_in c = word c 0 4

abbrev pub aside_in : List ℕ → ℕ
aside_in c = word c 4 4

abbrev pub index_in : List ℕ → ℕ
index_in c = word c 8 4

abbrev pub reason_in : List ℕ → ℕ
reason_in c = word c 12 1

abbrev pub gap_in : List ℕ → Bool
gap_in c = zeros c 13 3

abbrev pub ledger_place : ℕ → ℕ
ledger_place i = 16 + 16 * i

abbrev pub tonnes_in : List ℕ → ℕ → ℕ
tonnes_in c i = word c (ledger_place i) 8

abbrev pub rest_in : List ℕ → ℕ → ℕ
rest_in c i = word c (ledger_place i + 8) 8

abbrev pub counts_in : List ℕ → Counts
counts_in c = record { done = done_in c; aside = aside_in c; index = index_in c; reason = reason_in c }

abbrev pub mass_in : List ℕ → ℕ → ℕ
mass_in c i = tonnes_in c i * tonne + rest_in c i

abbrev pub length_in : List ℕ → ℕ
length_in c = word c 80 4

abbrev pub year_in : List ℕ → ℕ
year_in c = word c 84 2

abbrev pub blank_in : List ℕ → Bool
blank_in c = zeros c 86 10

-- ---- soundness
unfoldable pub first_sound : List ℕ → Bool
first_sound c =
    choose (nat_eq (aside_in c) 0)
    (nat_eq (index_in c) 0 also nat_eq (reason_in c) 0)
    (nat_lt (index_in c) (done_in c) also nat_le 1 (reason_in c) also nat_le (reason_in c) last_reason)

unfoldable pub ledger_sound : List ℕ → ℕ → Bool
ledger_sound c i = nat_lt (rest_in c i) tonne also nat_le (tonnes_in c i) (tonnes_each * done_in c)

unfoldable pub every : (ℕ → Bool) → ℕ → Bool
every t zero = true
every t (suc n) = every t n also t n

unfoldable pub sound : Head → List ℕ → Bool
sound h c =
    nat_eq (length_in c) h.length
    also nat_eq (year_in c) h.year
    also nat_le (done_in c) h.n
    also nat_le (aside_in c) (done_in c)
    also first_sound c
    also every (ledger_sound c) ledgers
    also gap_in c
    also blank_in c

-- ---- what a checkpoint says, and how it is said
unfoldable pub decode : List ℕ → State
decode c = record { counts = counts_in c; masses = each (mass_in c) ledgers }

abbrev pub front : Counts → List ℕ
front c =
    bytes_of 4 c.done ++ bytes_of 4 c.aside ++ bytes_of 4 c.index ++ bytes_of 1 c.reason ++ bytes_of 3 0

unfoldable pub laid : List ℕ → List ℕ → List ℕ
laid p [] = p
laid p (v ∷ ms) = laid (p ++ bytes_of 8 (v / tonne) ++ bytes_of 8 (v % tonne)) ms

unfoldable pub encode : Head → State → List ℕ
encode h s = laid (front s.counts) s.masses ++ bytes_of 4 h.length ++ bytes_of 2 h.year ++ bytes_of 10 0
