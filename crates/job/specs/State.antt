-- The state of a job, in numbers, and how a record changes it. RULES, "Ledgers" and "Calls".
--
--     v to i, a plus b        masses in a list, by their places: v at place i alone, and two lists added. Past
--                             the end of a list all is 0
--     mass m i                the mass at place i of the list m
--     each f n                f 0 .. f (n - 1), as a list
--     State                   how many records are done and how many of them were set aside, index and reason
--                             of the first of these (0 if none), and the mass of each ledger in ng
--     ledgers, fossil ..      how many ledgers there are, and their places, in the order of a checkpoint
--     gives o                 what an outcome gives to the ledgers, in ng
--     aside_of o              1 if the record was set aside, else 0
--     fresh                   the state with nothing done
--     counted c o, after s o  the counts and the state after one record more, whose outcome is o
--     run h k s n             the state after the next n records of the book k, from the place of s
--     first h k n             what the first n records of the book k give
--     sum_to f n              f 0 + .. + f (n - 1)
--
-- Laws: proofs/StateLaws.antt. Definitions only.
use Rattle.std.specs.Prelude.{ℕ, zero, suc, ◌+◌, ◌*◌, List, [], ◌∷◌, ◌++◌, nat_eq, replicate, slice_index, Ok, Err}
use Rattle.choice.specs.Tests.{choose}
use Rattle.rules.specs.declared.book.Head.{Head}
use Rattle.rules.specs.declared.entry.Destination.{Destination}
use Rattle.rules.specs.declared.entry.Destination.TheVariants.{Fossil, Biomass, Nowhere}
use Rattle.rules.specs.Outcome.{reason_number, Outcome}
use Rattle.rules.specs.Record.{outcome_at}
use Rattle.job.specs.declared.counts.Counts.{Counts}

-- ---- masses by their places
infixl 34 ◌plus◌
infixl 36 ◌to◌
unfoldable pub ◌to◌ : ℕ → ℕ → List ℕ
◌to◌ v i = replicate i 0 ++ (v ∷ [])

unfoldable pub ◌plus◌ : List ℕ → List ℕ → List ℕ
◌plus◌ [] b = b
◌plus◌ (x ∷ a) [] = x ∷ a
◌plus◌ (x ∷ a) (y ∷ b) = (x + y) ∷ (a plus b)

abbrev pub mass : List ℕ → ℕ → ℕ
mass m i = slice_index m i

unfoldable pub each : (ℕ → ℕ) → ℕ → List ℕ
each f zero = []
each f (suc n) = each f n ++ (f n ∷ [])

-- ---- ledgers
abbrev pub ledgers : ℕ
ledgers = 4

abbrev pub fossil : ℕ
fossil = 0

abbrev pub biomass : ℕ
biomass = 1

abbrev pub ch4 : ℕ
ch4 = 2

abbrev pub n2o : ℕ
n2o = 3

-- ---- what one outcome gives: CO2 is counted in µg, which is 1,000 ng
abbrev pub co2_to : Destination → ℕ → List ℕ
co2_to Fossil v = v to fossil
co2_to Biomass v = v to biomass
co2_to Nowhere v = []

abbrev pub gives : Outcome → List ℕ
gives (Err k) = []
gives (Ok e) = co2_to e.destination (1000 * e.co2.0) plus e.ch4.0 to ch4 plus e.n2o.0 to n2o

abbrev pub aside_of : Outcome → ℕ
aside_of (Err k) = 1
aside_of (Ok e) = 0

-- ---- states
pub record State : Type 0 where
  pub counts : Counts
  pub masses : List ℕ

unfoldable pub fresh : State
fresh = record { counts = record { done = 0; aside = 0; index = 0; reason = 0 }; masses = each (λ i. 0) ledgers }

-- The first record set aside is told by its index and its reason; a later one changes neither.
unfoldable pub counted : Counts → Outcome → Counts
counted c (Err k) = record {
  done = c.done + 1;
  aside = c.aside + 1;
  index = choose (nat_eq c.aside 0) c.done c.index;
  reason = choose (nat_eq c.aside 0) (reason_number k) c.reason;
}
counted c (Ok e) = record { done = c.done + 1; aside = c.aside; index = c.index; reason = c.reason }

unfoldable pub after : State → Outcome → State
after s o = record { counts = counted s.counts o; masses = s.masses plus gives o }

unfoldable pub run : Head → List ℕ → State → ℕ → State
run h k s zero = s
run h k s (suc n) = after (run h k s n) (outcome_at h k (run h k s n).counts.done)

unfoldable pub first : Head → List ℕ → ℕ → State
first h k zero = fresh
first h k (suc n) = after (first h k n) (outcome_at h k n)

unfoldable pub sum_to : (ℕ → ℕ) → ℕ → ℕ
sum_to f zero = 0
sum_to f (suc n) = sum_to f n + f n
