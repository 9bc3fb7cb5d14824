-- How the code holds what the records of a wake give to the ledgers, in words. This serves the code; the definitions
-- of the calls don't need it.
--
--     words, carries                 how many words there are, and more than a high digit comes to
--     carries_each                   more than it grows by with a record, where there are many
--     full, half                     what a high digit counts, and what a low one stays below
--     low_at w i, high_at w i        the digits at place i
--     unit_at i                      what they count, in ng: µg of CO2, or ng of another gas
--     mass_at w i                    what the records give to the ledger at place i
--     counts_at p a                  the counts at place p, a saying how many records are set aside, and which is the first
--     state_in c w                   the state with the counts c and the masses of w
--     added w i x                    w with x more at place i
--     given w e                      w with all that the entry e gives
--     co2_place d, co2_kept d x      where the code puts the CO2 x of a record, and how much of it
--     ledger_in c i                  the ledger that stands in c at place i, sound or not
--     ledgers_of s, totals_in c      the ledgers of which a report tells: of a state, and as they stand in c
--     masses_on c w, state_on t c w  at each place what c says and w gives, and the state of this and the counts t
--     Kept m w                       sums of w fit 64 bits, and none of its high digits is above m
--     Light c w                      the ledgers of c, with what w gives, are those of a book, and sums of w fit 64 bits
--     Gone h k f c w                 from the checkpoint f on records are gone through: the counts are c, and they give w
--
-- Laws: proofs/WordsLaws.antt, proofs/RunLaws.antt. Definitions only.
use Rattle.std.specs.Prelude.{ℕ, ◌+◌, ◌-◌, ◌*◌, ◌/◌, ◌<◌, ◌≤◌, List, ◌≡◌, nat_lt, length, slice_set, replicate, slice_index}
use Rattle.choice.specs.Tests.{choose}
use Rattle.mass.specs.declared.ledger.Ledger.{Ledger}
use Rattle.mass.specs.declared.ledger.Ledgers.{Ledgers}
use Rattle.mass.specs.Ledger.{tonne, most_tonnes, ledger_of}
use Rattle.rules.specs.declared.book.Head.{Head}
use Rattle.rules.specs.declared.entry.Destination.{Destination}
use Rattle.rules.specs.declared.entry.Destination.TheVariants.{Fossil, Biomass, Nowhere}
use Rattle.rules.specs.declared.entry.Entry.{Entry}
use Rattle.job.specs.declared.counts.Aside.{Aside}
use Rattle.job.specs.declared.counts.Counts.{Counts}
use Rattle.job.specs.State.{mass, each, State, ledgers, fossil, biomass, ch4, n2o, run}
use Rattle.job.specs.Checkpoint.{done_in, tonnes_in, rest_in, counts_in, mass_in}

-- ---- words
abbrev pub words : ℕ
words = 2 * ledgers

abbrev pub carries : ℕ
carries = 1000000000000

abbrev pub carries_each : ℕ
carries_each = 5000000

abbrev pub full : ℕ
full = 9000000000000000000

abbrev pub half : ℕ
half = 9223372036854775808

abbrev pub low_at : List ℕ → ℕ → ℕ
low_at w i = slice_index w i

abbrev pub high_at : List ℕ → ℕ → ℕ
high_at w i = slice_index w (ledgers + i)

unfoldable pub unit_at : ℕ → ℕ
unit_at i = choose (nat_lt i ch4) 1000 1

unfoldable pub mass_at : List ℕ → ℕ → ℕ
mass_at w i = unit_at i * (full * high_at w i + low_at w i)

abbrev pub counts_at : ℕ → Aside → Counts
counts_at p a = record { done = p; aside = a.count; index = a.index; reason = a.reason }

unfoldable pub state_in : Counts → List ℕ → State
state_in c w = record { counts = c; masses = each (mass_at w) ledgers }

-- ---- what a record gives
unfoldable pub added : List ℕ → ℕ → ℕ → List ℕ
added w i x =
    let sum = low_at w i + x in
    choose (nat_lt sum half) (slice_set w i sum) (slice_set (slice_set w i (sum - full)) (ledgers + i) (high_at w i + 1))

abbrev pub co2_place : Destination → ℕ
co2_place Fossil = fossil
co2_place Biomass = biomass
co2_place Nowhere = fossil

abbrev pub co2_kept : Destination → ℕ → ℕ
co2_kept Fossil x = x
co2_kept Biomass x = x
co2_kept Nowhere x = 0

abbrev pub given : List ℕ → Entry → List ℕ
given w e =
    let d = e.destination in
    added (added (added w (co2_place d) (co2_kept d e.co2.0)) ch4 e.ch4.0) n2o e.n2o.0

-- ---- checkpoints
abbrev pub ledger_in : List ℕ → ℕ → Ledger
ledger_in c i = record { tonnes = tonnes_in c i; rest = record { 0 = rest_in c i } }

abbrev pub ledgers_of : State → Ledgers
ledgers_of s = record {
  fossil = ledger_of (mass s.masses fossil);
  biomass = ledger_of (mass s.masses biomass);
  ch4 = ledger_of (mass s.masses ch4);
  n2o = ledger_of (mass s.masses n2o);
}

unfoldable pub totals_in : List ℕ → Ledgers
totals_in c = record {
  fossil = ledger_in c fossil;
  biomass = ledger_in c biomass;
  ch4 = ledger_in c ch4;
  n2o = ledger_in c n2o;
}

unfoldable pub masses_on : List ℕ → List ℕ → List ℕ
masses_on c w = each (λ i. mass_in c i + mass_at w i) ledgers

unfoldable pub state_on : Counts → List ℕ → List ℕ → State
state_on t c w = record { counts = t; masses = masses_on c w }

-- ---- what is known of words
pub record Kept (m : ℕ) (w : List ℕ) : Type 0 where
  pub whole : length w ≡ words
  pub low : (i : ℕ) → i < ledgers → low_at w i < half
  pub few : (i : ℕ) → i < ledgers → high_at w i ≤ m

abbrev pub Light : List ℕ → List ℕ → Type 0
Light c w =
    (i : ℕ) → i < ledgers → (rest_in c i < tonne) × ((mass_in c i + mass_at w i) / tonne ≤ most_tonnes) × (low_at w i < half)

pub record Gone (h : Head) (k f : List ℕ) (c : Counts) (w : List ℕ) : Type 0 where
  pub place : done_in f ≤ c.done
  pub state : state_in c w ≡ run h k (state_in (counts_in f) (replicate words 0)) (c.done - done_in f)
  pub kept : Kept (carries_each * c.done) w
