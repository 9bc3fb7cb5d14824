-- How the code holds what the fuel records of a leg add, in words by fuel line and way. This serves the code; the
-- definitions of the calls don't need it.
--
--     leg_records               the most records of a leg
--     coarse                    a sum is held by what it has of this and by the rest
--     units_each, rest_each     the most that a fuel gives of either to a ledger
--     full_units                how many coarse units a high digit of the ledgers' words counts
--     pour_each, pour_most      the most by which a high digit grows by one sum, and where a leg is settled
--     raised d p x              d with x more at place p
--     shared d x                d with the share x more
--     co2_place_of b            where CO2 goes, which is biomass or not
--     co2_ledger f              where that of the fuel f goes
--     worth_of f v i            what one unit of word v of the fuel f is worth at the ledger i, in ng
--     fuel_shares f d k i       what the words of fuel line k, which is f, come to at the ledger i
--     shares_at fs d i          what the words of all fuel lines fs come to there
--     counted_in x d k          of fuel line k, with the default heat x, the heat from which CO2 comes
--     other_in x d k            and the heat whose CO2 comes from the carbon or is a monitor's
--     weighed s i x y           the sums s with x × y more at place i
--     gathered f k d s          with all that fuel line k gives, whose factors are f
--     sum_at s i                what the sums s come to at the ledger i, in ng
--     poured w i u r            the ledgers' words w with u coarse units and r more at place i
--     most_in v                 the most that a record adds to the word v of a fuel
--     Held n d                  d is what n records add at most
--     Modest f                  the heat and the factors are those of a right fuel line
--     Summed m s                s is what m fuel lines give at most
--     Gathered fs d s           s is what the words d of the fuel lines fs come to
--
-- Laws: proofs/SharesLaws.antt, proofs/GatheredLaws.antt, proofs/PouredLaws.antt. Definitions only.
use Rattle.std.specs.Prelude.{ℕ, ◌+◌, ◌*◌, ◌/◌, ◌%◌, ◌<◌, ◌≤◌, Bool, List, ◌≡◌, nat_eq, nat_lt, length, slice_set, slice_index}
use Rattle.choice.specs.Tests.{choose}
use Rattle.rules.specs.declared.factors.Factors.{Factors}
use Rattle.rules.specs.declared.sorting.Share.{Share}
use Rattle.rules.specs.Bytes.{line}
use Rattle.rules.specs.Fields.{fuel_class, ch4_factor, n2o_factor}
use Rattle.rules.specs.Sorting.{heat_of, co2_of, most_burned}
use Rattle.job.specs.State.{ledgers, fossil, biomass, ch4, n2o, sum_to}
use Rattle.job.specs.Words.{unit_at, added}

-- Few enough for 64 bits: 64 fuels give a ledger at most 64 × units_each, which is 8.4 × 10^18.
abbrev pub leg_records : ℕ
leg_records = 4096

abbrev pub coarse : ℕ
coarse = 1000000

-- The heat of 8 words, each of at most 10^8 units × 200,000 kJ a record, times a factor of at most 200,000.
abbrev pub units_each : ℕ
units_each = 32000000000000 * leg_records

-- The rests of two products, by the heat and by the carbon.
abbrev pub rest_each : ℕ
rest_each = 2 * coarse * 200000

abbrev pub full_units : ℕ
full_units = 9000000000000

-- 64 × units_each has full_units 932,067 times, and the low digit carries at most twice.
abbrev pub pour_each : ℕ
pour_each = 1000000

abbrev pub pour_most : ℕ
pour_most = ledgers * pour_each

abbrev pub raised : List ℕ → ℕ → ℕ → List ℕ
raised d p x = slice_set d p (slice_index d p + x)

unfoldable pub shared : List ℕ → Share → List ℕ
shared d x = raised (raised d (x.at + x.way) x.burned) (x.at + 8) x.carbon

abbrev pub co2_place_of : Bool → ℕ
co2_place_of b = choose b biomass fossil

unfoldable pub co2_ledger : List ℕ → ℕ
co2_ledger f = co2_place_of (nat_eq (fuel_class f) 3)

unfoldable pub worth_of : List ℕ → ℕ → ℕ → ℕ
worth_of f v i =
    choose (nat_eq i ch4) (choose (nat_lt v 8) (ch4_factor f * heat_of f v) 0)
    (choose (nat_eq i n2o) (choose (nat_lt v 8) (n2o_factor f * heat_of f v) 0)
    (choose (nat_eq i (co2_ledger f)) (1000 * choose (nat_lt v 8) (co2_of f v) (choose (nat_eq v 8) 3664 0)) 0))

unfoldable pub fuel_shares : List ℕ → List ℕ → ℕ → ℕ → ℕ
fuel_shares f d k i = sum_to (λ v. slice_index d (16 * k + v) * worth_of f v i) 16

unfoldable pub shares_at : List ℕ → List ℕ → ℕ → ℕ
shares_at fs d i = sum_to (λ k. fuel_shares (line k fs) d k i) (length fs / 32)

-- ---- how the code sums them up
unfoldable pub counted_in : ℕ → List ℕ → ℕ → ℕ
counted_in heat d k = slice_index d (16 * k + 1) + heat * slice_index d (16 * k)

unfoldable pub other_in : ℕ → List ℕ → ℕ → ℕ
other_in heat d k =
    slice_index d (16 * k + 3) + slice_index d (16 * k + 5) + slice_index d (16 * k + 7)
    + heat * (slice_index d (16 * k + 2) + slice_index d (16 * k + 4) + slice_index d (16 * k + 6))

unfoldable pub weighed : List ℕ → ℕ → ℕ → ℕ → List ℕ
weighed s i x y = raised (raised s i (x / coarse * y)) (ledgers + i) (x % coarse * y)

unfoldable pub gathered : Factors → ℕ → List ℕ → List ℕ → List ℕ
gathered f k d s =
    let co2 = co2_place_of f.biomass in
    let counted = counted_in f.heat d k in
    let all = counted + other_in f.heat d k in
    let by_heat = weighed s co2 counted f.co2 in
    let by_carbon = weighed by_heat co2 (slice_index d (16 * k + 8)) 3664 in
    weighed (weighed by_carbon ch4 all f.ch4) n2o all f.n2o

unfoldable pub sum_at : List ℕ → ℕ → ℕ
sum_at s i = unit_at i * (coarse * slice_index s i + slice_index s (ledgers + i))

unfoldable pub poured : List ℕ → ℕ → ℕ → ℕ → List ℕ
poured w i units rest =
    added (added (raised w (ledgers + i) (units / full_units)) i (units % full_units * coarse)) i rest

-- ---- what is known of words and sums
unfoldable pub most_in : ℕ → ℕ
most_in v = choose (nat_lt v 8) (most_burned v) 400000000000000

pub record Held (n : ℕ) (d : List ℕ) : Type 0 where
  pub whole : length d ≡ 1024
  pub few : (k v : ℕ) → k < 64 → v < 16 → slice_index d (16 * k + v) ≤ most_in v * n

pub record Modest (f : Factors) : Type 0 where
  pub heat_le : f.heat ≤ 200000
  pub co2_le : f.co2 ≤ 200000
  pub ch4_le : f.ch4 ≤ 200000
  pub n2o_le : f.n2o ≤ 200000

pub record Summed (m : ℕ) (s : List ℕ) : Type 0 where
  pub whole : length s ≡ 8
  pub units_le : (i : ℕ) → i < ledgers → slice_index s i ≤ units_each * m
  pub rest_le : (i : ℕ) → i < ledgers → slice_index s (ledgers + i) ≤ rest_each * m

pub record Gathered (fs d s : List ℕ) : Type 0 where
  pub few : Summed 64 s
  pub sums : (i : ℕ) → i < ledgers → sum_at s i ≡ shares_at fs d i
