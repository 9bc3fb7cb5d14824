-- What is said of one record more, in a leg of a wake, and of the records from a place on. This serves the code; the
-- definitions of the calls don't need it.
--
--     Before h k p u a w t     what holds before the records from place p to u of the book k, with the head h, are gone
--                              through: a tells of those set aside before, w has what the others gave, a table t is known
--     Went h k p u s a w r b v
--                              they are gone through up to place r, which is u unless it was to stop (s); b and v are
--                              then what a and w were
--
--     Ready h k p u a w t v x  the same where t is a table, v the index of the unit lines, and x its hints
--
--     AsideAfter h k p a b         a is what was said of records set aside before record p, and b what is said with it
--     Took h k p a w b v           so it is with the counts, and the words are then v where they were w
--     TookShare h k p a w d b v e  the same, where the shares are then e where they were d
--     Taking h k p s a w d t r b v e u
--                                  what r says of the look at record p is so: done with it, a table is u where it was t; and
--                                  else nothing has changed, and one that stops was to stop (s)
--
--     taken_sorted s, taken_grained x    how the look at a record ends that was sorted as s, or weighed in the grains x
--     RoomFor s d, Co2For s              there is room for s in the shares d, and its CO2 is that of a record
--     LightFor g x                       so is that of x, a grain being g µg
--     shared_by s d, added_by s w        the shares and the words once s is taken
--     grained_by g x w, AsideBy p x a b  the words once x is taken, and what is then said of records set aside
--
-- Laws: proofs/LegLaws.antt, proofs/WentLaws.antt. Definitions only.
use Rattle.std.specs.Prelude.{ℕ, ◌+◌, ◌-◌, ◌*◌, ◌<◌, ◌≤◌, Option, Some, None, Bool, true, false, List, ◌≡◌, slice_index, Err}
use Rattle.rules.specs.declared.book.Head.{Head}
use Rattle.rules.specs.declared.sorting.Share.{Share}
use Rattle.rules.specs.declared.weighing.Grained.{Grained}
use Rattle.rules.specs.declared.weighing.Grained.TheVariants as grained
use Rattle.rules.specs.declared.record.Reason.TheVariants.{Repeated}
use Rattle.rules.specs.Bytes.{line, lines}
use Rattle.rules.specs.Book.{unit_lines, fuel_lines}
use Rattle.rules.specs.Record.{outcome_at}
use Rattle.rules.specs.Index.{UnitsNoted, Small}
use Rattle.rules.specs.Table.{is_table, noting, Known}
use Rattle.job.specs.declared.counts.Aside.{Aside}
use Rattle.job.specs.declared.leg.Taken.{Taken}
use Rattle.job.specs.declared.leg.Taken.TheVariants.{Done, Unsure, Stopped}
use Rattle.job.specs.State.{mass, ledgers, fossil, gives, counted, run}
use Rattle.job.specs.Bounds.{FitFor}
use Rattle.job.specs.Words.{carries_each, full, mass_at, counts_at, state_in, added, Kept}
use Rattle.job.specs.Shares.{shared, shares_at, Held}

-- ---- the records from a place on
pub record Before (h : Head) (k : List ℕ) (p u : ℕ) (a : Aside) (w t : List ℕ) : Type 0 where
  pub fit : FitFor h (state_in (counts_at p a) w)
  pub kept : Kept (carries_each * p) w
  pub from_le : p ≤ u
  pub end_le : u ≤ h.n
  pub known : Known (lines p k) (unit_lines h k) t

pub record Ready (h : Head) (k : List ℕ) (p u : ℕ) (a : Aside) (w t v x : List ℕ) : Type 0 where
  pub before : Before h k p u a w t
  pub table : is_table (unit_lines h k) t ≡ true
  pub units : UnitsNoted (unit_lines h k) v
  pub hints : Small x

pub record Went (h : Head) (k : List ℕ) (p u : ℕ) (s : Bool) (a : Aside) (w : List ℕ) (r : ℕ) (b : Aside) (v : List ℕ) : Type 0 where
  pub state : state_in (counts_at r b) v ≡ run h k (state_in (counts_at p a) w) (r - p)
  pub kept : Kept (carries_each * r) v
  pub from_le : p ≤ r
  pub end_le : r ≤ u
  pub whole : s ≡ false → r ≡ u

-- ---- one record more
abbrev pub AsideAfter : Head → List ℕ → ℕ → Aside → Aside → Type 0
AsideAfter h k p a b = counts_at (p + 1) b ≡ counted (counts_at p a) (outcome_at h k p)

pub record Took (h : Head) (k : List ℕ) (p : ℕ) (a : Aside) (w : List ℕ) (b : Aside) (v : List ℕ) : Type 0 where
  pub counts : AsideAfter h k p a b
  pub masses : (i : ℕ) → i < ledgers → mass_at v i ≡ mass_at w i + mass (gives (outcome_at h k p)) i
  pub kept : (m : ℕ) → Kept m w → Kept (m + 3) v

pub record TookShare (h : Head) (k : List ℕ) (p : ℕ) (a : Aside) (w d : List ℕ) (b : Aside) (v e : List ℕ) : Type 0 where
  pub counts : AsideAfter h k p a b
  pub masses : (i : ℕ) → i < ledgers →
      mass_at v i + shares_at (fuel_lines h k) e i
      ≡ mass_at w i + shares_at (fuel_lines h k) d i + mass (gives (outcome_at h k p)) i
  pub kept : (m : ℕ) → Kept m w → Kept (m + 3) v
  pub held : (n : ℕ) → Held n d → Held (n + 1) e

abbrev pub Taking : Head → List ℕ → ℕ → Bool → Aside → List ℕ → List ℕ → List ℕ → Taken → Aside → List ℕ → List ℕ → List ℕ → Type 0
Taking h k p s a w d t Done b v e u = TookShare h k p a w d b v e × (u ≡ noting (line p k) (unit_lines h k) t)
Taking h k p s a w d t Unsure b v e u = (b ≡ a) × (v ≡ w) × (e ≡ d) × (u ≡ t)
Taking h k p s a w d t Stopped b v e u = (b ≡ a) × (v ≡ w) × (e ≡ d) × (u ≡ t) × (s ≡ true)

-- ---- what was sorted or weighed
abbrev pub taken_sorted : Option Share → Taken
taken_sorted None = Unsure
taken_sorted (Some x) = Done

abbrev pub RoomFor : Option Share → List ℕ → Type 0
RoomFor None d = Unit {0}
RoomFor (Some x) d =
    ((x.at + 8 < 1024) × (x.way < 4))
    × ((slice_index d (x.at + x.way) + x.burned < 18446744073709551616) × (slice_index d (x.at + 8) + x.carbon < 18446744073709551616))

abbrev pub Co2For : Option Share → Type 0
Co2For None = Unit {0}
Co2For (Some x) = x.co2.0 < full

abbrev pub shared_by : Option Share → List ℕ → List ℕ
shared_by None d = d
shared_by (Some x) d = shared d x

abbrev pub added_by : Option Share → List ℕ → List ℕ
added_by None w = w
added_by (Some x) w = added w fossil x.co2.0

abbrev pub taken_grained : Grained → Taken
taken_grained grained.Unsure = Unsure
taken_grained grained.Repeated = Done
taken_grained (grained.Fossil x) = Done

abbrev pub LightFor : ℕ → Grained → Type 0
LightFor g grained.Unsure = Unit {0}
LightFor g grained.Repeated = Unit {0}
LightFor g (grained.Fossil x) = g * x.0 < full

abbrev pub grained_by : ℕ → Grained → List ℕ → List ℕ
grained_by g grained.Unsure w = w
grained_by g grained.Repeated w = w
grained_by g (grained.Fossil x) w = added w fossil (g * x.0)

abbrev pub AsideBy : ℕ → Grained → Aside → Aside → Type 0
AsideBy p grained.Unsure a b = b ≡ a
AsideBy p grained.Repeated a b = counts_at (p + 1) b ≡ counted (counts_at p a) (Err Repeated)
AsideBy p (grained.Fossil x) a b = b ≡ a
