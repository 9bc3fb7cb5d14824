-- When each reason applies to a record, told by itself: of the record's line l, the lines before it, the
-- unit lines and the fuel lines, whatever else applies. RULES, "Reasons".
--
--     FuelRecord l, MonitorHour l, Anodes l
--                                      the kind of the record
--     Listed x ls a                    a is a line of ls and has the number x
--     Lacks x ls                       no line of ls has it
--     Applies before l units fuels k   reason k applies; each case is a ground for it
--     Reasons before l units fuels o   o is the outcome that the reasons leave: the first that applies, or what
--                                      the record is worth if none does
--
-- A ground that asks for the record's unit or fuel goes by its listed line. Numbers of listed lines rise,
-- so that there is one such line at most.
-- Laws: proofs/ReasonLaws.antt. Definitions only.
use Rattle.std.specs.Prelude.{◌≡◌, ℕ, ◌<◌, true, false, ◌↔◌, List, Float, Ok, Err}
use mathlib.Core.List.{Memᴰ}
use Rattle.mass.specs.declared.hour.Readings.{Readings}
use Rattle.mass.specs.declared.hour.Hour.TheVariants.{Usable, Unusable}
use Rattle.mass.specs.Hour.{hour_of}
use Rattle.rules.specs.declared.entry.Entry.{Entry}
use Rattle.rules.specs.declared.record.Reason.{Reason}
use Rattle.rules.specs.declared.record.Reason.TheVariants.{WrongForm, NoUnit, NoFuel, OutOfRange, NoMonitor, NoMethod, NoHeat, Repeated}
use Rattle.rules.specs.Outcome.{reason_number, Outcome}
use Rattle.rules.specs.Fields.{number, monitored, kind, unit_number, fuel_number, period, fuelled, percent_bits, flow_bits}
use Rattle.rules.specs.Method.{method_of}
use Rattle.rules.specs.Entry.{heat_in_use, fuel_entry, hour_entry, anodes_entry}
use Rattle.rules.specs.Repeat.{repeatable}
use Rattle.rules.specs.Record.{fuel_form, hour_form, anodes_form, moisture_form, fuel_ranges, hour_range, anodes_ranges}

-- Analysed gas is fuel too.
abbrev pub FuelRecord : List ℕ → Type 0
FuelRecord l = fuelled l ≡ true

abbrev pub MonitorHour : List ℕ → Type 0
MonitorHour l = kind l ≡ 2

abbrev pub Anodes : List ℕ → Type 0
Anodes l = kind l ≡ 4

pub record Listed (x : ℕ) (ls : List (List ℕ)) (a : List ℕ) : Type 0 where
  pub among : Memᴰ a ls
  pub has : number a ≡ x

abbrev pub Lacks : ℕ → List (List ℕ) → Type 0
Lacks x ls = (a : List ℕ) → Listed x ls a → ⊥

pub data Applies (before : List (List ℕ)) (l : List ℕ) (units fuels : List (List ℕ)) : Reason → Type 0 where
  -- 1: kind, flags or a byte that must be 0.
  wrong_kind : (FuelRecord l → ⊥) → (MonitorHour l → ⊥) → (Anodes l → ⊥) → Applies before l units fuels WrongForm
  wrong_fuel_form : FuelRecord l → fuel_form l ≡ false → Applies before l units fuels WrongForm
  wrong_hour_form : MonitorHour l → hour_form l ≡ false → Applies before l units fuels WrongForm
  wrong_anodes_form : Anodes l → anodes_form l ≡ false → Applies before l units fuels WrongForm
  -- What moisture an hour may have goes by its unit's line. Where there is none, 2 applies in place of this.
  wet_moisture : (u : List ℕ) → MonitorHour l → Listed (unit_number l) units u → moisture_form l u ≡ false
      → Applies before l units fuels WrongForm
  -- 2: unit not listed.
  no_unit : Lacks (unit_number l) units → Applies before l units fuels NoUnit
  -- 3: fuel not listed.
  no_fuel : FuelRecord l → Lacks (fuel_number l) fuels → Applies before l units fuels NoFuel
  -- 4: month, amount, heat or carbon out of range, the limit of carbon being that of the fuel's kind, or a
  -- low heat of a fuel that isn't natural gas; of analysed gas, its molecular weight too, a fuel that isn't a
  -- gas, or one that tells no molar volume;
  fuel_outside : (f : List ℕ) → FuelRecord l → Listed (fuel_number l) fuels f → fuel_ranges l f ≡ false
      → Applies before l units fuels OutOfRange
  -- hour, moisture or reading out of range;
  hour_outside : MonitorHour l → hour_range l ≡ false → Applies before l units fuels OutOfRange
  reading_outside : (x : Float) → MonitorHour l → hour_of (percent_bits l) (flow_bits l) ≡ Unusable x
      → Applies before l units fuels OutOfRange
  -- month, metal, use or impurities out of range.
  anodes_outside : Anodes l → anodes_ranges l ≡ false → Applies before l units fuels OutOfRange
  -- 5: hour for a unit without monitor.
  no_monitor : (u : List ℕ) → MonitorHour l → Listed (unit_number l) units u → monitored u ≡ false
      → Applies before l units fuels NoMonitor
  -- 6: no permitted method.
  no_method : (u f : List ℕ) → FuelRecord l → Listed (unit_number l) units u → Listed (fuel_number l) fuels f
      → method_of l u f ≡ 0 → Applies before l units fuels NoMethod
  -- 7: no heat in use.
  no_heat : (f : List ℕ) → FuelRecord l → Listed (fuel_number l) fuels f → (heat_in_use l f).0 ≡ 0
      → Applies before l units fuels NoHeat
  -- 8: hour whose unit and number, or anodes whose unit and month, stand in an earlier record of the same
  -- kind, whatever became of that one.
  sent_before : (e : List ℕ) → repeatable l ≡ true → Memᴰ e before → kind e ≡ kind l
      → unit_number e ≡ unit_number l → period e ≡ period l → Applies before l units fuels Repeated

pub record Reasons (before : List (List ℕ)) (l : List ℕ) (units fuels : List (List ℕ)) (o : Outcome) : Type 0 where
  -- It is set aside with reason k exactly when k applies and none before it does.
  pub set_aside : (k : Reason) → (o ≡ Err k)
      ↔ (Applies before l units fuels k × ((j : Reason) → reason_number j < reason_number k → Applies before l units fuels j → ⊥))
  -- It counts exactly when none applies.
  pub counts : ((e : Entry) × (o ≡ Ok e)) ↔ ((k : Reason) → Applies before l units fuels k → ⊥)
  -- A fuel record that counts gives what it is worth by the listed lines of its unit and its fuel,
  pub gives_fuel : (e : Entry) (u f : List ℕ) → o ≡ Ok e → FuelRecord l → Listed (unit_number l) units u
      → Listed (fuel_number l) fuels f → e ≡ fuel_entry l u f
  -- an hour what its readings are worth with its moisture,
  pub gives_hour : (e : Entry) (r : Readings) → o ≡ Ok e → MonitorHour l
      → hour_of (percent_bits l) (flow_bits l) ≡ Usable r → e ≡ hour_entry l r
  -- and anodes what their numbers are worth.
  pub gives_anodes : (e : Entry) → o ≡ Ok e → Anodes l → e ≡ anodes_entry l
