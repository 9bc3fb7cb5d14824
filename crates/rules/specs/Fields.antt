-- The fields of a book's lines, each named once: no offset stands in a rule. RULES, "The book" and
-- "Records"; docs/FORMAT.md has the same by offset.
--
--     trailer t         signed, version, unit_start, fuel_start, year, warming_set, which stands at warming_set_at;
--                       trailer_gap, year_gap, trailer_blank
--     unit line u       number, unit_flags, monitored, dry, rating; unit_gap, unit_blank
--     fuel line f       number, fuel_kind, fuel_class, default_heat, co2_factor, ch4_factor, n2o_factor, molar_volume;
--                       fuel_blank
--     record l          kind, flags, unit_number, fuel_number, period
--     fuel record l     fuelled, analysed, heat_measured, carbon_flagged, carbon_measured, heat_low, month, amount,
--                       heat, carbon; fuel_record_blank
--     analysed gas l    molecular_weight; gas_blank
--     monitor hour l    hour, percent_bits, flow_bits, moisture; hour_blank
--     anodes l          month, metal, anode_use, sulphur, ash, other_impurities; anodes_blank
--
-- A gap or a blank is made of the bytes that no field names, and says that they are 0.
-- Definitions only.
use Rattle.std.specs.Prelude.{ℕ, ◌/◌, ◌%◌, Bool, List, ◌==◌, nat_eq}
use Rattle.choice.specs.Tests.{◌either◌}
use Rattle.rules.specs.Bytes.{byte, word, zeros}

-- ---- a trailer t
-- `STCB`, as a number.
abbrev pub signed : List ℕ → Bool
signed t = word t 0 4 == 0x42435453

abbrev pub version : List ℕ → ℕ
version t = word t 4 2

abbrev pub trailer_gap : List ℕ → Bool
trailer_gap t = zeros t 6 2

abbrev pub unit_start : List ℕ → ℕ
unit_start t = word t 8 4

abbrev pub fuel_start : List ℕ → ℕ
fuel_start t = word t 12 4

abbrev pub year : List ℕ → ℕ
year t = word t 16 2

abbrev pub year_gap : List ℕ → Bool
year_gap t = zeros t 18 2

abbrev pub warming_set_at : ℕ
warming_set_at = 20

abbrev pub warming_set : List ℕ → ℕ
warming_set t = byte t warming_set_at

abbrev pub trailer_blank : List ℕ → Bool
trailer_blank t = zeros t 21 11

-- ---- a unit line or a fuel line
abbrev pub number : List ℕ → ℕ
number l = word l 0 2

-- ---- a unit line u
abbrev pub unit_flags : List ℕ → ℕ
unit_flags u = byte u 2

abbrev pub monitored : List ℕ → Bool
monitored u = unit_flags u % 2 == 1

-- The monitor measures dry gas.
abbrev pub dry : List ℕ → Bool
dry u = unit_flags u / 2 % 2 == 1

abbrev pub unit_gap : List ℕ → Bool
unit_gap u = zeros u 3 1

abbrev pub rating : List ℕ → ℕ
rating u = word u 4 4

abbrev pub unit_blank : List ℕ → Bool
unit_blank u = zeros u 8 24

-- ---- a fuel line f
abbrev pub fuel_kind : List ℕ → ℕ
fuel_kind f = byte f 2

abbrev pub fuel_class : List ℕ → ℕ
fuel_class f = byte f 3

abbrev pub default_heat : List ℕ → ℕ
default_heat f = word f 4 4

abbrev pub co2_factor : List ℕ → ℕ
co2_factor f = word f 8 4

abbrev pub ch4_factor : List ℕ → ℕ
ch4_factor f = word f 12 4

abbrev pub n2o_factor : List ℕ → ℕ
n2o_factor f = word f 16 4

-- It is in litres for each kmol, and 0 where none is told.
abbrev pub molar_volume : List ℕ → ℕ
molar_volume f = word f 20 4

abbrev pub fuel_blank : List ℕ → Bool
fuel_blank f = zeros f 24 8

-- ---- a record l
abbrev pub kind : List ℕ → ℕ
kind l = byte l 0

abbrev pub flags : List ℕ → ℕ
flags l = byte l 1

abbrev pub unit_number : List ℕ → ℕ
unit_number l = word l 2 2

abbrev pub fuel_number : List ℕ → ℕ
fuel_number l = word l 4 2

-- Its month or, of a monitor hour, its hour of the year.
abbrev pub period : List ℕ → ℕ
period l = word l 6 2

-- ---- a fuel record l; the month is that of anodes too
-- Its kind is 1 or, of gas analysed by molecular weight, 3.
abbrev pub analysed : List ℕ → Bool
analysed l = kind l == 3

abbrev pub fuelled : List ℕ → Bool
fuelled l = nat_eq (kind l) 1 either analysed l

abbrev pub heat_measured : List ℕ → Bool
heat_measured l = flags l % 2 == 1

abbrev pub carbon_flagged : List ℕ → Bool
carbon_flagged l = flags l / 2 % 2 == 1

-- An analysis measures the carbon.
abbrev pub carbon_measured : List ℕ → Bool
carbon_measured l = analysed l either carbon_flagged l

-- The heat is a low value.
abbrev pub heat_low : List ℕ → Bool
heat_low l = flags l / 4 % 2 == 1

abbrev pub month : List ℕ → ℕ
month l = period l

abbrev pub amount : List ℕ → ℕ
amount l = word l 8 4

abbrev pub heat : List ℕ → ℕ
heat l = word l 12 4

-- It is in mg for each unit of fuel or, of analysed gas, for each kg.
abbrev pub carbon : List ℕ → ℕ
carbon l = word l 16 4

abbrev pub fuel_record_blank : List ℕ → Bool
fuel_record_blank l = zeros l 20 12

-- ---- analysed gas l
-- It is in g for each kmol.
abbrev pub molecular_weight : List ℕ → ℕ
molecular_weight l = word l 20 4

abbrev pub gas_blank : List ℕ → Bool
gas_blank l = zeros l 24 8

-- ---- a monitor hour l, its readings by their bit patterns
abbrev pub hour : List ℕ → ℕ
hour l = period l

abbrev pub percent_bits : List ℕ → ℕ
percent_bits l = word l 8 4

abbrev pub flow_bits : List ℕ → ℕ
flow_bits l = word l 12 4

-- It is in tenths of a percent of the stack gas.
abbrev pub moisture : List ℕ → ℕ
moisture l = word l 16 2

abbrev pub hour_blank : List ℕ → Bool
hour_blank l = zeros l 18 14

-- ---- anodes l
-- It is in kg.
abbrev pub metal : List ℕ → ℕ
metal l = word l 8 4

-- It is in g for each kg of metal.
abbrev pub anode_use : List ℕ → ℕ
anode_use l = word l 12 4

-- They are in hundredths of a percent of the anodes.
abbrev pub sulphur : List ℕ → ℕ
sulphur l = word l 16 2

abbrev pub ash : List ℕ → ℕ
ash l = word l 18 2

abbrev pub other_impurities : List ℕ → ℕ
other_impurities l = word l 20 2

abbrev pub anodes_blank : List ℕ → Bool
anodes_blank l = zeros l 22 10
