-- An index of unit lines and fuel lines: columns of what many records ask of them. This serves the code; RULES
-- and the definitions of a record don't need it.
--
--     no_number                       what a column has where there is no line; it is no line's number
--     column_of u                     which column of a fuel's flags counts in the unit u: that of allowed_flags or of large_flags
--     way_of u                        4 if the unit has a monitor, else 0
--     moist_below u                   what the moisture of its hours stays below; 0 without a monitor
--     allowed_flags f                 a bit for each of the flags 0 to 7 of a record: one of the fuel f has a heat in use with them
--     large_flags f                   and has a method too, in a large unit without a monitor
--     volume_of f                     the molar volume of a gas, 0 of other fuel
--     Column v s o n t                the 64 entries of t from place o on are v of the first n lines of s, each in its place
--     UnitsNoted s t, FuelsNoted s t  t is the index of the unit lines, or fuel lines, s
--     Small hints                     each of 1024 hints is below 64
--
-- Laws: proofs/IndexLaws.antt. Definitions only.
use Rattle.std.specs.Prelude.{◌≡◌, ℕ, ◌+◌, ◌/◌, ◌<◌, List, length, ◌==◌, bit_and, nat_eq, nat_lt, slice_index}
use Rattle.choice.specs.Tests.{◌either◌, choose}
use Rattle.rules.specs.Bytes.{line}
use Rattle.rules.specs.Fields.{number, monitored, dry, fuel_kind, fuel_class, default_heat, molar_volume}
use Rattle.rules.specs.Method.{small}
use Rattle.rules.specs.Record.{carbon_limit}

abbrev pub no_number : ℕ
no_number = 65536

unfoldable pub column_of : List ℕ → ℕ
column_of u = choose (monitored u) 128 (choose (small u) 128 64)

unfoldable pub way_of : List ℕ → ℕ
way_of u = choose (monitored u) 4 0

unfoldable pub moist_below : List ℕ → ℕ
moist_below u = choose (monitored u) (choose (dry u) 1001 1) 0

unfoldable pub allowed_flags : List ℕ → ℕ
allowed_flags f = 10 + choose (nat_lt 0 (default_heat f)) 5 0 + choose (fuel_class f == 1) 160 0

unfoldable pub large_flags : List ℕ → ℕ
large_flags f = bit_and (allowed_flags f) (choose (nat_eq (fuel_class f) 1 either nat_eq (fuel_class f) 2) 238 204)

unfoldable pub volume_of : List ℕ → ℕ
volume_of f = choose (fuel_kind f == 3) (molar_volume f) 0

pub record Column (v : List ℕ → ℕ) (s : List ℕ) (o n : ℕ) (t : List ℕ) : Type 0 where
  pub entry : (j : ℕ) → j < 64 → slice_index t (o + j) ≡ choose (nat_lt j n) (v (line j s)) no_number

pub record UnitsNoted (s t : List ℕ) : Type 0 where
  pub numbers : Column number s 0 (length s / 32) t
  pub columns : Column column_of s 64 (length s / 32) t
  pub ways : Column way_of s 128 (length s / 32) t
  pub moist : Column moist_below s 192 (length s / 32) t

pub record FuelsNoted (s t : List ℕ) : Type 0 where
  pub numbers : Column number s 0 (length s / 32) t
  pub large : Column large_flags s 64 (length s / 32) t
  pub allowed : Column allowed_flags s 128 (length s / 32) t
  pub carbon : Column carbon_limit s 192 (length s / 32) t
  pub volumes : Column volume_of s 256 (length s / 32) t

pub record Small (hints : List ℕ) : Type 0 where
  pub below : (x : ℕ) → x < 1024 → slice_index hints x < 64
