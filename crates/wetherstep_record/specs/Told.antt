-- What a C caller reads of a record, from a word and, where the record counts, from its masses. No
-- contract cites these: they say that a caller loses nothing.
--
--     told_method w, told_ledger w      two more fields of a word
--     told_counts w           the word tells that the record counts
--     destination_told d      the ledger with the number d
--     entry_told w ms         the entry that the word and the masses of such a record tell
--     record_told w ms        what the word tells of the record, ms being the masses after it
--
-- Laws: proofs/ToldLaws.antt. Definitions only.
use Rattle.std.specs.Prelude.{ℕ, ◌/◌, ◌%◌, Bool, List, nat_eq, nat_lt, slice_index, Ok, Err}
use Rattle.choice.specs.Tests.{◌also◌, choose}
use Rattle.rules.specs.declared.entry.Destination.{Destination}
use Rattle.rules.specs.declared.entry.Destination.TheVariants.{Fossil, Biomass, Nowhere}
use Rattle.rules.specs.declared.entry.Entry.{Entry}
use Rattle.rules.specs.Reader.{Sight, turned_away, missing, shown}
use Rattle.wetherstep.specs.Told.{told_number, told_reason}
use Rattle.wetherstep_record.specs.Face.{no_record}

unfoldable pub told_method : ℕ → ℕ
told_method w = w / 65536 % 256

unfoldable pub told_ledger : ℕ → ℕ
told_ledger w = w / 16777216 % 256

unfoldable pub told_counts : ℕ → Bool
told_counts w = nat_eq (told_number w) 0 also nat_eq (told_reason w) 0 also nat_lt (told_method w) no_record

unfoldable pub destination_told : ℕ → Destination
destination_told d = choose (nat_eq d 1) Fossil (choose (nat_eq d 2) Biomass Nowhere)

unfoldable pub entry_told : ℕ → List ℕ → Entry
entry_told w ms = record {
  method = told_method w;
  destination = destination_told (told_ledger w);
  co2 = record { 0 = slice_index ms 0 };
  ch4 = record { 0 = slice_index ms 1 };
  n2o = record { 0 = slice_index ms 2 };
}

unfoldable pub record_told : ℕ → List ℕ → Sight
record_told w ms =
    choose (told_counts w) (shown (Ok (entry_told w ms)))
    (choose (nat_lt 0 (told_number w)) (turned_away (told_number w))
    (choose (nat_lt 0 (told_reason w)) (shown (Err (told_reason w)))
    missing))
