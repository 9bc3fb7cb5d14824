-- What a C caller gets of a record: one word, and a buffer for masses. include/wetherstep.h has them in
-- words.
--
--     no_record               the method told where a book has no such record
--     ledger_number d         1 fossil, 2 biomass, 0 none
--     record_word x           the word of what was seen of a record
--     masses_of e             the masses of a record that counts: CO2 in µg, CH4 and N2O in ng
--     masses_after x ms       the buffer for masses after x was seen, which held ms before
--
-- Laws: proofs/FaceLaws.antt. Definitions only.
use Rattle.std.specs.Prelude.{ℕ, List, [], ◌∷◌, Ok, Err}
use Rattle.rules.specs.declared.entry.Destination.{Destination}
use Rattle.rules.specs.declared.entry.Destination.TheVariants.{Fossil, Biomass, Nowhere}
use Rattle.rules.specs.declared.entry.Entry.{Entry}
use Rattle.rules.specs.Reader.{Sight, turned_away, missing, shown}
use Rattle.wetherstep.specs.Face.{packed}

abbrev pub no_record : ℕ
no_record = 255

abbrev pub ledger_number : Destination → ℕ
ledger_number Fossil = 1
ledger_number Biomass = 2
ledger_number Nowhere = 0

-- An hour has no method, which is told as 0.
unfoldable pub record_word : Sight → ℕ
record_word (turned_away n) = packed n 0 0 0 0
record_word missing = packed 0 0 no_record 0 0
record_word (shown (Err k)) = packed 0 k 0 0 0
record_word (shown (Ok e)) = packed 0 0 e.method (ledger_number e.destination) 0

abbrev pub masses_of : Entry → List ℕ
masses_of e = e.co2.0 ∷ e.ch4.0 ∷ e.n2o.0 ∷ []

-- The masses of a record that counts are written, and nothing else is.
unfoldable pub masses_after : Sight → List ℕ → List ℕ
masses_after (turned_away n) ms = ms
masses_after missing ms = ms
masses_after (shown (Err k)) ms = ms
masses_after (shown (Ok e)) ms = masses_of e
