-- What `lines` prints: a line for each record, or the one line of a refused book. RULES, "Programs".
--
--     method_text k m   the method m of a record of kind k
--     ledger_text d     the ledger that its CO2 goes to
--     masses_text e     its masses
--     outcome_text k o  what became of a record of kind k
--     line_text i k x   what is printed of what was seen at index i, of a record of kind k
--
-- Laws: proofs/LinesLaws.antt. Definitions only.
use Rattle.std.specs.Prelude.{ℕ, List, [], ◌++◌, nat_eq, Ok, Err}
use Rattle.choice.specs.Tests.{choose}
use Rattle.rules.specs.declared.entry.Destination.{Destination}
use Rattle.rules.specs.declared.entry.Destination.TheVariants.{Fossil, Biomass, Nowhere}
use Rattle.rules.specs.declared.entry.Entry.{Entry}
use Rattle.rules.specs.Reader.{Shown, Sight, turned_away, missing, shown}
use Rattle.text.specs.Words.{ascii, newline, field}
use Rattle.text.specs.Report.{refused_text}

-- Records of no fuel have none, and are told by their kind.
unfoldable pub method_text : ℕ → ℕ → List ℕ
method_text k m =
    choose (nat_eq m 0) (choose (nat_eq k 4) (ascii " anodes") (ascii " hour"))
    (field (ascii " method ") m)

abbrev pub ledger_text : Destination → List ℕ
ledger_text Fossil = ascii " fossil"
ledger_text Biomass = ascii " biomass"
ledger_text Nowhere = ascii " none"

unfoldable pub masses_text : Entry → List ℕ
masses_text e =
    field (ascii " co2-ug ") e.co2.0
    ++ field (ascii " ch4-ng ") e.ch4.0
    ++ field (ascii " n2o-ng ") e.n2o.0

unfoldable pub outcome_text : ℕ → Shown → List ℕ
outcome_text k (Err r) = field (ascii " reason ") r
outcome_text k (Ok e) = method_text k e.method ++ ledger_text e.destination ++ masses_text e

unfoldable pub line_text : ℕ → ℕ → Sight → List ℕ
line_text i k (turned_away n) = refused_text n []
line_text i k missing = []
line_text i k (shown o) = field (ascii "record ") i ++ outcome_text k o ++ newline
