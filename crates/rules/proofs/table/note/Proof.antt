-- A record whose period has no bit, or whose unit isn't listed, leaves the table as it was; of any other its
-- bit is asked, then set. Assumes nothing.
use Rattle.std.proofs.Common.{◌≡◌, ℕ, ◌+◌, ◌*◌, ◌/◌, ◌<◌, true, length, sym, refl, ◌∙◌, subst, ap₂, rules}
use Rattle.choice.proofs.TestsLaws.{is}
use Rattle.rules.specs.Fields.{kind, period}
use Rattle.rules.specs.Table.{row_words, has_bit, bit_of}
use Rattle.rules.proofs.ListingLaws.{place_lt}
use Rattle.rules.proofs.RowLaws.{bit_of-lt, row_there}
use Rattle.rules.proofs.TableLaws.{roomy}
use Rattle.rules.proofs.NotedLaws.{noted-out, noted_nothing, noted_at}
use Rattle.rules.proofs.table.note.Statement.{statement}
use Rattle.rules.proofs.table.note.Tie as tie

abbrev entry : tie.After-has_bit → tie.Start
entry c = c.before.before.before.before.before

abbrev start : tie.Else-not-has_bit → tie.Start
start c = c.before.before.before.before.before.before

-- The test that the code makes is of the record's kind and period.
asked : (c : tie.After-has_bit) →
    let l = (entry c).args.l.now in
    c.has_bit.result ≡ has_bit (kind l) (period l)
asked c = c.has_bit.ensures ∙ ap₂ has_bit c.kind-kind.ensures c.period-period.ensures

has : (c : tie.Else-not-has_bit) →
    let l = (start c).args.l.now in
    has_bit (kind l) (period l) ≡ true
has c = is (asked c.before) c.if-not-has_bit.false

-- The bit that the code finds is the record's, and its word is in the table.
bit_is : (c : tie.After-find_bit-bit) →
    let l = (start c.before.before).args.l.now in
    c.find_bit-bit.result ≡ bit_of (kind l) (period l)
bit_is c =
    let read = c in
    c.find_bit-bit.ensures ∙ ap₂ bit_of read.kind-kind.ensures read.period-period.ensures

there : (c : tie.After-find_bit-bit) →
    let passed = c in
    row_words * c.in-Some.j + c.find_bit-bit.result / 64 < length (start passed.before.before).args.table.now
there c =
    let passed = c in
    let begun = start passed.before.before in
    row_there _ _ _ _ (roomy _ _ begun.requires.1).rows
    (place_lt _ _ begun.requires.0 c.in-Some.is)
    (subst (λ (b : ℕ). b < 8832) (sym (bit_is c)) (bit_of-lt _ _ (has passed.before.before)))

kind-requires : tie.Need-kind-kind-requires
kind-requires c κs = search rules

period-requires : tie.Need-period-period-requires
period-requires c κs = search rules

has-bit-requires : tie.Need-has_bit-requires
has-bit-requires c κs = search rules

returns : tie.Need-returns-then-not-has_bit
returns c =
    let out = noted-out _ _ _ (is (asked c.before) c.if-not-has_bit.true) in
    (out.was_noted_then, out.now_noted)

enum-known-unit : tie.Need-enum_known-unit
enum-known-unit c = search rules

enum_told : tie.Need-enum_told-1
enum_told c = search rules

returns-2 : tie.Need-returns-in_default
returns-2 c =
    let passed = c in
    let none = noted_nothing _ _ _ (has passed.before) (start passed.before).requires.0 refl c.in_default.is in
    (none.was_noted_then, none.now_noted)

find-bit-requires : tie.Need-find_bit-bit-requires
find-bit-requires c κs =
    let passed = c in
    is passed.has_bit.ensures passed.if-not-has_bit.false

is-marked-requires : tie.Need-is_marked-was-requires
is-marked-requires c κs = there c

mark-requires : tie.Need-mark-requires
mark-requires c κs = there c.before.before

same_length : tie.Need-shape_of-table
same_length c = search rules

returns-3 : tie.Need-returns
returns-3 c =
    let set = c in
    let asked_of = set in
    let bit = asked_of in
    let passed = bit in
    let now-set = noted_at _ _ _ (has passed.before.before.before.before.before.before.before) (start passed.before.before.before.before.before.before.before).requires.0 refl
    (bit_is bit.before.before.before.before.before) bit.in-Some.is asked_of.is_marked-was.ensures set.mark.ensures in
    (now-set.was_noted_then, now-set.now_noted)

pub note_spec : {M : Type 1} → statement M
note_spec =
    tie.close
    (tie.spec
    kind-requires
    period-requires
    has-bit-requires
    returns
    enum-known-unit
    enum_told
    returns-2
    find-bit-requires
    is-marked-requires
    mark-requires
    same_length
    returns-3)
