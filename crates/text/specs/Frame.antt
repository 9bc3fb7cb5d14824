-- Frames of `replay`: the 24 bytes that head a call, the 64 that answer it, and what is told of a frame at which
-- the answers end. FORMAT, "Frames".
--
--     head_size                     24
--     most_behind                   the most bytes behind a head: book, checkpoint and buffer together
--     call_in head .. out_in head   the fields of a head: call, argument, and the three lengths
--     gap_in head, blank_in head    the bytes that no field names are 0
--     argument_ok k x               x is right beside call k: any budget (2), any index (4), else 0
--     head_ok head                  24 bytes that break no rule of a head
--     call_of n                     the call of the number n
--     frame_in head                 what they say
--     asked_in head                 the call that any bytes ask for; what is no right head asks for none
--     call_answer w                 answers a fresh start or a wake that gave the reply word w
--     number_of w                   the number in a reply word: 0 if the call was accepted
--     figure fs i                   figure i of the six that a report fills: five in kg, then the decision
--     same xs ys                    xs and ys are equal
--     figures_part fs               the figures of a report that is given
--     change_part before after      no figures, and a 1 if a refusal changed them
--     report_part n before after    the one or the other, by the number n
--     report_answer w before after  answers a report that gave w and left `after` in place of `before`
--     ledger_number d               1 fossil, 2 biomass, 0 none
--     uncounted n k m               number n, reason k and method m, with no ledger and no masses
--     told_of x                     what is told of what was seen of a record
--     told_bytes t                  the same as bytes
--     record_answer x               answers a look at a record that saw x
--     breach_text x                 what is wrong with a frame
--     broken_text i x               the line on frame i, counted from 0, at which the answers end
--
-- Laws: proofs/FrameLaws.antt. Definitions only.
use Rattle.std.specs.Prelude.{ℕ, ◌+◌, ◌%◌, Bool, true, false, List, [], ◌∷◌, ◌++◌, nat_le, nat_eq, length, slice_index, Option, Some, None, Ok, Err}
use Rattle.choice.specs.Tests.{choose, ◌also◌, ◌either◌}
use Rattle.rules.specs.declared.entry.Destination.{Destination}
use Rattle.rules.specs.declared.entry.Destination.TheVariants.{Fossil, Biomass, Nowhere}
use Rattle.rules.specs.Bytes.{word, zeros, bytes_of}
use Rattle.rules.specs.Reader.{Sight, turned_away, missing, shown}
use Rattle.text.specs.declared.frame.Frame.{Frame}
use Rattle.text.specs.declared.frame.Call.{Call}
use Rattle.text.specs.declared.frame.Call.TheVariants as call
use Rattle.text.specs.declared.frame.Told.{Told}
use Rattle.text.specs.declared.frame.Broken.{Broken}
use Rattle.text.specs.declared.frame.Broken.TheVariants.{Head, Cut}
use Rattle.text.specs.Words.{ascii, field}

-- ---- the head of a call
abbrev pub head_size : ℕ
head_size = 24

abbrev pub most_behind : ℕ
most_behind = 5242880

-- 1 fresh start, 2 wake, 3 report, 4 one record.
abbrev pub call_in : List ℕ → ℕ
call_in head = word head 0 1

abbrev pub gap_in : List ℕ → Bool
gap_in head = zeros head 1 3

abbrev pub argument_in : List ℕ → ℕ
argument_in head = word head 4 4

abbrev pub book_in : List ℕ → ℕ
book_in head = word head 8 4

abbrev pub checkpoint_in : List ℕ → ℕ
checkpoint_in head = word head 12 4

abbrev pub out_in : List ℕ → ℕ
out_in head = word head 16 4

abbrev pub blank_in : List ℕ → Bool
blank_in head = zeros head 20 4

unfoldable pub argument_ok : ℕ → ℕ → Bool
argument_ok k x = nat_eq k 2 either nat_eq k 4 either nat_eq x 0

unfoldable pub head_ok : List ℕ → Bool
head_ok head =
    nat_le 1 (call_in head)
    also nat_le (call_in head) 4
    also gap_in head
    also argument_ok (call_in head) (argument_in head)
    also nat_le (book_in head + checkpoint_in head + out_in head) most_behind
    also blank_in head

-- A right head has one of the four.
unfoldable pub call_of : ℕ → Call
call_of n = choose (nat_eq n 1) call.Fresh (choose (nat_eq n 2) call.Wake (choose (nat_eq n 3) call.Report call.Record))

unfoldable pub frame_in : List ℕ → Frame
frame_in head = record {
  call = call_of (call_in head);
  argument = argument_in head;
  book = book_in head;
  checkpoint = checkpoint_in head;
  out = out_in head;
}

unfoldable pub asked_in : List ℕ → Option Frame
asked_in head = choose (nat_eq (length head) head_size also head_ok head) (Some (frame_in head)) None

-- ---- the answer to a fresh start or a wake
unfoldable pub call_answer : ℕ → List ℕ
call_answer w = bytes_of 8 w ++ bytes_of 56 0

-- ---- the answer to a report
abbrev pub number_of : ℕ → ℕ
number_of w = w % 256

abbrev pub figure : List ℕ → ℕ → ℕ
figure fs i = slice_index fs i

unfoldable pub same : List ℕ → List ℕ → Bool
same [] [] = true
same [] (y ∷ ys) = false
same (x ∷ xs) [] = false
same (x ∷ xs) (y ∷ ys) = nat_eq x y also same xs ys

unfoldable pub figures_part : List ℕ → List ℕ
figures_part fs =
    bytes_of 8 (figure fs 0)
    ++ bytes_of 8 (figure fs 1)
    ++ bytes_of 8 (figure fs 2)
    ++ bytes_of 8 (figure fs 3)
    ++ bytes_of 8 (figure fs 4)
    ++ bytes_of 1 (figure fs 5)
    ++ bytes_of 1 0

unfoldable pub change_part : List ℕ → List ℕ → List ℕ
change_part before after = bytes_of 41 0 ++ bytes_of 1 (choose (same before after) 0 1)

unfoldable pub report_part : ℕ → List ℕ → List ℕ → List ℕ
report_part n before after = choose (nat_eq n 0) (figures_part after) (change_part before after)

unfoldable pub report_answer : ℕ → List ℕ → List ℕ → List ℕ
report_answer w before after = bytes_of 8 w ++ report_part (number_of w) before after ++ bytes_of 14 0

-- ---- the answer to a look at a record
abbrev pub ledger_number : Destination → ℕ
ledger_number Fossil = 1
ledger_number Biomass = 2
ledger_number Nowhere = 0

unfoldable pub uncounted : ℕ → ℕ → ℕ → Told
uncounted number reason method = record {
  number = number;
  reason = reason;
  method = method;
  ledger = 0;
  co2 = record { 0 = 0 };
  ch4 = record { 0 = 0 };
  n2o = record { 0 = 0 };
}

-- The method 255 is that of no record.
unfoldable pub told_of : Sight → Told
told_of (turned_away n) = uncounted n 0 0
told_of missing = uncounted 0 0 255
told_of (shown (Err k)) = uncounted 0 k 0
told_of (shown (Ok e)) = record {
  number = 0;
  reason = 0;
  method = e.method;
  ledger = ledger_number e.destination;
  co2 = e.co2;
  ch4 = e.ch4;
  n2o = e.n2o;
}

unfoldable pub told_bytes : Told → List ℕ
told_bytes t =
    bytes_of 1 t.number
    ++ bytes_of 1 t.reason
    ++ bytes_of 1 t.method
    ++ bytes_of 1 t.ledger
    ++ bytes_of 4 0
    ++ bytes_of 8 t.co2.0
    ++ bytes_of 8 t.ch4.0
    ++ bytes_of 8 t.n2o.0
    ++ bytes_of 32 0

unfoldable pub record_answer : Sight → List ℕ
record_answer x = told_bytes (told_of x)

-- ---- the frame at which the answers end
abbrev pub breach_text : Broken → List ℕ
breach_text Head = ascii " has a head that breaks the rules\n"
breach_text Cut = ascii " is cut short\n"

unfoldable pub broken_text : ℕ → Broken → List ℕ
broken_text i x = field (ascii "frame ") i ++ breach_text x
