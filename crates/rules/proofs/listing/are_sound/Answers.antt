use Rattle.std.proofs.Common.{◌≡◌, ◌/◌, ◌≤◌, length, sym, refl, ◌∙◌, arith, rules}
use Rattle.choice.proofs.TestsLaws.{is}
use Rattle.rules.specs.Book.{lines_sound}
use Rattle.rules.specs.Listing.{line_ok}
use Rattle.rules.proofs.LinesLaws.{lines_sound_many, lines_sound-few, lines_ok_end, Scanned, scanned_low, scanned_bad, scanned_next}
use Rattle.rules.proofs.ListingLaws.{line_ok_bad, line_ok-blank, blank_from-le}
use Rattle.rules.proofs.listing.are_sound.Goals as goal
use Rattle.rules.proofs.listing.are_sound.Goals.{After-number-number, After-are_zero}

-- A line and its number were read, as the scan goes on or ends.
scanned : (c : After-number-number)
    → let scan = c.lines in
    let s = c.args.s.now in
    let ok = line_ok c.args.sort in
    Scanned ok s (length s / 32) scan.i scan.before c.take_line-l.result.now c.number-number.result (lines_sound ok s)
scanned c = record {
  left = c.lines.invariant.left;
  line_is = c.take_line-l.ensures.line;
  number_is = c.number-number.ensures.field;
  there = c.lines-test.true;
}

-- Its named bytes are right, and its blank was read.
judged : (c : After-are_zero) → c.are_zero.result ≡ line_ok c.args.sort c.take_line-l.result.now
judged c =
    let right = is c.is_head_right.ensures.head c.if-not-is_head_right.false in
    c.are_zero.ensures.zeros ∙ sym (line_ok-blank c.args.sort _ right c.blank_from.ensures.byte)

pub are_zero-requires : goal.are_zero-requires
are_zero-requires c =
    let few = blank_from-le c.args.sort in
    let from : c.blank_from.result ≤ 32 = omega (arith, c.blank_from.ensures.byte) in
    record { within = (from, search rules) }

pub returns-then-n-gt-MOST_LINES : goal.returns-then-n-gt-MOST_LINES
returns-then-n-gt-MOST_LINES c = record { sound = sym (lines_sound_many _ _ c.if-n-gt-MOST_LINES.true) }

pub lines-init : goal.lines-init
lines-init c = record { ok = refl; left = lines_sound-few _ _ c.if-n-gt-MOST_LINES.false }

pub lines-preserved : goal.lines-preserved
lines-preserved c =
    let right = is (judged (goal.at.lines-preserved c).After-are_zero) c.if-not-are_zero.false in
    record {
      ok = c.lines.invariant.ok;
      left = scanned_next (scanned (goal.at.lines-preserved c).After-number-number) c.if-number-before.false right;
    }

pub returns-after-lines : goal.returns-after-lines
returns-after-lines c =
    let inv = c.lines.invariant in
    record { sound = inv.ok ∙ sym (inv.left ∙ lines_ok_end _ _ _ _ _ c.lines-test.false) }

pub returns-then-number-before : goal.returns-then-number-before
returns-then-number-before c =
    let read = scanned (goal.at.returns-then-number-before c).After-number-number in
    record { sound = sym (scanned_low read c.if-number-before.true) }

pub returns-then-not-is_head_right : goal.returns-then-not-is_head_right
returns-then-not-is_head_right c =
    let wrong = is c.is_head_right.ensures.head c.if-not-is_head_right.true in
    let read = scanned (goal.at.returns-then-not-is_head_right c).After-number-number in
    record { sound = sym (scanned_bad read c.if-number-before.false (line_ok_bad c.args.sort _ wrong)) }

pub returns-then-not-are_zero : goal.returns-then-not-are_zero
returns-then-not-are_zero c =
    let read = scanned (goal.at.returns-then-not-are_zero c).After-number-number in
    let wrong = is (judged (goal.at.returns-then-not-are_zero c).After-are_zero) c.if-not-are_zero.true in
    record { sound = sym (scanned_bad read c.if-number-before.false wrong) }
