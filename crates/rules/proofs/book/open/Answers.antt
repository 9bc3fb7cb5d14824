-- The code makes the definition's tests in its order, and what a test lets through is what the next one reads.
use Rattle.std.proofs.Common.{ℕ, ◌-◌, List, length, sym, ap, ◌∙◌, arith}
use Rattle.choice.proofs.TestsLaws.{is}
use Rattle.rules.specs.Fields.{unit_start, fuel_start, year, warming_set}
use Rattle.rules.specs.Book.{trailer_ok}
use Rattle.rules.proofs.BookLaws.{length_ok→right, trailer-line, Headed, headed_starts, opened-length, opened-trailer, opened-units, opened_fuels, opened-sound}
use Rattle.rules.proofs.book.open.Goals as goal
use Rattle.rules.proofs.book.open.Goals.{After-fuel_start-fuels}

-- The starts are those of a right trailer, which is the last line.
headed : (c : After-fuel_start-fuels) → Headed c.args.s.now c.unit_start-units.result c.fuel_start-fuels.result
headed c =
    let whole = is c.is_length_right.ensures.length c.if-not-is_length_right.false in
    let last = c.take_line-t.ensures.line ∙ trailer-line _ whole in
    let passed = is c.is_trailer_right.ensures.trailer c.if-not-is_trailer_right.false in
    record {
      length_right = whole;
      trailer_right = ap (λ (t : List ℕ). trailer_ok t (length c.args.s.now - 32)) (sym last) ∙ passed;
      units_is = c.unit_start-units.ensures.field ∙ ap unit_start last;
      fuels_is = c.fuel_start-fuels.ensures.field ∙ ap fuel_start last;
    }

pub returns-then-not-is_length_right : goal.returns-then-not-is_length_right
returns-then-not-is_length_right c =
    record { answered = opened-length _ (is c.is_length_right.ensures.length c.if-not-is_length_right.true) }

pub overflow_sub-end : goal.overflow_sub-end
overflow_sub-end c = (length_ok→right _ (is c.is_length_right.ensures.length c.if-not-is_length_right.false)).least

pub take_line-t-requires : goal.take_line-t-requires
take_line-t-requires c =
    let right = length_ok→right _ (is c.is_length_right.ensures.length c.if-not-is_length_right.false) in
    record { there = omega (arith, right.least) }

pub returns-then-not-is_trailer_right : goal.returns-then-not-is_trailer_right
returns-then-not-is_trailer_right c =
    let whole = is c.is_length_right.ensures.length c.if-not-is_length_right.false in
    let last = c.take_line-t.ensures.line ∙ trailer-line _ whole in
    let failed = is c.is_trailer_right.ensures.trailer c.if-not-is_trailer_right.true in
    record {
      answered = opened-trailer _ whole (ap (λ (t : List ℕ). trailer_ok t (length c.args.s.now - 32)) (sym last) ∙ failed);
    }

pub slice_bounds-are_sound-count : goal.slice_bounds-are_sound-count
slice_bounds-are_sound-count c = (headed_starts (headed (goal.at.slice_bounds-are_sound-count c).After-fuel_start-fuels)).0

pub slice_bounds-are_sound-start : goal.slice_bounds-are_sound-start
slice_bounds-are_sound-start c = (headed_starts (headed (goal.at.slice_bounds-are_sound-start c).After-fuel_start-fuels)).0

pub slice_bounds-are_sound-end : goal.slice_bounds-are_sound-end
slice_bounds-are_sound-end c =
    omega (arith, headed_starts (headed (goal.at.slice_bounds-are_sound-end c).After-fuel_start-fuels))

pub returns-then-not-are_sound : goal.returns-then-not-are_sound
returns-then-not-are_sound c =
    let told = headed (goal.at.returns-then-not-are_sound c).After-fuel_start-fuels in
    record { answered = opened-units told (is c.are_sound.ensures.sound c.if-not-are_sound.true) }

pub slice_bounds-are_sound-count-2 : goal.slice_bounds-are_sound-count-2
slice_bounds-are_sound-count-2 c =
    (headed_starts (headed (goal.at.slice_bounds-are_sound-count-2 c).After-fuel_start-fuels)).1

pub slice_bounds-are_sound-start-2 : goal.slice_bounds-are_sound-start-2
slice_bounds-are_sound-start-2 c =
    (headed_starts (headed (goal.at.slice_bounds-are_sound-start-2 c).After-fuel_start-fuels)).1

pub returns-then-not-are_sound-2 : goal.returns-then-not-are_sound-2
returns-then-not-are_sound-2 c =
    let told = headed (goal.at.returns-then-not-are_sound-2 c).After-fuel_start-fuels in
    let units = is c.are_sound.ensures.sound c.if-not-are_sound.false in
    record { answered = opened_fuels told units (is c.are_sound-2.ensures.sound c.if-not-are_sound-2.true) }

pub returns : goal.returns
returns c =
    let told = headed (goal.at.returns c).After-fuel_start-fuels in
    let last = c.take_line-t.ensures.line ∙ trailer-line _ told.length_right in
    let units = is c.are_sound.ensures.sound c.if-not-are_sound.false in
    let fuels = is c.are_sound-2.ensures.sound c.if-not-are_sound-2.false in
    record {
      answered = opened-sound told units _ _ fuels (c.year-year.ensures.field ∙ ap year last)
          (c.warming_set-warming.ensures.field ∙ ap warming_set last);
    }
