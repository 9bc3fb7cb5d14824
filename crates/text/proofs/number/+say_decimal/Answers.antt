-- A number's digits are those of its tenth and one more. Assumes nothing.
use Rattle.std.proofs.Common.{◌+◌, ◌/◌, ◌%◌, sym, ap, ◌∙◌}
use Rattle.text.specs.Extended.{extended}
use Rattle.text.specs.Words.{decimal}
use Rattle.text.proofs.PageLaws.{extended_one, extended_last}
use Rattle.text.proofs.WordsLaws.{decimal-few, decimal_many}
use Rattle.text.proofs.number.+say_decimal.Goals as goal

pub returns-then-n-lt10 : goal.returns-then-n-lt10
returns-then-n-lt10 t c =
    let a = c.args in
    record {
      said = extended_one a.p (48 + a.n) c.say_byte.ensures.said ∙ ap (extended a.p) (sym (decimal-few a.n c.if-n-lt10.true));
    }

pub returns : goal.returns
returns t c =
    let a = c.args in
    record {
      said = extended_last a.p (decimal (a.n / 10)) (48 + a.n % 10) c.say_decimal-front.ensures.said c.say_byte-2.ensures.said
          ∙ ap (extended a.p) (sym (decimal_many a.n c.if-n-lt10.false c.ranges.n.fits));
    }
