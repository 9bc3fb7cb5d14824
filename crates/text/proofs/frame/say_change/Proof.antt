-- Zeros, and whether the figures were changed behind them. Assumes nothing.
use Prim.Native.Nat.{ℕ}
use mathlib.Core.Path.{ap, ◌∙◌}
use borrow.Author.Rules.{rules}
use Rattle.rules.specs.Bytes.{bytes_of}
use Rattle.text.specs.Extended.{extended}
use Rattle.text.specs.Frame.{change_part}
use Rattle.text.proofs.PageLaws.{extended_more}
use Rattle.text.proofs.frame.say_change.Statement.{statement}
use Rattle.text.proofs.frame.say_change.Tie as tie

say-bytes-requires : tie.Need-say_bytes-p-requires
say-bytes-requires c κs = search rules

tell-change-requires : tie.Need-tell_change-requires
tell-change-requires c κs = search rules

say-bytes-requires-2 : tie.Need-say_bytes-requires
say-bytes-requires-2 c κs = search rules

returns : tie.Need-returns
unfolding change_part
returns c =
    let told = c in
    let change = ap (λ (v : ℕ). extended told.say_bytes-p.result (bytes_of 1 v)) told.tell_change.ensures in
    extended_more _ _ _ told.say_bytes-p.ensures (c.say_bytes.ensures ∙ change)

pub say_change_spec : {M : Type 1} → statement M
say_change_spec =
    tie.close (tie.spec say-bytes-requires tell-change-requires say-bytes-requires-2 returns)
