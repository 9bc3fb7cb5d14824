-- The figures stand one behind the other. Assumes nothing.
use borrow.Author.Rules.{rules}
use Rattle.text.specs.Frame.{figures_part}
use Rattle.text.proofs.PageLaws.{extended_more}
use Rattle.text.proofs.frame.say_figures.Statement.{statement}
use Rattle.text.proofs.frame.say_figures.Tie as tie

array-read-say-bytes : tie.Need-bounds-figures-0
array-read-say-bytes c = search rules

say-bytes-requires : tie.Need-say_bytes-p-requires
say-bytes-requires c κs = search rules

array-read-say-bytes-2 : tie.Need-bounds-figures-1
array-read-say-bytes-2 c = search rules

say-bytes-requires-2 : tie.Need-say_bytes-p-requires-2
say-bytes-requires-2 c κs = search rules

array-read-say-bytes-3 : tie.Need-bounds-figures-2
array-read-say-bytes-3 c = search rules

say-bytes-requires-3 : tie.Need-say_bytes-p-requires-3
say-bytes-requires-3 c κs = search rules

array-read-say-bytes-4 : tie.Need-bounds-figures-3
array-read-say-bytes-4 c = search rules

say-bytes-requires-4 : tie.Need-say_bytes-p-requires-4
say-bytes-requires-4 c κs = search rules

array-read-say-bytes-5 : tie.Need-bounds-figures-4
array-read-say-bytes-5 c = search rules

say-bytes-requires-5 : tie.Need-say_bytes-p-requires-5
say-bytes-requires-5 c κs = search rules

array-read-say-bytes-6 : tie.Need-bounds-figures-5
array-read-say-bytes-6 c = search rules

say-bytes-requires-6 : tie.Need-say_bytes-p-requires-6
say-bytes-requires-6 c κs = search rules

say-bytes-requires-7 : tie.Need-say_bytes-requires
say-bytes-requires-7 c κs = search rules

returns : tie.Need-returns
unfolding figures_part
returns c =
    let decision = c in
    let co2e = decision in
    let n2o = co2e in
    let ch4 = n2o in
    let biomass = ch4 in
    let co2 = extended_more _ _ _ biomass.say_bytes-p.ensures biomass.say_bytes-p-2.ensures in
    let gases = extended_more _ _ _ (extended_more _ _ _ co2 ch4.say_bytes-p-3.ensures) n2o.say_bytes-p-4.ensures in
    let all = extended_more _ _ _ gases co2e.say_bytes-p-5.ensures in
    extended_more _ _ _ (extended_more _ _ _ all decision.say_bytes-p-6.ensures) c.say_bytes.ensures

pub say_figures_spec : {M : Type 1} → statement M
say_figures_spec =
    tie.close
    (tie.spec
    array-read-say-bytes
    say-bytes-requires
    array-read-say-bytes-2
    say-bytes-requires-2
    array-read-say-bytes-3
    say-bytes-requires-3
    array-read-say-bytes-4
    say-bytes-requires-4
    array-read-say-bytes-5
    say-bytes-requires-5
    array-read-say-bytes-6
    say-bytes-requires-6
    say-bytes-requires-7
    returns)
