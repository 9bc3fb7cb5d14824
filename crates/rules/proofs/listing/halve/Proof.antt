-- What lies outside the lines that are left has another number. Assumes nothing.
use Rattle.std.proofs.Common.{◌≡◌, ℕ, ◌+◌, ◌-◌, ◌*◌, ◌/◌, ◌%◌, ◌<◌, ◌≤◌, length, refl, ap, ◌∙◌, subst, arith, rules}
use Rattle.choice.proofs.Splitting.{if_lt}
use Rattle.rules.specs.Bytes.{byte}
use Rattle.rules.specs.Fields.{number}
use Rattle.rules.specs.Listing.{number_at}
use Rattle.rules.proofs.IndexLaws.{number-line-lt}
use Rattle.rules.proofs.ListingLaws.{Between, between_start, between_none, place_none, place_mid, between_half}
use Rattle.rules.proofs.listing.halve.Statement.{statement}
use Rattle.rules.proofs.listing.halve.Tie as tie

abbrev invariant-loop : tie.invariant-loop-width
invariant-loop s x width₀ above low₀ width low =
    (1 ≤ width) × (low + width ≤ length s / 32) × Between s (x % 65536) low (low + width)

abbrev decreases-loop : tie.decreases-loop-width
decreases-loop s x width₀ above low₀ width low = width

bytes : (c : tie.After-shared_slice_known-1 invariant-loop decreases-loop) (i : ℕ) → byte c.args.s.now i < 256
bytes c i = omega (arith, c.shared_slice_known-1.given i)

-- The number that was read in the middle of the lines left.
abbrev turn : tie.After-number-number invariant-loop decreases-loop → tie.In-loop-width invariant-loop decreases-loop
turn c = c.before.before

abbrev start : tie.In-loop-width invariant-loop decreases-loop → tie.Start invariant-loop decreases-loop
start c = c.before.before.before.before

number_is : (c : tie.After-number-number invariant-loop decreases-loop) →
    let loop = (turn c).loop-width in
    c.number-number.result ≡ number_at (loop.low + loop.width / 2) (start (turn c)).args.s.now
number_is c = c.number-number.ensures ∙ ap number c.take_line.ensures

number_lt : (c : tie.After-number-number invariant-loop decreases-loop) → c.number-number.result < 65536
number_lt c =
    let loop = (turn c).loop-width in
    number-line-lt (start (turn c)).args.s.now (loop.low + loop.width / 2) (bytes (turn c).before.before.before)
    c.take_line.ensures c.number-number.ensures

mid-lt : (c : tie.In-loop-width invariant-loop decreases-loop) →
    let loop = c.loop-width in
    loop.low + loop.width / 2 < length (start c).args.s.now / 32
mid-lt c = omega arith

-- 1 where x isn't below the number, else 0.
upper_is : (x n : ℕ) → n < 65536
    → (x % 65536 < n → (65536 + x % 65536 - n) / 65536 ≡ 0) × (n ≤ x % 65536 → (65536 + x % 65536 - n) / 65536 ≡ 1)
upper_is x n l = (λ h. omega arith, λ h. omega arith)

halved : (c : tie.After-number-number invariant-loop decreases-loop) →
    let loop = (turn c).loop-width in
    let a = (start (turn c)).args in
    let half = loop.width / 2 in
    let low = loop.low + half * ((65536 + a.x % 65536 - c.number-number.result) / 65536) in
    (low + (loop.width - half) ≤ loop.low + loop.width)
    × Between a.s.now (a.x % 65536) low (low + (loop.width - half))
halved c =
    let loop = (turn c).loop-width in
    let a = (start (turn c)).args in
    let upper = upper_is a.x c.number-number.result (number_lt c) in
    between_half a.s.now (a.x % 65536) loop.low (loop.width / 2) loop.width c.number-number.result
    ((65536 + a.x % 65536 - c.number-number.result) / 65536) (start (turn c)).requires (mid-lt (turn c)) (number_is c)
    (omega arith) upper.0 upper.1 loop.invariant.2

returns : tie.Need-returns-then-width-eq0 invariant-loop decreases-loop
returns c = place_none _ _ (λ i l e. omega arith)

loop-holds : tie.Need-loop-width-init invariant-loop decreases-loop
loop-holds c = (search rules, search rules, between_start _ _)

sub-upper : tie.Need-overflow_sub-upper invariant-loop decreases-loop
sub-upper c = let few = number_lt c in omega arith

mul_low : tie.Need-overflow_mul-low invariant-loop decreases-loop
mul_low c = let next = halved c in let left = (turn c).loop-width.invariant.1 in omega arith

add_low : tie.Need-overflow_add-low-in-loop-width invariant-loop decreases-loop
add_low c = let next = halved c in let left = (turn c).loop-width.invariant.1 in omega arith

loop-again : tie.Need-loop-width-preserved invariant-loop decreases-loop
loop-again c = let next = halved c in let left = (turn c).loop-width.invariant.1 in (search rules, omega arith, next.1)

returns-2 : tie.Need-returns-then-number-x invariant-loop decreases-loop
returns-2 c =
    let read = c in
    let ended = read in
    let rising = ended.requires in
    place_mid _ _ _ _ rising (omega arith) (read.number.ensures ∙ ap number read.take_line-2.ensures) c.if-number-x.true

returns-3 : tie.Need-returns invariant-loop decreases-loop
returns-3 c =
    let read = c in
    let loop = read.loop-width in
    let known = read in
    let s = known.args.s.now in
    let x = known.args.x in
    let number_is = read.number.ensures ∙ ap number read.take_line-2.ensures in
    if_lt x 65536
    (λ small.
    let whole : x % 65536 ≡ x = omega arith in
    let between = subst (λ (y : ℕ). Between s y loop.low (loop.low + loop.width)) whole loop.invariant.2 in
    place_none s x (between_none s x loop.low (loop.low + loop.width) (omega arith) between (λ e. c.if-number-x.false (number_is ∙ e))))
    (λ large. place_none s x (λ i l e. omega (arith, number-line-lt s i (bytes known.before.before.before.before.before.before) refl refl)))

pub halve_spec : {M : Type 1} → statement M
halve_spec =
    tie.close
    (tie.spec
    invariant-loop decreases-loop returns (λ c. search rules) loop-holds (λ c. search rules) (λ c κs. mid-lt c) (λ c κs. search rules)
    sub-upper mul_low add_low (λ c. search rules) (λ c. search rules) loop-again (λ c κs. search rules)
    (λ c κs. search rules) returns-2 returns-3)
