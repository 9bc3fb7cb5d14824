-- The rules of a line by its named bytes and its blank, where the first line with a number stands, and
-- what `listed` makes of it. Assumes nothing.
use Rattle.std.proofs.Common.{◌≡◌, ℕ, zero, suc, ◌+◌, ◌-◌, ◌*◌, ◌/◌, ◌<◌, ◌≤◌, true, false, List, length, take, drop, sym, refl, ap, ◌∙◌, not-suc-le-zero, mul-zero, mul-one, arith, eq-eqb, ne_eqb, Option, Some, None, Ok, Err, ok_or, is_some}
use Rattle.choice.specs.Tests.{◌also◌}
use Rattle.choice.proofs.Splitting.{if_lt, if_eq}
use Rattle.choice.proofs.TestsLaws.{also_t, also_f, choose_t, choose_f}
use Rattle.rules.specs.declared.listing.Sort.{Sort}
use Rattle.rules.specs.declared.listing.Sort.TheVariants.{Unit, Fuel}
use Rattle.rules.specs.declared.record.Reason.{Reason}
use Rattle.rules.specs.declared.record.Reason.TheVariants.{NoUnit}
use Rattle.rules.specs.Outcome.{Outcome}
use Rattle.rules.specs.Bytes.{zeros, line, lines, lines_in}
use Rattle.rules.specs.Fields.{number}
use Rattle.rules.specs.Book.{unit_ok, fuel_ok}
use Rattle.rules.specs.Record.{listed}
use Rattle.rules.specs.Place.{place}
use Rattle.rules.specs.Listing.{line_ok, head_ok, blank_from, number_at, Rising}
use Rattle.rules.proofs.BytesLaws.{line-suc}

-- ---- a line by its named bytes and its blank
pub line_ok-head_ok : (k : Sort) (l : List ℕ)
    → line_ok k l ≡ (head_ok k l also zeros l (blank_from k) (32 - blank_from k))
unfolding unit_ok fuel_ok
line_ok-head_ok Unit l = refl
line_ok-head_ok Fuel l = refl

pub line_ok_bad : (k : Sort) (l : List ℕ) → head_ok k l ≡ false → line_ok k l ≡ false
line_ok_bad k l h = line_ok-head_ok k l ∙ also_f _ h

-- Once its named bytes are right, a line is as right as its blank.
pub line_ok-blank : (k : Sort) (l : List ℕ) {b : ℕ} → head_ok k l ≡ true → b ≡ blank_from k → line_ok k l ≡ zeros l b (32 - b)
line_ok-blank k l h e = rw e (line_ok-head_ok k l ∙ also_t h refl)

pub blank_from-le : (k : Sort) → blank_from k ≤ 32
blank_from-le Unit = omega arith
blank_from-le Fuel = omega arith

-- ---- a search for the number x in the first n lines of s, the first of them being place j
-- No line has the number.
record Absent (x n j : ℕ) (s : List ℕ) : Type 0 where
  lacks : (i : ℕ) → i < n → number_at i s ≡ x → ⊥
  place_is : place x j (lines n s) ≡ None
  listed_is : (k : Reason) (rest : List ℕ → Outcome) → listed x (lines n s) k rest ≡ Err k

-- Line i is the first that has it.
record First (x n j i : ℕ) (s : List ℕ) : Type 0 where
  within : i < n
  has : number_at i s ≡ x
  place_is : place x j (lines n s) ≡ Some (j + i)
  listed_is : (k : Reason) (rest : List ℕ → Outcome) → listed x (lines n s) k rest ≡ rest (line i s)

absent_zero : (x j : ℕ) (s : List ℕ) → Absent x 0 j s
unfolding place listed lines
absent_zero x j s = record {
  lacks = λ i l. absurd (not-suc-le-zero l);
  place_is = refl;
  listed_is = λ k rest. refl;
}

module _ (x n j : ℕ) (s : List ℕ) where
  first-zero : number (take 32 s) ≡ x → First x (suc n) j 0 s
  unfolding place listed lines
  first-zero e =
      let here : j ≡ j + 0 = omega arith in
      let same = eq-eqb _ _ e in
      record {
        within = omega arith;
        has = e;
        place_is = choose_t _ same (ap Some here);
        listed_is = λ k rest. choose_t _ same refl;
      }

  module _ (e : number (take 32 s) ≡ x → ⊥) where
    absent_suc : Absent x n (j + 1) (drop 32 s) → Absent x (suc n) j s
    unfolding place listed lines
    absent_suc a =
        let other = ne_eqb _ _ e in
        record {
          lacks = lacks_suc;
          place_is = choose_f _ other a.place_is;
          listed_is = λ k rest. choose_f _ other (a.listed_is k rest);
        }
      where
        lacks_suc : (i : ℕ) → i < suc n → number_at i s ≡ x → ⊥
        lacks_suc zero l p = e p
        lacks_suc (suc i) l p = a.lacks i (omega arith) (ap number (sym (line-suc i s)) ∙ p)

    first-suc : (i : ℕ) → First x n (j + 1) i (drop 32 s) → First x (suc n) j (suc i) s
    unfolding place listed lines
    first-suc i f =
        let there : j + 1 + i ≡ j + suc i = omega arith in
        let other = ne_eqb _ _ e in
        let within = f.within in
        record {
          within = omega arith;
          has = ap number (line-suc i s) ∙ f.has;
          place_is = choose_f _ other (f.place_is ∙ ap Some there);
          listed_is = λ k rest. choose_f _ other (f.listed_is k rest ∙ ap rest (sym (line-suc i s)));
        }

-- A proof by cases: one or the other is so.
if_listed : {G : Type 0} (x n j : ℕ) (s : List ℕ) → (Absent x n j s → G) → ((i : ℕ) → First x n j i s → G) → G
if_listed x zero j s absent first = absent (absent_zero x j s)
if_listed x (suc n) j s absent first =
    if_eq (number (take 32 s)) x
    (λ e. first 0 (first-zero x n j s e))
    (λ e. if_listed x n (j + 1) (drop 32 s)
    (λ a. absent (absent_suc x n j s e a))
    (λ i f. first (suc i) (first-suc x n j s e i f)))

-- ---- halving
pub rising_inj : (s : List ℕ) (i j : ℕ) → Rising s → i < length s / 32 → j < length s / 32
    → number_at i s ≡ number_at j s → i ≡ j
rising_inj s i j r l m e =
    if_lt i j (λ h. let less = r.rise i j h m in absurd (omega arith))
    (λ g. if_lt j i (λ h. let more = r.rise j i h l in absurd (omega arith))
    (λ h. omega arith))

-- The lines below `low` have smaller numbers than x, those from `high` on greater ones.
pub record Between (s : List ℕ) (x low high : ℕ) : Type 0 where
  pub below : (j : ℕ) → j < low → number_at j s < x
  pub above : (j : ℕ) → high ≤ j → j < length s / 32 → x < number_at j s

module _ (s : List ℕ) (x : ℕ) where
  pub between_start : Between s x 0 (0 + length s / 32)
  between_start = record {
    below = λ j h. absurd (not-suc-le-zero h);
    above = λ j h l. absurd (omega arith);
  }

  -- No line has the number.
  pub place_none : ((i : ℕ) → i < length s / 32 → number_at i s ≡ x → ⊥) → None ≡ place x 0 (lines_in s)
  unfolding lines_in
  place_none none =
      if_listed x (length s / 32) 0 s
      (λ a. sym a.place_is)
      (λ i f. absurd (none i f.within f.has))

  -- The one line that is left doesn't.
  pub between_none : (low high : ℕ) → high ≤ low + 1 → Between s x low high → (number_at low s ≡ x → ⊥)
      → (i : ℕ) → i < length s / 32 → number_at i s ≡ x → ⊥
  between_none low high h b other i l e =
      if_lt i low
      (λ m. omega (arith, b.below i m))
      (λ m. if_eq i low
      (λ same. other (ap (λ (j : ℕ). number_at j s) (sym same) ∙ e))
      (λ n. omega (arith, b.above i (omega arith) l)))

-- The line in the middle has the number y.
module _ (s : List ℕ) (x mid y : ℕ) (r : Rising s) (l : mid < length s / 32) (e : y ≡ number_at mid s) where
  pub place_mid : y ≡ x → Some mid ≡ place x 0 (lines_in s)
  unfolding lines_in
  place_mid p =
      let has : number_at mid s ≡ x = sym e ∙ p in
      if_listed x (length s / 32) 0 s
      (λ a. absurd (a.lacks mid l has))
      (λ i f. let same : 0 + i ≡ mid = omega (arith, rising_inj s i mid r f.within l (f.has ∙ sym has)) in
      sym (f.place_is ∙ ap Some same))

  pub between_up : (low high : ℕ) → y ≤ x → Between s x low high → Between s x mid high
  between_up low high p b = record {
    below = λ j m. let less = r.rise j mid m l in omega arith;
    above = b.above;
  }

  pub between_down : (low high to : ℕ) → x < y → mid ≤ to → Between s x low high → Between s x low to
  between_down low high to p h b = record {
    below = b.below;
    above = λ j k m.
        if_lt mid j
        (λ n. let more = r.rise mid j n m in omega arith)
        (λ n. let same : j ≡ mid = omega arith in rw same (omega arith));
  }

-- Of the lines from `low` on, `width` of them, half are left: the upper ones, u being 1, or the lower ones, u being 0.
pub between_half : (s : List ℕ) (x low half width y u : ℕ) → Rising s → low + half < length s / 32
    → y ≡ number_at (low + half) s → half + half ≤ width → (x < y → u ≡ 0) → (y ≤ x → u ≡ 1)
    → Between s x low (low + width)
    → (low + half * u + (width - half) ≤ low + width) × Between s x (low + half * u) (low + half * u + (width - half))
between_half s x low half width y u r l e h lower upper b =
    if_lt x y
    (λ past.
    let at : low + half * u ≡ low = omega (arith, ap (λ (n : ℕ). half * n) (lower past) ∙ mul-zero half) in
    rw at (omega arith, between_down s x (low + half) y r l e low (low + width) (low + (width - half)) past (omega arith) b))
    (λ reached.
    let at : low + half * u ≡ low + half = omega (arith, ap (λ (n : ℕ). half * n) (upper reached) ∙ mul-one half) in
    let end : low + half + (width - half) ≡ low + width = omega arith in
    rw (at, end) (omega arith, between_up s x (low + half) y r l e low (low + width) reached b))

-- ---- what `listed` makes of r, which a search for y gave
module _ (x : ℕ) (k : Reason) (rest : List ℕ → Outcome) where
  pub listed_at : {r : Option ℕ} {y p : ℕ} (s : List ℕ) → r ≡ place y 0 (lines_in s) → y ≡ x → r ≡ Some p
      → (p < length s / 32) × (listed x (lines_in s) k rest ≡ rest (line p s))
  unfolding lines_in
  listed_at {r} {y} {p} s e d q =
      let found : place x 0 (lines_in s) ≡ Some p = cc in
      if_listed x (length s / 32) 0 s
      (λ a. let never : ◌≡◌ {A = ℕ} 0 1 = cc in absurd (omega arith))
      (λ i f.
      let start : 0 + i ≡ p = cc in
      let same : i ≡ p = omega arith in
      (omega (arith, f.within), f.listed_is k rest ∙ ap (λ (i : ℕ). rest (line i s)) same))

  pub listed_nothing : {r : Option ℕ} {y : ℕ} (s : List ℕ) → r ≡ place y 0 (lines_in s) → y ≡ x → r ≡ None
      → listed x (lines_in s) k rest ≡ Err k
  unfolding lines_in
  listed_nothing {r} {y} s e d q =
      let found : place x 0 (lines_in s) ≡ None = cc in
      if_listed x (length s / 32) 0 s
      (λ a. a.listed_is k rest)
      (λ i f. let never : ◌≡◌ {A = ℕ} 0 1 = cc in absurd (omega arith))

-- Any line serves where what becomes of the record doesn't hang on it.
pub listed_any : (r : Option ℕ) {y : ℕ} (x : ℕ) (k : Reason) (o : Outcome) (s : List ℕ) → r ≡ place y 0 (lines_in s) → y ≡ x
    → is_some r ≡ true → listed x (lines_in s) k (λ u. o) ≡ o
listed_any None x k o s e d some = cc
listed_any (Some p) x k o s e d some = (listed_at x k (λ u. o) s e d refl).1

-- The line that was found is there.
pub place_lt : {r : Option ℕ} {p : ℕ} (x : ℕ) (s : List ℕ) → r ≡ place x 0 (lines_in s) → r ≡ Some p
    → p < length s / 32
place_lt x s e q = (listed_at x NoUnit (λ u. Err NoUnit) s e refl q).0

-- The line that was found has the number.
pub place-number : {r : Option ℕ} {p : ℕ} (x : ℕ) (s : List ℕ) → r ≡ place x 0 (lines_in s) → r ≡ Some p
    → number_at p s ≡ x
unfolding lines_in
place-number {r} {p} x s e q =
    if_listed x (length s / 32) 0 s
    (λ a. let never : ◌≡◌ {A = ℕ} 0 1 = cc a.place_is in absurd (omega arith))
    (λ i f.
    let start : 0 + i ≡ p = cc f.place_is in
    let same : i ≡ p = omega arith in
    ap (λ (j : ℕ). number_at j s) (sym same) ∙ f.has)

-- ---- a search whose result is asked for by `ok_or`
pub ok_or-some : (r : Option ℕ) (k : Reason) {p : ℕ} → ok_or r k ≡ Ok p → r ≡ Some p
ok_or-some None k e = cc
ok_or-some (Some x) k e = cc

pub ok_or-none : (r : Option ℕ) (k : Reason) {j : Reason} → ok_or r k ≡ Err j → (r ≡ None) × (j ≡ k)
ok_or-none None k e = (refl, cc)
ok_or-none (Some x) k e = (cc, cc)

pub none-is_some : (r : Option ℕ) → is_some r ≡ false → r ≡ None
none-is_some None e = refl
none-is_some (Some x) e = cc
