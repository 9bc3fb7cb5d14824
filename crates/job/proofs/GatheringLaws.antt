-- From sums that are all 0 on, each fuel line adds what its words come to, up to all lines of a book. Assumes nothing.
use Prim.Native.Nat.{ℕ, ◌+◌, ◌-◌, ◌*◌, ◌/◌, ◌<◌, ◌≤◌}
use mathlib.Core.Bool.{true}
use mathlib.Core.List.{List}
use mathlib.Core.Path.{◌≡◌, sym, ap, ◌∙◌, subst}
use native.Mathlib.Nat.{mul-zero}
use native.Mathlib.Numerals.{add-one}
use native.Mathlib.Omega.{arith}
use lib.ListN.{length, replicate, length-replicate, get_or-replicate, drop, length-take, length-drop}
use Rattle.rules.specs.declared.book.Head.{Head}
use Rattle.rules.specs.declared.factors.Factors.{Factors}
use Rattle.rules.specs.Bytes.{line}
use Rattle.rules.specs.Book.{fuel_ok, fuel_lines}
use Rattle.rules.specs.Factors.{factors_of}
use Rattle.rules.proofs.BookLaws.{Accepted}
use Rattle.rules.proofs.FactorsLaws.{factors_of-le}
use Rattle.job.specs.State.{ledgers, sum_to}
use Rattle.job.specs.Words.{unit_at}
use Rattle.job.specs.Shares.{coarse, fuel_shares, shares_at, gathered, sum_at, Modest, Summed, Gathered}
use Rattle.job.proofs.GatheredLaws.{Ready, summed_gathered, sum_at-gathered}

-- ---- sums that are all 0
summed_none : Summed 0 (replicate 8 0)
summed_none = record {
  whole = length-replicate {A = ℕ} 8 0;
  units_le = λ i l. omega (arith, get_or-replicate {A = ℕ} 8 i 0 0 (omega arith));
  rest_le = λ i l. omega (arith, get_or-replicate {A = ℕ} 8 (ledgers + i) 0 0 (omega arith));
}

sum_at-none : (i : ℕ) → i < ledgers → sum_at (replicate 8 0) i ≡ 0
unfolding sum_at
sum_at-none i l =
    let units = get_or-replicate {A = ℕ} 8 i 0 0 (omega arith) in
    let rest = get_or-replicate {A = ℕ} 8 (ledgers + i) 0 0 (omega arith) in
    (λ j. unit_at i * (coarse * units j + rest j)) ∙ mul-zero (unit_at i)

summed_more : {m n : ℕ} (s : List ℕ) → m ≤ n → Summed m s → Summed n s
summed_more s l h = record {
  whole = h.whole;
  units_le = λ i m. omega (arith, h.units_le i m);
  rest_le = λ i m. omega (arith, h.rest_le i m);
}

-- ---- the first k fuel lines
pub record Gathering (fs d s : List ℕ) (k : ℕ) : Type 0 where
  pub few : Summed k s
  pub sums : (i : ℕ) → i < ledgers → sum_at s i ≡ sum_to (λ j. fuel_shares (line j fs) d j i) k

pub gathering_none : {s : List ℕ} (fs d : List ℕ) → s ≡ replicate 8 0 → Gathering fs d s 0
unfolding sum_to
gathering_none fs d e =
    subst (λ (s : List ℕ). Gathering fs d s 0) (sym e) (record { few = summed_none; sums = sum_at-none })

pub gathering_next : {f : Factors} {t : List ℕ} (fs d s : List ℕ) (k : ℕ) → f ≡ factors_of (line k fs) → Ready f k d s
    → t ≡ gathered f k d s → Gathering fs d s k → Gathering fs d t (k + 1)
unfolding sum_to
gathering_next {t = t} fs d s k f-is ready t-is g =
    let right = subst (λ (x : Factors). Ready x k d s) f-is ready in
    let t-line = t-is ∙ ap (λ (x : Factors). gathered x k d s) f-is in
    subst (λ (u : List ℕ). Gathering fs d u (k + 1)) (sym t-line) (record {
      few = summed_gathered _ k d s right;
      sums = λ i l.
          sum_at-gathered (line k fs) k d s right i l
          ∙ ap (λ (m : ℕ). m + fuel_shares (line k fs) d k i) (g.sums i l)
          ∙ ap (sum_to (λ j. fuel_shares (line j fs) d j i)) (sym (add-one k));
    })

pub gathered-all : (fs d s : List ℕ) (k : ℕ) → k ≡ length fs / 32 → k ≤ 64 → Gathering fs d s k → Gathered fs d s
unfolding shares_at
gathered-all fs d s k e l g = record {
  few = summed_more s l g.few;
  sums = λ i m. g.sums i m ∙ ap (sum_to (λ j. fuel_shares (line j fs) d j i)) e;
}

pub modest_factors_of : (f : List ℕ) → fuel_ok f ≡ true → Modest (factors_of f)
modest_factors_of f h =
    let le = factors_of-le f h in
    record { heat_le = le.0; co2_le = le.1; ch4_le = le.2; n2o_le = le.3 }

-- How many fuel lines a book has, by its head.
pub lines-accepted : {b : List ℕ} {h : Head} → Accepted b h
    → (h.length - 32 - h.fuels) / 32 ≡ length (fuel_lines h b) / 32
lines-accepted {b} {h} k =
    let size = h.length - 32 - h.fuels in
    let whole : length (fuel_lines h b) ≡ size
    = length-take size (drop h.fuels b) ∙ omega (arith, length-drop h.fuels b, k.length_is) in
    ap (λ (n : ℕ). n / 32) (sym whole)
