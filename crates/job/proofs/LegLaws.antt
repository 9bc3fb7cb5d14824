-- One record more of a leg, and the state that counts, words and shares stand for together. Assumes nothing.
use Prim.Native.Nat.{ℕ, ◌+◌, ◌-◌, ◌*◌, ◌/◌, ◌<◌, ◌≤◌}
use mathlib.Core.List.{List}
use mathlib.Core.Path.{◌≡◌, refl, sym, ap, ◌∙◌, subst}
use native.Mathlib.Nat.{add-zero, mul-zero, zero-mul, lt_of_lt_of_le}
use native.Mathlib.Omega.{arith}
use lib.ListN.{length, get_or, replicate}
use Rattle.std.specs.Prelude.{Ok, Err}
use Rattle.choice.proofs.Splitting.{if_eq}
use Rattle.mass.specs.Ledger.{records_foreseen}
use Rattle.rules.specs.declared.book.Head.{Head}
use Rattle.rules.specs.declared.entry.Entry.{Entry}
use Rattle.rules.specs.declared.record.Reason.{Reason}
use Rattle.rules.specs.Outcome.{Outcome}
use Rattle.rules.specs.Bytes.{line}
use Rattle.rules.specs.Book.{fuel_lines}
use Rattle.rules.specs.Record.{outcome_at}
use Rattle.rules.specs.Bounds.{Bounded}
use Rattle.job.specs.declared.counts.Aside.{Aside}
use Rattle.job.specs.declared.counts.Counts.{Counts}
use Rattle.job.specs.State.{mass, each, State, ledgers, gives, counted, after, sum_to}
use Rattle.job.specs.Bounds.{CountsFit}
use Rattle.job.specs.Words.{carries, carries_each, mass_at, counts_at, state_in, given, Kept}
use Rattle.job.specs.Shares.{leg_records, pour_most, worth_of, fuel_shares, shares_at, most_in, Held}
use Rattle.job.specs.Leg.{Took, TookShare}
use Rattle.job.proofs.PlacesLaws.{each_plus, each_same}
use Rattle.job.proofs.StateLaws.{length-gives}
use Rattle.job.proofs.WordsLaws.{kept_more, kept-given, mass_at-given}
use Rattle.job.proofs.WorthLaws.{sum_to-same, sum_to-none}
use Rattle.job.proofs.SharesLaws.{held_more, shares_at-none}

-- ---- counts fit 32 bits
pub aside_lt : {a p n : ℕ} → a ≤ p → p < n → n ≤ records_foreseen → a < 4294967295
aside_lt l m f = omega arith

pub reason_lt : (h : Head) (c : Counts) → CountsFit h c → c.reason < 256
reason_lt h c f = if_eq c.aside 0 (λ z. omega (arith, (f.none_first z).1)) (λ z. omega (arith, (f.some_first z).2))

-- ---- a record that is judged by the book's lines
pub took_aside : (h : Head) (k : List ℕ) (p : ℕ) (a : Aside) (w : List ℕ) (b : Aside) (r : Reason) → outcome_at h k p ≡ Err r
    → counts_at (p + 1) b ≡ counted (counts_at p a) (Err r) → Took h k p a w b w
took_aside h k p a w b r o c = record {
  counts = c ∙ ap (counted (counts_at p a)) (sym o);
  masses = λ i l. sym (add-zero _) ∙ ap (λ (x : Outcome). mass_at w i + mass (gives x) i) (sym o);
  kept = λ m g. kept_more w (omega arith) g;
}

pub counts-counted : (p : ℕ) (a : Aside) (e : Entry) → counts_at (p + 1) a ≡ counted (counts_at p a) (Ok e)
unfolding counted
counts-counted p a e = refl

pub took_given : (h : Head) (k : List ℕ) (p : ℕ) (a : Aside) (w : List ℕ) (e : Entry) {m : ℕ} → outcome_at h k p ≡ Ok e → Bounded (Ok e)
    → Kept m w → Took h k p a w a (given w e)
took_given h k p a w e o b g = record {
  counts = counts-counted p a e ∙ ap (counted (counts_at p a)) (sym o);
  masses = λ i l. mass_at-given w g e b i l ∙ ap (λ (x : Outcome). mass_at w i + mass (gives x) i) (sym o);
  kept = λ n g. kept-given w g e b;
}

pub after_took : (h : Head) (k : List ℕ) (p : ℕ) (a : Aside) (w : List ℕ) (b : Aside) (v : List ℕ) → Took h k p a w b v
    → state_in (counts_at (p + 1) b) v ≡ after (state_in (counts_at p a) w) (outcome_at h k p)
unfolding state_in after
after_took h k p a w b v t =
    let o = outcome_at h k p in
    let ms = each_plus (mass_at w) (mass_at v) ledgers (gives o) (length-gives o) t.masses in
    λ j. record { counts = t.counts j; masses = ms j }

-- It leaves the shares alone.
pub took_share_took : (h : Head) (k : List ℕ) (p : ℕ) (a : Aside) (w d : List ℕ) (b : Aside) (v : List ℕ) → Took h k p a w b v → TookShare h k p a w d b v d
took_share_took h k p a w d b v t = record {
  counts = t.counts;
  masses = λ i l. omega (arith, t.masses i l);
  kept = t.kept;
  held = λ n g. held_more d (omega arith) g;
}

-- ---- the same under other names
pub took_as : (h : Head) (k : List ℕ) (p : ℕ) {a a' : Aside} {w w' : List ℕ} {b b' : Aside} {v v' : List ℕ} → a ≡ a' → w ≡ w' → b' ≡ b → v' ≡ v
    → Took h k p a w b v → Took h k p a' w' b' v'
took_as h k p {a} {a'} {w} {w'} {b} {b'} {v} {v'} of-a of-w is_b is-v t =
    subst (λ (x : Aside). Took h k p x w' b' v') of-a
    (subst (λ (x : List ℕ). Took h k p a x b' v') of-w
    (subst (λ (x : Aside). Took h k p a w x v') (sym is_b)
    (subst (λ (x : List ℕ). Took h k p a w b x) (sym is-v) t)))

pub took_share_as : (h : Head) (k : List ℕ) (p : ℕ) (a : Aside) (w d : List ℕ) {b b' : Aside} {v v' e e' : List ℕ} → b' ≡ b → v' ≡ v → e' ≡ e
    → TookShare h k p a w d b v e → TookShare h k p a w d b' v' e'
took_share_as h k p a w d {b} {b'} {v} {v'} {e} {e'} is_b is-v is-e t =
    subst (λ (x : Aside). TookShare h k p a w d x v' e') (sym is_b)
    (subst (λ (x : List ℕ). TookShare h k p a w d b x e') (sym is-v)
    (subst (λ (x : List ℕ). TookShare h k p a w d b v x) (sym is-e) t))

-- ---- the state of counts, words and shares
unfoldable pub leg_state : Head → List ℕ → ℕ → Aside → List ℕ → List ℕ → State
leg_state h k p a w d = record {
  counts = counts_at p a;
  masses = each (λ i. mass_at w i + shares_at (fuel_lines h k) d i) ledgers;
}

pub after_took_share : (h : Head) (k : List ℕ) (p : ℕ) (a : Aside) (w d : List ℕ) (b : Aside) (v e : List ℕ) → TookShare h k p a w d b v e
    → leg_state h k (p + 1) b v e ≡ after (leg_state h k p a w d) (outcome_at h k p)
unfolding leg_state after
after_took_share h k p a w d b v e t =
    let o = outcome_at h k p in
    let fs = fuel_lines h k in
    let ms = each_plus (λ i. mass_at w i + shares_at fs d i) (λ i. mass_at v i + shares_at fs e i) ledgers (gives o) (length-gives o) t.masses in
    λ j. record { counts = t.counts j; masses = ms j }

pub leg_state_begun : (h : Head) (k : List ℕ) (p : ℕ) (a : Aside) (w : List ℕ)
    → state_in (counts_at p a) w ≡ leg_state h k p a w (replicate 1024 0)
unfolding leg_state state_in
leg_state_begun h k p a w =
    let ms = each_same (mass_at w) (λ i. mass_at w i + shares_at (fuel_lines h k) (replicate 1024 0) i) ledgers
    (λ i l. omega (arith, shares_at-none (fuel_lines h k) i)) in
    λ j. record { counts = counts_at p a; masses = ms j }

pub leg_state_as : (h : Head) (k : List ℕ) (p : ℕ) {a a' : Aside} {w w' d d' : List ℕ} → a' ≡ a → w' ≡ w → d' ≡ d
    → leg_state h k p a' w' d' ≡ leg_state h k p a w d
leg_state_as h k p is-a is-w is-d = λ i. leg_state h k p (is-a i) (is-w i) (is-d i)

pub leg_state_settled : (h : Head) (k : List ℕ) (p : ℕ) (a : Aside) (w d v : List ℕ)
    → ((i : ℕ) → i < ledgers → mass_at v i ≡ mass_at w i + shares_at (fuel_lines h k) d i)
    → state_in (counts_at p a) v ≡ leg_state h k p a w d
unfolding leg_state state_in
leg_state_settled h k p a w d v e =
    let ms = each_same (mass_at v) (λ i. mass_at w i + shares_at (fuel_lines h k) d i) ledgers e in
    λ j. record { counts = counts_at p a; masses = ms j }

-- ---- high digits, by how many records there are
pub carries_each-le : {d : ℕ} → d < records_foreseen → carries_each * d ≤ carries
carries_each-le l = omega arith

pub carries_each_next : (d : ℕ) → carries_each * d + 3 ≤ carries_each * (d + 1)
carries_each_next d = omega arith

-- In a leg from place p to q a record raises them by 3 at most, and its end by so much more.
pub leg_carries_le : {p q n : ℕ} → p ≤ q → q ≤ n → n ≤ records_foreseen → carries_each * p + 3 * (q - p) ≤ carries - pour_most
leg_carries_le l m f = omega arith

pub leg_carries_end : {p q : ℕ} → p < q → carries_each * p + 3 * (q - p) + pour_most ≤ carries_each * q
leg_carries_end l = omega arith

pub leg_carries_none : {p q : ℕ} → p ≤ q → q ≤ p → carries_each * p + 3 * (q - p) ≤ carries_each * q
leg_carries_none l m = omega arith

pub leg_carries_next : {p q : ℕ} → p ≤ q → carries_each * p + 3 * (q - p) + 3 ≤ carries_each * p + 3 * (q + 1 - p)
leg_carries_next l = omega arith

pub leg_carries_first : (p : ℕ) → carries_each * p ≤ carries_each * p + 3 * (p - p)
leg_carries_first p = omega arith

pub less_most : {m : ℕ} → m ≤ carries - pour_most → m ≤ carries
less_most l = omega arith

-- ---- how many records of a leg are gone through
pub leg_left : {p q u : ℕ} → p ≤ q → q < u → u ≤ p + leg_records → q - p ≤ leg_records - 1
leg_left l m n = omega arith

pub leg_le : (p : ℕ) {q : ℕ} → q ≤ p + leg_records → q - p ≤ leg_records
leg_le p l = omega arith

pub leg_none : {p q : ℕ} → q ≤ p → q - p ≤ 0
leg_none l = omega arith

pub leg_next : {p q : ℕ} → p ≤ q → q - p + 1 ≤ q + 1 - p
leg_next l = omega arith

-- Shares of no records come to nothing.
none_of : (x m y : ℕ) → x ≤ m * 0 → x * y ≡ 0
none_of x m y l =
    let none : x ≡ 0 = omega (arith, mul-zero m) in
    ap (λ (z : ℕ). z * y) none ∙ zero-mul y

sum_to-zeros : (f : ℕ → ℕ) (n : ℕ) → ((j : ℕ) → j < n → f j ≡ 0) → sum_to f n ≡ 0
sum_to-zeros f n none = sum_to-same (λ j. 0) f n none ∙ sum_to-none (λ j. 0) n (λ j. refl)

pub shares_at-held : (fs d : List ℕ) (i : ℕ) → length fs / 32 ≤ 64 → Held 0 d → shares_at fs d i ≡ 0
unfolding shares_at fuel_shares
shares_at-held fs d i l g =
    sum_to-zeros (λ k. fuel_shares (line k fs) d k i) (length fs / 32) (λ k m.
    sum_to-zeros (λ v. get_or d (16 * k + v) 0 * worth_of (line k fs) v i) 16 (λ v n.
    none_of (get_or d (16 * k + v) 0) (most_in v) (worth_of (line k fs) v i) (g.few k v (lt_of_lt_of_le m l) n)))

-- ---- a turn from place d to the next one, in a way from p that ends at u
pub record Onward (p d u : ℕ) : Type 0 where
  pub from : p ≤ d + 1
  pub on : d + 1 ≤ u
  pub less : u - (d + 1) < u - d
  pub next : d - p + 1 ≡ d + 1 - p

pub onward : {p d u : ℕ} → p ≤ d → d < u → Onward p d u
onward l m = record { from = omega arith; on = omega arith; less = omega arith; next = omega arith }
