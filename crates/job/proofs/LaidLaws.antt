-- The ledgers of a checkpoint, laid one behind the other: how they are read, and how they are written. Assumes nothing.
use Prim.Native.Nat.{ℕ, zero, suc, ◌+◌, ◌*◌, ◌/◌, ◌%◌, ◌^◌, ◌<◌, ◌≤◌}
use mathlib.Core.List.{List, [], ◌∷◌, ◌++◌, append-nil, append_assoc}
use mathlib.Core.Path.{◌≡◌, refl, ap, sym, ◌∙◌, subst}
use native.Mathlib.Nat.{le_of_suc-le-suc, not-suc-le-zero}
use native.Mathlib.Omega.{arith}
use lib.ListN.{length, get_or, take, drop, length-append, take-append-drop}
use lib.Seq.{length-take-le}
use Rattle.mass.specs.declared.ledger.Ledger.{Ledger}
use Rattle.mass.specs.Ledger.{tonne, ledger_of}
use Rattle.mass.proofs.LedgerLaws.{total_tonnes, total-rest, total-ledger_of, canonical-ledger_of}
use Rattle.rules.specs.Bytes.{word, bytes_of}
use Rattle.rules.proofs.BytesLaws.{length-bytes_of}
use Rattle.job.specs.State.{each, ledgers}
use Rattle.job.specs.Checkpoint.{checkpoint_size, ledger_place, laid, mass_in}
use Rattle.job.specs.Words.{mass_at, masses_on}
use Rattle.job.proofs.PlacesLaws.{length-each}
use Rattle.job.proofs.PutLaws.{word-append, word_behind, Wrote, wrote_front, wrote_behind, wrote_more}

-- ---- read
length-ledger : (p : List ℕ) (v : ℕ) → length (p ++ bytes_of 8 (v / tonne) ++ bytes_of 8 (v % tonne)) ≡ length p + 16
length-ledger p v =
    length-append (p ++ bytes_of 8 (v / tonne)) (bytes_of 8 (v % tonne))
    ∙ omega (arith, length-append p (bytes_of 8 (v / tonne)), length-bytes_of 8 (v / tonne), length-bytes_of 8 (v % tonne))

pub length-laid : (p ms : List ℕ) → length (laid p ms) ≡ length p + 16 * length ms
unfolding laid
length-laid p [] = omega arith
length-laid p (v ∷ ms) = length-laid (p ++ bytes_of 8 (v / tonne) ++ bytes_of 8 (v % tonne)) ms ∙ omega (arith, length-ledger p v)

pub laid-append : (p ms : List ℕ) → laid p ms ≡ p ++ laid [] ms
unfolding laid
laid-append p [] = sym (append-nil p)
laid-append p (v ∷ ms) =
    let a = bytes_of 8 (v / tonne) in
    let b = bytes_of 8 (v % tonne) in
    laid-append (p ++ a ++ b) ms
    ∙ ap (λ (l : List ℕ). l ++ laid [] ms) (append_assoc p a b)
    ∙ append_assoc p (a ++ b) (laid [] ms)
    ∙ ap (λ (l : List ℕ). p ++ l) (sym (laid-append (a ++ b) ms))

-- One more ledger is laid behind those before it.
pub laid_snoc : (p ms : List ℕ) (v : ℕ)
    → laid p (ms ++ (v ∷ [])) ≡ laid p ms ++ bytes_of 8 (v / tonne) ++ bytes_of 8 (v % tonne)
unfolding laid
laid_snoc p [] v = refl
laid_snoc p (u ∷ ms) v = laid_snoc (p ++ bytes_of 8 (u / tonne) ++ bytes_of 8 (u % tonne)) ms v

-- The ledger at place i of those that start at byte `at`.
pub word-laid : (p : List ℕ) (at : ℕ) (ms : List ℕ) (i : ℕ) → length p ≡ at → i < length ms →
    let v = get_or ms i 0 in
    v / tonne < 256 ^ 8
    → (word (laid p ms) (at + 16 * i) 8 ≡ v / tonne) × (word (laid p ms) (at + 16 * i + 8) 8 ≡ v % tonne)
unfolding laid
word-laid p at [] i e h l = absurd (not-suc-le-zero h)
word-laid p at (v ∷ ms) zero e h l =
    let a = bytes_of 8 (v / tonne) in
    let b = bytes_of 8 (v % tonne) in
    let begins : length (p ++ a) ≡ at + 8 = length-append p a ∙ omega (arith, length-bytes_of 8 (v / tonne)) in
    let all : length (p ++ a ++ b) ≡ at + 16 = length-ledger p v ∙ omega arith in
    let here : (k : ℕ) → k + 8 ≤ at + 16 → word (laid (p ++ a ++ b) ms) k 8 ≡ word (p ++ a ++ b) k 8 =
    λ k m. ap (λ (c : List ℕ). word c k 8) (laid-append (p ++ a ++ b) ms) ∙ word-append (p ++ a ++ b) (laid [] ms) k 8 (omega arith) in
    let first : at + 16 * zero ≡ at = omega arith in (
      ap (λ (k : ℕ). word (laid (p ++ a ++ b) ms) k 8) first
          ∙ here at (omega arith)
          ∙ word-append (p ++ a) b at 8 (omega arith)
          ∙ word_behind p at 8 (v / tonne) e l,
      ap (λ (k : ℕ). word (laid (p ++ a ++ b) ms) (k + 8) 8) first
          ∙ here (at + 8) (omega arith)
          ∙ word_behind (p ++ a) (at + 8) 8 (v % tonne) begins (omega arith),
    )
word-laid p at (v ∷ ms) (suc i) e h l =
    let behind : length (p ++ bytes_of 8 (v / tonne) ++ bytes_of 8 (v % tonne)) ≡ at + 16 = length-ledger p v ∙ omega arith in
    let place : at + 16 + 16 * i ≡ at + 16 * suc i = omega arith in
    let rest = word-laid (p ++ bytes_of 8 (v / tonne) ++ bytes_of 8 (v % tonne)) (at + 16) ms i behind (le_of_suc-le-suc h) l in (
      ap (λ (k : ℕ). word (laid p (v ∷ ms)) k 8) (sym place) ∙ rest.0,
      ap (λ (k : ℕ). word (laid p (v ∷ ms)) (k + 8) 8) (sym place) ∙ rest.1,
    )

-- ---- written: o is d with ledgers of f 0 .. f (n - 1) behind its first 16 bytes
abbrev pub Laid : List ℕ → List ℕ → (ℕ → ℕ) → ℕ → Type 0
Laid d o f n = Wrote d o (laid (take 16 d) (each f n)) (ledger_place n)

pub laid_none : (d : List ℕ) (f : ℕ → ℕ) → length d ≡ checkpoint_size → Laid d d f 0
unfolding laid each
laid_none d f l = record { whole = sym (take-append-drop 16 d); front = length-take-le 16 d (omega arith) }

parts : {g : Ledger} (v : ℕ) → g ≡ ledger_of v → (v / tonne ≡ g.tonnes) × (v % tonne ≡ g.rest.0)
parts v e =
    let at = sym (total-ledger_of v) in (
      ap (λ (m : ℕ). m / tonne) at ∙ total_tonnes (ledger_of v) (canonical-ledger_of v) ∙ ap (λ (x : Ledger). x.tonnes) (sym e),
      ap (λ (m : ℕ). m % tonne) at ∙ total-rest (ledger_of v) (canonical-ledger_of v) ∙ ap (λ (x : Ledger). x.rest.0) (sym e),
    )

-- The next ledger is g, and its two numbers are put at p.
pub laid_next : {d o a r : List ℕ} {p : ℕ} {g : Ledger} (f : ℕ → ℕ) (n : ℕ) → Laid d o f n → p ≡ ledger_place n → g ≡ ledger_of (f n)
    → a ≡ take p o ++ bytes_of 8 g.tonnes ++ drop (p + 8) o
    → r ≡ take (p + 8) a ++ bytes_of 8 g.rest.0 ++ drop (p + 8 + 8) a
    → Laid d r f (suc n)
unfolding each
laid_next {d} {o} {a} {r} {p} {g} f n laid-n e same put-tonnes put_rest =
    let ms = each f n in
    let here : Wrote d o (laid (take 16 d) ms) p = subst (Wrote d o (laid (take 16 d) ms)) (sym e) laid-n in
    let behind : p + 8 + 8 ≡ ledger_place (suc n) = omega arith in
    subst (λ (c : List ℕ). Wrote d r c (ledger_place (suc n))) (sym (laid_snoc (take 16 d) ms (f n)))
    (subst (Wrote d r _) behind (wrote_more (wrote_more here 8 (parts (f n) same).0 put-tonnes) 8 (parts (f n) same).1 put_rest))

-- ---- all ledgers, put behind the bytes p
pub length-masses_on : (c w : List ℕ) → length (masses_on c w) ≡ ledgers
unfolding masses_on
length-masses_on c w = length-each (λ i. mass_in c i + mass_at w i) ledgers

pub wrote_ledgers : {d o p r : List ℕ} (ms : List ℕ) → length ms ≡ ledgers → Wrote d o p 16
    → r ≡ laid (take 16 o) ms ++ drop 80 o → Wrote d r (laid p ms) 80
wrote_ledgers {d} {o} {p} {r} ms l w e = record {
  whole = e ∙ λ i. laid (wrote_front w i) ms ++ wrote_behind w 64 i;
  front = length-laid p ms ∙ omega (arith, w.front);
}
