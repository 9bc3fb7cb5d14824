-- A C caller reads what was seen of a record back from the word and the masses, and by the word alone it
-- knows whether they were written. Assumes nothing.
use Prim.Native.Nat.{ℕ, ◌<◌, ◌≤◌}
use mathlib.Core.Bool.{true, false}
use mathlib.Core.List.{List}
use mathlib.Core.Path.{◌≡◌, refl, sym, ap, ◌∙◌, subst}
use native.Mathlib.Omega.{arith}
use lib.Dec.{T, eqb, ltb, lit<}
use borrow.Author.Tests.{lt-ltb, ne_eqb}
use Rattle.std.specs.Prelude.{Ok, Err}
use Rattle.choice.specs.Tests.{◌also◌}
use Rattle.choice.proofs.TestsLaws.{also_t, also_f, choose_t, choose_f}
use Rattle.rules.specs.declared.entry.Destination.{Destination}
use Rattle.rules.specs.declared.entry.Destination.TheVariants.{Fossil, Biomass, Nowhere}
use Rattle.rules.specs.declared.entry.Entry.{Entry}
use Rattle.rules.specs.Reader.{turned_away, missing, shown, sight_at}
use Rattle.rules.proofs.ReaderLaws.{sight_at-each}
use Rattle.wetherstep.specs.Face.{packed}
use Rattle.wetherstep.proofs.FaceLaws.{packed_sum}
use Rattle.wetherstep.proofs.ToldLaws.{told_number-packed, told_reason-packed}
use Rattle.rules.specs.Record.{last_reason}
use Rattle.wetherstep_record.specs.Face.{no_record, ledger_number, record_word, masses_of, masses_after}
use Rattle.wetherstep_record.specs.Told.{told_method, told_ledger, told_counts, destination_told, entry_told, record_told}

-- ---- the fields of a word
module _ (n k m d c : ℕ) where
  pub told_method-packed : n < 256 → k < 256 → m < 256 → told_method (packed n k m d c) ≡ m
  unfolding told_method
  told_method-packed p q r = omega (arith, packed_sum n k m d c)

  pub told_ledger-packed : n < 256 → k < 256 → m < 256 → d < 256 → told_ledger (packed n k m d c) ≡ d
  unfolding told_ledger
  told_ledger-packed p q r s = omega (arith, packed_sum n k m d c)

-- ---- whether a word tells that the record counts
told_counts-packed : (n k m d : ℕ) → n < 256 → k < 256 → m < 256
    → told_counts (packed n k m d 0) ≡ (eqb n 0 also eqb k 0 also ltb m no_record)
unfolding told_counts
told_counts-packed n k m d p q r =
    let number = told_number-packed n k m d 0 p in
    let reason = told_reason-packed n k m d 0 p q in
    let method = told_method-packed n k m d 0 p q r in
    λ j. eqb (number j) 0 also eqb (reason j) 0 also ltb (method j) no_record

told_counts-refused : (n : ℕ) → 20 ≤ n → n ≤ 23 → told_counts (record_word (turned_away n)) ≡ false
unfolding record_word
told_counts-refused n l m =
    told_counts-packed n 0 0 0 (omega arith) (lit< tt) (lit< tt)
    ∙ also_f _ (also_f _ (ne_eqb n 0 (λ z. omega arith)))

told_counts-missing : told_counts (record_word missing) ≡ false
unfolding record_word
told_counts-missing =
    told_counts-packed 0 0 no_record 0 (lit< tt) (lit< tt) (lit< tt)
    ∙ also_t (also_t refl refl) refl

told_counts_aside : (k : ℕ) → 1 ≤ k → k ≤ last_reason → told_counts (record_word (shown (Err k))) ≡ false
unfolding record_word
told_counts_aside k l m =
    told_counts-packed 0 k 0 0 (lit< tt) (omega arith) (lit< tt)
    ∙ also_f _ (also_t refl (ne_eqb k 0 (λ z. omega arith)))

told_counts-counted : (e : Entry) → e.method ≤ 4 → told_counts (record_word (shown (Ok e))) ≡ true
unfolding record_word
told_counts-counted e l =
    told_counts-packed 0 0 e.method (ledger_number e.destination) (lit< tt) (lit< tt) (omega arith)
    ∙ also_t (also_t refl refl) (lt-ltb e.method no_record (omega arith))

-- ---- the entry of a record that counts
destination_told-number : (d : Destination) → destination_told (ledger_number d) ≡ d
unfolding destination_told
destination_told-number Fossil = choose_t _ refl refl
destination_told-number Biomass = choose_f _ refl (choose_t _ refl refl)
destination_told-number Nowhere = choose_f _ refl (choose_f _ refl refl)

ledger_number-lt : (d : Destination) → ledger_number d < 256
ledger_number-lt Fossil = lit< tt
ledger_number-lt Biomass = lit< tt
ledger_number-lt Nowhere = lit< tt

entry_told-counted : (e : Entry) → e.method ≤ 4
    → entry_told (packed 0 0 e.method (ledger_number e.destination) 0) (masses_of e) ≡ e
unfolding entry_told
entry_told-counted e l =
    let d = ledger_number e.destination in
    let few : e.method < 256 = omega arith in
    let method = told_method-packed 0 0 e.method d 0 (lit< tt) (lit< tt) few in
    let ledger = told_ledger-packed 0 0 e.method d 0 (lit< tt) (lit< tt) few (ledger_number-lt e.destination) in
    let destination = ap destination_told ledger ∙ destination_told-number e.destination in
    λ j. record { method = method j; destination = destination j; co2 = e.co2; ch4 = e.ch4; n2o = e.n2o }

-- ---- what was seen is read back
pub record_told-record_word : (k : List ℕ) (i : ℕ) (ms : List ℕ)
    → record_told (record_word (sight_at k i)) (masses_after (sight_at k i) ms) ≡ sight_at k i
unfolding record_word masses_after record_told
record_told-record_word k i ms =
    sight_at-each (λ x. record_told (record_word x) (masses_after x ms) ≡ x) k i
    (λ n l m.
    let told = told_number-packed n 0 0 0 0 (omega arith) in
    choose_f _ (told_counts-refused n l m)
    (choose_t _ (ap (ltb 0) told ∙ lt-ltb 0 n (omega arith))
    (ap turned_away told)))
    (choose_f _ told_counts-missing
    (choose_f _ (ap (ltb 0) (told_number-packed 0 0 no_record 0 0 (lit< tt)))
    (choose_f _ (ap (ltb 0) (told_reason-packed 0 0 no_record 0 0 (lit< tt) (lit< tt)))
    refl)))
    (λ k l m.
    let told = told_reason-packed 0 k 0 0 0 (lit< tt) (omega arith) in
    choose_f _ (told_counts_aside k l m)
    (choose_f _ (ap (ltb 0) (told_number-packed 0 k 0 0 0 (lit< tt)))
    (choose_t _ (ap (ltb 0) told ∙ lt-ltb 0 k (omega arith))
    (ap (λ (x : ℕ). shown (Err x)) told))))
    (λ e w.
    choose_t _ (told_counts-counted e w.0)
    (ap (λ (x : Entry). shown (Ok x)) (entry_told-counted e w.0)))

-- ---- a record that doesn't count leaves the masses as they were
pub masses_after-told : (k : List ℕ) (i : ℕ) (ms : List ℕ) → told_counts (record_word (sight_at k i)) ≡ false
    → masses_after (sight_at k i) ms ≡ ms
unfolding masses_after
masses_after-told k i ms =
    sight_at-each (λ x. told_counts (record_word x) ≡ false → masses_after x ms ≡ ms) k i
    (λ n l m p. refl)
    (λ p. refl)
    (λ k l m p. refl)
    (λ e w p. absurd (subst T (sym (told_counts-counted e w.0) ∙ p) tt))
