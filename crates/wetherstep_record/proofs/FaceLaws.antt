-- The word and the masses of each sight of a record. Assumes nothing.
use Prim.Native.Nat.{ℕ}
use mathlib.Core.List.{List}
use mathlib.Core.Path.{◌≡◌, sym, ap, ◌∙◌}
use Rattle.std.specs.Prelude.{Ok, Err}
use Rattle.rules.specs.declared.entry.Entry.{Entry}
use Rattle.rules.specs.Reader.{Sight, turned_away, missing, shown}
use Rattle.wetherstep.specs.Face.{packed}
use Rattle.wetherstep_record.specs.Face.{no_record, ledger_number, record_word, masses_of, masses_after}

module _ {x : Sight} {n : ℕ} (e : x ≡ turned_away n) where
  pub record_word-refused : {w m : ℕ} → m ≡ n → w ≡ packed m 0 0 0 0 → w ≡ record_word x
  unfolding record_word
  record_word-refused q p = p ∙ ap (λ (m : ℕ). packed m 0 0 0 0) q ∙ ap record_word (sym e)

  pub masses_after-refused : (ms : List ℕ) → masses_after x ms ≡ ms
  unfolding masses_after
  masses_after-refused ms = ap (λ (x : Sight). masses_after x ms) e

module _ {x : Sight} (e : x ≡ missing) where
  pub record_word-missing : {w : ℕ} → w ≡ packed 0 0 no_record 0 0 → w ≡ record_word x
  unfolding record_word
  record_word-missing p = p ∙ ap record_word (sym e)

  pub masses_after-missing : (ms : List ℕ) → masses_after x ms ≡ ms
  unfolding masses_after
  masses_after-missing ms = ap (λ (x : Sight). masses_after x ms) e

module _ {x : Sight} {k : ℕ} (e : x ≡ shown (Err k)) where
  pub record_word_aside : {w : ℕ} → w ≡ packed 0 k 0 0 0 → w ≡ record_word x
  unfolding record_word
  record_word_aside p = p ∙ ap record_word (sym e)

  pub masses_after_aside : (ms : List ℕ) → masses_after x ms ≡ ms
  unfolding masses_after
  masses_after_aside ms = ap (λ (x : Sight). masses_after x ms) e

module _ {x : Sight} {f : Entry} (e : x ≡ shown (Ok f)) where
  pub record_word-counted : {w d : ℕ} → d ≡ ledger_number f.destination → w ≡ packed 0 0 f.method d 0
      → w ≡ record_word x
  unfolding record_word
  record_word-counted q p = p ∙ ap (λ (d : ℕ). packed 0 0 f.method d 0) q ∙ ap record_word (sym e)

  pub masses_after-counted : (ms : List ℕ) → masses_after x ms ≡ masses_of f
  unfolding masses_after
  masses_after-counted ms = ap (λ (x : Sight). masses_after x ms) e
