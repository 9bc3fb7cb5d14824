-- The line of a record, one case at a time, and how long it is at most. Assumes nothing.
use Prim.Native.Nat.{ℕ}
use mathlib.Core.List.{[], ◌++◌}
use mathlib.Core.Path.{◌≡◌, refl, ap, ◌∙◌}
use native.Mathlib.Omega.{arith}
use lib.Dec.{eqb}
use borrow.Author.Tests.{eq-eqb, ne_eqb}
use Rattle.std.specs.Prelude.{Ok, Err, Option, Some, None, Result}
use Rattle.choice.proofs.TestsLaws.{choose_t, choose_f}
use Rattle.rules.specs.declared.book.Fault.{Fault}
use Rattle.rules.specs.declared.entry.Destination.{Destination}
use Rattle.rules.specs.declared.entry.Destination.TheVariants.{Fossil, Biomass, Nowhere}
use Rattle.rules.specs.declared.entry.Entry.{Entry}
use Rattle.rules.specs.Book.{fault_number}
use Rattle.rules.specs.Reader.{Shown, Sight, turned_away, missing, shown, sight}
use Rattle.rules.proofs.ReaderLaws.{sight-refused, sight-missing, sight_record}
use Rattle.text.specs.Words.{ascii, newline, field}
use Rattle.text.specs.Report.{refused_text}
use Rattle.text.specs.Lines.{method_text, ledger_text, masses_text, outcome_text, line_text}
use Rattle.text.proofs.WordsLaws.{AtMost, append-le, choose-le, word-le, field-le, wider}
use Rattle.text.proofs.ReportLaws.{refused_text-le}

module _ (k m : ℕ) where
  pub method_text-fuel : (m ≡ 0 → ⊥) → method_text k m ≡ field (ascii " method ") m
  unfolding method_text
  method_text-fuel e = choose_f _ (ne_eqb m 0 e) refl

  pub method_text_anodes : m ≡ 0 → k ≡ 4 → method_text k m ≡ ascii " anodes"
  unfolding method_text
  method_text_anodes e used = choose_t _ (eq-eqb m 0 e) (choose_t _ (eq-eqb k 4 used) refl)

  pub method_text-hour : m ≡ 0 → (k ≡ 4 → ⊥) → method_text k m ≡ ascii " hour"
  unfolding method_text
  method_text-hour e other = choose_t _ (eq-eqb m 0 e) (choose_f _ (ne_eqb k 4 other) refl)

-- ---- what was seen
module _ (i k : ℕ) {r : Result (Option Shown) Fault} where
  pub line_text-refused : (x : Fault) → r ≡ Err x → line_text i k (sight r) ≡ refused_text (fault_number x) []
  unfolding line_text
  line_text-refused x e = ap (λ (s : Result (Option Shown) Fault). line_text i k (sight s)) e ∙ ap (line_text i k) (sight-refused x)

  pub line_text-missing : r ≡ Ok None → line_text i k (sight r) ≡ []
  unfolding line_text
  line_text-missing e = ap (λ (s : Result (Option Shown) Fault). line_text i k (sight s)) e ∙ ap (line_text i k) sight-missing

  pub line_text_record : (o : Shown) → r ≡ Ok (Some o)
      → line_text i k (sight r) ≡ field (ascii "record ") i ++ outcome_text k o ++ newline
  unfolding line_text
  line_text_record o e = ap (λ (s : Result (Option Shown) Fault). line_text i k (sight s)) e ∙ ap (line_text i k) (sight_record o)

-- ---- how long a line is at most
method_text-le : (k m : ℕ) → AtMost 28 (method_text k m)
unfolding method_text
method_text-le k m =
    choose-le (eqb m 0)
    (choose-le (eqb k 4) (wider (word-le (ascii " anodes")) (omega arith)) (wider (word-le (ascii " hour")) (omega arith)))
    (field-le (ascii " method ") m)

ledger_text-le : (d : Destination) → AtMost 8 (ledger_text d)
ledger_text-le Fossil = wider (word-le (ascii " fossil")) (omega arith)
ledger_text-le Biomass = word-le (ascii " biomass")
ledger_text-le Nowhere = wider (word-le (ascii " none")) (omega arith)

masses_text-le : (e : Entry) → AtMost 84 (masses_text e)
unfolding masses_text
masses_text-le e =
    append-le (append-le (field-le (ascii " co2-ug ") e.co2.0) (field-le (ascii " ch4-ng ") e.ch4.0))
    (field-le (ascii " n2o-ng ") e.n2o.0)

outcome_text-le : (k : ℕ) (o : Shown) → AtMost 120 (outcome_text k o)
unfolding outcome_text
outcome_text-le k (Err r) = wider (field-le (ascii " reason ") r) (omega arith)
outcome_text-le k (Ok e) =
    append-le (append-le (method_text-le k e.method) (ledger_text-le e.destination)) (masses_text-le e)

pub line_text-le : (i k : ℕ) (x : Sight) → AtMost 148 (line_text i k x)
unfolding line_text
line_text-le i k (turned_away n) = wider (refused_text-le n []) (omega arith)
line_text-le i k missing = wider (word-le []) (omega arith)
line_text-le i k (shown o) =
    append-le (append-le (field-le (ascii "record ") i) (outcome_text-le k o)) (word-le newline)
