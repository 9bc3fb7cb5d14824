-- What the code does with a record and a table: where its period has no bit, where its unit isn't listed,
-- and where its bit is asked and set. Assumes nothing.
use Rattle.std.proofs.Common.{◌≡◌, ℕ, Bool, true, false, List, sym, refl, ap, ◌∙◌, ap₂, Option, Some, None}
use Rattle.choice.proofs.TestsLaws.{also_t, also_f, choose_t, choose_f}
use Rattle.rules.specs.Bytes.{lines_in}
use Rattle.rules.specs.Fields.{kind, unit_number, period}
use Rattle.rules.specs.Place.{place}
use Rattle.rules.specs.Table.{with_mark, has_bit, bit_of, with_mark_at, noted}
use Rattle.rules.specs.Marks.{marked, marked_at, was_noted}

module _ (l units t : List ℕ) where
  pub record Noted (was : Bool) (t' : List ℕ) : Type 0 where
    pub was_noted_then : was ≡ was_noted l units t
    pub now_noted : t' ≡ noted l units t

  pub noted-out : has_bit (kind l) (period l) ≡ false → Noted false t
  unfolding noted was_noted
  noted-out h = record { was_noted_then = sym (also_f _ h); now_noted = sym (choose_f _ h refl) }

  module _ {r : Option ℕ} {y : ℕ} (has : has_bit (kind l) (period l) ≡ true) (e : r ≡ place y 0 (lines_in units))
      (d : y ≡ unit_number l) where
    found : r ≡ place (unit_number l) 0 (lines_in units)
    found = e ∙ ap (λ (x : ℕ). place x 0 (lines_in units)) d

    pub noted_nothing : r ≡ None → Noted false t
    unfolding noted with_mark_at was_noted marked_at
    noted_nothing q = record {
      was_noted_then = sym (also_t has (ap (λ (x : Option ℕ). marked_at x (bit_of (kind l) (period l)) t) (sym found ∙ q)));
      now_noted = sym (choose_t _ has (ap (λ (x : Option ℕ). with_mark_at x (bit_of (kind l) (period l)) t) (sym found ∙ q)));
    }

    pub noted_at : {c j : ℕ} {b : Bool} {t' : List ℕ} → c ≡ bit_of (kind l) (period l) → r ≡ Some j → b ≡ marked t j c
        → t' ≡ with_mark t j c → Noted b t'
    unfolding noted with_mark_at was_noted marked_at
    noted_at p q was now = record {
      was_noted_then =
          was ∙ ap₂ (λ (x : Option ℕ) (v : ℕ). marked_at x v t) (sym q ∙ found) p ∙ sym (also_t has refl);
      now_noted =
          now ∙ ap₂ (λ (x : Option ℕ) (v : ℕ). with_mark_at x v t) (sym q ∙ found) p ∙ sym (choose_t _ has refl);
    }
