-- Which answer any bytes get as a book, and exactly when, by the tests alone: a number where its own
-- test fails and those before it pass, for no two tests give one number, and no other. Assumes nothing.
use Rattle.std.proofs.Common.{◌≡◌, ℕ, ◌-◌, ◌≤◌, Bool, true, false, T, eqb, ◌↔◌, List, length, sym, refl, ap, ◌∙◌, subst, arith, lit≤, eq-eqb}
use Rattle.choice.specs.Tests.{choose}
use Rattle.choice.proofs.TestsLaws.{choose_t, choose_f, choose-true, choose-false}
use Rattle.rules.specs.declared.book.Head.{Head}
use Rattle.rules.specs.Book.{length_ok, trailer_ok, unit_ok, fuel_ok, lines_sound, trailer, head_of, unit_lines, fuel_lines, Answer, refused, accepted, opened}

-- ---- answers are told apart
unlike : (m n : ℕ) → eqb m n ≡ false → refused m ≡ refused n → ⊥
unlike m n d e = let same : m ≡ n = cc in subst T (sym (eq-eqb m n same) ∙ d) tt

pub refused-accepted : (n : ℕ) (h : Head) → refused n ≡ accepted h → ⊥
refused-accepted n h e = let never : ◌≡◌ {A = ℕ} 0 1 = cc in absurd (omega arith)

accepted_inj : (g h : Head) → accepted g ≡ accepted h → g ≡ h
accepted_inj g h e = cc

-- ---- a test t that turns away with the number m, x being the answer to what passes it
module _ {x : Answer} {m : ℕ} where
  -- Another answer is the answer to what passes.
  pub passed : {y : Answer} (t : Bool) → choose t x (refused m) ≡ y → (refused m ≡ y → ⊥) → (t ≡ true) × (x ≡ y)
  passed true e other = (refl, sym (choose-true _ _) ∙ e)
  passed false e other = absurd (other (sym (choose-false _ _) ∙ e))

  -- The answer m tells that t failed, if what passes it isn't answered by m.
  failed : (t : Bool) → choose t x (refused m) ≡ refused m → (x ≡ refused m → ⊥) → t ≡ false
  failed true e later = absurd (later (sym (choose-true _ _) ∙ e))
  failed false e later = refl

  -- A number that is neither m nor the answer to what passes isn't given.
  never : {n : ℕ} (t : Bool) → (refused m ≡ refused n → ⊥) → (x ≡ refused n → ⊥)
      → choose t x (refused m) ≡ refused n → ⊥
  never true other later e = later (sym (choose-true _ _) ∙ e)
  never false other later e = other (sym (choose-false _ _) ∙ e)

-- ---- any bytes s
module _ (s : List ℕ) where
  -- No number comes after the last test.
  accepted_never : (n : ℕ) → accepted (head_of s) ≡ refused n → ⊥
  accepted_never n e = refused-accepted n (head_of s) (sym e)

  pub opened_20 : (opened s ≡ refused 20) ↔ (length_ok s ≡ false)
  unfolding opened
  opened_20 = (
    λ e. failed _ e
        (never _ (unlike 21 20 refl)
        (never _ (unlike 22 20 refl)
        (never _ (unlike 23 20 refl)
        (accepted_never 20)))),
    λ h. choose_f _ h refl,
  )

  pub opened_21 : (opened s ≡ refused 21)
      ↔ ((length_ok s ≡ true)
      × (trailer_ok (trailer s) (length s - 32) ≡ false))
  unfolding opened
  opened_21 = (
    λ e.
        let at_length = passed _ e (unlike 20 21 refl) in
        let at-trailer = failed _ at_length.1
        (never _ (unlike 22 21 refl)
        (never _ (unlike 23 21 refl)
        (accepted_never 21))) in
        (at_length.0, at-trailer),
    λ h. choose_t _ h.0 (choose_f _ h.1 refl),
  )

  pub opened_22 : (opened s ≡ refused 22)
      ↔ ((length_ok s ≡ true)
      × (trailer_ok (trailer s) (length s - 32) ≡ true)
      × (lines_sound unit_ok (unit_lines (head_of s) s) ≡ false))
  unfolding opened
  opened_22 = (
    λ e.
        let at_length = passed _ e (unlike 20 22 refl) in
        let at-trailer = passed _ at_length.1 (unlike 21 22 refl) in
        let at-units = failed _ at-trailer.1 (never _ (unlike 23 22 refl) (accepted_never 22)) in
        (at_length.0, at-trailer.0, at-units),
    λ h. choose_t _ h.0 (choose_t _ h.1 (choose_f _ h.2 refl)),
  )

  pub opened_23 : (opened s ≡ refused 23)
      ↔ ((length_ok s ≡ true)
      × (trailer_ok (trailer s) (length s - 32) ≡ true)
      × (lines_sound unit_ok (unit_lines (head_of s) s) ≡ true)
      × (lines_sound fuel_ok (fuel_lines (head_of s) s) ≡ false))
  unfolding opened
  opened_23 = (
    λ e.
        let at_length = passed _ e (unlike 20 23 refl) in
        let at-trailer = passed _ at_length.1 (unlike 21 23 refl) in
        let at-units = passed _ at-trailer.1 (unlike 22 23 refl) in
        let at-fuels = failed _ at-units.1 (accepted_never 23) in
        (at_length.0, at-trailer.0, at-units.0, at-fuels),
    λ h. choose_t _ h.0 (choose_t _ h.1 (choose_t _ h.2 (choose_f _ h.3 refl))),
  )

  pub opened-accepted : (h : Head) → (opened s ≡ accepted h)
      ↔ ((length_ok s ≡ true)
      × (trailer_ok (trailer s) (length s - 32) ≡ true)
      × (lines_sound unit_ok (unit_lines (head_of s) s) ≡ true)
      × (lines_sound fuel_ok (fuel_lines (head_of s) s) ≡ true)
      × (h ≡ head_of s))
  unfolding opened
  opened-accepted h = (
    λ e.
        let at_length = passed _ e (refused-accepted 20 h) in
        let at-trailer = passed _ at_length.1 (refused-accepted 21 h) in
        let at-units = passed _ at-trailer.1 (refused-accepted 22 h) in
        let at-fuels = passed _ at-units.1 (refused-accepted 23 h) in
        let same : h ≡ head_of s = accepted_inj h (head_of s) (sym at-fuels.1) in
        (at_length.0, at-trailer.0, at-units.0, at-fuels.0, same),
    λ q.
        let same = ap accepted (sym q.4) in
        choose_t _ q.0 (choose_t _ q.1 (choose_t _ q.2 (choose_t _ q.3 same))),
  )

-- ---- no other number
-- Where a test turns a book away with the number m, its number is m; else the rest decides.
refused_by : {x : Answer} {m n : ℕ} (t : Bool) → (20 ≤ m) × (m ≤ 23) → (x ≡ refused n → (20 ≤ n) × (n ≤ 23))
    → choose t x (refused m) ≡ refused n → (20 ≤ n) × (n ≤ 23)
refused_by true g rest e = rest (sym (choose-true _ _) ∙ e)
refused_by {m = m} {n = n} false g rest e =
    let number : refused m ≡ refused n = sym (choose-false _ _) ∙ e in
    let same : m ≡ n = cc in
    (omega arith, omega arith)

-- A book is refused with 20 to 23.
pub opened-number : (s : List ℕ) (n : ℕ) → opened s ≡ refused n → (20 ≤ n) × (n ≤ 23)
unfolding opened
opened-number s n e =
    refused_by (length_ok s) (lit≤ tt, lit≤ tt)
    (λ e₁. refused_by (trailer_ok (trailer s) (length s - 32)) (lit≤ tt, lit≤ tt)
    (λ e₂. refused_by (lines_sound unit_ok (unit_lines (head_of s) s)) (lit≤ tt, lit≤ tt)
    (λ e₃. refused_by (lines_sound fuel_ok (fuel_lines (head_of s) s)) (lit≤ tt, lit≤ tt)
    (λ e₄. absurd (accepted_never s n e₄)) e₃) e₂) e₁) e
