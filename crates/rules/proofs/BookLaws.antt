-- A trailer that is right, the answer by the first test that fails, and what is known of a book that is
-- accepted. Assumes nothing.
use Rattle.std.proofs.Common.{◌≡◌, ℕ, ◌+◌, ◌-◌, ◌*◌, ◌/◌, ◌%◌, ◌≤◌, true, false, eqb, List, length, sym, refl, ap, ◌∙◌, subst, arith, eqb-true, leb-true, Result, Ok, Err}
use Rattle.choice.specs.Tests.{choose}
use Rattle.choice.proofs.TestsLaws.{also_l, also_r, choose_t, choose_f, worked-out}
use Rattle.rules.specs.declared.book.Head.{Head}
use Rattle.rules.specs.declared.book.Fault.{Fault}
use Rattle.rules.specs.declared.book.Fault.TheVariants.{Length, Trailer, Units, Fuels}
use Rattle.rules.specs.Bytes.{part, line}
use Rattle.rules.specs.Fields.{unit_start, fuel_start, year, warming_set}
use Rattle.rules.specs.Book.{longest_book, length_ok, starts_ok, trailer_ok, unit_ok, fuel_ok, lines_sound, trailer, head_of, unit_lines, fuel_lines, Answer, refused, accepted, opened, answer, fault_number}
use Rattle.rules.proofs.NumberLaws.{opened-accepted}

-- ---- a right length and a right trailer
pub record RightLength (s : List ℕ) : Type 0 where
  pub least : 32 ≤ length s
  pub most : length s ≤ longest_book
  pub whole : length s % 32 ≡ 0

pub length_ok→right : (s : List ℕ) → length_ok s ≡ true → RightLength s
unfolding length_ok
length_ok→right s h =
    let range = also_l _ _ h in
    record {
      least = leb-true _ _ (also_l _ _ range);
      most = leb-true _ _ (also_r _ _ range);
      whole = eqb-true _ _ (also_r _ _ h);
    }

-- The trailer is the last line.
pub trailer-line : (s : List ℕ) → length_ok s ≡ true → line ((length s - 32) / 32) s ≡ trailer s
trailer-line s h =
    let right = length_ok→right s h in
    let start : 32 * ((length s - 32) / 32) ≡ length s - 32 = omega (arith, right.least, right.whole) in
    let end : 32 * ((length s - 32) / 32) + 32 ≡ length s = omega (arith, right.least, right.whole) in
    λ i. part (start i) (end i) s

pub record RightTrailer (t : List ℕ) (e : ℕ) : Type 0 where
  pub whole : unit_start t % 32 ≡ 0
  pub units_le : unit_start t ≤ fuel_start t
  pub fuels_le : fuel_start t ≤ e
  pub year_least : 2000 ≤ year t
  pub year_most : year t ≤ 2099

pub trailer_ok→right : (t : List ℕ) (e : ℕ) → trailer_ok t e ≡ true → RightTrailer t e
unfolding trailer_ok starts_ok
trailer_ok→right t e h =
    let to-2099 = also_l _ _ (also_l _ _ (also_l _ _ h)) in
    let from-2000 = also_l _ _ to-2099 in
    let starts = also_r _ _ (also_l _ _ from-2000) in
    let ordered = also_l _ _ starts in
    record {
      whole = eqb-true _ _ (also_l _ _ (also_l _ _ ordered));
      units_le = leb-true _ _ (also_r _ _ ordered);
      fuels_le = leb-true _ _ (also_r _ _ starts);
      year_least = leb-true _ _ (also_r _ _ from-2000);
      year_most = leb-true _ _ (also_r _ _ to-2099);
    }

-- ---- answers
-- What `open` gave, from the answer that it stands for.
gave : Answer → Result Head Fault
gave (refused n) =
    choose (eqb n 20) (Err Length)
    (choose (eqb n 21) (Err Trailer)
    (choose (eqb n 22) (Err Units)
    (Err Fuels)))
gave (accepted h) = Ok h

gave_answer : (o : Result Head Fault) → gave (answer o) ≡ o
unfolding gave answer
gave_answer (Err Length) = simp worked-out
gave_answer (Err Trailer) = simp worked-out
gave_answer (Err Units) = simp worked-out
gave_answer (Err Fuels) = simp worked-out
gave_answer (Ok h) = refl

pub answer_inj : (o p : Result Head Fault) → answer o ≡ answer p → o ≡ p
answer_inj o p e = sym (gave_answer o) ∙ ap gave e ∙ gave_answer p

-- The answer by the first test that fails.
pub opened-length : (s : List ℕ) → length_ok s ≡ false → answer (Err Length) ≡ opened s
unfolding opened answer
opened-length s h = sym (choose_f _ h refl)

pub opened-trailer : (s : List ℕ) → length_ok s ≡ true → trailer_ok (trailer s) (length s - 32) ≡ false
    → answer (Err Trailer) ≡ opened s
unfolding opened answer
opened-trailer s l h = sym (choose_t _ l (choose_f _ h refl))

-- Both starts were read from a right trailer, so that the lines decide.
pub record Headed (s : List ℕ) (units fuels : ℕ) : Type 0 where
  pub length_right : length_ok s ≡ true
  pub trailer_right : trailer_ok (trailer s) (length s - 32) ≡ true
  pub units_is : units ≡ unit_start (trailer s)
  pub fuels_is : fuels ≡ fuel_start (trailer s)

module _ {s : List ℕ} {units fuels : ℕ} (d : Headed s units fuels) where
  pub headed_starts : (units ≤ fuels) × (fuels ≤ length s - 32)
  headed_starts =
      let right = trailer_ok→right (trailer s) (length s - 32) d.trailer_right in
      omega (arith, d.units_is, d.fuels_is)

  units-told : lines_sound unit_ok (unit_lines (head_of s) s) ≡ lines_sound unit_ok (part units fuels s)
  unfolding head_of
  units-told = sym (λ i. lines_sound unit_ok (part (d.units_is i) (d.fuels_is i) s))

  fuels_told : lines_sound fuel_ok (fuel_lines (head_of s) s) ≡ lines_sound fuel_ok (part fuels (length s - 32) s)
  unfolding head_of
  fuels_told = sym (λ i. lines_sound fuel_ok (part (d.fuels_is i) (length s - 32) s))

  pub opened-units : lines_sound unit_ok (part units fuels s) ≡ false → answer (Err Units) ≡ opened s
  unfolding opened answer
  opened-units u = sym (choose_t _ d.length_right (choose_t _ d.trailer_right (choose_f _ (units-told ∙ u) refl)))

  module _ (u : lines_sound unit_ok (part units fuels s) ≡ true) where
    pub opened_fuels : lines_sound fuel_ok (part fuels (length s - 32) s) ≡ false → answer (Err Fuels) ≡ opened s
    unfolding opened answer
    opened_fuels f =
        sym (choose_t _ d.length_right (choose_t _ d.trailer_right
        (choose_t _ (units-told ∙ u) (choose_f _ (fuels_told ∙ f) refl))))

    pub opened-sound : (y w : ℕ) → lines_sound fuel_ok (part fuels (length s - 32) s) ≡ true → y ≡ year (trailer s)
        → w ≡ warming_set (trailer s)
        → answer (Ok (record { n = units / 32; units = units; fuels = fuels; year = y; length = length s; warming = w })) ≡ opened s
    unfolding opened answer head_of
    opened-sound y w f e v =
        (λ i. let at = d.units_is i in
        accepted (record { n = at / 32; units = at; fuels = d.fuels_is i; year = e i; length = length s; warming = v i }))
        ∙ sym (choose_t _ d.length_right (choose_t _ d.trailer_right
        (choose_t _ (units-told ∙ u) (choose_t _ (fuels_told ∙ f) refl))))

pub opened_open : {o : Result Head Fault} {h : Head} (s : List ℕ) → answer o ≡ opened s → o ≡ Ok h
    → opened s ≡ accepted h
unfolding answer
opened_open s e q = sym e ∙ ap answer q

pub opened_wrong : {o : Result Head Fault} {x : Fault} (s : List ℕ) → answer o ≡ opened s → o ≡ Err x
    → opened s ≡ refused (fault_number x)
unfolding answer
opened_wrong s e q = sym e ∙ ap answer q

-- ---- a book that is accepted
pub record Accepted (s : List ℕ) (h : Head) : Type 0 where
  pub least : 32 ≤ length s
  pub most : length s ≤ longest_book
  pub length_is : h.length ≡ length s
  pub n_is : h.units ≡ 32 * h.n
  pub units_le : h.units ≤ h.fuels
  pub fuels_le : h.fuels ≤ h.length - 32
  pub year_least : 2000 ≤ h.year
  pub year_most : h.year ≤ 2099
  pub units_sound : lines_sound unit_ok (unit_lines h s) ≡ true
  pub fuels_sound : lines_sound fuel_ok (fuel_lines h s) ≡ true

pub accepted_facts : (s : List ℕ) (h : Head) → opened s ≡ accepted h → Accepted s h
unfolding head_of
accepted_facts s h e =
    let passed = (opened-accepted s h).0 e in
    let right = length_ok→right s passed.0 in
    let told = trailer_ok→right (trailer s) (length s - 32) passed.1 in
    subst (Accepted s) (sym passed.4) (record {
      least = right.least;
      most = right.most;
      length_is = refl;
      n_is = omega arith;
      units_le = told.units_le;
      fuels_le = told.fuels_le;
      year_least = told.year_least;
      year_most = told.year_most;
      units_sound = passed.2;
      fuels_sound = passed.3;
    })
