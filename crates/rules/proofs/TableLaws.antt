-- A table of lines shows which unit and period stands among them. Assumes nothing.
use Rattle.std.proofs.Common.{◌≡◌, ℕ, ◌+◌, ◌-◌, ◌*◌, ◌/◌, ◌%◌, ◌<◌, ◌≤◌, true, false, leb, List, [], ◌∷◌, ◌++◌, length, get_or, drop, replicate, sym, refl, ap, ◌∙◌, subst, ap₂, append_assoc, append-nil, arith, length-take, ne_eqb, le-leb, leb-true, Option, Some, None}
use mathlib.Core.Bool.{false≢true}
use lib.ListN.{length-replicate, get_or-replicate, get_or-eq_default}
use Rattle.choice.specs.Tests.{◌also◌}
use Rattle.choice.proofs.Splitting.{if_test, if_lt}
use Rattle.choice.proofs.TestsLaws.{also_t, also_l, also_r, either_t, either_f, choose_t, choose_f, if_choose}
use Rattle.rules.specs.declared.book.Head.{Head}
use Rattle.rules.specs.Bytes.{line, lines, lines_in}
use Rattle.rules.specs.Fields.{kind, unit_number, period}
use Rattle.rules.specs.Book.{unit_lines}
use Rattle.rules.specs.Repeat.{is_of, stands}
use Rattle.rules.specs.Place.{place}
use Rattle.rules.specs.Listing.{number_at, Rising}
use Rattle.rules.specs.Table.{row_words, has_bit, bit_of, with_mark_at, noted, noted_all, is_table, noting, Known}
use Rattle.rules.specs.Marks.{bit_at, marked}
use Rattle.rules.proofs.BytesLaws.{lines_snoc}
use Rattle.rules.proofs.ListingLaws.{place_mid, place-number}
use Rattle.rules.proofs.BitLaws.{bit_at-zero, length-with_mark, marked-same, marked_other}
use Rattle.rules.proofs.RowLaws.{bit_of-lt, bit_of_inj, row_there}
use Rattle.rules.proofs.RepeatLaws.{Is, is_of_is, is_is_of, stands_snoc}

-- ---- what is a table
pub record Roomy (units t : List ℕ) : Type 0 where
  pub some : 1 ≤ length t
  pub rows : row_words * (length units / 32) ≤ length t

pub roomy : (units t : List ℕ) → is_table units t ≡ true → Roomy units t
unfolding is_table
roomy units t h = record { some = leb-true _ _ (also_l _ _ h); rows = leb-true _ _ (also_r _ _ h) }

pub is_table-length : (units s t : List ℕ) → length s ≡ length t → is_table units s ≡ is_table units t
unfolding is_table
is_table-length units s t e i = leb 1 (e i) also leb (row_words * (length units / 32)) (e i)

-- ---- what a table shows: of each unit line and period, whether a record of them stands among the lines
pub record Shows (ls : List (List ℕ)) (units t : List ℕ) : Type 0 where
  pub rows : row_words * (length units / 32) ≤ length t
  pub shows : (k w j : ℕ) → has_bit k w ≡ true → j < length units / 32
      → marked t j (bit_of k w) ≡ stands k (number_at j units) w ls

pub length-noted : (l units t : List ℕ) → length (noted l units t) ≡ length t
unfolding noted with_mark_at
length-noted l units t =
    if_choose (λ (x : List ℕ). length x ≡ length t) (has_bit (kind l) (period l))
    (λ has. go (place (unit_number l) 0 (lines_in units))) (λ none. refl)
  where
    go : (r : Option ℕ) → length (with_mark_at r (bit_of (kind l) (period l)) t) ≡ length t
    go (Some j) = length-with_mark t j (bit_of (kind l) (period l))
    go None = refl

module _ (units : List ℕ) (rising : Rising units) where
  module _ (l t : List ℕ) (ls : List (List ℕ)) (so_far : Shows ls units t) where
    module _ (k w j : ℕ) (has : has_bit k w ≡ true) (there : j < length units / 32) where
      -- The record is of this kind, unit and period: its bit is set.
      set_now : Is k (number_at j units) w l → marked (noted l units t) j (bit_of k w) ≡ true
      unfolding noted with_mark_at
      set_now is =
          let at : Some j ≡ place (unit_number l) 0 (lines_in units) =
          place_mid units (unit_number l) j (number_at j units) rising there refl (sym is.unit_is) in
          let has-l : has_bit (kind l) (period l) ≡ true = ap₂ has_bit is.kind_is is.period_is ∙ has in
          ap (λ (x : List ℕ). marked x j (bit_of k w))
          (choose_t _ has-l (ap₂ (λ (r : Option ℕ) (c : ℕ). with_mark_at r c t) (sym at) (ap₂ bit_of is.kind_is is.period_is)))
          ∙ marked-same t j (bit_of k w) (row_there _ _ j (bit_of k w) so_far.rows there (bit_of-lt k w has))

      -- It isn't: the bit is as it was.
      kept : (Is k (number_at j units) w l → ⊥) → marked (noted l units t) j (bit_of k w) ≡ marked t j (bit_of k w)
      unfolding noted with_mark_at
      kept no-is =
          if_choose (λ (x : List ℕ). marked x j (bit_of k w) ≡ marked t j (bit_of k w)) (has_bit (kind l) (period l))
          (λ has-l. go has-l (place (unit_number l) 0 (lines_in units)) refl) (λ none. refl)
        where
          go : has_bit (kind l) (period l) ≡ true → (r : Option ℕ) → r ≡ place (unit_number l) 0 (lines_in units)
              → marked (with_mark_at r (bit_of (kind l) (period l)) t) j (bit_of k w) ≡ marked t j (bit_of k w)
          go has-l None e = refl
          go has-l (Some p) e =
              let mine = bit_of (kind l) (period l) in
              marked_other t p mine j (bit_of k w) (bit_of-lt _ _ has-l) (bit_of-lt k w has) (λ same_row same_bit.
              let same = bit_of_inj k w (kind l) (period l) has has-l (sym same_bit) in
              no-is (record {
                kind_is = same.kind_is;
                unit_is = sym (place-number (unit_number l) units e refl) ∙ ap (λ (i : ℕ). number_at i units) (sym same_row);
                period_is = same.period_is;
              }))

    shows_noted : Shows (ls ++ (l ∷ [])) units (noted l units t)
    shows_noted = record {
      rows = subst (λ (n : ℕ). row_words * (length units / 32) ≤ n) (sym (length-noted l units t)) so_far.rows;
      shows = λ k w j has there.
          if_test (is_of k (number_at j units) w l)
          (λ h. set_now k w j has there (is_is_of k (number_at j units) w l h)
          ∙ sym (stands_snoc k (number_at j units) w ls l ∙ either_t _ h))
          (λ h. kept k w j has there (λ is. false≢true (sym h ∙ is_of_is k (number_at j units) w l is))
          ∙ so_far.shows k w j has there
          ∙ sym (stands_snoc k (number_at j units) w ls l ∙ either_f h refl));
    }

  shows_noted_all : (ls ms : List (List ℕ)) (t : List ℕ) → Shows ms units t → Shows (ms ++ ls) units (noted_all ls units t)
  unfolding noted_all
  shows_noted_all [] ms t so_far = subst (λ (x : List (List ℕ)). Shows x units t) (sym (append-nil ms)) so_far
  shows_noted_all (l ∷ ls) ms t so_far =
      subst (λ (x : List (List ℕ)). Shows x units (noted_all ls units (noted l units t))) (append_assoc ms (l ∷ []) ls)
      (shows_noted_all ls (ms ++ (l ∷ [])) (noted l units t) (shows_noted l t ms so_far))

  -- A blank table shows no line.
  marked-blank : (n j c : ℕ) → marked (replicate n 0) j c ≡ false
  unfolding marked
  marked-blank n j c =
      ne_eqb (bit_at (get_or (replicate n 0) (row_words * j + c / 64) 0) (c % 64)) 1
      (λ e. omega (arith, ap (λ (v : ℕ). bit_at v (c % 64)) (blank (row_words * j + c / 64)), bit_at-zero (c % 64)))
    where
      blank : (w : ℕ) → ◌≡◌ {A = ℕ} (get_or (replicate n 0) w 0) 0
      blank w =
          if_lt w n
          (λ h. get_or-replicate n w 0 0 h)
          (λ h. get_or-eq_default (replicate n 0) 0 (omega (arith, length-replicate {A = ℕ} n 0)))

  shows_blank : (n : ℕ) → row_words * (length units / 32) ≤ n → Shows [] units (replicate n 0)
  unfolding stands
  shows_blank n h = record {
    rows = subst (λ (m : ℕ). row_words * (length units / 32) ≤ m) (sym (length-replicate n 0)) h;
    shows = λ k w j has there. marked-blank n j (bit_of k w);
  }

  pub shows_known : (ls : List (List ℕ)) (t : List ℕ) → is_table units t ≡ true → Known ls units t → Shows ls units t
  shows_known ls t table so_far =
      subst (Shows ls units) (sym (so_far.known table))
      (shows_noted_all ls [] (replicate (length t) 0) (shows_blank (length t) (roomy units t table).rows))

-- ---- one line more
noted_all_snoc : (ls : List (List ℕ)) (l units t : List ℕ) → noted_all (ls ++ (l ∷ [])) units t ≡ noted l units (noted_all ls units t)
unfolding noted_all
noted_all_snoc [] l units t = refl
noted_all_snoc (e ∷ ls) l units t = noted_all_snoc ls l units (noted e units t)

pub noted_all_next : {t' l : List ℕ} (s units t : List ℕ) (i : ℕ) → l ≡ line i s
    → t' ≡ noted l units (noted_all (lines i s) units t) → t' ≡ noted_all (lines (i + 1) s) units t
noted_all_next s units t i e f =
    f
    ∙ ap (λ (x : List ℕ). noted x units (noted_all (lines i s) units t)) e
    ∙ sym (noted_all_snoc (lines i s) (line i s) units t)
    ∙ ap (λ (ls : List (List ℕ)). noted_all ls units t) (sym (lines_snoc i s))

pub length-noted_all : (ls : List (List ℕ)) (units t : List ℕ) → length (noted_all ls units t) ≡ length t
unfolding noted_all
length-noted_all [] units t = refl
length-noted_all (l ∷ ls) units t = length-noted_all ls units (noted l units t) ∙ length-noted l units t

module _ (l units t : List ℕ) where
  pub noting-table : is_table units t ≡ true → noting l units t ≡ noted l units t
  unfolding noting
  noting-table e = choose_t _ e refl

  pub noting-none : is_table units t ≡ false → noting l units t ≡ t
  unfolding noting
  noting-none n = choose_f _ n refl

  pub length-noting : length (noting l units t) ≡ length t
  unfolding noting
  length-noting =
      if_choose (λ (x : List ℕ). length x ≡ length t) (is_table units t) (λ h. length-noted l units t) (λ h. refl)

-- The table of the first i lines, once line i is noted, is that of one more.
pub known_next : (s units t : List ℕ) (i : ℕ) → Known (lines i s) units t
    → Known (lines (i + 1) s) units (noting (line i s) units t)
known_next s units t i so_far = record {
  known = λ e.
      let same = length-noting (line i s) units t in
      let table : is_table units t ≡ true = sym (is_table-length units (noting (line i s) units t) t same) ∙ e in
      noting-table (line i s) units t table
      ∙ noted_all_next s units (replicate (length t) 0) i refl (ap (noted (line i s) units) (so_far.known table))
      ∙ ap (λ (n : ℕ). noted_all (lines (i + 1) s) units (replicate n 0)) (sym same);
}

-- The same, at a place j and a table that are said to be those.
pub known-after : {t' : List ℕ} {j k : ℕ} (s units t : List ℕ) (i : ℕ) → j ≡ i + 1 → i ≡ k
    → t' ≡ noting (line k s) units t → Known (lines i s) units t → Known (lines j s) units t'
known-after {t'} {j} s units t i next same told so_far =
    subst (λ (m : ℕ). Known (lines m s) units t') (sym next)
    (subst (Known (lines (i + 1) s) units)
    (sym (told ∙ ap (λ (m : ℕ). noting (line m s) units t) (sym same)))
    (known_next s units t i so_far))

pub known-noted_all : {t : List ℕ} (ls : List (List ℕ)) (units : List ℕ) (n : ℕ) → t ≡ noted_all ls units (replicate n 0)
    → Known ls units t
known-noted_all ls units n f = record {
  known = λ e.
      f ∙ ap (λ (m : ℕ). noted_all ls units (replicate m 0))
      (sym (ap length f ∙ length-noted_all ls units (replicate n 0) ∙ length-replicate n 0));
}

pub known-blank : (s units : List ℕ) (n : ℕ) → Known (lines 0 s) units (replicate n 0)
unfolding lines noted_all
known-blank s units n = known-noted_all (lines 0 s) units n refl

pub known-none : (ls : List (List ℕ)) (units t : List ℕ) → length t ≡ 0 → Known ls units t
known-none ls units t none = record {
  known = λ e. let some = (roomy units t e).some in absurd (omega arith);
}

-- ---- blank words, as many as are wanted
pub is_table-blank : (units : List ℕ) (n m : ℕ) → length units / 32 ≤ m → row_words * m ≤ n → 1 ≤ n
    → is_table units (replicate n 0) ≡ true
unfolding is_table
is_table-blank units n m few room some =
    let size : length (replicate {A = ℕ} n 0) ≡ n = length-replicate n 0 in
    also_t (le-leb 1 _ (subst (λ (k : ℕ). 1 ≤ k) (sym size) some))
    (le-leb (row_words * (length units / 32)) _ (subst (λ (k : ℕ). row_words * (length units / 32) ≤ k) (sym size) (omega arith)))

pub replicate_length : (n : ℕ) → replicate {A = ℕ} n 0 ≡ replicate (length (replicate {A = ℕ} n 0)) 0
replicate_length n = ap (λ (m : ℕ). replicate {A = ℕ} m 0) (sym (length-replicate n 0))

pub unit_lines-length-le : (h : Head) (s : List ℕ) → length (unit_lines h s) ≤ h.fuels - h.units
unit_lines-length-le h s = omega (arith, length-take (h.fuels - h.units) (drop h.units s))
