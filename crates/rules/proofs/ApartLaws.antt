-- Of two books that differ in the set of warming values alone: if one is accepted and the other names a set, so is the
-- other, with the same head but for the set, and what is seen of each record is the same in both. Assumes nothing.
use Rattle.std.proofs.Common.{◌≡◌, ℕ, zero, suc, ◌+◌, ◌-◌, ◌*◌, ◌/◌, ◌%◌, ◌<◌, ◌≤◌, min, true, eqb, ltb, leb, List, [], ◌∷◌, ◌++◌, length, drop, sym, refl, ap, ◌∙◌, ap₂, arith, lit≤, length-drop, length-take, ext_get_or, le-ltb, le-leb}
use Rattle.choice.specs.Tests.{◌also◌, choose}
use Rattle.choice.proofs.TestsLaws.{also_t, also_l, also_r, choose_f}
use Rattle.choice.proofs.Splitting.{if_lt}
use Rattle.rules.specs.declared.book.Head.{Head}
use Rattle.rules.specs.Outcome.{Outcome}
use Rattle.rules.specs.Bytes.{byte, word, part, lines, lines_in}
use Rattle.rules.specs.Fields.{unit_start, fuel_start, year, warming_set_at, warming_set}
use Rattle.rules.specs.Book.{longest_book, length_ok, starts_ok, trailer_ok, unit_ok, fuel_ok, lines_sound, trailer, head_of, unit_lines, fuel_lines, Answer, accepted, opened, SetApart}
use Rattle.rules.specs.Record.{outcome_after, outcome_at}
use Rattle.rules.specs.Reader.{numbered, shown, missing, sight_by, sight_at}
use Rattle.rules.proofs.BytesLaws.{word_same, byte-part, lines-suc}
use Rattle.rules.proofs.NumberLaws.{opened-accepted}
use Rattle.rules.proofs.BookLaws.{accepted_facts}

-- The same head, but with the set w.
abbrev pub naming : ℕ → Head → Head
naming w h = record { n = h.n; units = h.units; fuels = h.fuels; year = h.year; length = h.length; warming = w }

length_part : (a e : ℕ) (s : List ℕ) → length (part a e s) ≡ min (e - a) (length s - a)
length_part a e s = length-take (e - a) (drop a s) ∙ ap (min (e - a)) (length-drop a s)

module _ {s s' : List ℕ} (apart : SetApart s s') where
  -- ---- the lines before the trailer
  part_apart : (a e : ℕ) → e ≤ length s - 32 → part a e s' ≡ part a e s
  part_apart a e l =
      ext_get_or 0 (part a e s') (part a e s)
      (length_part a e s' ∙ ap (λ (n : ℕ). min (e - a) (n - a)) (sym apart.lengths) ∙ sym (length_part a e s))
      (λ i m.
      let within : a + i < e = omega (arith, length_part a e s') in
      byte-part a e s' i within ∙ sym (apart.others (a + i) (λ q. omega arith)) ∙ sym (byte-part a e s i within))

  lines-apart : (n : ℕ) → 32 * n ≤ length s - 32 → lines n s' ≡ lines n s
  unfolding lines
  lines-apart zero l = refl
  lines-apart (suc n) l =
      lines-suc n s'
      ∙ ap₂ (λ (ls : List (List ℕ)) (x : List ℕ). ls ++ (x ∷ []))
      (lines-apart n (omega arith)) (part_apart (32 * n) (32 * n + 32) (omega arith))
      ∙ sym (lines-suc n s)

  -- ---- the trailer
  module _ (long : 32 ≤ length s) where
    byte-trailer : (t : List ℕ) → length s ≡ length t → (i : ℕ) → i < 32 → byte (trailer t) i ≡ byte t (length s - 32 + i)
    byte-trailer t e i l =
        byte-part (length t - 32) (length t) t i (omega arith) ∙ ap (λ (n : ℕ). byte t (n - 32 + i)) (sym e)

    byte-apart : (i : ℕ) → i < 32 → (i ≡ warming_set_at → ⊥) → byte (trailer s') i ≡ byte (trailer s) i
    byte-apart i l other =
        byte-trailer s' apart.lengths i l
        ∙ sym (apart.others (length s - 32 + i) (λ q. other (omega arith)))
        ∙ sym (byte-trailer s refl i l)

    -- A field that ends before the set, or begins behind it.
    word-apart : (k n : ℕ) → k + n ≤ 32 → (k ≤ warming_set_at → k + n ≤ warming_set_at) → word (trailer s') k n ≡ word (trailer s) k n
    word-apart k n l other = word_same (trailer s') (trailer s) k n (λ i h m.
        byte-apart i (omega arith) (λ q. let ends = other (omega arith) in omega arith))

    units-apart : unit_start (trailer s') ≡ unit_start (trailer s)
    units-apart = word-apart 8 4 (lit≤ tt) (λ l. lit≤ tt)

    fuels_apart : fuel_start (trailer s') ≡ fuel_start (trailer s)
    fuels_apart = word-apart 12 4 (lit≤ tt) (λ l. lit≤ tt)

    year-apart : year (trailer s') ≡ year (trailer s)
    year-apart = word-apart 16 2 (lit≤ tt) (λ l. lit≤ tt)

    head_of-apart : head_of s' ≡ naming (warming_set (trailer s')) (head_of s)
    unfolding head_of
    head_of-apart i = record {
      n = units-apart i / 32;
      units = units-apart i;
      fuels = fuels_apart i;
      year = year-apart i;
      length = sym apart.lengths i;
      warming = warming_set (trailer s');
    }

    trailer_ok-apart : trailer_ok (trailer s) (length s - 32) ≡ true → warming_set (trailer s') ≤ 1
        → trailer_ok (trailer s') (length s' - 32) ≡ true
    unfolding trailer_ok
    trailer_ok-apart right set =
        let signed = word-apart 0 4 (lit≤ tt) (λ l. lit≤ tt) in
        let version = word-apart 4 2 (lit≤ tt) (λ l. lit≤ tt) in
        let gap = word-apart 6 2 (lit≤ tt) (λ l. lit≤ tt) in
        let year-gap = word-apart 18 2 (lit≤ tt) (λ l. lit≤ tt) in
        let blank = word-apart 21 11 (lit≤ tt) (λ l. omega arith) in
        also_t
        (also_t
        ((λ i.
        eqb (signed i) 0x42435453 also eqb (version i) 1 also eqb (gap i) 0
        also starts_ok (units-apart i) (fuels_apart i) (sym apart.lengths i - 32)
        also leb 2000 (year-apart i) also leb (year-apart i) 2099 also eqb (year-gap i) 0)
        ∙ also_l _ _ (also_l _ _ right))
        (le-leb _ _ set))
        ((λ i. eqb (blank i) 0) ∙ also_r _ _ right)

  -- ---- the book
  module _ {h : Head} (e : opened s ≡ accepted h) where
    abbrev set' : ℕ
    set' = warming_set (trailer s')

    pub opened-apart : set' ≤ 1 → opened s' ≡ accepted (naming set' h)
    unfolding length_ok head_of
    opened-apart named =
        let known = accepted_facts s h e in
        let passed = (opened-accepted s h).0 e in
        let head : head_of s' ≡ naming set' h =
        head_of-apart known.least ∙ ap (naming set') (sym passed.4) in
        let units = part_apart h.units h.fuels (omega arith) in
        let fuels = part_apart h.fuels (h.length - 32) (omega arith) in
        (opened-accepted s' (naming set' h)).1 (
          (λ i. let n = sym apart.lengths i in leb 32 n also leb n longest_book also eqb (n % 32) 0) ∙ passed.0,
          trailer_ok-apart known.least passed.1 named,
          ap (λ (g : Head). lines_sound unit_ok (unit_lines g s')) head ∙ ap (lines_sound unit_ok) units ∙ known.units_sound,
          ap (λ (g : Head). lines_sound fuel_ok (fuel_lines g s')) head ∙ ap (lines_sound fuel_ok) fuels ∙ known.fuels_sound,
          sym head,
        )

    pub outcome_at-apart : (w i : ℕ) → i < h.n → outcome_at (naming w h) s' i ≡ outcome_at h s i
    unfolding outcome_at
    outcome_at-apart w i l =
        let known = accepted_facts s h e in
        let before = lines-apart i (omega arith) in
        let record-line = part_apart (32 * i) (32 * i + 32) (omega arith) in
        let units = part_apart h.units h.fuels (omega arith) in
        let fuels = part_apart h.fuels (h.length - 32) (omega arith) in
        λ j. outcome_after (before j) (record-line j) (lines_in (units j)) (lines_in (fuels j))

    pub sight_at-apart : set' ≤ 1 → (i : ℕ) → sight_at s' i ≡ sight_at s i
    unfolding sight_at sight_by
    sight_at-apart named i =
        ap (λ (a : Answer). sight_by a s' i) (opened-apart named)
        ∙ if_lt i h.n
        (λ l. ap (λ (o : Outcome). choose (ltb i h.n) (shown (numbered o)) missing) (outcome_at-apart set' i l))
        (λ l. choose_f _ (le-ltb i h.n l) (sym (choose_f _ (le-ltb i h.n l) refl)))
        ∙ sym (ap (λ (a : Answer). sight_by a s i) e)
