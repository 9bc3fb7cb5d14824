-- A text goes line by line, and its first lines and those after them make it up. Assumes nothing.
use Prim.Native.Nat.{ℕ, zero, suc, ◌+◌, ◌-◌, ◌<◌, ◌≤◌, zero-le}
use borrow.Author.Rules.{rules}
use mathlib.Core.Bool.{true, false}
use mathlib.Core.List.{List, [], ◌∷◌, ◌++◌, append_assoc}
use mathlib.Core.Path.{◌≡◌, refl, sym, ap, ap₂, subst, ◌∙◌}
use native.Mathlib.Omega.{arith}
use lib.ListN.{length, get_or, take, drop, length-append, length-drop, take-append-drop}
use lib.Seq.{drop-nil, get_or-drop, take-append_seam}
use Rattle.std.proofs.Common.{Option, Some, None, option_map}
use Rattle.std.specs.Option.{unwrap_or}
use Rattle.std.specs.List.{slice_get}
use Rattle.std.proofs.lemmas.Option.{unwrap_or-slice_get}
use denote.Ref.{Bor}
use borrow.Author.Tests.{eq-eqb, ne_eqb}
use Rattle.choice.proofs.Splitting.{if_test, if_lt, if_eq}
use Rattle.choice.proofs.TestsLaws.{choose_t, choose_f}
use Rattle.roster.specs.Bytes.{span, front, rest}
use Rattle.roster.specs.Search.{has}
use Rattle.roster.specs.Lines.{newline, Split, led, split, lines_of, line_at, after, through}
use Rattle.roster.proofs.BytesLaws.{has→le, has→lt, rest-none, span-nil, span-suc, span-zero}

-- ---- a text by its first line
abbrev with_line : List ℕ → Split → Split
with_line l s = record { lines = l ∷ s.lines; unended = s.unended }

abbrev no_line : List ℕ → Split
no_line u = record { lines = []; unended = u }

split-newline : (x : ℕ) (u : List ℕ) → x ≡ newline → split (x ∷ u) ≡ with_line [] (split u)
unfolding split
split-newline x u e = choose_t _ (eq-eqb x newline e) refl

split-byte : (x : ℕ) (u : List ℕ) → (x ≡ newline → ⊥) → split (x ∷ u) ≡ led x (split u).lines (split u).unended
unfolding split
split-byte x u n = choose_f _ (ne_eqb x newline n) refl

-- The line of t up to its first newline, and any text u after it.
split-line : (t u : List ℕ) → span newline t < length t
    → split (take (suc (span newline t)) t ++ u) ≡ with_line (take (span newline t) t) (split u)
split-line [] u l = absurd (omega (arith, span-nil newline))
split-line (x ∷ t) u l =
    if_eq x newline
    (λ e. subst Line (sym (span-zero newline x t e)) (split-newline x u e))
    (λ n.
    let on = span-suc newline x t n in
    subst Line (sym on) (
    split-byte x (take (suc (span newline t)) t ++ u) n
    ∙ ap (λ (s : Split). led x s.lines s.unended) (split-line t u (omega arith))
    ∙ begun x (take (span newline t) t) (split u)))
  where
    Line : ℕ → Type 0
    Line n = split (take (suc n) (x ∷ t) ++ u) ≡ with_line (take n (x ∷ t)) (split u)

    begun : (x : ℕ) (l : List ℕ) (s : Split) → led x (l ∷ s.lines) s.unended ≡ with_line (x ∷ l) s
    begun x l s = unfold led in refl

pub split_ended : (t : List ℕ) → span newline t < length t
    → split t ≡ record { lines = front newline t ∷ lines_of (rest newline t); unended = (split (rest newline t)).unended }
unfolding front rest
split_ended t l =
    ap split (sym (take-append-drop (suc (span newline t)) t))
    ∙ split-line t (drop (suc (span newline t)) t) l

pub split-unended : (t : List ℕ) → length t ≤ span newline t → split t ≡ no_line t
unfolding split led
split-unended [] l = refl
split-unended (x ∷ t) l =
    if_eq x newline
    (λ e. absurd (omega (arith, span-zero newline x t e)))
    (λ n.
    split-byte x t n
    ∙ ap (λ (s : Split). led x s.lines s.unended)
    (split-unended t (omega (arith, span-suc newline x t n))))

pub lines_none : (t : List ℕ) → has newline t ≡ false → lines_of t ≡ []
lines_none t h = ap (λ (s : Split). s.lines) (split-unended t (has→le newline t h))

pub length-lines_of : (t : List ℕ) → length (lines_of t) ≤ length t
length-lines_of [] = unfold split in zero-le
length-lines_of (x ∷ t) =
    let rest = length-lines_of t in
    if_eq x newline
    (λ e. omega (arith, ap (λ (s : Split). length s.lines) (split-newline x t e)))
    (λ n.
    omega (arith, ap (λ (s : Split). length s.lines) (split-byte x t n), as-many x (lines_of t) (split t).unended))
  where
    as-many : (x : ℕ) (ls : List (List ℕ)) (u : List ℕ) → length (led x ls u).lines ≤ length ls
    as-many x [] u = unfold led in zero-le
    as-many x (l ∷ ls) u = unfold led in search rules

pub lines_first : {l u : List ℕ} (t : List ℕ) → has newline t ≡ true → l ≡ front newline t → u ≡ rest newline t
    → lines_of t ≡ l ∷ lines_of u
lines_first t h e f = rw (e, f) (ap (λ (s : Split). s.lines) (split_ended t (has→lt newline t h)))

-- ---- the first i lines, and what stands after them
-- Every line is ended.
abbrev pub Whole : List ℕ → Type 0
Whole t = (split t).unended ≡ []

lines_rest : (t : List ℕ) → lines_of (rest newline t) ≡ drop 1 (lines_of t)
lines_rest t =
    if_lt (span newline t) (length t)
    (λ l. sym (ap (λ (s : Split). drop 1 s.lines) (split_ended t l)))
    (λ l.
    ap lines_of (rest-none newline t l)
    ∙ none
    ∙ sym (ap (λ (s : Split). drop 1 s.lines) (split-unended t l)))
  where
    none : lines_of [] ≡ []
    none = unfold split in refl

pub lines_after : (i : ℕ) (t : List ℕ) → lines_of (after i t) ≡ drop i (lines_of t)
unfolding after
lines_after zero t = refl
lines_after (suc i) t =
    lines_after i (rest newline t)
    ∙ ap (drop i) (lines_rest t)
    ∙ beyond i (lines_of t)
  where
    beyond : (i : ℕ) (ls : List (List ℕ)) → drop i (drop 1 ls) ≡ drop (suc i) ls
    beyond i [] = drop-nil i
    beyond i (l ∷ ls) = refl

-- Past lines that are there, what is unended stays.
pub unended-after : (i : ℕ) (t : List ℕ) → i ≤ length (lines_of t) → (split (after i t)).unended ≡ (split t).unended
unfolding after
unended-after zero t l = refl
unended-after (suc i) t l =
    if_lt (span newline t) (length t)
    (λ h.
    let whole = split_ended t h in
    unended-after i (rest newline t) (omega (arith, ap (λ (s : Split). length s.lines) whole))
    ∙ sym (ap (λ (s : Split). s.unended) whole))
    (λ h.
    let none = ap (λ (s : Split). length s.lines) (split-unended t h) in
    absurd (omega arith))

pub after-suc : (i : ℕ) (t : List ℕ) → after (suc i) t ≡ rest newline (after i t)
unfolding after
after-suc zero t = refl
after-suc (suc i) t = after-suc i (rest newline t)

pub has-after : (i : ℕ) (t : List ℕ) → i < length (lines_of t) → has newline (after i t) ≡ true
has-after i t l =
    if_test (has newline (after i t))
    (λ h. h)
    (λ h.
    let none = ap (λ (s : Split). length s.lines) (split-unended (after i t) (has→le newline (after i t) h)) in
    absurd (omega (arith, ap length (lines_after i t), length-drop i (lines_of t))))

pub lines_some : (i : ℕ) (t : List ℕ) → has newline (after i t) ≡ true → i < length (lines_of t)
lines_some i t h =
    let some = ap (λ (s : Split). length s.lines) (split_ended (after i t) (has→lt newline (after i t) h)) in
    omega (arith, ap length (lines_after i t), length-drop i (lines_of t))

pub lines-through : (i : ℕ) (t : List ℕ) → i ≤ length (lines_of t) → lines_of (through i t) ≡ take i (lines_of t)
unfolding through
lines-through zero t l = unfold split in refl
lines-through (suc i) t l =
    if_lt (span newline t) (length t)
    (λ h.
    let whole = ap (λ (s : Split). s.lines) (split_ended t h) in
    ap (λ (s : Split). s.lines) (split-line t (through i (rest newline t)) h)
    ∙ ap (λ (ls : List (List ℕ)). take (span newline t) t ∷ ls)
    (lines-through i (rest newline t) (omega (arith, ap length whole)))
    ∙ first t (take i (lines_of (rest newline t)))
    ∙ sym (ap (take (suc i)) whole))
    (λ h.
    let none = ap (λ (s : Split). length s.lines) (split-unended t h) in
    absurd (omega arith))
  where
    first : (t : List ℕ) (ls : List (List ℕ)) → take (span newline t) t ∷ ls ≡ front newline t ∷ ls
    first t ls = unfold front in refl

-- The lines of a whole text and any text after it.
pub lines-append : (t u : List ℕ) → Whole t → lines_of (t ++ u) ≡ lines_of t ++ lines_of u
lines-append [] u w = unfold split in refl
lines-append (x ∷ t) u w =
    if_eq x newline
    (λ e.
    let here = split-newline x t e in
    ap (λ (s : Split). s.lines) (split-newline x (t ++ u) e)
    ∙ ap (λ (ls : List (List ℕ)). [] ∷ ls) (lines-append t u (sym (ap (λ (s : Split). s.unended) here) ∙ w))
    ∙ sym (ap (λ (s : Split). s.lines ++ lines_of u) here))
    (λ n.
    let here = split-byte x t n in
    let ended = sym (ap (λ (s : Split). s.unended) here) ∙ w in
    let led-whole = led-append x (lines_of t) (split t).unended (lines_of u) (split (t ++ u)).unended ended in
    ap (λ (s : Split). s.lines) (split-byte x (t ++ u) n)
    ∙ ap (λ (ls : List (List ℕ)). (led x ls (split (t ++ u)).unended).lines) (lines-append t u led-whole.0)
    ∙ led-whole.1
    ∙ sym (ap (λ (s : Split). s.lines ++ lines_of u) here))
  where
    led-append : (x : ℕ) (ls : List (List ℕ)) (v : List ℕ) (ms : List (List ℕ)) (w : List ℕ) → (led x ls v).unended ≡ []
        → (v ≡ []) × ((led x (ls ++ ms) w).lines ≡ (led x ls v).lines ++ ms)
    led-append x [] v ms w e = absurd (unfold led in (let some = ap length e in omega arith))
    led-append x (l ∷ ls) v ms w e = unfold led in (e, refl)

-- The first i lines and what stands after them make up the text.
pub through-after : (i : ℕ) (t : List ℕ) → through i t ++ after i t ≡ t
unfolding through after
through-after zero t = refl
through-after (suc i) t =
    append_assoc (take (suc (span newline t)) t) (through i (rest newline t)) (after i (rest newline t))
    ∙ ap (λ (u : List ℕ). take (suc (span newline t)) t ++ u) (through-after i (rest newline t))
    ∙ cut t
  where
    cut : (t : List ℕ) → take (suc (span newline t)) t ++ rest newline t ≡ t
    cut t = unfold rest in take-append-drop (suc (span newline t)) t

pub length-after : (i : ℕ) (t : List ℕ) → length (through i t) + length (after i t) ≡ length t
length-after i t = sym (length-append (through i t) (after i t)) ∙ ap length (through-after i t)

module _ {u : List ℕ} (i : ℕ) (t : List ℕ) (e : u ≡ after i t) where
  pub after-le : length u ≤ length t
  after-le = omega (arith, ap length e, length-after i t)

  pub through-take : take (length t - length u) t ≡ through i t
  through-take =
      let before : length t - length u ≡ length (through i t) = omega (arith, ap length e, length-after i t) in
      ap₂ take before (sym (through-after i t))
      ∙ take-append_seam (through i t) (after i t)

after-nil : (i : ℕ) → after i [] ≡ []
unfolding after
after-nil zero = refl
after-nil (suc i) =
    ap (after i) none ∙ after-nil i
  where
    none : rest newline [] ≡ []
    none = unfold rest in drop-nil (suc (span newline []))

-- What is left of a text, with n lines still to pass.
module _ {r : List ℕ} (n : ℕ) (t : List ℕ) (whole : after n t ≡ r) where
  pub after_next : {u : List ℕ} (m : ℕ) → n ≡ suc m → u ≡ rest newline t → after m u ≡ r
  unfolding after
  after_next m more e = rw (e, ← whole, more)

  pub after_end : n ≤ 0 → t ≡ r
  unfolding after
  after_end l =
      let none : 0 ≡ n = omega arith in
      ap (λ (k : ℕ). after k t) none ∙ whole

  pub after_unended : 0 < n → has newline t ≡ false → [] ≡ r
  unfolding after
  after_unended some h =
      let more : suc (n - 1) ≡ n = omega arith in
      sym (ap (after (n - 1)) (rest-none newline t (has→le newline t h)) ∙ after-nil (n - 1))
      ∙ ap (λ (k : ℕ). after k t) more
      ∙ whole

-- ---- line i
first : (i : ℕ) (t : List ℕ) → get_or (lines_of (after i t)) 0 [] ≡ get_or (lines_of t) i []
first i t =
    let there : i + 0 ≡ i = omega arith in
    ap (λ (ls : List (List ℕ)). get_or ls 0 []) (lines_after i t)
    ∙ get_or-drop i (lines_of t) 0 []
    ∙ ap (λ (j : ℕ). get_or (lines_of t) j []) there

module _ {u : List ℕ} (i : ℕ) (t : List ℕ) (e : u ≡ after i t) where
  pub line_at_ended : has newline u ≡ true → front newline u ≡ line_at i t
  unfolding line_at
  line_at_ended h =
      sym (ap (λ (s : Split). get_or s.lines 0 []) (split_ended u (has→lt newline u h)))
      ∙ ap (λ (v : List ℕ). get_or (lines_of v) 0 []) e
      ∙ first i t

  pub line_at-none : has newline u ≡ false → [] ≡ line_at i t
  unfolding line_at
  line_at-none h =
      sym (ap (λ (s : Split). get_or s.lines 0 []) (split-unended u (has→le newline u h)))
      ∙ ap (λ (v : List ℕ). get_or (lines_of v) 0 []) e
      ∙ first i t

pub line_at-nth : (i : ℕ) (t : List ℕ) (r : Option (Bor (List ℕ))) (d : Bor (List ℕ)) → d.now ≡ []
    → option_map (λ l. l.now) r ≡ slice_get (lines_of t) i → (unwrap_or r d).now ≡ line_at i t
unfolding line_at
line_at-nth i t r d none e = read r e ∙ unwrap_or-slice_get (lines_of t) i []
  where
    read : (r : Option (Bor (List ℕ))) {s : Option (List ℕ)} → option_map (λ l. l.now) r ≡ s
        → (unwrap_or r d).now ≡ unwrap_or s []
    read None e = rw (← e) none
    read (Some l) e = rw (← e)
