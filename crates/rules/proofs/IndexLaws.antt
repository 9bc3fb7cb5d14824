-- A line's entry at the next place makes a column one line longer, and leaves every other column as it was. No
-- line's number is that of no line, so what stands among the numbers is a line's. Assumes nothing.
use Rattle.std.proofs.Common.{◌≡◌, ℕ, ◌+◌, ◌*◌, ◌/◌, ◌<◌, ◌≤◌, ltb, List, [], ◌∷◌, length, get_or, set, replicate, sym, refl, ap, ◌∙◌, subst, le_trans, le_of_eq, lt_of_le_of_lt, zero-add, arith, length-set, get_or-set_other, get_or-set_same, le-ltb, lt-ltb}
use lib.ListN.{length-replicate, get_or-replicate}
use lib.Seq.{set_out}
use Rattle.choice.specs.Tests.{choose}
use Rattle.choice.proofs.Splitting.{if_lt, if_eq}
use Rattle.choice.proofs.TestsLaws.{choose_t, choose_f, if_choose}
use Rattle.rules.specs.Bytes.{byte, line}
use Rattle.rules.specs.Fields.{number}
use Rattle.rules.specs.Record.{carbon_limit}
use Rattle.rules.specs.Index.{no_number, column_of, way_of, moist_below, large_flags, allowed_flags, volume_of, Column, UnitsNoted, FuelsNoted, Small}
use Rattle.rules.proofs.BytesLaws.{word-two-lt, byte-part-lt}

-- ---- what an index answers
module _ {v : List ℕ → ℕ} {s t : List ℕ} {o n j : ℕ} (column : Column v s o n t) (low : j < 64) where
  pub column_at : j < n → get_or t (o + j) 0 ≡ v (line j s)
  column_at there = column.entry j low ∙ choose_t no_number (lt-ltb j n there) refl

  pub column_past : n ≤ j → get_or t (o + j) 0 ≡ no_number
  column_past past = column.entry j low ∙ choose_f (v (line j s)) (le-ltb j n past) refl

  -- What bounds each line's entry, and that of no line, bounds them all.
  pub column_le : (y : ℕ) → no_number ≤ y → ((k : ℕ) → v (line k s) ≤ y) → get_or t (o + j) 0 ≤ y
  column_le y none each =
      le_trans
      (le_of_eq (column.entry j low))
      (if_choose (λ (x : ℕ). x ≤ y) (ltb j n) (λ there. each j) (λ past. none))

-- A number that stands in the column of the numbers is that of the line in its place.
pub column_found : {s t : List ℕ} {n j x : ℕ} → Column number s 0 n t → j < 64 → get_or t j 0 ≡ x → x < 65536
    → (j < n) × (number (line j s) ≡ x)
column_found {s} {t} {n} {j} {x} column low is_x small =
    let here : get_or t (0 + j) 0 ≡ x = ap (λ (p : ℕ). get_or t p 0) (zero-add j) ∙ is_x in
    if_lt j n
    (λ there. (there, sym (column_at column low there) ∙ here))
    (λ past. absurd (omega (arith, column_past column low past)))

-- ---- hints
pub small-blank : {hints : List ℕ} → hints ≡ replicate 1024 0 → Small hints
small-blank blank =
    subst Small (sym blank) (record { below = λ x h. omega (arith, get_or-replicate {A = ℕ} 1024 x 0 0 h) })

pub small-set : {hints : List ℕ} {v : ℕ} (p : ℕ) → Small hints → v < 64 → Small (set hints p v)
small-set {hints} {v} p small low = record {
  below = λ x h.
      if_eq x p
      (λ same. subst (λ (y : ℕ). get_or (set hints p v) y 0 < 64) (sym same) (written (omega arith)))
      (λ other. subst (λ (y : ℕ). y < 64) (sym (get_or-set_other hints p x v 0 other)) (small.below x h));
}
  where
    written : p < 1024 → get_or (set hints p v) p 0 < 64
    written h =
        if_lt p (length hints)
        (λ there. subst (λ (y : ℕ). y < 64) (sym (get_or-set_same hints p v 0 there)) low)
        (λ past. subst (λ (l : List ℕ). get_or l p 0 < 64) (sym (set_out hints p v past)) (small.below p h))

-- ---- a column with room for all of its entries
pub record Filled (v : List ℕ → ℕ) (s : List ℕ) (o n : ℕ) (t : List ℕ) : Type 0 where
  pub column : Column v s o n t
  pub room : o + 64 ≤ length t

filled_blank : (v : List ℕ → ℕ) (s : List ℕ) (o m : ℕ) → o + 64 ≤ m → Filled v s o 0 (replicate m no_number)
filled_blank v s o m h = record {
  column = record {
    entry = λ j low.
        get_or-replicate m (o + j) no_number 0 (omega arith)
        ∙ sym (choose_f _ (le-ltb j 0 (omega arith)) refl);
  };
  room = omega (arith, length-replicate m no_number);
}

module _ {v : List ℕ → ℕ} {s t : List ℕ} {o n : ℕ} (filled : Filled v s o n t) where
  -- A store elsewhere keeps it.
  filled_kept : (p x : ℕ) → ((j : ℕ) → j < 64 → o + j ≡ p → ⊥) → Filled v s o n (set t p x)
  filled_kept p x apart = record {
    column = record { entry = λ j low. get_or-set_other t p (o + j) x 0 (apart j low) ∙ filled.column.entry j low };
    room = subst (λ (m : ℕ). o + 64 ≤ m) (sym (length-set t p x)) filled.room;
  }

  -- The next line's entry makes it longer.
  filled_next : n < 64 → Filled v s o (n + 1) (set t (o + n) (v (line n s)))
  filled_next few = record {
    column = record { entry = λ j low. if_eq j n (λ same. here j same) (λ other. there j low other) };
    room = subst (λ (m : ℕ). o + 64 ≤ m) (sym (length-set t (o + n) (v (line n s)))) filled.room;
  }
    where
      here : (j : ℕ) → j ≡ n
          → get_or (set t (o + n) (v (line n s))) (o + j) 0 ≡ choose (ltb j (n + 1)) (v (line j s)) no_number
      here j same =
          ap (λ (k : ℕ). get_or (set t (o + n) (v (line n s))) (o + k) 0) same
          ∙ get_or-set_same t (o + n) (v (line n s)) 0 (omega (arith, filled.room))
          ∙ ap (λ (k : ℕ). v (line k s)) (sym same)
          ∙ sym (choose_t no_number (lt-ltb j (n + 1) (omega arith)) refl)

      as_before : (j : ℕ) → (j ≡ n → ⊥) → ltb j n ≡ ltb j (n + 1)
      as_before j other =
          if_lt j n
          (λ h. lt-ltb j n h ∙ sym (lt-ltb j (n + 1) (omega arith)))
          (λ h. le-ltb j n h ∙ sym (le-ltb j (n + 1) (omega arith)))

      there : (j : ℕ) → j < 64 → (j ≡ n → ⊥)
          → get_or (set t (o + n) (v (line n s))) (o + j) 0 ≡ choose (ltb j (n + 1)) (v (line j s)) no_number
      there j low other =
          get_or-set_other t (o + n) (o + j) (v (line n s)) 0 (λ e. other (omega arith))
          ∙ filled.column.entry j low
          ∙ ap (λ b. choose b (v (line j s)) no_number) (as_before j other)

-- ---- columns one after the other, from place o on, and a line's entries in them
pub data Columns (s : List ℕ) (n : ℕ) (t : List ℕ) : List (List ℕ → ℕ) → ℕ → Type 0 where
  none : {o : ℕ} → Columns s n t [] o
  more : {v : List ℕ → ℕ} {vs : List (List ℕ → ℕ)} {o : ℕ} → Filled v s o n t → Columns s n t vs (o + 64)
      → Columns s n t (v ∷ vs) o

abbrev entered : List (List ℕ → ℕ) → ℕ → List ℕ → ℕ → List ℕ → List ℕ
entered [] o l n t = t
entered (v ∷ vs) o l n t = entered vs (o + 64) l n (set t (o + n) (v l))

filled_entered : {v : List ℕ → ℕ} {s t : List ℕ} {o n : ℕ} (vs : List (List ℕ → ℕ)) (q j : ℕ) (l : List ℕ) → o + 64 ≤ q
    → Filled v s o n t → Filled v s o n (entered vs q l j t)
filled_entered [] q j l h filled = filled
filled_entered {v} {s} {t} {o} {n} (w ∷ vs) q j l h filled =
    filled_entered {t = set t (q + j) (w l)} vs (q + 64) j l (omega arith)
    (filled_kept filled (q + j) (w l) (λ i low e. omega arith))

columns-kept : {s t : List ℕ} {n o : ℕ} {vs : List (List ℕ → ℕ)} (p x : ℕ) → p < o → Columns s n t vs o
    → Columns s n (set t p x) vs o
columns-kept p x h none = none
columns-kept p x h (more filled rest) =
    more (filled_kept filled p x (λ i low e. omega arith)) (columns-kept p x (omega arith) rest)

columns_next : {s t : List ℕ} {n o : ℕ} (vs : List (List ℕ → ℕ)) → n < 64 → Columns s n t vs o
    → Columns s (n + 1) (entered vs o (line n s) n t) vs o
columns_next [] few none = none
columns_next {s} {t} {n} {o} (v ∷ vs) few (more filled rest) =
    more
    (filled_entered vs (o + 64) n (line n s) (omega arith) (filled_next filled few))
    (columns_next {t = set t (o + n) (v (line n s))} vs few (columns-kept (o + n) (v (line n s)) (omega arith) rest))

pub columns-blank : {t : List ℕ} (vs : List (List ℕ → ℕ)) (s : List ℕ) (o m : ℕ) → o + 64 * length vs ≤ m
    → t ≡ replicate m no_number → Columns s 0 t vs o
columns-blank {t} vs s o m room blank = subst (λ (x : List ℕ). Columns s 0 x vs o) (sym blank) (all vs o room)
  where
    all : (vs : List (List ℕ → ℕ)) (o : ℕ) → o + 64 * length vs ≤ m → Columns s 0 (replicate m no_number) vs o
    all [] o h = none
    all (v ∷ vs) o h = more (filled_blank v s o m (omega arith)) (all vs (o + 64) (omega arith))

-- ---- those of the units and those of the fuels
abbrev pub unit_columns : List (List ℕ → ℕ)
unit_columns = number ∷ column_of ∷ way_of ∷ moist_below ∷ []

abbrev pub fuel_columns : List (List ℕ → ℕ)
fuel_columns = number ∷ large_flags ∷ allowed_flags ∷ carbon_limit ∷ volume_of ∷ []

-- The entries of the line l, one column after the other as the code writes them.
pub unit_columns_next : {s t l : List ℕ} {n x p w m : ℕ} → n < 64 → Columns s n t unit_columns 0 → l ≡ line n s
    → x ≡ number l → p ≡ column_of l → w ≡ way_of l → m ≡ moist_below l
    → Columns s (n + 1) (set (set (set (set t n x) (64 + n) p) (128 + n) w) (192 + n) m) unit_columns 0
unit_columns_next {s} {t} {n = n} few columns line_is x-is p-is w-is m-is =
    subst (λ (x : List ℕ). Columns s (n + 1) x unit_columns 0)
    (sym (λ i.
    set (set (set (set t (sym (zero-add n) i) ((x-is ∙ ap number line_is) i))
    (64 + n) ((p-is ∙ ap column_of line_is) i))
    (128 + n) ((w-is ∙ ap way_of line_is) i))
    (192 + n) ((m-is ∙ ap moist_below line_is) i)))
    (columns_next unit_columns few columns)

pub fuel_columns_next : {s t l : List ℕ} {n x r a k m : ℕ} → n < 64 → Columns s n t fuel_columns 0 → l ≡ line n s
    → x ≡ number l → r ≡ large_flags l → a ≡ allowed_flags l → k ≡ carbon_limit l → m ≡ volume_of l
    → Columns s (n + 1) (set (set (set (set (set t n x) (64 + n) r) (128 + n) a) (192 + n) k) (256 + n) m) fuel_columns 0
fuel_columns_next {s} {t} {n = n} few columns line_is x-is r-is a-is k-is m-is =
    subst (λ (x : List ℕ). Columns s (n + 1) x fuel_columns 0)
    (sym (λ i.
    set (set (set (set (set t (sym (zero-add n) i) ((x-is ∙ ap number line_is) i))
    (64 + n) ((r-is ∙ ap large_flags line_is) i))
    (128 + n) ((a-is ∙ ap allowed_flags line_is) i))
    (192 + n) ((k-is ∙ ap carbon_limit line_is) i))
    (256 + n) ((m-is ∙ ap volume_of line_is) i)))
    (columns_next fuel_columns few columns)

pub units_noted_all : {s t : List ℕ} {n : ℕ} → n ≡ length s / 32 → Columns s n t unit_columns 0 → UnitsNoted s t
units_noted_all {s} {t} all columns = noted (subst (λ (m : ℕ). Columns s m t unit_columns 0) all columns)
  where
    noted : Columns s (length s / 32) t unit_columns 0 → UnitsNoted s t
    noted (more a (more b (more c (more d none)))) =
        record { numbers = a.column; columns = b.column; ways = c.column; moist = d.column }

pub fuels_noted_all : {s t : List ℕ} {n : ℕ} → n ≡ length s / 32 → Columns s n t fuel_columns 0 → FuelsNoted s t
fuels_noted_all {s} {t} all columns = noted (subst (λ (m : ℕ). Columns s m t fuel_columns 0) all columns)
  where
    noted : Columns s (length s / 32) t fuel_columns 0 → FuelsNoted s t
    noted (more a (more b (more c (more d (more e none))))) = record {
      numbers = a.column;
      large = b.column;
      allowed = c.column;
      carbon = d.column;
      volumes = e.column;
    }

-- ---- the number x of a line l among bytes
pub number-line-lt : {l : List ℕ} {x : ℕ} (s : List ℕ) (k : ℕ) → ((i : ℕ) → byte s i < 256) → l ≡ line k s
    → x ≡ number l → x < 65536
number-line-lt s k small line_is x-is =
    lt_of_le_of_lt
    (le_of_eq (x-is ∙ ap number line_is))
    (word-two-lt (line k s) 0 (byte-part-lt (32 * k) (32 * k + 32) s small))
