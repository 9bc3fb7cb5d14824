-- A page takes one text behind the other, and what fits on it stands there whole. Assumes nothing.
use Prim.Native.Nat.{ℕ, suc, ◌+◌, ◌-◌, ◌/◌, ◌%◌, ◌<◌, ◌≤◌}
use mathlib.Core.List.{List, [], ◌∷◌, ◌++◌, append-nil}
use mathlib.Core.Path.{◌≡◌, refl, sym, ap, ap₂, ◌∙◌}
use native.Mathlib.Omega.{arith}
use lib.ListN.{length, get_or, take, set, replicate, length-append}
use lib.Seq.{take-suc, append_snoc, set-append_seam}
use borrow.Author.Tests.{lt-ltb}
use Rattle.choice.proofs.TestsLaws.{choose_t}
use Rattle.rules.specs.Bytes.{bytes_of}
use Rattle.rules.proofs.BytesLaws.{bytes_of_zero, bytes_of_suc}
use Rattle.text.specs.declared.page.Page.{Page}
use Rattle.text.specs.Page.{page_size, page_of}
use Rattle.text.specs.Extended.{blank, with_byte, extended}

-- ---- one text behind the other
pub extended-append : (p : Page) (s t : List ℕ) → extended (extended p s) t ≡ extended p (s ++ t)
unfolding extended
extended-append p [] t = refl
extended-append p (b ∷ s) t = extended-append (with_byte p b) s t

pub extended_none : (p : Page) → p ≡ extended p []
unfolding extended
extended_none p = refl

pub extended_one : {q : Page} (p : Page) (b : ℕ) → q ≡ with_byte p b → q ≡ extended p (b ∷ [])
unfolding extended
extended_one p b e = e

module _ (p : Page) where
  pub extended_more : {q r : Page} (s t : List ℕ) → q ≡ extended p s → r ≡ extended q t → r ≡ extended p (s ++ t)
  extended_more s t e d =
      d
      ∙ ap (λ (x : Page). extended x t) e
      ∙ extended-append p s t

  pub extended_last : {q r : Page} (s : List ℕ) (b : ℕ) → q ≡ extended p s → r ≡ with_byte q b
      → r ≡ extended p (s ++ b ∷ [])
  extended_last {q} s b e d = extended_more s (b ∷ []) e (extended_one q b d)

  -- The first i bytes of w are on the page, and the next one goes on.
  pub extended-take : {q r : Page} (w : List ℕ) (i : ℕ) → i < length w → q ≡ extended p (take i w)
      → r ≡ with_byte q (get_or w i 0) → r ≡ extended p (take (i + 1) w)
  extended-take w i l e d =
      let next : suc i ≡ i + 1 = omega arith in
      extended_last (take i w) (get_or w i 0) e d
      ∙ ap (extended p) (sym (take-suc w i 0 l) ∙ ap (λ (j : ℕ). take j w) next)

-- ---- a number's bytes: m of them are still to go on, behind q
pub extended_bytes_next : {r x : Page} (q : Page) (m n rest : ℕ) → m ≡ suc n → r ≡ with_byte q (rest % 256)
    → extended q (bytes_of m rest) ≡ x → extended r (bytes_of n (rest / 256)) ≡ x
unfolding extended
extended_bytes_next q m n rest e d whole =
    ap (λ (p : Page). extended p (bytes_of n (rest / 256))) d
    ∙ ap (extended q) (sym (bytes_of_suc n rest))
    ∙ ap (λ (k : ℕ). extended q (bytes_of k rest)) (sym e)
    ∙ whole

pub extended_bytes_last : {x : Page} (q : Page) (m rest : ℕ) → m ≡ 0 → extended q (bytes_of m rest) ≡ x → q ≡ x
unfolding extended
extended_bytes_last q m rest e whole =
    ap (extended q) (sym (bytes_of_zero rest))
    ∙ ap (λ (k : ℕ). extended q (bytes_of k rest)) (sym e)
    ∙ whole

-- ---- what fits
page : List ℕ → ℕ → Page
page x m = record { bytes = x; len = m }

with_byte-page_of : (s : List ℕ) (b : ℕ) → length s < page_size → with_byte (page_of s) b ≡ page_of (s ++ b ∷ [])
unfolding with_byte page_of page
with_byte-page_of s b l =
    let grown = length-append s (b ∷ []) in
    let room : page_size - length s ≡ suc (page_size - length (s ++ b ∷ [])) = omega arith in
    let rest : List ℕ = replicate (page_size - length (s ++ b ∷ [])) 0 in
    choose_t _ (lt-ltb (length s) page_size l)
    (ap₂ page
    (ap (λ (m : ℕ). set (s ++ replicate m 0) (length s) b) room
    ∙ set-append_seam s 0 rest b
    ∙ sym (append_snoc s b rest))
    (sym grown))

extended-page_of : (s t : List ℕ) → length (s ++ t) ≤ page_size → extended (page_of s) t ≡ page_of (s ++ t)
unfolding extended
extended-page_of s [] l = ap page_of (sym (append-nil s))
extended-page_of s (b ∷ t) l =
    let whole = length-append s (b ∷ t) in
    ap (λ (p : Page). extended p t) (with_byte-page_of s b (omega arith))
    ∙ extended-page_of (s ++ b ∷ []) t (omega (arith, length-append (s ++ b ∷ []) t, length-append s (b ∷ [])))
    ∙ ap page_of (append_snoc s b t)

pub extended-blank : {p q : Page} (t : List ℕ) → p ≡ blank → q ≡ extended p t → length t ≤ page_size → q ≡ page_of t
extended-blank t e d l = d ∙ ap (λ (x : Page). extended x t) e ∙ extended-page_of [] t l
