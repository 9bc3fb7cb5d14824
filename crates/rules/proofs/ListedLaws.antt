-- A look-up gives a listed line where there is one, and a number is listed once at most: the numbers of
-- lines that break no rule rise. Assumes nothing.
use Rattle.std.proofs.Common.{◌≡◌, ℕ, ◌<◌, Bool, true, eqb, List, [], ◌∷◌, sym, refl, ap, ◌∙◌, subst, ⊎_elim, arith, ltb-true, eqb-true, Err}
use mathlib.Core.List.Memᴰ
use mathlib.Core.List.{Memᴰ}
use borrow.Author.Tests.{eqb-false}
use Rattle.choice.proofs.TestsLaws.{also_l, also_r, if_choose}
use Rattle.rules.specs.declared.record.Reason.{Reason}
use Rattle.rules.specs.Outcome.{Outcome}
use Rattle.rules.specs.Fields.{number}
use Rattle.rules.specs.Book.{lines_ok}
use Rattle.rules.specs.Record.{listed}
use Rattle.rules.specs.Reason.{Listed, Lacks}

-- ---- a look-up finds a listed line, or none is listed
module _ (x : ℕ) (y : List ℕ) (ls : List (List ℕ)) where
  lacks_cons : (number y ≡ x → ⊥) → Lacks x ls → Lacks x (y ∷ ls)
  lacks_cons other lacks a i =
      ⊎_elim
      (λ e. other (ap number (sym e) ∙ i.has))
      (λ m. lacks a (record { among = m; has = i.has }))
      (Memᴰ.cases_cons i.among)

  listed_cons : (a : List ℕ) → Listed x ls a → Listed x (y ∷ ls) a
  listed_cons a i = record { among = Memᴰ.tail i.among; has = i.has }

-- What holds if there is none, and if any is found, holds of the outcome.
pub if_listed : (G : Outcome → Type 0) (x : ℕ) (k : Reason) (ls : List (List ℕ)) (rest : List ℕ → Outcome)
    → (Lacks x ls → G (Err k)) → ((a : List ℕ) → Listed x ls a → G (rest a)) → G (listed x ls k rest)
unfolding listed
if_listed G x k [] rest none found = none (λ a i. Memᴰ.not-nil i.among)
if_listed G x k (y ∷ ls) rest none found =
    if_choose G (eqb (number y) x)
    (λ same. found y (record { among = Memᴰ.head refl; has = eqb-true _ _ same }))
    (λ other. if_listed G x k ls rest
    (λ lacks. none (lacks_cons x y ls (eqb-false _ _ other) lacks))
    (λ a i. found a (listed_cons x y ls a i)))

-- ---- in lines that break no rule a number is listed once
abbrev pub Once : List (List ℕ) → Type 0
Once ls = (x : ℕ) (a b : List ℕ) → Listed x ls a → Listed x ls b → a ≡ b

module _ (ok : List ℕ → Bool) where
  above-lines_ok : (before : ℕ) (ls : List (List ℕ)) (a : List ℕ) → lines_ok ok before ls ≡ true → Memᴰ a ls
      → before < number a
  unfolding lines_ok
  above-lines_ok before [] a h i = elim i [ ]
  above-lines_ok before (y ∷ ls) a h (Memᴰ.head p) =
      subst (λ (b : List ℕ). before < number b) (sym p) (ltb-true _ _ (also_l _ _ (also_l _ _ h)))
  above-lines_ok before (y ∷ ls) a h (Memᴰ.tail i) =
      let first : before < number y = ltb-true _ _ (also_l _ _ (also_l _ _ h)) in
      let later = above-lines_ok (number y) ls a (also_r _ _ h) i in
      omega arith

  -- Two lines with one number are one line, for those behind the first have higher numbers.
  same-lines_ok : (before : ℕ) (ls : List (List ℕ)) (a b : List ℕ) → lines_ok ok before ls ≡ true
      → number a ≡ number b → Memᴰ a ls → Memᴰ b ls → a ≡ b
  unfolding lines_ok
  same-lines_ok before [] a b h e i j = elim i [ ]
  same-lines_ok before (y ∷ ls) a b h e (Memᴰ.head p) (Memᴰ.head q) = p ∙ sym q
  same-lines_ok before (y ∷ ls) a b h e (Memᴰ.head p) (Memᴰ.tail j) =
      let first : number a ≡ number y = ap number p in
      absurd (omega (arith, above-lines_ok (number y) ls b (also_r _ _ h) j))
  same-lines_ok before (y ∷ ls) a b h e (Memᴰ.tail i) (Memᴰ.head q) =
      let first : number b ≡ number y = ap number q in
      absurd (omega (arith, above-lines_ok (number y) ls a (also_r _ _ h) i))
  same-lines_ok before (y ∷ ls) a b h e (Memᴰ.tail i) (Memᴰ.tail j) =
      same-lines_ok (number y) ls a b (also_r _ _ h) e i j

  pub once_lines_ok : (before : ℕ) (ls : List (List ℕ)) → lines_ok ok before ls ≡ true → Once ls
  once_lines_ok before ls h x a b i j = same-lines_ok before ls a b h (i.has ∙ sym j.has) i.among j.among
