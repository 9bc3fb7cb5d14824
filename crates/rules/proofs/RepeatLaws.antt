-- What stands among lines, line by line, and that a line which is there tells it. Assumes nothing.
use Rattle.std.proofs.Common.{◌≡◌, ℕ, Bool, true, List, [], ◌∷◌, ◌++◌, sym, refl, ap, ◌∙◌, eq-eqb, eqb-true}
use mathlib.Core.Bool.{false≢true}
use mathlib.Core.List.{Memᴰ}
use Rattle.choice.specs.Tests.{◌either◌}
use Rattle.choice.proofs.Splitting.{if_test}
use Rattle.choice.proofs.TestsLaws.{also_t, also_l, also_r, either_t, either_f}
use Rattle.rules.specs.Fields.{kind, unit_number, period}
use Rattle.rules.specs.Repeat.{is_of, stands}

-- ---- one line
pub record Is (k u w : ℕ) (l : List ℕ) : Type 0 where
  pub kind_is : kind l ≡ k
  pub unit_is : unit_number l ≡ u
  pub period_is : period l ≡ w

module _ (k u w : ℕ) (l : List ℕ) where
  pub is_of_is : Is k u w l → is_of k u w l ≡ true
  unfolding is_of
  is_of_is is = also_t (also_t (eq-eqb _ _ is.kind_is) (eq-eqb _ _ is.unit_is)) (eq-eqb _ _ is.period_is)

  pub is_is_of : is_of k u w l ≡ true → Is k u w l
  unfolding is_of
  is_is_of h = record {
    kind_is = eqb-true _ _ (also_l _ _ (also_l _ _ h));
    unit_is = eqb-true _ _ (also_r _ _ (also_l _ _ h));
    period_is = eqb-true _ _ (also_r _ _ h);
  }

-- ---- one line more
swap : (a b c : Bool) → (a either (b either c)) ≡ (b either (a either c))
swap a b c =
    if_test a
    (λ p. either_t _ p ∙ sym (if_test b (λ q. either_t _ q) (λ q. either_f q (either_t c p))))
    (λ p. either_f p refl ∙ ap (λ (x : Bool). b either x) (sym (either_f p refl)))

pub stands_snoc : (k u w : ℕ) (ls : List (List ℕ)) (l : List ℕ)
    → stands k u w (ls ++ (l ∷ [])) ≡ (is_of k u w l either stands k u w ls)
unfolding stands
stands_snoc k u w [] l = refl
stands_snoc k u w (e ∷ ls) l =
    ap (λ (b : Bool). is_of k u w e either b) (stands_snoc k u w ls l)
    ∙ swap (is_of k u w e) (is_of k u w l) (stands k u w ls)

-- ---- told by a line that is there
pub stands-among : (k u w : ℕ) (ls : List (List ℕ)) (e : List ℕ) → Memᴰ e ls → Is k u w e
    → stands k u w ls ≡ true
unfolding stands
stands-among k u w [] e i is = elim i [ ]
stands-among k u w (l ∷ ls) e (Memᴰ.head p) is =
    either_t _ (ap (is_of k u w) (sym p) ∙ is_of_is k u w e is)
stands-among k u w (l ∷ ls) e (Memᴰ.tail i) is =
    if_test (is_of k u w l) (λ t. either_t _ t) (λ f. either_f f (stands-among k u w ls e i is))

-- What holds if such a line is there holds if one stands.
pub if_stands : {G : Type 0} (k u w : ℕ) (ls : List (List ℕ)) → stands k u w ls ≡ true
    → ((e : List ℕ) → Memᴰ e ls → Is k u w e → G) → G
unfolding stands
if_stands k u w [] h found = absurd (false≢true h)
if_stands k u w (l ∷ ls) h found =
    if_test (is_of k u w l)
    (λ t. found l (Memᴰ.head refl) (is_is_of k u w l t))
    (λ f. if_stands k u w ls (sym (either_f f refl) ∙ h) (λ e i is. found e (Memᴰ.tail i) is))
