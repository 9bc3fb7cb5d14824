-- Lists by their places: what stands at each, and how long they are. Assumes nothing.
use Prim.Native.Nat.{ℕ, zero, suc, ◌+◌, ◌<◌, ◌≤◌}
use mathlib.Core.Bool.{Bool, true}
use mathlib.Core.List.{List, [], ◌∷◌}
use mathlib.Core.Path.{◌≡◌, refl, sym, ap, ap₂, ◌∙◌}
use native.Mathlib.Nat.{add-zero, zero-add, add_assoc, not-suc-le-zero}
use native.Mathlib.Omega.{arith}
use lib.ListN.{length, get_or, replicate, length-append, length-replicate, get_or-replicate, get_or-append, get_or-eq_default}
use lib.Seq.{ext_get_or, get_or_at, get_or-set_same, get_or-set_other}
use Rattle.choice.proofs.Splitting.{if_lt, if_eq}
use Rattle.choice.proofs.TestsLaws.{also_t, also_l, also_r}
use Rattle.job.specs.State.{◌to◌, ◌plus◌, each}
use Rattle.job.specs.Checkpoint.{every}
use Rattle.job.specs.Shares.{raised}

-- ---- a number at one place
pub to_here : (v i : ℕ) → get_or (v to i) i 0 ≡ v
unfolding ◌to◌
to_here v i = get_or_at (replicate i 0) v [] 0 i (length-replicate {A = ℕ} i 0)

pub length_to : (v i : ℕ) → length (v to i) ≡ i + 1
unfolding ◌to◌
length_to v i = length-append (replicate i 0) (v ∷ []) ∙ omega (arith, length-replicate {A = ℕ} i 0)

pub to_other : (v i j : ℕ) → (j ≡ i → ⊥) → get_or (v to i) j 0 ≡ 0
unfolding ◌to◌
to_other v i j n =
    if_lt j i
    (λ l. get_or-append (replicate i 0) (v ∷ []) 0 j (omega (arith, length-replicate {A = ℕ} i 0)) ∙ get_or-replicate i j 0 0 l)
    (λ l. get_or-eq_default (v to i) 0 {n = j} (omega (arith, length_to v i)))

pub to_at : (v i j : ℕ) → j ≡ i → get_or (v to i) j 0 ≡ v
to_at v i j e = ap (λ (n : ℕ). get_or (v to i) n 0) e ∙ to_here v i

pub to_le : (v i j : ℕ) → get_or (v to i) j 0 ≤ v
to_le v i j = if_eq j i (λ e. omega (arith, to_at v i j e)) (λ n. omega (arith, to_other v i j n))

pub to_past : (n v i j : ℕ) → get_or (v to (n + i)) (n + j) 0 ≡ get_or (v to i) j 0
to_past n v i j =
    if_eq j i
    (λ e. to_at v (n + i) (n + j) (omega arith) ∙ sym (to_at v i j e))
    (λ m. to_other v (n + i) (n + j) (λ e. m (omega arith)) ∙ sym (to_other v i j m))

-- ---- more at one place
pub get_d_raised : (d : List ℕ) (p x j : ℕ) → p < length d → get_or (raised d p x) j 0 ≡ get_or d j 0 + get_or (x to p) j 0
get_d_raised d p x j l =
    if_eq j p
    (λ e.
    let at = ap (λ (q : ℕ). get_or (raised d p x) q 0) e ∙ get_or-set_same d p _ 0 l in
    let was = ap (λ (q : ℕ). get_or d q 0) e in
    omega (arith, to_at x p j e))
    (λ n. omega (arith, get_or-set_other d p j (get_or d p 0 + x) 0 n, to_other x p j n))

-- ---- lists added
pub get_d_plus : (a b : List ℕ) (i : ℕ) → get_or (a plus b) i 0 ≡ get_or a i 0 + get_or b i 0
unfolding ◌plus◌
get_d_plus [] b i = sym (zero-add _)
get_d_plus (x ∷ a) [] i = sym (add-zero _)
get_d_plus (x ∷ a) (y ∷ b) zero = refl
get_d_plus (x ∷ a) (y ∷ b) (suc i) = get_d_plus a b i

pub plus_assoc : (a b c : List ℕ) → a plus b plus c ≡ a plus (b plus c)
unfolding ◌plus◌
plus_assoc [] b c = refl
plus_assoc (x ∷ a) [] c = refl
plus_assoc (x ∷ a) (y ∷ b) [] = refl
plus_assoc (x ∷ a) (y ∷ b) (z ∷ c) = ap₂ ◌∷◌ (add_assoc x y z) (plus_assoc a b c)

pub length_plus_le : (a b : List ℕ) {n : ℕ} → length a ≤ n → length b ≤ n → length (a plus b) ≤ n
unfolding ◌plus◌
length_plus_le [] b l m = m
length_plus_le (x ∷ a) [] l m = l
length_plus_le (x ∷ a) (y ∷ b) {n = zero} l m = absurd (not-suc-le-zero l)
length_plus_le (x ∷ a) (y ∷ b) {n = suc n} l m =
    let rest = length_plus_le a b {n = n} (omega arith) (omega arith) in omega arith

pub length_plus : (a b : List ℕ) → length b ≤ length a → length (a plus b) ≡ length a
unfolding ◌plus◌
length_plus [] [] l = refl
length_plus [] (y ∷ b) l = absurd (not-suc-le-zero l)
length_plus (x ∷ a) [] l = refl
length_plus (x ∷ a) (y ∷ b) l = ap suc (length_plus a b (omega arith))

-- ---- a number for each place
pub length-each : (f : ℕ → ℕ) (n : ℕ) → length (each f n) ≡ n
unfolding each
length-each f zero = refl
length-each f (suc n) = length-append (each f n) (f n ∷ []) ∙ omega (arith, length-each f n)

pub get_d_each : (f : ℕ → ℕ) (n i : ℕ) → i < n → get_or (each f n) i 0 ≡ f i
unfolding each
get_d_each f zero i l = absurd (not-suc-le-zero l)
get_d_each f (suc n) i l =
    if_lt i n
    (λ m. get_or-append (each f n) (f n ∷ []) 0 i (omega (arith, length-each f n)) ∙ get_d_each f n i m)
    (λ m.
    let last : n ≡ i = omega arith in
    get_or_at (each f n) (f n) [] 0 i (length-each f n ∙ last) ∙ ap f last)

pub zeros-each : (n i : ℕ) → get_or (each (λ j. 0) n) i 0 ≡ 0
zeros-each n i =
    if_lt i n
    (λ l. get_d_each (λ j. 0) n i l)
    (λ l. get_or-eq_default (each (λ j. 0) n) 0 {n = i} (omega (arith, length-each (λ j. 0) n)))

-- A list of n numbers is one for each place.
pub is_each : (f : ℕ → ℕ) (n : ℕ) (a : List ℕ) → length a ≡ n → ((i : ℕ) → i < n → get_or a i 0 ≡ f i) → a ≡ each f n
is_each f n a l same =
    ext_get_or 0 a (each f n) (l ∙ sym (length-each f n))
    (λ i m. let at : i < n = omega arith in same i at ∙ sym (get_d_each f n i at))

pub each_same : (f g : ℕ → ℕ) (n : ℕ) → ((i : ℕ) → i < n → f i ≡ g i) → each f n ≡ each g n
each_same f g n same = is_each g n (each f n) (length-each f n) (λ i l. get_d_each f n i l ∙ same i l)

pub each_plus : (f g : ℕ → ℕ) (n : ℕ) (a : List ℕ) → length a ≤ n → ((i : ℕ) → i < n → g i ≡ f i + get_or a i 0)
    → each g n ≡ each f n plus a
each_plus f g n a l same =
    sym (is_each g n (each f n plus a)
    (length_plus (each f n) a (omega (arith, length-each f n)) ∙ length-each f n)
    (λ i m. get_d_plus (each f n) a i ∙ ap (λ (v : ℕ). v + get_or a i 0) (get_d_each f n i m) ∙ sym (same i m)))

pub each-each : (f g : ℕ → ℕ) (n : ℕ) → each (λ i. f i + g i) n ≡ each f n plus each g n
each-each f g n =
    each_plus f (λ i. f i + g i) n (each g n) (omega (arith, length-each g n)) (λ i l. ap (λ (v : ℕ). f i + v) (sym (get_d_each g n i l)))

-- ---- a test of each place
pub every-all : (t : ℕ → Bool) (n : ℕ) → ((i : ℕ) → i < n → t i ≡ true) → every t n ≡ true
unfolding every
every-all t zero all = refl
every-all t (suc n) all = also_t (every-all t n (λ i l. all i (omega arith))) (all n (omega arith))

pub every_one : (t : ℕ → Bool) (n i : ℕ) → every t n ≡ true → i < n → t i ≡ true
unfolding every
every_one t zero i e l = absurd (not-suc-le-zero l)
every_one t (suc n) i e l =
    if_lt i n
    (λ m. every_one t n i (also_l _ _ e) m)
    (λ m. let last : i ≡ n = omega arith in ap t last ∙ also_r (every t n) _ e)
