-- Within what soundness allows, reading undoes writing, as writing undoes reading. Assumes nothing.
use Prim.Native.Nat.{ℕ, zero, suc, ◌+◌, ◌*◌, ◌/◌, ◌%◌, ◌^◌, ◌<◌, ◌≤◌}
use mathlib.Core.Bool.{Bool, true}
use mathlib.Core.List.{List, [], ◌∷◌, ◌++◌}
use mathlib.Core.Path.{◌≡◌, refl, ap, sym, ◌∙◌, subst}
use native.Mathlib.Omega.{arith}
use lib.Dec.{eqb, lit<, lit≤}
use lib.ListN.{length, take, length-append}
use lib.Seq.{take-add, take_all}
use borrow.Author.Tests.{ltb-true, leb-true, eqb-true, lt-ltb, le-leb, eq-eqb, ne_eqb}
use Rattle.choice.specs.Tests.{choose}
use Rattle.choice.proofs.Splitting.{if_eq}
use Rattle.choice.proofs.TestsLaws.{also_t, also_iff, choose_t, choose_f}
use Rattle.mass.specs.Ledger.{tonne, tonnes_each, records_foreseen, Sound, ledger_of}
use Rattle.mass.specs.Figures.{AllSound}
use Rattle.mass.proofs.LedgerLaws.{sound-ledger_of, ledger_of_unique}
use Rattle.rules.specs.declared.book.Head.{Head}
use Rattle.rules.specs.Bytes.{byte, word, bytes_of}
use Rattle.rules.proofs.BytesLaws.{length-bytes_of, bytes_of-word}
use Rattle.job.specs.declared.counts.Counts.{Counts}
use Rattle.job.specs.State.{mass, each, State, ledgers}
use Rattle.job.specs.Bounds.{FitFor}
use Rattle.job.specs.Checkpoint.{done_in, aside_in, index_in, reason_in, length_in, year_in, ledger_place, tonnes_in, rest_in, mass_in, front}
use Rattle.job.specs.Checkpoint.{first_sound, ledger_sound, sound, decode, laid, encode}
use Rattle.job.specs.Words.{ledger_in, ledgers_of, totals_in}
use Rattle.job.proofs.PlacesLaws.{length-each, get_d_each, is_each, every-all, every_one}
use Rattle.job.proofs.PutLaws.{word-append, Number, joined, joined_append, word_joined}
use Rattle.job.proofs.LaidLaws.{length-laid, laid-append, laid_snoc, word-laid}

-- ---- a state, written
length_front : (c : Counts) → length (front c) ≡ 16
length_front c = simp (length-append, length-bytes_of)

pub length-encode : (h : Head) (s : State) → length s.masses ≡ ledgers → length (encode h s) ≡ 96
unfolding encode
length-encode h s l =
    let behind = laid (front s.counts) s.masses in
    let full : length behind ≡ 80 = length-laid (front s.counts) s.masses ∙ omega (arith, length_front s.counts) in
    simp (length-append, length-bytes_of, full)

-- The numbers before the ledgers, and those behind them.
abbrev before : Counts → List Number
before c = (4, c.done) ∷ (4, c.aside) ∷ (4, c.index) ∷ (1, c.reason) ∷ (3, 0) ∷ []

abbrev behind : Head → List Number
behind h = (4, h.length) ∷ (2, h.year) ∷ (10, 0) ∷ []

record Says (h : Head) (s : State) (c : List ℕ) : Type 0 where
  done_is : done_in c ≡ s.counts.done
  aside_is : aside_in c ≡ s.counts.aside
  index_is : index_in c ≡ s.counts.index
  reason_is : reason_in c ≡ s.counts.reason
  gap_zero : word c 13 3 ≡ 0
  ledger_is : (i : ℕ) → i < ledgers → (tonnes_in c i ≡ mass s.masses i / tonne) × (rest_in c i ≡ mass s.masses i % tonne)
  length_is : h.length < 2 ^ 32 → length_in c ≡ h.length
  year_is : h.year < 2 ^ 16 → year_in c ≡ h.year
  blank_zero : word c 86 10 ≡ 0

module _ (h : Head) (s : State) (fit : FitFor h s) (few : h.n ≤ records_foreseen) where
  abbrev counts : Counts
  counts = s.counts

  abbrev start : List ℕ
  start = laid (front counts) s.masses

  small-first : (counts.index < 2 ^ 32) × (counts.reason < 256)
  small-first =
      let f = fit.counts_fit in
      if_eq counts.aside 0
      (λ e. let z = f.none_first e in omega arith)
      (λ e. let z = f.some_first e in let l = f.done_le in omega arith)

  length-start : length start ≡ 80
  length-start = length-laid (front counts) s.masses ∙ omega (arith, length_front counts, fit.whole)

  encode_joined : encode h s ≡ start ++ joined [] (behind h)
  unfolding encode
  encode_joined = joined_append start (behind h)

  -- What stands in the first 80 bytes, and in the first 16 of these.
  in_start : (k n : ℕ) → k + n ≤ 80 → word (encode h s) k n ≡ word start k n
  in_start k n l =
      ap (λ (c : List ℕ). word c k n) encode_joined ∙ word-append start _ k n (omega (arith, length-start))

  in_front : (k n : ℕ) → k + n ≤ 16 → word (encode h s) k n ≡ word (front counts) k n
  in_front k n l =
      in_start k n (omega arith)
      ∙ ap (λ (c : List ℕ). word c k n) (laid-append (front counts) s.masses)
      ∙ word-append (front counts) _ k n (omega (arith, length_front counts))

  in_ledger : (i : ℕ) → i < ledgers
      → (tonnes_in (encode h s) i ≡ mass s.masses i / tonne) × (rest_in (encode h s) i ≡ mass s.masses i % tonne)
  in_ledger i l =
      let le = fit.masses_le i l in
      let place = fit.counts_fit.done_le in
      let whole = fit.whole in
      let said = word-laid (front counts) 16 s.masses i (length_front counts) (omega arith) (omega arith) in
      (in_start _ 8 (omega arith) ∙ said.0, in_start _ 8 (omega arith) ∙ said.1)

  says_encode : Says h s (encode h s)
  unfolding encode
  says_encode =
      let number = word_joined [] 0 (before counts) refl in
      let last = word_joined start 80 (behind h) length-start in
      let f = fit.counts_fit in
      record {
        done_is = in_front 0 4 (lit≤ tt) ∙ number 0 (lit< tt) (omega (arith, f.done_le));
        aside_is = in_front 4 4 (lit≤ tt) ∙ number 1 (lit< tt) (omega (arith, f.done_le, f.aside_le));
        index_is = in_front 8 4 (lit≤ tt) ∙ number 2 (lit< tt) small-first.0;
        reason_is = in_front 12 1 (lit≤ tt) ∙ number 3 (lit< tt) small-first.1;
        gap_zero = in_front 13 3 (lit≤ tt) ∙ number 4 (lit< tt) (lit< tt);
        ledger_is = in_ledger;
        length_is = last 0 (lit< tt);
        year_is = last 1 (lit< tt);
        blank_zero = last 2 (lit< tt) (lit< tt);
      }

  pub decode-encode : decode (encode h s) ≡ s
  unfolding decode
  decode-encode =
      let w = says_encode in
      let masses = is_each (mass_in (encode h s)) ledgers s.masses fit.whole (λ i l. whole i (w.ledger_is i l)) in
      λ i. record {
        counts = record { done = w.done_is i; aside = w.aside_is i; index = w.index_is i; reason = w.reason_is i };
        masses = sym masses i;
      }
    where
      whole : (i : ℕ) → (tonnes_in (encode h s) i ≡ mass s.masses i / tonne) × (rest_in (encode h s) i ≡ mass s.masses i % tonne)
          → mass s.masses i ≡ mass_in (encode h s) i
      whole i e = omega arith

-- ---- soundness, as facts
pub record SoundFor (h : Head) (c : List ℕ) : Type 0 where
  pub fit : FitFor h (decode c)
  pub length_is : length_in c ≡ h.length
  pub year_is : year_in c ≡ h.year
  pub canonical : (i : ℕ) → i < ledgers → rest_in c i < tonne
  pub gap_zero : word c 13 3 ≡ 0
  pub blank_zero : word c 86 10 ≡ 0

-- What a checkpoint says of the ledger at place i.
pub mass-decode : (c : List ℕ) (i : ℕ) → i < ledgers → mass (decode c).masses i ≡ mass_in c i
unfolding decode
mass-decode c i l = get_d_each (mass_in c) ledgers i l

choose-zero : (n : ℕ) (x y : Bool) → choose (eqb n 0) x y ≡ true
    → (n ≡ 0 → x ≡ true) × ((n ≡ 0 → ⊥) → y ≡ true)
choose-zero n x y h =
    (λ e. sym (choose_t y (eq-eqb n 0 e) refl) ∙ h, λ e. sym (choose_f x (ne_eqb n 0 e) refl) ∙ h)

ledger_parts : (c : List ℕ) (i : ℕ) → ledger_sound c i ≡ true
    → (rest_in c i < tonne) × (mass_in c i / tonne ≤ tonnes_each * done_in c)
unfolding ledger_sound
ledger_parts c i e = let tests = simp also_iff at e in (omega (arith, ltb-true), omega (arith, ltb-true, leb-true))

pub sound_for_sound : (h : Head) (c : List ℕ) → sound h c ≡ true → SoundFor h c
unfolding sound first_sound decode
sound_for_sound h c e =
    let tests = simp also_iff at e in
    let first = choose-zero (aside_in c) _ _ tests.0.0.0.1 in
    let ledger : (i : ℕ) → i < ledgers → ledger_sound c i ≡ true = λ i l. every_one (ledger_sound c) ledgers i tests.0.0.1 l in
    record {
      fit = record {
        counts_fit = record {
          done_le = omega (arith, leb-true);
          aside_le = omega (arith, leb-true);
          none_first = λ z. let f = simp also_iff at (first.0 z) in omega (arith, eqb-true);
          some_first = λ z. let f = simp also_iff at (first.1 z) in omega (arith, ltb-true, leb-true);
        };
        whole = length-each (mass_in c) ledgers;
        masses_le = λ i l. omega (arith, get_d_each (mass_in c) ledgers i l, (ledger_parts c i (ledger i l)).1);
      };
      length_is = omega (arith, eqb-true);
      year_is = omega (arith, eqb-true);
      canonical = λ i l. (ledger_parts c i (ledger i l)).0;
      gap_zero = omega (arith, eqb-true);
      blank_zero = omega (arith, eqb-true);
    }

first_sound-fit : (h : Head) (c : List ℕ) → FitFor h (decode c) → first_sound c ≡ true
unfolding first_sound decode
first_sound-fit h c fit = if_eq (aside_in c) 0
    (λ z. let f = fit.counts_fit.none_first z in choose_t _ (eq-eqb _ 0 z) (simp also_iff (omega (arith, eq-eqb))))
    (λ z. let f = fit.counts_fit.some_first z in
    choose_f _ (ne_eqb _ 0 z) (simp also_iff (omega (arith, lt-ltb, le-leb))))

ledger_sound-fit : (c : List ℕ) (i : ℕ) → rest_in c i < tonne → mass_in c i / tonne ≤ tonnes_each * done_in c
    → ledger_sound c i ≡ true
unfolding ledger_sound
ledger_sound-fit c i r l = simp also_iff (omega (arith, lt-ltb, le-leb))

pub sound_sound_for : (h : Head) (c : List ℕ) → SoundFor h c → sound h c ≡ true
unfolding sound decode
sound_sound_for h c f =
    let w = f.fit.counts_fit in
    let ledger : (i : ℕ) → i < ledgers → ledger_sound c i ≡ true =
    λ i l. ledger_sound-fit c i (f.canonical i l) (omega (arith, get_d_each (mass_in c) ledgers i l, f.fit.masses_le i l)) in
    let head = also_t (eq-eqb _ _ f.length_is) (eq-eqb _ _ f.year_is) in
    let place = also_t (also_t head (le-leb _ _ w.done_le)) (le-leb _ _ w.aside_le) in
    let all = also_t (also_t place (first_sound-fit h c f.fit)) (every-all (ledger_sound c) ledgers ledger) in
    also_t (also_t all (eq-eqb _ 0 f.gap_zero)) (eq-eqb _ 0 f.blank_zero)

pub fit_for_sound : (h : Head) (c : List ℕ) → sound h c ≡ true → FitFor h (decode c)
fit_for_sound h c e = (sound_for_sound h c e).fit

pub sound-encode : (h : Head) (s : State) → FitFor h s → h.n ≤ records_foreseen → h.length < 2 ^ 32
    → h.year < 2 ^ 16 → sound h (encode h s) ≡ true
sound-encode h s fit few length year =
    let w = says_encode h s fit few in
    sound_sound_for h (encode h s) (record {
      fit = subst (FitFor h) (sym (decode-encode h s fit few)) fit;
      length_is = w.length_is length;
      year_is = w.year_is year;
      canonical = λ i l. omega (arith, (w.ledger_is i l).1);
      gap_zero = w.gap_zero;
      blank_zero = w.blank_zero;
    })

-- ---- the ledgers of a sound checkpoint, as the code holds them
pub ledger_in-sound : (h : Head) (c : List ℕ) (i : ℕ) → sound h c ≡ true → i < ledgers
    → ledger_in c i ≡ ledger_of (mass (decode c).masses i)
ledger_in-sound h c i e l =
    ledger_of_unique (ledger_in c i) _ ((sound_for_sound h c e).canonical i l) (sym (mass-decode c i l))

pub totals_in-sound : (h : Head) (c : List ℕ) → sound h c ≡ true → totals_in c ≡ ledgers_of (decode c)
unfolding totals_in
totals_in-sound h c e = λ i. record {
  fossil = ledger_in-sound h c 0 e (lit< tt) i;
  biomass = ledger_in-sound h c 1 e (lit< tt) i;
  ch4 = ledger_in-sound h c 2 e (lit< tt) i;
  n2o = ledger_in-sound h c 3 e (lit< tt) i;
}

ledger-sound : (h : Head) (s : State) (i : ℕ) → FitFor h s → h.n ≤ records_foreseen → i < ledgers → Sound (ledger_of (mass s.masses i))
ledger-sound h s i f few l = sound-ledger_of (mass s.masses i) (omega (arith, f.masses_le i l, f.counts_fit.done_le))

pub sound-ledgers_of : (h : Head) (s : State) → FitFor h s → h.n ≤ records_foreseen → AllSound (ledgers_of s)
sound-ledgers_of h s f few = record {
  fossil_sound = ledger-sound h s 0 f few (lit< tt);
  biomass_sound = ledger-sound h s 1 f few (lit< tt);
  ch4_sound = ledger-sound h s 2 f few (lit< tt);
  n2o_sound = ledger-sound h s 3 f few (lit< tt);
}

-- ---- a sound checkpoint says all of its bytes
module _ (h : Head) (c : List ℕ) (bytes : (i : ℕ) → byte c i < 256) (whole : length c ≡ 96) where
  -- Behind the first k bytes of c comes v, which is the number of the next n.
  further : (k : ℕ) {p : List ℕ} → p ≡ take k c → (n : ℕ) {v : ℕ} → v ≡ word c k n → k + n ≤ 96
      → p ++ bytes_of n v ≡ take (k + n) c
  further k e n w l =
      (λ i. e i ++ bytes_of n (w i))
      ∙ ap (λ (b : List ℕ). take k c ++ b) (bytes_of-word c k n bytes (omega arith))
      ∙ sym (take-add k n c)

  parts : (t r : ℕ) → r < tonne → ((t * tonne + r) / tonne ≡ t) × ((t * tonne + r) % tonne ≡ r)
  parts t r l = omega arith

  further_ledgers : (n : ℕ) {p : List ℕ} → p ≡ take 16 c → n ≤ ledgers → ((i : ℕ) → i < ledgers → rest_in c i < tonne)
      → laid p (each (mass_in c) n) ≡ take (16 + 16 * n) c
  unfolding each laid
  further_ledgers zero e l r = e
  further_ledgers (suc n) {p} e l r =
      let before = further_ledgers n e (omega arith) r in
      let part = parts (tonnes_in c n) (rest_in c n) (r n (omega arith)) in
      let place : ledger_place n + 8 + 8 ≡ 16 + 16 * suc n = omega arith in
      laid_snoc p (each (mass_in c) n) (mass_in c n)
      ∙ further (ledger_place n + 8) (further (ledger_place n) before 8 part.0 (omega arith)) 8 part.1 (omega arith)
      ∙ ap (λ (k : ℕ). take k c) place

  pub encode-decode : sound h c ≡ true → encode h (decode c) ≡ c
  unfolding encode decode
  encode-decode e =
      let f = sound_for_sound h c e in
      let to-4 = further 0 {p = []} refl 4 refl (lit≤ tt) in
      let to-8 = further 4 to-4 4 refl (lit≤ tt) in
      let to-12 = further 8 to-8 4 refl (lit≤ tt) in
      let to-13 = further 12 to-12 1 refl (lit≤ tt) in
      let to-16 = further 13 to-13 3 (sym f.gap_zero) (lit≤ tt) in
      let to-80 = further_ledgers ledgers to-16 (lit≤ tt) f.canonical in
      let to-84 = further 80 to-80 4 (sym f.length_is) (lit≤ tt) in
      let to-86 = further 84 to-84 2 (sym f.year_is) (lit≤ tt) in
      further 86 to-86 10 (sym f.blank_zero) (lit≤ tt) ∙ take_all 96 c (omega arith)
