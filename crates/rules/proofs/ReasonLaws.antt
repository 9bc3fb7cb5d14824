-- A record is set aside for the first reason that applies, and counts if none does: its own line decides
-- every reason but the last, and the lines before it decide that one. Assumes nothing.
use Rattle.std.proofs.Common.{◌≡◌, ℕ, ◌+◌, true, not, List, sym, refl, ap, ◌∙◌, subst, arith, Ok, Err}
use borrow.Author.Tests.{not-true, not-false}
use Rattle.choice.proofs.Splitting.{if_lt}
use Rattle.choice.proofs.TestsLaws.{also_t, also_l, also_r, if_choose}
use Rattle.rules.specs.declared.book.Head.{Head}
use Rattle.rules.specs.declared.entry.Entry.{Entry}
use Rattle.rules.specs.declared.record.Reason.{Reason}
use Rattle.rules.specs.declared.record.Reason.TheVariants.{Repeated}
use Rattle.rules.specs.Outcome.{reason_number, Outcome}
use Rattle.rules.specs.Bytes.{line, lines, lines_in}
use Rattle.rules.specs.Fields.{kind, unit_number, period}
use Rattle.rules.specs.Book.{unit_ok, fuel_ok, lines_sound, unit_lines, fuel_lines, opened, accepted}
use Rattle.rules.specs.Repeat.{stands_among, repeated}
use Rattle.rules.specs.Record.{last_reason, check, unless_repeated, outcome_after, outcome_at}
use Rattle.rules.specs.Reason.{Applies, Reasons}
use Rattle.rules.proofs.OutcomeLaws.{reason_number-within, reason_number-inj}
use Rattle.rules.proofs.BookLaws.{accepted_facts}
use Rattle.rules.proofs.RepeatLaws.{stands-among, if_stands}
use Rattle.rules.proofs.ListedLaws.{once_lines_ok}
use Rattle.rules.proofs.AloneLaws.{clash, Clear, clear_next, Decided, Alone, alone_outcome_of}

unlike : (k : Reason) (e : Entry) → Err k ≡ Ok e → ⊥
unlike k e q = let never : ◌≡◌ {A = ℕ} 0 1 = cc in absurd (omega arith)

-- ---- one record
module _ (before : List (List ℕ)) (l : List ℕ) (units fuels : List (List ℕ)) where
  -- ---- the last reason
  sent_repeated : repeated l before ≡ true → Applies before l units fuels Repeated
  unfolding repeated stands_among
  sent_repeated h =
      if_stands (kind l) (unit_number l) (period l) before (also_r _ _ h)
      (λ e i is. Applies.sent_before e (also_l _ _ h) i is.kind_is is.unit_is is.period_is)

  repeated_sent : Applies before l units fuels Repeated → repeated l before ≡ true
  unfolding repeated stands_among
  repeated_sent (Applies.sent_before e p i q u w) =
      also_t p (stands-among _ _ _ before e i (record { kind_is = q; unit_is = u; period_is = w }))

  decided_unless_repeated : (o : Outcome) → Alone before l units fuels o
      → Decided before l units fuels (last_reason + 1) (unless_repeated (repeated l before) o)
  unfolding unless_repeated check
  decided_unless_repeated (Err k) d = d
  decided_unless_repeated (Ok e) d =
      if_choose (Decided before l units fuels (last_reason + 1)) (not (repeated l before))
      (λ first. record {
        clear = clear_next before l units fuels Repeated d.clear
            (λ a. clash (repeated_sent a) (not-true _ first));
        by_fuel = d.by_fuel;
        by_hour = d.by_hour;
        by_anodes = d.by_anodes;
      })
      (λ again. (sent_repeated (not-false _ again), d.clear))

  -- ---- all reasons
  none_clear : Clear before l units fuels (last_reason + 1) → (k : Reason) → Applies before l units fuels k → ⊥
  none_clear clear k a = let most = (reason_number-within k).1 in clear k (omega arith) a

  reasons_decided : (o : Outcome) → Decided before l units fuels (last_reason + 1) o
      → Reasons before l units fuels o
  reasons_decided (Err m) d = record {
    set_aside = λ k. (
      λ q. let same : m ≡ k = cc in subst (λ (k : Reason). Applies before l units fuels k × Clear before l units fuels (reason_number k)) same d,
      λ a.
          if_lt (reason_number m) (reason_number k) (λ less. absurd (a.1 m less d.0))
          (λ up. if_lt (reason_number k) (reason_number m) (λ less. absurd (d.1 k less a.0))
          (λ down. ap Err (reason_number-inj m k (omega arith)))),
    );
    counts = (λ q. absurd (unlike m q.0 q.1), λ none. absurd (none m d.0));
    gives_fuel = λ e u f q. absurd (unlike m e q);
    gives_hour = λ e r q. absurd (unlike m e q);
    gives_anodes = λ e q. absurd (unlike m e q);
  }
  reasons_decided (Ok x) d = record {
    set_aside = λ k. (λ q. absurd (unlike k x (sym q)), λ a. absurd (none_clear d.clear k a.0));
    counts = (λ q. none_clear d.clear, λ none. (x, refl));
    gives_fuel = λ e u f q p i j. let same : x ≡ e = cc in sym same ∙ d.by_fuel u f p i j;
    gives_hour = λ e r q p h. let same : x ≡ e = cc in sym same ∙ d.by_hour r p h;
    gives_anodes = λ e q p. let same : x ≡ e = cc in sym same ∙ d.by_anodes p;
  }

-- Record i of an accepted book.
pub reasons_outcome_at : (h : Head) (s : List ℕ) (i : ℕ) → opened s ≡ accepted h
    → Reasons (lines i s) (line i s) (lines_in (unit_lines h s)) (lines_in (fuel_lines h s)) (outcome_at h s i)
unfolding outcome_at outcome_after lines_sound
reasons_outcome_at h s i e =
    let k = accepted_facts s h e in
    let units = lines_in (unit_lines h s) in
    let fuels = lines_in (fuel_lines h s) in
    reasons_decided (lines i s) (line i s) units fuels _
    (decided_unless_repeated (lines i s) (line i s) units fuels _
    (alone_outcome_of (lines i s) (line i s) units fuels
    (once_lines_ok unit_ok 0 units (also_r _ _ k.units_sound))
    (once_lines_ok fuel_ok 0 fuels (also_r _ _ k.fuels_sound))))
