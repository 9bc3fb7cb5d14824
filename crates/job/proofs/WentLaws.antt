-- Records gone through from place p on to u: how it begins, goes on by a record or a leg, and ends. Assumes nothing.
use Prim.Native.Nat.{ℕ, ◌+◌, ◌-◌, ◌<◌, ◌≤◌}
use mathlib.Core.Bool.{Bool, true, false, false≢true}
use mathlib.Core.List.{List}
use mathlib.Core.Path.{◌≡◌, sym, ap, ◌∙◌, subst}
use native.Mathlib.Nat.{le_refl, le_trans}
use Rattle.rules.specs.declared.book.Head.{Head}
use Rattle.rules.specs.Bytes.{lines}
use Rattle.rules.specs.Book.{unit_lines, opened, accepted}
use Rattle.rules.specs.Table.{Known}
use Rattle.job.specs.State.{run}
use Rattle.job.specs.Bounds.{CountsFit, FitFor}
use Rattle.job.specs.Checkpoint.{done_in}
use Rattle.job.specs.Wake.{admitted_for}
use Rattle.job.specs.declared.counts.Aside.{Aside}
use Rattle.job.specs.Words.{counts_at, state_in, Gone}
use Rattle.job.specs.Leg.{Before, Went, Took}
use Rattle.job.proofs.StateLaws.{fit_for_run}
use Rattle.job.proofs.WordsLaws.{kept_more}
use Rattle.job.proofs.LegLaws.{after_took, carries_each_next, onward}
use Rattle.job.proofs.RunLaws.{gone_first, gone_none, run-suc, run_legs, begun, fit_for_gone}

never : {d u : ℕ} → true ≡ false → d ≡ u
never e = absurd (false≢true (sym e))

module _ {h : Head} {k : List ℕ} {p u : ℕ} {a : Aside} {w : List ℕ} where
  -- ---- before
  pub counts-before : {t : List ℕ} → Before h k p u a w t → CountsFit h (counts_at p a)
  unfolding state_in
  counts-before b = b.fit.counts_fit

  pub went_none : {t : List ℕ} → Before h k p u a w t → Went h k p u true a w p a w
  unfolding run
  went_none b = record {
    state = ap (run h k (state_in (counts_at p a) w)) (gone_first p);
    kept = b.kept;
    from_le = le_refl p;
    end_le = b.from_le;
    whole = never;
  }

  -- ---- on the way, up to place d
  module _ {d : ℕ} {b : Aside} {v : List ℕ} (g : Went h k p u true a w d b v) where
    -- From there it may go on to any place e.
    pub before_went : {e : ℕ} {t t' : List ℕ} → opened k ≡ accepted h → Before h k p u a w t → d ≤ e → e ≤ u
        → Known (lines d k) (unit_lines h k) t' → Before h k d e b v t'
    unfolding state_in
    before_went o x l m known =
        let there = gone_none p d h.n g.from_le (le_trans g.end_le x.end_le) in
        record {
          fit = subst (FitFor h) (sym g.state) (fit_for_run h k (state_in (counts_at p a) w) (d - p) o there x.fit);
          kept = g.kept;
          from_le = l;
          end_le = le_trans m x.end_le;
          known = known;
        }

    pub went_next : {b' : Aside} {v' : List ℕ} → d < u → Took h k d b v b' v' → Went h k p u true a w (d + 1) b' v'
    unfolding state_in
    went_next {b'} {v'} l t =
        let next = onward g.from_le l in
        let more = run-suc h k (state_in (counts_at p a) w) (d - p) g.state (after_took h k d b v b' v' t) in
        record {
          state = more ∙ ap (run h k (state_in (counts_at p a) w)) next.next;
          kept = kept_more v' (carries_each_next d) (t.kept _ g.kept);
          from_le = next.from;
          end_le = next.on;
          whole = never;
        }

    pub went_on : {e r : ℕ} {s : Bool} {b' : Aside} {v' : List ℕ} → e ≤ u → Went h k d e s b v r b' v' → Went h k p u true a w r b' v'
    went_on {e} {r} m leg = record {
      state = run_legs h k (state_in (counts_at p a) w) p d r g.from_le leg.from_le g.state leg.state;
      kept = leg.kept;
      from_le = le_trans g.from_le leg.from_le;
      end_le = le_trans leg.end_le m;
      whole = never;
    }

    pub went_ended : {s : Bool} → (s ≡ false → d ≡ u) → Went h k p u s a w d b v
    went_ended whole = record { state = g.state; kept = g.kept; from_le = g.from_le; end_le = g.end_le; whole = whole }

  -- ---- from where records since a checkpoint f are gone through
  module _ {f : List ℕ} (g : Gone h k f (counts_at p a) w) where
    pub before_gone : {t : List ℕ} → opened k ≡ accepted h → admitted_for h f ≡ accepted h → p ≤ u → u ≤ h.n
        → Known (lines p k) (unit_lines h k) t → Before h k p u a w t
    before_gone o q l m known = record {
      fit = fit_for_gone h k f o q (counts_at p a) w g (le_trans l m);
      kept = g.kept;
      from_le = l;
      end_le = m;
      known = known;
    }

    pub gone_went : {s : Bool} {r : ℕ} {b : Aside} {v : List ℕ} → Went h k p u s a w r b v → Gone h k f (counts_at r b) v
    gone_went {s} {r} x = record {
      place = le_trans g.place x.from_le;
      state = run_legs h k (begun f) (done_in f) p r g.place x.from_le g.state x.state;
      kept = x.kept;
    }
