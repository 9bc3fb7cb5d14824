-- What a report and a count of the records left reply. RULES, "Report", "Calls" and "Numbers".
--
--     warming_of w         the warming values of CH4 and N2O in the set w: 0 the first, 1 the second
--     figures_at h s       the five figures and the decision of a state, under the set that the trailer names
--     reply_at h s         the reply to a report at a state: 40 unless the book is finished, 41 if a record
--                          was set aside, else the figures
--     report_reply k c     the reply to a report
--     left_reply k c       the reply to a count: the records of the book, less those done
--
-- Laws: proofs/ReportLaws.antt. Definitions only.
use Rattle.std.specs.Prelude.{ℕ, ◌-◌, List, [], ◌∷◌, nat_lt, nat_eq}
use Rattle.choice.specs.Tests.{choose}
use Rattle.mass.specs.declared.ledger.Ledger.{Ledger}
use Rattle.mass.specs.declared.figures.Figures.{Figures}
use Rattle.mass.specs.declared.figures.Warming.{Warming}
use Rattle.mass.specs.Ledger.{ledger_of}
use Rattle.mass.specs.Figures.{figures_of}
use Rattle.rules.specs.declared.book.Head.{Head}
use Rattle.job.specs.State.{State, mass, fossil, biomass, ch4, n2o}
use Rattle.job.specs.Checkpoint.{done_in, decode}
use Rattle.job.specs.Reply.{Reply, reply, figure_values}
use Rattle.job.specs.Wake.{if_open, admitted}

unfoldable pub warming_of : ℕ → Warming
warming_of w = choose (nat_eq w 0) (record { ch4 = 21; n2o = 310 }) (record { ch4 = 25; n2o = 298 })

unfoldable pub figures_at : Head → State → Figures
figures_at h s =
    let g : ℕ → Ledger = λ i. ledger_of (mass s.masses i) in
    figures_of (record { fossil = g fossil; biomass = g biomass; ch4 = g ch4; n2o = g n2o }) (warming_of h.warming)

unfoldable pub reply_at : Head → State → Reply
reply_at h s =
    choose (nat_lt s.counts.done h.n) (reply 40 (s.counts.done ∷ []))
    (choose (nat_lt 0 s.counts.aside) (reply 41 (s.counts.index ∷ s.counts.reason ∷ []))
    (reply 0 (figure_values (figures_at h s))))

unfoldable pub report_reply : List ℕ → List ℕ → Reply
report_reply k c = if_open (admitted k c) (λ n. reply n []) (λ h. reply_at h (decode c))

unfoldable pub left_reply : List ℕ → List ℕ → Reply
left_reply k c = if_open (admitted k c) (λ n. reply n []) (λ h. reply 0 ((h.n - done_in c) ∷ []))
