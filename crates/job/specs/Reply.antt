-- Replies in the numbers of RULES, "Numbers": a number, 0 if the call was accepted, and its values.
--
--     Reply                  a number and the values that it gives back
--     refusal_number x       the number of a refusal
--     started r              the reply that a fresh start's answer stands for
--     woken r                the reply that a wake's answer stands for: records gone through
--     reported r             the reply that a report's answer stands for: 40 with the records done; 41 with
--                            index and reason; or the five figures in kg and 1 if the site must report
--     remaining r            the reply that a count's answer stands for: records left
--
-- Each is one-to-one: proofs/ReplyLaws.antt. Definitions only.
use Rattle.std.specs.Prelude.{ℕ, List, [], ◌∷◌, Result, Ok, Err}
use Rattle.choice.specs.Tests.{choose}
use Rattle.mass.specs.declared.figures.Figures.{Figures}
use Rattle.rules.specs.Book.{fault_number}
use Rattle.job.specs.declared.reply.Refusal.{Refusal}
use Rattle.job.specs.declared.reply.Refusal.TheVariants.{Book, CheckpointLength, CheckpointUnsound, BufferLength}
use Rattle.job.specs.declared.reply.Report.{Report}
use Rattle.job.specs.declared.reply.Report.TheVariants.{Unfinished, RecordAside, Given}

pub data Reply : Type 0 where
  reply : ℕ → List ℕ → Reply

abbrev pub refusal_number : Refusal → ℕ
refusal_number (Book x) = fault_number x
refusal_number CheckpointLength = 30
refusal_number CheckpointUnsound = 31
refusal_number BufferLength = 32

unfoldable pub figure_values : Figures → List ℕ
figure_values f =
    f.fossil.0 ∷ f.biomass.0 ∷ f.ch4.0 ∷ f.n2o.0 ∷ f.co2e.0 ∷ choose f.reportable 1 0 ∷ []

unfoldable pub started : Result (Unit {0}) Refusal → Reply
started (Err x) = reply (refusal_number x) []
started (Ok _) = reply 0 []

unfoldable pub woken : Result ℕ Refusal → Reply
woken (Err x) = reply (refusal_number x) []
woken (Ok m) = reply 0 (m ∷ [])

unfoldable pub reported : Result Report Refusal → Reply
reported (Err x) = reply (refusal_number x) []
reported (Ok (Unfinished d)) = reply 40 (d ∷ [])
reported (Ok (RecordAside i k)) = reply 41 (i ∷ k ∷ [])
reported (Ok (Given f)) = reply 0 (figure_values f)

unfoldable pub remaining : Result ℕ Refusal → Reply
remaining (Err x) = reply (refusal_number x) []
remaining (Ok m) = reply 0 (m ∷ [])
