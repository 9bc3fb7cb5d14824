-- The numbers of reasons: from 1 to the last, and each tells its reason. Assumes nothing.
use Rattle.std.proofs.Common.{◌≡◌, ℕ, ◌≤◌, nat_eq, sym, refl, ap, ◌∙◌, lit≤}
use Rattle.choice.specs.Tests.{choose}
use Rattle.choice.proofs.TestsLaws.{choose_t, choose_f}
use Rattle.rules.specs.declared.record.Reason.{Reason}
use Rattle.rules.specs.declared.record.Reason.TheVariants.{WrongForm, NoUnit, NoFuel, OutOfRange, NoMonitor, NoMethod, NoHeat, Repeated}
use Rattle.rules.specs.Outcome.{reason_number}
use Rattle.rules.specs.Record.{last_reason}

pub reason_number-within : (k : Reason) → (1 ≤ reason_number k) × (reason_number k ≤ last_reason)
reason_number-within WrongForm = (lit≤ tt, lit≤ tt)
reason_number-within NoUnit = (lit≤ tt, lit≤ tt)
reason_number-within NoFuel = (lit≤ tt, lit≤ tt)
reason_number-within OutOfRange = (lit≤ tt, lit≤ tt)
reason_number-within NoMonitor = (lit≤ tt, lit≤ tt)
reason_number-within NoMethod = (lit≤ tt, lit≤ tt)
reason_number-within NoHeat = (lit≤ tt, lit≤ tt)
reason_number-within Repeated = (lit≤ tt, lit≤ tt)

-- The reason with the number n, of those from 1 to 8.
abbrev reason_numbered : ℕ → Reason
reason_numbered n =
    choose (nat_eq n 1) WrongForm
    (choose (nat_eq n 2) NoUnit
    (choose (nat_eq n 3) NoFuel
    (choose (nat_eq n 4) OutOfRange
    (choose (nat_eq n 5) NoMonitor
    (choose (nat_eq n 6) NoMethod
    (choose (nat_eq n 7) NoHeat
    Repeated))))))

reason_numbered-number : (k : Reason) → reason_numbered (reason_number k) ≡ k
reason_numbered-number WrongForm = choose_t _ refl refl
reason_numbered-number NoUnit = choose_f _ refl (choose_t _ refl refl)
reason_numbered-number NoFuel = choose_f _ refl (choose_f _ refl (choose_t _ refl refl))
reason_numbered-number OutOfRange = choose_f _ refl (choose_f _ refl (choose_f _ refl (choose_t _ refl refl)))
reason_numbered-number NoMonitor =
    choose_f _ refl (choose_f _ refl (choose_f _ refl (choose_f _ refl (choose_t _ refl refl))))
reason_numbered-number NoMethod =
    choose_f _ refl (choose_f _ refl (choose_f _ refl (choose_f _ refl (choose_f _ refl (choose_t _ refl refl)))))
reason_numbered-number NoHeat =
    choose_f _ refl (choose_f _ refl (choose_f _ refl (choose_f _ refl (choose_f _ refl (choose_f _ refl
    (choose_t _ refl refl))))))
reason_numbered-number Repeated =
    choose_f _ refl (choose_f _ refl (choose_f _ refl (choose_f _ refl (choose_f _ refl (choose_f _ refl
    (choose_f _ refl refl))))))

pub reason_number-inj : (j k : Reason) → reason_number j ≡ reason_number k → j ≡ k
reason_number-inj j k e = sym (reason_numbered-number j) ∙ ap reason_numbered e ∙ reason_numbered-number k
