-- Document 01, "Declaring a default", the other three calls: payment, replenishment, close.
use Rattle.std.specs.Prelude.{ℕ, ◌+◌, ◌-◌, ◌||◌, Option, Some, None, eqb, ltb}
use Rattle.lists.specs.Checks.{check}
use Rattle.refusal.specs.declared.Refusal.{Refusal}
use Rattle.figures.specs.Figures.{figure, replace, none}
use Rattle.admission.specs.Admission.{standing, unfit, owing}
use Rattle.waterfall.specs.Register.{Register}
use Rattle.waterfall.specs.Reply.{judged}
use Rattle.waterfall.specs.declared.Outcome.{Outcome}

-- "A payment lowers the outstanding call; it does not reopen the cap."
unfoldable pub paid_of : Register → ℕ → ℕ → Register
paid_of r member amount = record r { outstanding = replace r.outstanding member (figure r.outstanding member - amount) }

-- 11, 12, 16. "A payment is zero or above the outstanding call."
unfoldable pub payment_refusal : Register → ℕ → ℕ → Option Refusal
payment_refusal r member amount =
    standing r.status member
    (check (unfit amount (figure r.outstanding member)) (Some Refusal.UnfitPayment)
    None)

unfoldable pub payment_of : Register → ℕ → ℕ → Outcome
payment_of r member amount = judged (payment_refusal r member amount) r None (paid_of r member amount)

-- "A replenishment raises the contribution, never above the requirement."
unfoldable pub replenished_of : Register → ℕ → ℕ → Register
replenished_of r member amount = record r { contribution = replace r.contribution member (figure r.contribution member + amount) }

-- 11, 12, 17. "A replenishment is zero or lifts the contribution above the requirement."
unfoldable pub replenishment_refusal : Register → ℕ → ℕ → Option Refusal
replenishment_refusal r member amount =
    standing r.status member
    (check (eqb amount 0 || ltb (figure r.requirement member) (figure r.contribution member + amount)) (Some Refusal.UnfitReplenishment)
    None)

unfoldable pub replenishment_of : Register → ℕ → ℕ → Outcome
replenishment_of r member amount = judged (replenishment_refusal r member amount) r None (replenished_of r member amount)

-- "A close starts the caps afresh."
unfoldable pub closed_of : Register → Register
closed_of r = record r { called = none }

-- 18. "A close finds an outstanding call."
unfoldable pub close_refusal : Register → Option Refusal
close_refusal r =
    check (owing r.outstanding) (Some Refusal.CallOutstanding)
    None

unfoldable pub close_of : Register → Outcome
close_of r = judged (close_refusal r) r None (closed_of r)
