-- Document 02, request 7, "Losses known only as a range": "Before an auction closes, the desk knows a lowest and highest loss. For a one-pool default
-- give the lowest and highest charge of each layer and member, and of the shortfall." They are stated by the two ends of the range; that each loss in
-- it falls between them is said in Between.antt.
use Rattle.std.specs.Prelude.{ℕ, ◌+◌, not, List, ◌++◌, length, take, drop, Option, Result, Some, None, Ok, Err, is_some, eqb, ltb}
use Rattle.lists.specs.Checks.{check}
use Rattle.lists.specs.Limits.{member_limit, sum_limit}
use Rattle.refusal.specs.Refusal.{answered}
use Rattle.refusal.specs.declared.Refusal.{Refusal}
use Rattle.figures.specs.Figures.{others}
use Rattle.figures.specs.declared.Status.{Status}
use Rattle.admission.specs.Admission.{standing, misranked}
use Rattle.layers.specs.declared.Allocation.{Allocation}
use Rattle.waterfall.specs.Register.{Register}
use Rattle.waterfall.specs.Default.{charges, allocation_of, slip_of}
use Rattle.waterfall.specs.Reply.{Reply}
use Rattle.ranges.specs.declared.Losses.{Losses}
use Rattle.ranges.specs.declared.Ranges.{Ranges}

-- "each half laid out as a default slip"
abbrev pub half : ℕ
half = member_limit + member_limit

-- 11, 12, "23, low above high, just before 13, which tests the high", 14 of the ranks, "24, range slip below 256 numbers, in the place of the slip part
-- of 14", 15. `slip` is how many numbers are lent.
unfoldable pub range_checks : List Status → ℕ → Losses → List ℕ → ℕ → Option Refusal
range_checks status member losses ranks slip =
    standing status member
    (check (ltb losses.high losses.low) (Some Refusal.ReversedLosses)
    (check (ltb sum_limit losses.high) (Some Refusal.ExcessiveLoss)
    (check (not (eqb (length ranks) member_limit)) (Some Refusal.Unready)
    (check (ltb slip (half + half)) (Some Refusal.ShortRangeSlip)
    (check (misranked (others status member) ranks) (Some Refusal.Misranked)
    None)))))

-- what a default with one pool and this loss allocates, and its slip
module _ (r : Register) (member : ℕ) (ranks : List ℕ) where
  abbrev pub with_loss : ℕ → Allocation
  with_loss loss = allocation_of r member loss (charges r member loss ranks)

  abbrev pub slip_with : ℕ → List ℕ → List ℕ
  slip_with loss slip = slip_of r member loss (charges r member loss ranks) slip

-- a range on a register, which "is only read"
module _ (r : Register) (member : ℕ) (losses : Losses) (ranks slip : List ℕ) where
  abbrev pub range_refusal : Option Refusal
  range_refusal = range_checks r.status member losses ranks (length slip)

  -- "the answer carries the ranges of layers and shortfall"
  unfoldable pub range_of : Result Ranges Refusal
  range_of = answered range_refusal (record { low = with_loss r member ranks losses.low; high = with_loss r member ranks losses.high })

  -- "a slip of 256 numbers the members', lows before highs, each half laid out as a default slip; further numbers stay": behind the lows' half a
  -- default's slip has no further numbers, and behind the highs' it has those that stay
  unfoldable pub range_slip : List ℕ
  range_slip =
      check (is_some range_refusal) slip
      (slip_with r member ranks losses.low (take half slip) ++ slip_with r member ranks losses.high (drop half slip))

-- an end of the answer, as a default would answer it: "every other number of its answer is 0" where it is refused
abbrev pub end_reply : (Ranges → Allocation) → Result Ranges Refusal → Reply
end_reply end (Err refusal) = Err refusal
end_reply end (Ok ranges) = Ok (Some (end ranges))

abbrev pub lows : Result Ranges Refusal → Reply
lows answer = end_reply (λ ranges. ranges.low) answer

abbrev pub highs : Result Ranges Refusal → Reply
highs answer = end_reply (λ ranges. ranges.high) answer
