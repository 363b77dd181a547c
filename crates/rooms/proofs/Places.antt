-- What the live members may still give, place by place.
use Prim.Native.Nat.{ℕ, ◌-◌, ◌≤◌, ◌<◌}
use mathlib.Core.Path.{◌≡◌, ◌∙◌}
use mathlib.Core.Bool.{cond}
use mathlib.Core.List.{List}
use native.Mathlib.Omega.{arith}
use lib.ListN.{length, get_or}
use Rattle.std.proofs.lemmas.List.{get_or_default}
use Rattle.lists.specs.Limits.{member_limit, amount_limit, sum_limit}
use Rattle.lists.specs.Sums.{total, minus}
use Rattle.lists.proofs.Sums.{get_or-keep, keep-le, length-keep, length-minus, get_or-minus, total_bound}
use Rattle.figures.specs.declared.Status.{Status}
use Rattle.figures.specs.Figures.{is_live, live_in}
use Rattle.figures.proofs.Figures.{live_at, length-live}
use Rattle.rooms.specs.Rooms.{rooms}
use Rattle.rooms.specs.Parts.{Roomy}

module _ (status : List Status) (most taken : List ℕ) where
  pub length-rooms : length status ≡ member_limit → length most ≡ member_limit → length (rooms (live_in status) most taken) ≡ member_limit
  length-rooms ls lm =
      length-keep (live_in status) (minus most taken) (omega (arith, length-live status, length-minus most taken)) ∙ length-minus most taken ∙ lm

  -- a live member's room is what is left of its figure
  pub room_at : (i : ℕ) (s : Status) → i < length status → get_or (rooms (live_in status) most taken) i 0 ≡ cond (is_live (get_or status i s)) (get_or most i 0 - get_or taken i 0) 0
  room_at i s h = rw (get_or-keep (live_in status) (minus most taken) i, live_at status i, get_or-minus most taken i, get_or_default status i Status.Absent s h)

  module _ (h : Roomy most taken) where
    pub room_fits : (k : ℕ) → get_or (rooms (live_in status) most taken) k 0 ≤ amount_limit
    room_fits k = omega (arith, keep-le (live_in status) (minus most taken) k, get_or-minus most taken k, h.most_fits k)

    pub rooms_fit : length status ≡ member_limit → length most ≡ member_limit → total (rooms (live_in status) most taken) ≤ sum_limit
    rooms_fit ls lm = omega (arith, rw (length-rooms ls lm) at (total_bound amount_limit (rooms (live_in status) most taken) room_fits))
