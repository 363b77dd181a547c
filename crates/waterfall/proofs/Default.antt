-- Laws of a default: what it charges is what there is to place, no charge passes its pocket, and layers and ranks are charged in order; what is read of
-- the slip that it leaves.
use Prim.Native.Nat.{ℕ, ◌+◌, ◌-◌, ◌≤◌, ◌<◌, min}
use mathlib.Core.Path.{◌≡◌, ap, ◌∙◌}
use mathlib.Core.Bool.{false}
use mathlib.Core.List.{List, ◌++◌, append_assoc}
use native.Mathlib.Omega.{arith}
use lib.ListN.{length, get_or, take, drop}
use lib.Seq.{take_at, drop_at}
use Rattle.lists.specs.Limits.{member_limit}
use Rattle.lists.specs.Sums.{total, minus}
use Rattle.lists.proofs.Sums.{get_or-minus, keep-le}
use Rattle.split.proofs.Laws.{split-within, split_whole, total_within}
use Rattle.figures.specs.Figures.{is_live, figure, replace, others}
use Rattle.figures.specs.declared.Status.{Status}
use Rattle.figures.proofs.Figures.{live_at}
use Rattle.waterfall.specs.Default.{standing_of, rooms_of, fallen_call, to_place, on_margin, after1, on_contribution, after2, on_tranche1, after3, after4}
use Rattle.waterfall.specs.Default.{on_tranche2, after5, on_calls, calls, shortfall, slip_of}
use Rattle.waterfall.specs.Register.{Register}

-- a member that is in default, the defaulter too, is none of the others
pub unmarked : (r : Register) (member k : ℕ) → get_or (replace r.status member Status.InDefault) k Status.Absent ≡ Status.InDefault
    → get_or (others r.status member) k false ≡ false
unmarked r member k e = live_at (replace r.status member Status.InDefault) k ∙ ap is_live e

-- the rest of a cap is at most cap minus what was called
pub rooms-within : (r : Register) (member k : ℕ) → get_or (rooms_of r member) k 0 ≤ get_or r.cap k 0 - get_or r.called k 0
unfolding rooms_of
rooms-within r member k = omega (arith, keep-le (others r.status member) (minus r.cap r.called) k, get_or-minus r.cap r.called k)

-- what is known of layer 4's charges: nobody is charged more than its contribution, no more is charged than is left to place, and where less is,
-- every contribution is charged whole
pub record Layer4 (r : Register) (member loss : ℕ) (charged : List ℕ) : Type 0 where
  pub long : length charged ≡ member_limit
  pub weighed : (k : ℕ) → get_or charged k 0 ≤ get_or (standing_of r member) k 0
  pub within_left : total charged ≤ after3 r member loss
  pub exhausted : total charged < after3 r member loss → (k : ℕ) → get_or charged k 0 ≡ get_or (standing_of r member) k 0

pub charges-within : (r : Register) (member loss : ℕ) (charged : List ℕ) → Layer4 r member loss charged → (k : ℕ)
    → get_or charged k 0 ≤ get_or r.contribution k 0
charges-within r member loss charged f k = omega (arith, f.weighed k, keep-le (others r.status member) r.contribution k)

module _ (r : Register) (member loss : ℕ) (charged : List ℕ) where
  -- a call is at most the rest of its cap, and the calls are layer 6 together
  pub calls-within : (k : ℕ) → get_or (calls r member loss charged) k 0 ≤ get_or (rooms_of r member) k 0
  unfolding calls on_calls
  calls-within k = split-within (on_calls r member loss charged) (rooms_of r member) (omega arith) k

  pub calls-total : total (calls r member loss charged) ≡ on_calls r member loss charged
  unfolding calls on_calls
  calls-total = total_within (on_calls r member loss charged) (rooms_of r member) (omega arith)

  -- what each layer gives and what is left after it are what was left before it
  pub left1 : on_margin r member loss + after1 r member loss ≡ to_place r member loss
  unfolding after1 on_margin
  left1 = omega arith

  pub left2 : on_contribution r member loss + after2 r member loss ≡ after1 r member loss
  unfolding after2 on_contribution
  left2 = omega arith

  pub left3 : on_tranche1 r member loss + after3 r member loss ≡ after2 r member loss
  unfolding after3 on_tranche1
  left3 = omega arith

  pub left4 : Layer4 r member loss charged → total charged + after4 r member loss charged ≡ after3 r member loss
  unfolding after4
  left4 f = omega (arith, f.within_left)

  pub left5 : on_tranche2 r member loss charged + after5 r member loss charged ≡ after4 r member loss charged
  unfolding after5 on_tranche2
  left5 = omega arith

  pub left6 : on_calls r member loss charged + shortfall r member loss charged ≡ after5 r member loss charged
  unfolding shortfall on_calls
  left6 = omega arith

  -- the six layers and the shortfall are the loss and the fallen call
  pub placed : Layer4 r member loss charged → on_margin r member loss + on_contribution r member loss + on_tranche1 r member loss + total
      charged + on_tranche2 r member loss charged + on_calls r member loss charged + shortfall r member loss charged ≡ loss + fallen_call r member
  unfolding to_place
  placed f = omega (arith, left1, left2, left3, left4 f, left5, left6)

  -- each pocket gives at most what it has
  pub margin-gives : on_margin r member loss ≤ figure r.margin member
  unfolding on_margin
  margin-gives = omega arith

  pub contribution-gives : on_contribution r member loss ≤ figure r.contribution member
  unfolding on_contribution
  contribution-gives = omega arith

  pub tranche1-gives : on_tranche1 r member loss ≤ r.tranche1
  unfolding on_tranche1
  tranche1-gives = omega arith

  pub tranche2-gives : on_tranche2 r member loss charged ≤ r.tranche2
  unfolding on_tranche2
  tranche2-gives = omega arith

  -- where something is left after a layer, the layer has given all it has
  pub emptied1 : 0 < after1 r member loss → on_margin r member loss ≡ figure r.margin member
  unfolding after1 on_margin
  emptied1 h = omega arith

  pub emptied2 : 0 < after2 r member loss → on_contribution r member loss ≡ figure r.contribution member
  unfolding after2 on_contribution
  emptied2 h = omega arith

  pub emptied3 : 0 < after3 r member loss → on_tranche1 r member loss ≡ r.tranche1
  unfolding after3 on_tranche1
  emptied3 h = omega arith

  pub emptied4 : Layer4 r member loss charged → 0 < after4 r member loss charged → (k : ℕ) → get_or charged k 0 ≡ get_or (standing_of r member) k 0
  unfolding after4
  emptied4 f h k = f.exhausted (omega arith) k

  pub emptied5 : 0 < after5 r member loss charged → on_tranche2 r member loss charged ≡ r.tranche2
  unfolding after5 on_tranche2
  emptied5 h = omega arith

  pub emptied6 : 0 < shortfall r member loss charged → (k : ℕ) → get_or (calls r member loss charged) k 0 ≡ get_or (rooms_of r member) k 0
  unfolding shortfall calls on_calls
  emptied6 h k =
      let e : min (after5 r member loss charged) (total (rooms_of r member)) ≡ total (rooms_of r member) = omega arith in
      rw e (ap (λ (xs : List ℕ). get_or xs k 0) (split_whole (rooms_of r member)))

-- the slip ---------------------------------------------------------------------------

-- "The slip's first 64 numbers receive each member's layer 4 charge, the next 64 its call"
module _ (r : Register) (member loss : ℕ) (charged slip : List ℕ) (long : length charged ≡ member_limit) where
  parted : slip_of r member loss charged slip ≡ charged ++ (calls r member loss charged ++ drop (member_limit + member_limit) slip)
  parted = append_assoc charged (calls r member loss charged) (drop (member_limit + member_limit) slip)

  pub charges_read : take member_limit (slip_of r member loss charged slip) ≡ charged
  charges_read = ap (take member_limit) parted ∙ take_at charged _ member_limit long

  pub calls_read : length (calls r member loss charged) ≡ member_limit → take member_limit (drop member_limit (slip_of r member loss charged slip)) ≡ calls r member loss charged
  calls_read e =
      ap (λ (xs : List ℕ). take member_limit (drop member_limit xs)) parted
      ∙ ap (take member_limit) (drop_at charged _ member_limit long)
      ∙ take_at (calls r member loss charged) _ member_limit e
