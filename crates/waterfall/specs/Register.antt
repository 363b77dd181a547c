-- The register: a list of 64 figures of each kind, by member number, and the two tranches.
use Rattle.std.specs.Prelude.{ℕ, ◌+◌, ◌≤◌, ◌≡◌, List, length, get_or, replicate}
use Rattle.lists.specs.Sums.{AtMost}
use Rattle.lists.specs.Limits.{member_limit, amount_limit, sum_limit}
use Rattle.figures.specs.Figures.{none}
use Rattle.figures.specs.declared.Status.{Status}

pub record Register : Type 0 where
  pub status : List Status
  pub margin : List ℕ
  pub contribution : List ℕ
  pub requirement : List ℕ
  pub cap : List ℕ
  pub outstanding : List ℕ
  -- what was called since the last close
  pub called : List ℕ
  -- of our own contribution
  pub tranche1 : ℕ
  pub tranche2 : ℕ

-- "A refused opening hands back a register with no members and both tranches 0."
abbrev pub empty_register : Register
empty_register =
    record {
      status = replicate member_limit Status.Absent;
      margin = none;
      contribution = none;
      requirement = none;
      cap = none;
      outstanding = none;
      called = none;
      tranche1 = 0;
      tranche2 = 0;
    }

-- "A register handed to a call is one that an opening or an earlier call gave back, the empty one included": what is true of every register that there is.
pub record GivenBack (r : Register) : Type 0 where
  pub status_length : length r.status ≡ member_limit
  pub margin_length : length r.margin ≡ member_limit
  pub contribution_length : length r.contribution ≡ member_limit
  pub requirement_length : length r.requirement ≡ member_limit
  pub cap_length : length r.cap ≡ member_limit
  pub outstanding_length : length r.outstanding ≡ member_limit
  pub called_length : length r.called ≡ member_limit
  pub margin_fits : AtMost r.margin amount_limit
  pub contribution_fits : (k : ℕ) → get_or r.contribution k 0 ≤ get_or r.requirement k 0
  pub requirement_fits : AtMost r.requirement amount_limit
  pub cap_fits : AtMost r.cap amount_limit
  pub called_fits : (k : ℕ) → get_or r.called k 0 ≤ get_or r.cap k 0
  pub outstanding_fits : (k : ℕ) → get_or r.outstanding k 0 ≤ get_or r.called k 0
  pub defaulter_owes_none : (k : ℕ) → get_or r.status k Status.Absent ≡ Status.InDefault → get_or r.outstanding k 0 ≡ 0
  pub tranches_fit : r.tranche1 + r.tranche2 ≤ sum_limit
