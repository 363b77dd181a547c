-- Document 01, "Declaring a default": what a default of a member does, layer by layer. Layer 4's charges are those of one pool here, by rank over
-- standing contributions; those of several pools (document 02, request 3), and the default that the calls make, are in Pools.antt. The other layers
-- are the same.
use Rattle.std.specs.Prelude.{ℕ, ◌+◌, ◌-◌, List, ◌++◌, length, drop, Option, Some, is_some}
use Rattle.lists.specs.Checks.{check}
use Rattle.lists.specs.Limits.{member_limit}
use Rattle.lists.specs.Sums.{total, plus, minus, keep}
use Rattle.refusal.specs.declared.Refusal.{Refusal}
use Rattle.split.specs.Split.{split_of}
use Rattle.ranks.specs.Ranks.{charges_of}
use Rattle.figures.specs.Figures.{figure, replace, others}
use Rattle.figures.specs.declared.Status.{Status}
use Rattle.admission.specs.Admission.{admission}
use Rattle.rooms.specs.Rooms.{gives, rooms}
use Rattle.waterfall.specs.Register.{Register}
use Rattle.waterfall.specs.Reply.{judged}
use Rattle.layers.specs.declared.Allocation.{Allocation}
use Rattle.waterfall.specs.declared.Outcome.{Outcome}

-- "the fallen call": the defaulter's outstanding call
unfoldable pub fallen_call : Register → ℕ → ℕ
fallen_call r member = figure r.outstanding member

-- "other live members' contributions", and 0 for everyone else
abbrev pub standing_of : Register → ℕ → List ℕ
standing_of r member = keep (others r.status member) r.contribution

-- the other live members' rooms: "cap minus what was called since the last close"
unfoldable pub rooms_of : Register → ℕ → List ℕ
rooms_of r member = rooms (others r.status member) r.cap r.called

-- "Each charge leaves its pocket; a call adds to what its member has outstanding and to what was called since the last close. The defaulter
-- is then in default for good." Its fallen call "is no longer outstanding".
abbrev pub settled_by : Register → ℕ → ℕ → ℕ → ℕ → ℕ → List ℕ → List ℕ → Register
settled_by r member margin contribution tranche1 tranche2 charges calls =
    record r {
      status = replace r.status member Status.InDefault;
      margin = replace r.margin member (figure r.margin member - margin);
      contribution = minus (replace r.contribution member (figure r.contribution member - contribution)) charges;
      outstanding = plus (replace r.outstanding member 0) calls;
      called = plus r.called calls;
      tranche1 = r.tranche1 - tranche1;
      tranche2 = r.tranche2 - tranche2;
    }

module _ (r : Register) (member loss : ℕ) where
  -- "The sum to place is the loss plus the defaulter's outstanding call"
  unfoldable pub to_place : ℕ
  to_place = loss + fallen_call r member

  -- 1. "the defaulter's margin"
  unfoldable pub on_margin : ℕ
  on_margin = gives to_place (figure r.margin member)

  unfoldable pub after1 : ℕ
  after1 = to_place - on_margin

  -- 2. "the defaulter's contribution"
  unfoldable pub on_contribution : ℕ
  on_contribution = gives after1 (figure r.contribution member)

  unfoldable pub after2 : ℕ
  after2 = after1 - on_contribution

  -- 3. "the first tranche"
  unfoldable pub on_tranche1 : ℕ
  on_tranche1 = gives after2 r.tranche1

  unfoldable pub after3 : ℕ
  after3 = after2 - on_tranche1

  -- 4. "other live members' contributions", which are charged `charged`, by member
  module _ (charged : List ℕ) where
    unfoldable pub after4 : ℕ
    after4 = after3 - total charged

    -- 5. "the second tranche"
    unfoldable pub on_tranche2 : ℕ
    on_tranche2 = gives after4 r.tranche2

    unfoldable pub after5 : ℕ
    after5 = after4 - on_tranche2

    -- 6. "calls on other live members, by the split over cap minus what was called since the last close"
    unfoldable pub on_calls : ℕ
    on_calls = gives after5 (total (rooms_of r member))

    unfoldable pub calls : List ℕ
    calls = split_of on_calls (rooms_of r member)

    -- "The rest is the shortfall."
    unfoldable pub shortfall : ℕ
    shortfall = after5 - on_calls

    unfoldable pub allocation_of : Allocation
    allocation_of =
        record {
          fallen = fallen_call r member;
          margin = on_margin;
          contribution = on_contribution;
          tranche1 = on_tranche1;
          members = total charged;
          tranche2 = on_tranche2;
          calls = on_calls;
          short = shortfall;
        }

    unfoldable pub settled_of : Register
    settled_of = settled_by r member on_margin on_contribution on_tranche1 on_tranche2 charged calls

-- "The slip's first 64 numbers receive each member's layer 4 charge, the next 64 its call, zero where none; further numbers stay."
abbrev pub slip_of : Register → ℕ → ℕ → List ℕ → List ℕ → List ℕ
slip_of r member loss charged slip = charged ++ calls r member loss charged ++ drop (member_limit + member_limit) slip

-- one pool -----------------------------------------------------------------------

-- 4. "the next rank charged is the highest not yet charged, and equal ranks share by the split over standing contributions"
unfoldable pub charges : Register → ℕ → ℕ → List ℕ → List ℕ
charges r member loss ranks = charges_of (after3 r member loss) (standing_of r member) ranks

-- 11 to 15
unfoldable pub default_refusal : Register → ℕ → ℕ → List ℕ → List ℕ → Option Refusal
default_refusal r member loss ranks slip = admission r.status member loss ranks (length slip)

unfoldable pub default_of : Register → ℕ → ℕ → List ℕ → List ℕ → Outcome
default_of r member loss ranks slip =
    judged (default_refusal r member loss ranks slip) r (Some (allocation_of r member loss (charges r member loss ranks)))
    (settled_of r member loss (charges r member loss ranks))

unfoldable pub default_slip : Register → ℕ → ℕ → List ℕ → List ℕ → List ℕ
default_slip r member loss ranks slip =
    check (is_some (default_refusal r member loss ranks slip)) slip
    (slip_of r member loss (charges r member loss ranks) slip)
