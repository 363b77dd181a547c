-- What the callers know of a record of a stress sheet that is in order.
use mathlib.Core.Logic.{◌⊎◌}
use Rattle.std.proofs.Common.{◌≡◌, ℕ, ◌+◌, ◌<◌, ◌≤◌, cond, true, not, ◌||◌, leb, ◌*◌, List, Option, Some, None, sym, subst, arith}
use Rattle.lists.specs.Limits.{member_limit, amount_limit, weak_limit, group_limit}
use Rattle.lists.specs.Checks.{check}
use Rattle.std.proofs.lemmas.Bool.Decides.{nat_tests}
use Rattle.sheets.specs.Bytes.{beyond, nonzero}
use Rattle.stress.specs.Stress.{passed, stressed_at, weak_at, group_at, loss_at, same_block, flags_before, stress_outside, stress_rises, stress_fault}
use Rattle.stress.specs.declared.Before.{Before}

-- the latest member of the record's block before it, 0 where the record opens its block
abbrev pub member_before : Option Before → List ℕ → ℕ
member_before None s = 0
member_before (Some before) s = cond (same_block (Some before) s) before.member 0

-- day, scenario and member rise strictly, as a triple
abbrev pub Rises : Before → Before → Type 0
Rises before next =
    (before.day < next.day)
    ⊎ ((next.day ≡ before.day)
    × ((before.scenario < next.scenario)
    ⊎ ((next.scenario ≡ before.scenario)
    × (before.member < next.member))))

-- within which limits a record in order is, and that it rises above the one before, where there is one
pub record LossInOrder (before : Option Before) (s : List ℕ) : Type 0 where
  pub loss_most : loss_at s ≤ amount_limit
  pub group_most : group_at s ≤ group_limit
  pub member_rises : member_before before s < stressed_at s
  pub member_most : stressed_at s ≤ member_limit
  pub flags_most : flags_before before s + weak_at s ≤ weak_limit
  pub rises : (last : Before) → before ≡ Some last → Rises last (passed before s)

member_rising : (before : Option Before) (s : List ℕ) → stress_rises before s ≡ true → 1 ≤ stressed_at s → member_before before s < stressed_at s
unfolding stress_rises
member_rising None s e h = omega arith
member_rising (Some before) s e h = grind (arith, nat_tests)

rising : (last : Before) (s : List ℕ) → stress_rises (Some last) s ≡ true → Rises last (passed (Some last) s)
unfolding stress_rises
rising last s e = grind (arith, nat_tests)

pub loss_in-order : (before : Option Before) (s : List ℕ) → stress_fault before s ≡ None → LossInOrder before s
unfolding check stress_fault stress_outside
loss_in-order before s e =
    record {
      loss_most = grind (arith, nat_tests);
      group_most = grind (arith, nat_tests);
      member_rises = member_rising before s (grind (arith, nat_tests)) (grind (arith, nat_tests));
      member_most = grind (arith, nat_tests);
      flags_most = grind (arith, nat_tests);
      rises = λ last is. subst (λ b. Rises last (passed b s)) (sym is) (rising last s (grind (arith, nat_tests)));
    }

-- a group and a byte of zero behind it, as one number
pub group_with_zero : (group behind n : ℕ) → n ≡ group + behind * 256 → leb n group_limit ≡ not (beyond 0 group_limit group || nonzero behind)
group_with_zero group behind n e = grind (arith, nat_tests)
