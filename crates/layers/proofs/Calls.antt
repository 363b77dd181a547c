-- A default placed with the figures that are read, and what the slip receives.
use Prim.Native.Nat.{ℕ, ◌+◌, ◌-◌, ◌≤◌, ◌<◌}
use mathlib.Core.Path.{◌≡◌, ap, sym, ◌∙◌}
use mathlib.Core.List.{List, ◌++◌}
use native.Mathlib.Omega.{arith}
use lib.ListN.{length, take, drop}
use lib.Seq.{take_at, drop_at, drop-drop}
use Rattle.lists.specs.Limits.{member_limit, pool_limit, allocation_limit}
use Rattle.lists.specs.Sums.{total}
use Rattle.figures.specs.declared.Status.{Status}
use Rattle.admission.specs.Admission.{losses_of}
use Rattle.admission.specs.declared.Pools.{Pools}
use Rattle.rooms.specs.Parts.{Leaves}
use Rattle.rooms.proofs.Shares.{leaves}
use Rattle.pools.specs.Pools.{sums_of}
use Rattle.pools.specs.Parts.{Poolable}
use Rattle.pools.proofs.Sums.{counted-sums, total-sums}
use Rattle.admission.proofs.EachPool.{length-losses}
use Rattle.layers.specs.Parts.{Pooled}

parts : (left has given rest : ℕ) → Leaves left has given rest → given + rest ≡ left
parts left has given rest e = omega arith

-- what layers 1 to 3 leave is what the pools have to place
module _ (pools : Pools) (fallen margin contribution tranche1 g1 g2 g3 l1 l2 l3 : ℕ) (first : Leaves (total (losses_of pools) + fallen) margin g1 l1)
    (second : Leaves l1 contribution g2 l2)
    (third : Leaves l2 tranche1 g3 l3) (few : pools.count ≤ pool_limit) (some : 0 < pools.count) where
  abbrev sums : List ℕ
  sums = sums_of (g1 + g2 + g3) fallen (losses_of pools)

  -- each layer gives a part of what was left, and leaves the rest
  pub left_to-pools : l3 ≡ total sums
  left_to-pools =
      less (g1 + g2 + g3) (total (losses_of pools) + fallen) l3 (added _ _ _ _ _ _ _ (parts _ _ _ _ first) (parts _ _ _ _ second) (parts _ _ _ _ third))
      ∙ sym (total-sums (g1 + g2 + g3) fallen (losses_of pools) (omega (arith, length-losses pools)))
    where
      less : (g s l : ℕ) → g + l ≡ s → l ≡ s - g
      less g s l e = omega arith

      added : (s a b c l k m : ℕ) → a + l ≡ s → b + k ≡ l → c + m ≡ k → a + b + c + m ≡ s
      added s a b c l k m p q r = omega arith

  pub poolable : (status : List Status) (contributions ranks : List ℕ) → total (losses_of pools) + fallen ≤ allocation_limit
      → Pooled pools status contributions ranks → Poolable sums status contributions ranks
  poolable status contributions ranks fits p =
      let n : length sums ≡ pools.count = counted-sums (g1 + g2 + g3) fallen pools in
      record {
        some = omega (arith, n);
        few = omega (arith, n);
        sums_fit = bound _ _ _ _ _ (sym left_to-pools) (leaves _ _ third) (leaves _ _ second) (leaves _ _ first) fits;
        ranks_length = rw n p.ranks_length;
        contribution_fits = p.contribution_fits;
        well_ranked = rw n p.well_ranked;
      }
    where
      bound : (t a b c d : ℕ) → t ≡ a → a ≤ b → b ≤ c → c ≤ d → d ≤ allocation_limit → t ≤ allocation_limit
      bound t a b c d e p q r f = omega arith

-- the slip: two parts written one after the other
pub slip-written : (charged called slip s1 s2 : List ℕ) → length charged ≡ member_limit
    → s1 ≡ take 0 slip ++ charged ++ drop (0 + member_limit) slip
    → s2 ≡ take member_limit s1 ++ called ++ drop (member_limit + member_limit) s1
    → s2 ≡ charged ++ called ++ drop (member_limit + member_limit) slip
slip-written charged called slip s1 s2 l e1 e2 =
    let front : take member_limit s1 ≡ charged = rw e1 (take_at charged (drop member_limit slip) member_limit l) in
    let back : drop member_limit s1 ≡ drop member_limit slip = rw e1 (drop_at charged (drop member_limit slip) member_limit l) in
    let rest : drop (member_limit + member_limit) s1 ≡ drop (member_limit + member_limit) slip =
    sym (drop-drop member_limit member_limit s1) ∙ ap (drop member_limit) back ∙ drop-drop member_limit member_limit slip in
    e2 ∙ rw (front, rest)
