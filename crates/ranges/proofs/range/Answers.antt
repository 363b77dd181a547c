-- `ranges::range` meets its contract.
use Prim.Native.Nat.{ℕ}
use mathlib.Core.Path.{◌≡◌, sym, ◌∙◌}
use mathlib.Core.List.{List, ◌++◌}
use native.Mathlib.Omega.{arith}
use lib.ListN.{length, drop}
use Rattle.std.specs.Prelude.{Some, None}
use Rattle.std.proofs.lemmas.Result.{err_from_is_err_and}
use Rattle.waterfall.proofs.Answer.{is_refused, is_passed}
use Rattle.layers.specs.declared.Allocation.{Allocation}
use Rattle.ranges.specs.Ranges.{half, range_refusal}
use Rattle.ranges.specs.declared.Ranges.{Ranges}
use Rattle.ranges.proofs.Ranged.{Ranged, ranged, placeable, refuses, gives}
use Rattle.ranges.proofs.range.Goals.{In_ok-range_admission}
use Rattle.ranges.proofs.range.Goals as goal

pub returns-in_err-range_admission : goal.returns-in_err-range_admission
returns-in_err-range_admission c =
    let a = c.args in
    let e = err_from_is_err_and c.from_residual.result c.from_residual.ensures.1 in
    let found : range_refusal a.register.now a.member a.losses a.ranks.now a.slip.now ≡ Some e.0 =
    rw c.figures.ensures.members.0 at (is_refused {e = e.0} _ (sym c.range_admission.ensures ∙ rw e.2 c.in_err-range_admission.was)) in
    let r = refuses a.register.now a.member a.losses a.ranks.now a.slip.now found in
    rw e.1 (record { value = r.value; slip_after = r.slip_after; low_says = r.low_says; high_says = r.high_says })

-- past the refusals
module _ (c : In_ok-range_admission) where
  unrefused : range_refusal c.args.register.now c.args.member c.args.losses c.args.ranks.now c.args.slip.now ≡ None
  unrefused = rw c.figures.ensures.members.0 at (is_passed _ (sym c.range_admission.ensures ∙ c.in_ok-range_admission.was))

  known : Ranged c.args.register.now.status c.args.member c.args.losses c.args.ranks.now (length c.args.slip.now)
  known = ranged _ _ _ _ _ unrefused

pub placed-low-requires : goal.placed-low-requires
placed-low-requires c =
    let k = known (goal.at.placed-low-requires c).In_ok-range_admission in
    placeable c.args.register.now c.args.member c.args.losses c.args.ranks.now _ k c.args.losses.low k.ordered

pub placed-high-requires : goal.placed-high-requires
placed-high-requires c =
    let k = known (goal.at.placed-high-requires c).In_ok-range_admission in
    placeable c.args.register.now c.args.member c.args.losses c.args.ranks.now _ k c.args.losses.high (omega arith)

pub split_at_mut-lows-requires : goal.split_at_mut-lows-requires
split_at_mut-lows-requires c = omega (arith, (known (goal.at.split_at_mut-lows-requires c).In_ok-range_admission).slip_fits)

pub tell-requires-2 : goal.tell-requires-2
tell-requires-2 c = omega (arith, (known (goal.at.tell-requires-2 c).In_ok-range_admission).slip_fits, c.split_at_mut-lows.ensures.back_len)

-- the two ends as they are answered, and a half of the slip as it is told
ends : {low high l h : Allocation} → low ≡ l → high ≡ h → ◌≡◌ {A = Ranges} (record { low = low; high = high }) (record { low = l; high = h })
ends e f = rw (e, f)

told : {left charges called lent c k s : List ℕ} → left ≡ charges ++ called ++ drop half lent → charges ≡ c → called ≡ k → lent ≡ s
    → left ≡ c ++ k ++ drop half s
told e f g h = e ∙ rw (f, g, h)

pub returns : goal.returns
returns c =
    let a = c.args in
    let low = c.placed-low.ensures in
    let high = c.placed-high.ensures in
    let cut = c.split_at_mut-lows.ensures in
    let lows = told c.tell.ensures low.charges_are low.calls_are cut.front in
    let highs = told c.tell-2.ensures high.charges_are high.calls_are cut.back in
    let r = gives a.register.now a.member a.losses a.ranks.now a.slip.now (unrefused (goal.at.returns c).In_ok-range_admission)
    (ends low.allocation_is high.allocation_is) (rw (lows, highs)) in
    record { value = r.value; slip_after = r.slip_after; low_says = r.low_says; high_says = r.high_says }
