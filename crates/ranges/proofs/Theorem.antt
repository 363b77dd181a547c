-- "Every loss in the range must fall between them, and each end must be reached by some loss in the range." A range's ends, and a default with a loss in
-- it, are the figures that the definitions for one pool give of their losses, and these grow with the loss (request 6).
use Prim.Native.Nat.{ℕ, ◌≤◌}
use mathlib.Core.Path.{◌≡◌, refl, ap, sym, ◌∙◌}
use mathlib.Core.Bool.{true}
use mathlib.Core.List.{List, ◌++◌}
use native.Mathlib.Omega.{arith}
use lib.ListN.{length, take, drop, length-append, length-take, length-drop}
use lib.Seq.{take_at, drop_at}
use Rattle.std.specs.Prelude.{Some, None, Ok, is_ok}
use Rattle.lists.specs.Checks.{check}
use Rattle.lists.specs.Limits.{member_limit}
use Rattle.figures.specs.Figures.{figure}
use Rattle.figures.proofs.Figures.{figure-le}
use Rattle.admission.specs.Admission.{loss_of, one_pool}
use Rattle.admission.specs.declared.Pools.{Pools}
use Rattle.admission.proofs.Admitted.{Admitted, admits}
use Rattle.waterfall.specs.Register.{Register, GivenBack}
use Rattle.waterfall.specs.Default.{fallen_call, charges, calls, shortfall, allocation_of, default_refusal}
use Rattle.waterfall.specs.Pools.{loss_together}
use Rattle.waterfall.specs.Reply.{allocated}
use Rattle.waterfall.proofs.Default.{charges_read, calls_read}
use Rattle.waterfall.proofs.Given.{length-calls}
use Rattle.waterfall.proofs.OnePool.{together, charged_rightly}
use Rattle.waterfall.proofs.Growth.{each_layer-grows, member_charge-grows, member_call-grows, shortfall_grows}
use Rattle.drill.specs.Counting.{accepted}
use Rattle.drill.proofs.OnePool.{accepted_by-rule, by_rule}
use Rattle.ranges.specs.declared.Losses.{Losses}
use Rattle.ranges.specs.Ranges.{half, range_refusal, with_loss, slip_with, range_of, range_slip, lows, highs}
use Rattle.ranges.specs.Between.{Figure, layer, charge, call, short, fallen, figure_in, end_of, lowest, highest, default_seen, InRange, Between}
use Rattle.ranges.proofs.Ranged.{Ranged, ranged, is_unrefused}

module _ (r : Register) (g : GivenBack r) (member : ℕ) (ranks : List ℕ) where
  abbrev charged : ℕ → List ℕ
  charged loss = charges r member loss ranks

  -- a figure as the definitions for one pool give it
  abbrev given : Figure → ℕ → ℕ
  given fallen loss = fallen_call r member
  given (layer l) loss = allocated l (with_loss r member ranks loss)
  given (charge m) loss = figure (charged loss) m
  given (call m) loss = figure (calls r member loss (charged loss)) m
  given short loss = shortfall r member loss (charged loss)

  given_grows : {low high : ℕ} → low ≤ high → (f : Figure) → given f low ≤ given f high
  given_grows more fallen = omega arith
  given_grows more (layer l) = each_layer-grows r member more ranks l
  given_grows more (charge m) = figure-le _ _ (member_charge-grows r member more ranks) m
  given_grows more (call m) = figure-le _ _ (member_call-grows r member more ranks) m
  given_grows more short = shortfall_grows r member more ranks

  -- of a default
  module _ (pools : Pools) (one : pools.count ≡ 1) (own : List ℕ) (a : Admitted r.status member (loss_of pools 0) ranks (length own)) where
    is_accepted : accepted (default_seen r member ranks pools own) ≡ true
    unfolding default_refusal
    is_accepted = accepted_by-rule r g member ranks pools one own (admits r.status member (loss_of pools 0) ranks (length own) a)

    default_gives : (f : Figure) → figure_in f (default_seen r member ranks pools own) ≡ given f (loss_of pools 0)
    default_gives fallen = (by_rule r g member ranks pools one own is_accepted).fallen_is
    default_gives (layer l) = (by_rule r g member ranks pools one own is_accepted).layers_are l
    default_gives (charge m) = (by_rule r g member ranks pools one own is_accepted).charge_is m
    default_gives (call m) = (by_rule r g member ranks pools one own is_accepted).call_is m
    default_gives short = (by_rule r g member ranks pools one own is_accepted).short_is

  -- of an end of a range, by its half of the slip
  end_gives : (loss : ℕ) (slip : List ℕ) → length (charged loss) ≡ member_limit → (f : Figure)
      → end_of f (Ok (Some (with_loss r member ranks loss))) (slip_with r member ranks loss slip) ≡ given f loss
  unfolding allocation_of
  end_gives loss slip long fallen = refl
  end_gives loss slip long (layer l) = refl
  end_gives loss slip long (charge m) = ap (λ (xs : List ℕ). figure xs m) (charges_read r member loss (charged loss) slip long)
  end_gives loss slip long (call m) = ap (λ (xs : List ℕ). figure xs m)
      (calls_read r member loss (charged loss) slip long (length-calls r g member loss (charged loss)))
  end_gives loss slip long short = refl

-- a range that nothing refuses
module _ (r : Register) (g : GivenBack r) (member : ℕ) (losses : Losses) (ranks slip : List ℕ) (e : range_refusal r member losses ranks slip ≡ None) where
  known : Ranged r.status member losses ranks (length slip)
  known = ranged r.status member losses ranks (length slip) e

  long : (loss : ℕ) → loss ≤ losses.high → length (charges r member loss ranks) ≡ member_limit
  long loss within = (charged_rightly r g member (one_pool loss) refl ranks half (known.admitted loss within half (omega arith))).long

  answer_is : range_of r member losses ranks slip ≡ Ok (record { low = with_loss r member ranks losses.low; high = with_loss r member ranks losses.high })
  unfolding range_of
  answer_is = rw e refl

  slip_is : range_slip r member losses ranks slip ≡ slip_with r member ranks losses.low (take half slip) ++ slip_with r member ranks losses.high (drop half slip)
  unfolding range_slip check
  slip_is = rw e refl

  half_long : length (slip_with r member ranks losses.low (take half slip)) ≡ half
  half_long =
      let low : List ℕ = charges r member losses.low ranks in
      let called : List ℕ = calls r member losses.low low in
      let rest : List ℕ = drop half (take half slip) in
      omega (
        arith,
        length-append (low ++ called) rest,
        length-append low called,
        long losses.low known.ordered,
        length-calls r g member losses.low low,
        length-drop half (take half slip),
        length-take half slip,
      )

  lows_are : (f : Figure) → lowest r member losses ranks slip f ≡ given r g member ranks f losses.low
  lows_are f =
      ap (λ answer. end_of f (lows answer) (take half (range_slip r member losses ranks slip))) answer_is
      ∙ ap (end_of f (Ok (Some (with_loss r member ranks losses.low)))) (ap (take half) slip_is ∙ take_at _ _ half half_long)
      ∙ end_gives r g member ranks losses.low (take half slip) (long losses.low known.ordered) f

  highs_are : (f : Figure) → highest r member losses ranks slip f ≡ given r g member ranks f losses.high
  highs_are f =
      ap (λ answer. end_of f (highs answer) (drop half (range_slip r member losses ranks slip))) answer_is
      ∙ ap (end_of f (Ok (Some (with_loss r member ranks losses.high)))) (ap (drop half) slip_is ∙ drop_at _ _ half half_long)
      ∙ end_gives r g member ranks losses.high (drop half slip) (long losses.high (omega arith)) f

  -- a default in the range
  module _ (pools : Pools) (own : List ℕ) (i : InRange losses pools own) where
    loss_is : loss_together pools ≡ loss_of pools 0
    loss_is = together r g member pools i.one-pool ranks

    can : Admitted r.status member (loss_of pools 0) ranks (length own)
    can = known.admitted (loss_of pools 0) (omega (arith, loss_is, i.most)) (length own) i.slip_fits

    gives : (f : Figure) → figure_in f (default_seen r member ranks pools own) ≡ given r g member ranks f (loss_of pools 0)
    gives = default_gives r g member ranks pools i.one-pool own can

    between : (f : Figure) → (lowest r member losses ranks slip f ≤ figure_in f (default_seen r member ranks pools own))
        × (figure_in f (default_seen r member ranks pools own) ≤ highest r member losses ranks slip f)
    between f = (
      omega (arith, gives f, lows_are f, given_grows r g member ranks {low = losses.low} {high = loss_of pools 0} (omega (arith, loss_is, i.least)) f),
      omega (arith, gives f, highs_are f, given_grows r g member ranks {low = loss_of pools 0} {high = losses.high} (omega (arith, loss_is, i.most)) f),
    )

  -- a default with one of the ends
  end_in : (loss : ℕ) → losses.low ≤ loss → loss ≤ losses.high → (own : List ℕ) → half ≤ length own → InRange losses (one_pool loss) own
  end_in loss least most own fits =
      let loss_is : loss_together (one_pool loss) ≡ loss = together r g member (one_pool loss) refl ranks in
      record { one-pool = refl; least = omega (arith, loss_is, least); most = omega (arith, loss_is, most); slip_fits = fits }

  all_between : Between r member losses ranks slip
  all_between =
      record {
        each_accepted = λ pools own i. is_accepted r g member ranks pools i.one-pool own (can pools own i);
        each_between = between;
        lows_reached = λ own fits.
            let i = end_in losses.low (omega arith) known.ordered own fits in
            (i, λ f. gives (one_pool losses.low) own i f ∙ sym (lows_are f));
        highs_reached = λ own fits.
            let i = end_in losses.high known.ordered (omega arith) own fits in
            (i, λ f. gives (one_pool losses.high) own i f ∙ sym (highs_are f));
      }

-- "Every loss in the range must fall between them, and each end must be reached by some loss in the range."
pub range_holds : (r : Register) → GivenBack r → (member : ℕ) (losses : Losses) (ranks slip : List ℕ) → is_ok (range_of r member losses ranks slip) ≡ true
    → Between r member losses ranks slip
unfolding range_of
range_holds r g member losses ranks slip ok = all_between r g member losses ranks slip (is_unrefused _ _ ok)
