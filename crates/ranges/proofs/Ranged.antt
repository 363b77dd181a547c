-- What is known of a range that nothing refuses, and what its answer says.
use Prim.Native.Nat.{ℕ, ◌+◌, ◌≤◌}
use mathlib.Core.Path.{◌≡◌, refl}
use mathlib.Core.Bool.{true, false≢true, not}
use mathlib.Core.List.{List, ◌++◌}
use native.Mathlib.Omega.{arith}
use borrow.Author.Tests.{ltb-false, eqb-true, not-false}
use lib.Dec.{eqb, ltb}
use lib.ListN.{length, take, drop}
use Rattle.std.specs.Prelude.{Option, Some, None, Result, Ok, Err, is_ok}
use Rattle.lists.specs.Checks.{check}
use Rattle.lists.specs.Limits.{member_limit, sum_limit}
use Rattle.lists.proofs.Checks.{check_past}
use Rattle.refusal.specs.Refusal.{answered}
use Rattle.refusal.specs.declared.Refusal.{Refusal}
use Rattle.figures.specs.Figures.{others}
use Rattle.figures.specs.declared.Status.{Status}
use Rattle.admission.specs.Admission.{misranked}
use Rattle.admission.proofs.Admitted.{Admitted, admits}
use Rattle.admission.proofs.Passed.{passes}
use Rattle.layers.specs.declared.Allocation.{Allocation}
use Rattle.waterfall.specs.Register.{Register}
use Rattle.waterfall.specs.Reply.{Says, judged}
use Rattle.waterfall.proofs.Answer.{Placeless, placeless_check, placeless_standing, says-allocated}
use Rattle.ranges.specs.Ranges.{half, range_checks, with_loss, slip_with, range_refusal, range_of, range_slip, end_reply, lows, highs}
use Rattle.ranges.specs.Parts.{Placeable}
use Rattle.ranges.specs.declared.Losses.{Losses}
use Rattle.ranges.specs.declared.Ranges.{Ranges}

module _ (status : List Status) (member : ℕ) (losses : Losses) (ranks : List ℕ) (slip : ℕ) where
  pub record Ranged : Type 0 where
    pub ordered : losses.low ≤ losses.high
    pub slip_fits : half + half ≤ slip
    -- a default with no greater loss than the high is admitted as document 01 has it
    pub admitted : (loss : ℕ) → loss ≤ losses.high → (own : ℕ) → half ≤ own → Admitted status member loss ranks own

  pub ranged : range_checks status member losses ranks slip ≡ None → Ranged
  unfolding range_checks
  ranged e =
      let s = passes status member _ e in
      let a = check_past (ltb losses.high losses.low) _ _ (λ q. cc) s.rest-none in
      let b = check_past (ltb sum_limit losses.high) _ _ (λ q. cc) a.1 in
      let c = check_past (not (eqb (length ranks) member_limit)) _ _ (λ q. cc) b.1 in
      let d = check_past (ltb slip (half + half)) _ _ (λ q. cc) c.1 in
      let f = check_past (misranked (others status member) ranks) _ _ (λ q. cc) d.1 in
      record {
        ordered = ltb-false _ _ a.0;
        slip_fits = ltb-false _ _ d.0;
        admitted = λ loss within own fits. record {
          present = s.present;
          not_in-default = s.not_in-default;
          loss_fits = omega (arith, within, ltb-false sum_limit losses.high b.0);
          ranks_length = eqb-true _ _ (not-false _ c.0);
          slip-length = fits;
          well_ranked = f.0;
        };
      }

-- so that it can be placed
pub placeable : (r : Register) (member : ℕ) (losses : Losses) (ranks : List ℕ) (slip : ℕ) → Ranged r.status member losses ranks slip → (loss : ℕ)
    → loss ≤ losses.high → Placeable r member loss ranks
placeable r member losses ranks slip known loss within =
    admits r.status member loss ranks half (known.admitted loss within half (omega arith))

-- a range that is answered was not refused
pub is_unrefused : (found : Option Refusal) (x : Ranges) → is_ok (answered found x) ≡ true → found ≡ None
is_unrefused (Some f) x q = absurd (false≢true q)
is_unrefused None x q = refl

-- an end of it is said as a default's answer is, in the paper's numbers and values
end_as : (end : Ranges → Allocation) (r : Register) (found : Option Refusal) (x : Ranges)
    → end_reply end (answered found x) ≡ (judged found r (Some (end x)) r).reply
unfolding judged
end_as end r (Some refusal) x = refl
end_as end r None x = refl

module _ (r : Register) (member : ℕ) (losses : Losses) (ranks slip : List ℕ) where
  placeless : Placeless (range_refusal r member losses ranks slip)
  unfolding range_checks
  placeless =
      placeless_standing r member _
      (placeless_check _ _ _ refl
      (placeless_check _ _ _ refl
      (placeless_check _ _ _ refl
      (placeless_check _ _ _ refl
      (placeless_check _ _ _ refl (tt {0}))))))

  abbrev refusal : Option Refusal
  refusal = range_refusal r member losses ranks slip

  abbrev both : Ranges
  both = record { low = with_loss r member ranks losses.low; high = with_loss r member ranks losses.high }

  end_says : (end : Ranges → Allocation) {answer : Result Ranges Refusal} → answer ≡ range_of r member losses ranks slip
      → Says (end_reply end answer) refusal (end both)
  unfolding range_of
  end_says end e = rw (e, end_as end r) (says-allocated r r _ refusal placeless)

  -- its answer, and the slip as it is left
  pub record Answers (answer : Result Ranges Refusal) (left : List ℕ) : Type 0 where
    pub value : answer ≡ range_of r member losses ranks slip
    pub slip_after : left ≡ range_slip r member losses ranks slip
    pub low_says : Says (lows answer) refusal (with_loss r member ranks losses.low)
    pub high_says : Says (highs answer) refusal (with_loss r member ranks losses.high)

  pub refuses : {found : Refusal} → refusal ≡ Some found → Answers (Err found) slip
  unfolding range_of range_slip check
  refuses e =
      let v : Err _ ≡ range_of r member losses ranks slip = rw e refl in
      record { value = v; slip_after = rw e refl; low_says = end_says (λ x. x.low) v; high_says = end_says (λ x. x.high) v }

  pub gives : {x : Ranges} {left : List ℕ} → refusal ≡ None
      → x ≡ both
      → left ≡ slip_with r member ranks losses.low (take half slip) ++ slip_with r member ranks losses.high (drop half slip) → Answers (Ok x) left
  unfolding range_of range_slip check
  gives {x} e a l =
      let v : Ok x ≡ range_of r member losses ranks slip = rw (e, a) refl in
      record { value = v; slip_after = rw e l; low_says = end_says (λ x. x.low) v; high_says = end_says (λ x. x.high) v }
