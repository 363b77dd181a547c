-- Document 02, request 6: the losses that are raised for the class are two as the theorem speaks of them, and it is applied to them.
use Prim.Native.Nat.{ℕ}
use mathlib.Core.Path.{◌≡◌, refl, ap, ◌∙◌}
use mathlib.Core.Bool.{Bool, true, cond}
use native.Mathlib.Omega.{arith}
use Rattle.std.specs.Prelude.{is_ok}
use Rattle.waterfall.specs.Register.{GivenBack}
use Rattle.waterfall.specs.Reply.{Reply}
use Rattle.waterfall.proofs.Entered.{given-opened}
use Rattle.raised_loss.specs.RaisedLoss.{lower, higher, LargerLoss}
use Rattle.raised_loss.proofs.Theorem.{raise_a_loss}
use Rattle.drill.specs.Counting.{accepted}
use Rattle.admission.specs.Admission.{one_pool}
use Rattle.worked.specs.Drills.{sheet, register, slip, ranked}
use Rattle.worked.specs.RaisedLoss.{used_slip, from_80-to-100}

pub given : GivenBack register
unfolding register
given = given-opened sheet 22_000

lower_accepted : accepted (lower register 1 (ranked 255 1 2 2) (one_pool 80_000) (one_pool 100_000) slip used_slip) ≡ true
lower_accepted = ap (λ (reply : Reply). is_ok reply) from_80-to-100.0

higher_accepted : accepted (higher register 1 (ranked 255 1 2 2) (one_pool 80_000) (one_pool 100_000) slip used_slip) ≡ true
higher_accepted = ap (λ (reply : Reply). is_ok reply) (from_80-to-100.5 ∙ from_80-to-100.2)

pub in_class : LargerLoss register 1 (ranked 255 1 2 2) (one_pool 80_000) (one_pool 100_000) slip used_slip
in_class =
    raise_a_loss register given 1 (ranked 255 1 2 2) (one_pool 80_000) (one_pool 100_000) slip used_slip
    record {
      lower_one-pool = refl;
      higher_one-pool = refl;
      lower_accepted = lower_accepted;
      higher_accepted = higher_accepted;
      losses_rise =
          omega (
            arith,
            ap {B = ℕ} (λ (b : Bool). cond b 80_000 0) lower_accepted,
            ap {B = ℕ} (λ (b : Bool). cond b 100_000 0) higher_accepted,
          );
    }
