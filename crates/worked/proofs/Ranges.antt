-- Document 02, request 7: the theorem, applied to the range on document 01's register.
use mathlib.Core.Path.{◌≡◌, refl, ap, sym, ◌∙◌}
use Rattle.std.specs.Prelude.{Result, Ok, Err, is_ok}
use Rattle.refusal.specs.declared.Refusal.{Refusal}
use Rattle.waterfall.specs.Reply.{Reply}
use Rattle.layers.specs.declared.Allocation.{Allocation}
use Rattle.ranges.specs.Ranges.{end_reply}
use Rattle.ranges.specs.Between.{Between}
use Rattle.ranges.specs.declared.Ranges.{Ranges}
use Rattle.ranges.proofs.Theorem.{range_holds}
use Rattle.worked.specs.Drills.{register, ranked}
use Rattle.worked.specs.Ranges.{from_to, lent, answer, from_80-to-160}
use Rattle.worked.proofs.RaisedLoss.{given}

answered_end : (end : Ranges → Allocation) (x : Result Ranges Refusal) → is_ok (end_reply end x) ≡ is_ok x
answered_end end (Err refusal) = refl
answered_end end (Ok ranges) = refl

pub before_the_auction : Between register 1 (from_to 80_000 160_000) (ranked 255 1 2 2) lent
before_the_auction =
    range_holds register given 1 (from_to 80_000 160_000) (ranked 255 1 2 2) lent
    (sym (answered_end (λ x. x.low) (answer 80_000 160_000)) ∙ ap (λ (reply : Reply). is_ok reply) from_80-to-160.0)
