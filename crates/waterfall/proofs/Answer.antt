-- What the proofs of the calls share: a call is judged and answered.
use Prim.Native.Nat.{ℕ, ◌≤◌, ◌<◌}
use mathlib.Core.Path.{◌≡◌, refl}
use mathlib.Core.Bool.{Bool, true, false, true≢false, false≢true, ◌||◌}
use borrow.Author.Tests.{ltb-false}
use lib.Dec.{eqb, ltb}
use Rattle.std.specs.Prelude.{Option, Some, None, Ok, Err, is_some, is_ok}
use Rattle.lists.specs.Checks.{check}
use Rattle.lists.specs.Limits.{member_limit}
use Rattle.lists.proofs.Checks.{check_by, check_past}
use Rattle.refusal.specs.Refusal.{position_of, answered}
use Rattle.refusal.specs.declared.Refusal.{Refusal}
use Rattle.admission.specs.Admission.{standing}
use Rattle.admission.proofs.Passed.{passes, place}
use Rattle.waterfall.specs.Register.{Register, GivenBack}
use Rattle.waterfall.specs.Calls.{payment_refusal, payment_of, replenishment_refusal, replenishment_of, close_refusal, close_of}
use Rattle.waterfall.specs.Reply.{Reply, Layer, layer1, layer2, layer3, layer4, layer5, layer6, allocated, Says, nothing, judged}
use Rattle.layers.specs.declared.Allocation.{Allocation}
use Rattle.std.proofs.lemmas.Bool.{or_parts}

-- a test that is answered by itself, and what is answered by it
pub is_refused : {e : Refusal} (o : Option Refusal) → answered o (tt {0}) ≡ Err e → o ≡ Some e
is_refused (Some f) q = cc
is_refused None q = absurd (cc)

pub is_passed : (o : Option Refusal) → answered o (tt {0}) ≡ Ok (tt {0}) → o ≡ None
is_passed (Some f) q = absurd (cc)
is_passed None q = refl

pub is_none : (o : Option Refusal) → is_some o ≡ false → o ≡ None
is_none (Some f) q = absurd (true≢false q)
is_none None q = refl

-- a call that is answered with what it allocates was not refused
pub is_accepted : (found : Option Refusal) (r next : Register) (a : Option Allocation) → is_ok (judged found r a next).reply ≡ true → found ≡ None
unfolding judged
is_accepted (Some f) r next a q = absurd (false≢true q)
is_accepted None r next a q = refl

-- what an answer says, where its refusal is none of a record
none-allocated : (l : Layer) → 0 ≡ allocated l nothing
none-allocated layer1 = refl
none-allocated layer2 = refl
none-allocated layer3 = refl
none-allocated layer4 = refl
none-allocated layer5 = refl
none-allocated layer6 = refl

-- no drill call is refused for a record
abbrev pub Placeless : Option Refusal → Type 0
Placeless (Some refusal) = position_of refusal ≡ 0
Placeless None = Unit {0}

pub placeless_check : (t : Bool) (refusal : Refusal) (rest : Option Refusal) → position_of refusal ≡ 0 → Placeless rest
    → Placeless (check t (Some refusal) rest)
placeless_check t refusal rest p q = check_by Placeless t (Some refusal) rest (λ _. p) (λ _. q)

pub placeless_standing : (r : Register) (member : ℕ) (rest : Option Refusal) → Placeless rest → Placeless (standing r.status member rest)
placeless_standing r member rest p = placeless_check _ _ _ refl (placeless_check _ _ _ refl p)

module _ (r next : Register) where
  pub says : (refusal : Option Refusal) → Placeless refusal → Says (judged refusal r None next).reply refusal nothing
  unfolding judged check
  says (Some refusal) p = record { number_is = refl; position_is = p; fallen_is = refl; layers_are = λ l. refl; short_is = refl }
  says None p = record { number_is = refl; position_is = refl; fallen_is = refl; layers_are = none-allocated; short_is = refl }

  pub says-allocated : (a : Allocation) (refusal : Option Refusal) → Placeless refusal → Says (judged refusal r (Some a) next).reply refusal a
  unfolding judged check
  says-allocated a (Some refusal) p = record { number_is = refl; position_is = p; fallen_is = refl; layers_are = λ l. refl; short_is = refl }
  says-allocated a None p = record { number_is = refl; position_is = refl; fallen_is = refl; layers_are = λ l. refl; short_is = refl }

  -- a call that allocates nothing: its reply, and the register after it
  pub refused_call : {refusal : Refusal} {found : Option Refusal} → found ≡ Some refusal
      → (Err refusal ≡ (judged found r None next).reply) × (r ≡ (judged found r None next).register)
  unfolding judged
  refused_call e = (rw e, rw e)

  pub accepted_call : {found : Option Refusal} → found ≡ None → (Ok None ≡ (judged found r None next).reply) × (next ≡ (judged found r None next).register)
  unfolding judged
  accepted_call e = (rw e, rw e)

-- what the replies of the calls say
pub says_paid : {reply : Reply} (r : Register) (member amount : ℕ) → reply ≡ (payment_of r member amount).reply
    → Says reply (payment_refusal r member amount) nothing
unfolding payment_of payment_refusal
says_paid r member amount e = rw e (says _ _ _ (placeless_standing r member _ (placeless_check _ _ _ refl (tt {0}))))

pub says_replenished : {reply : Reply} (r : Register) (member amount : ℕ) → reply ≡ (replenishment_of r member amount).reply
    → Says reply (replenishment_refusal r member amount) nothing
unfolding replenishment_of replenishment_refusal
says_replenished r member amount e = rw e (says _ _ _ (placeless_standing r member _ (placeless_check _ _ _ refl (tt {0}))))

pub says_closed : {reply : Reply} (r : Register) → reply ≡ (close_of r).reply → Says reply (close_refusal r) nothing
unfolding close_of close_refusal
says_closed r e = rw e (says _ _ _ (placeless_check _ _ _ refl (tt {0})))

-- who passes 11, 12 and the refusal of an unfit amount has a place, and a fit amount
pub record Fit (member : ℕ) (unfit : Bool) : Type 0 where
  pub least : 0 < member
  pub most : member ≤ member_limit
  pub fits : unfit ≡ false

pub fit : (r : Register) (member : ℕ) (reason : Refusal) (unfit : Bool) → GivenBack r
    → standing r.status member (check unfit (Some reason) None) ≡ None → Fit member unfit
fit r member reason unfit g e =
    let at = place r.status member _ g.status_length e in
    record { least = at.0; most = at.1; fits = (check_past unfit (Some reason) None (λ q. cc) (passes r.status member _ e).rest-none).0 }

-- an amount that is not unfit keeps the sum within its bound
pub within_bound : (amount sum most : ℕ) → (eqb amount 0 || ltb most sum) ≡ false → sum ≤ most
within_bound amount sum most e = ltb-false most sum (or_parts (eqb amount 0) _ e).1
