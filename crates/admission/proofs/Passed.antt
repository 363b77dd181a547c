-- Laws of 11 and 12, with whatever is tried after them.
use Prim.Native.Nat.{ℕ, ◌≤◌, ◌<◌}
use mathlib.Core.Path.{◌≡◌, refl}
use mathlib.Core.Bool.{Bool, false, true}
use mathlib.Core.List.{List}
use lib.ListN.{length}
use Rattle.std.specs.Prelude.{Option, Some, None}
use Rattle.lists.specs.Limits.{member_limit}
use Rattle.lists.proofs.Checks.{check_past}
use Rattle.refusal.specs.declared.Refusal.{Refusal}
use Rattle.figures.specs.declared.Status.{Status}
use Rattle.figures.specs.Figures.{status_at, is_absent, is_in-default}
use Rattle.figures.proofs.Figures.{place_of}
use Rattle.admission.specs.Admission.{standing}

-- who passes 11 and 12 is in the register and not in default, and the rest is what is answered
pub record Passes (status : List Status) (member : ℕ) (rest : Option Refusal) : Type 0 where
  pub present : status_at status member ≡ Status.Absent → ⊥
  pub not_in-default : status_at status member ≡ Status.InDefault → ⊥
  pub rest-none : rest ≡ None

-- a test that fails of a status
not_that : (test : Status → Bool) (s kind : Status) → test kind ≡ true → test s ≡ false → s ≡ kind → ⊥
not_that test s kind e h q = cc

-- and the other way about
pub present_test : (s : Status) → (s ≡ Status.Absent → ⊥) → is_absent s ≡ false
present_test Status.Absent h = absurd (h refl)
present_test Status.Live h = refl
present_test Status.InDefault h = refl

pub default_test : (s : Status) → (s ≡ Status.InDefault → ⊥) → is_in-default s ≡ false
default_test Status.Absent h = refl
default_test Status.Live h = refl
default_test Status.InDefault h = absurd (h refl)

pub passes : (status : List Status) (member : ℕ) (rest : Option Refusal) → standing status member rest ≡ None → Passes status member rest
passes status member rest e =
    let a = check_past (is_absent (status_at status member)) (Some Refusal.Unregistered) _ (λ q. cc) e in
    let b = check_past (is_in-default (status_at status member)) (Some Refusal.InDefault) rest (λ q. cc) a.1 in
    record {
      present = not_that is_absent _ Status.Absent refl a.0;
      not_in-default = not_that is_in-default _ Status.InDefault refl b.0;
      rest-none = b.1;
    }

-- so it has a place in the register's lists
pub place : (status : List Status) (member : ℕ) (rest : Option Refusal) → length status ≡ member_limit → standing status member rest ≡ None
    → (0 < member) × (member ≤ member_limit)
place status member rest l e = rw l at (place_of Status.Absent status member (passes status member rest e).present)
