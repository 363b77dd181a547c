-- Layers one after the other, and a sum shared over rooms.
use Prim.Native.Nat.{ℕ, ◌-◌, ◌≤◌}
use mathlib.Core.Path.{◌≡◌, refl, ap, sym, ◌∙◌}
use mathlib.Core.List.{List}
use native.Mathlib.Omega.{arith}
use lib.ListN.{length, replicate}
use Rattle.lists.specs.Limits.{member_limit}
use Rattle.lists.specs.Sums.{total}
use Rattle.split.specs.Split.{split_of}
use Rattle.split.proofs.Laws.{total_within, none_shared}
use Rattle.rooms.specs.Rooms.{gives}
use Rattle.rooms.specs.Parts.{Shares}

-- what a layer gives and leaves of the same sum and the same resource
pub layer_as : (g l left left' has has' : ℕ) → (g ≡ gives left has) × (l ≡ left - gives left has) → left ≡ left' → has ≡ has'
    → (g ≡ gives left' has') × (l ≡ left' - gives left' has')
layer_as g l left left' has has' e p q = rw (← p, ← q) e

-- no more is left than there was
pub leaves : {g l : ℕ} (left has : ℕ) → (g ≡ gives left has) × (l ≡ left - gives left has) → l ≤ left
leaves left has e = omega arith

-- a layer gives of a larger sum at least as much, and leaves at least as much
pub layer_grows : {low high : ℕ} (has : ℕ) → low ≤ high → (gives low has ≤ gives high has) × (low - gives low has ≤ high - gives high has)
layer_grows has more = (omega arith, omega arith)

-- a sum shared, by the rooms that were found and their total
pub shared_so : (found rooms cs : List ℕ) (left whole g l : ℕ) → found ≡ rooms → whole ≡ total found → (g ≡ gives left whole) × (l ≡ left - gives left whole)
    → cs ≡ split_of g found → Shares rooms left cs g l
shared_so found rooms cs left whole g l e w s q =
    let step = layer_as g l left left whole (total rooms) s refl (w ∙ ap total e) in
    record {
      total_is = step.0;
      rest_is = step.1;
      shares_are = q ∙ ap (split_of g) e ∙ ap (λ (n : ℕ). split_of n rooms) step.0;
    }

-- where nothing is left
pub shared-none : (rooms : List ℕ) (left : ℕ) → length rooms ≡ member_limit → left ≡ 0 → Shares rooms left (replicate member_limit 0) 0 0
shared-none rooms left h e =
    let g : gives left (total rooms) ≡ 0 = omega arith in
    record { total_is = sym g; rest_is = omega arith; shares_are = none_shared (gives left (total rooms)) rooms g h }

-- the shares add to what is given
pub whole_shared : (rooms : List ℕ) (left : ℕ) (cs : List ℕ) (t rest : ℕ) → Shares rooms left cs t rest → t ≡ total cs
whole_shared rooms left cs t rest s = s.total_is ∙ sym (ap total s.shares_are ∙ total_within (gives left (total rooms)) rooms (omega arith))
