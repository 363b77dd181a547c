-- Laws of a quantum shared: parts joined to requirements.
use Prim.Native.Nat.{ℕ, ◌+◌, ◌<◌, max}
use mathlib.Core.Path.{◌≡◌, ap, ◌∙◌}
use mathlib.Core.Bool.{Bool, false, cond}
use mathlib.Core.List.{List, map}
use native.Mathlib.Omega.{arith}
use Rattle.std.proofs.lemmas.List.{get_or-map}
use lib.ListN.{length, get_or, length-map}
use Rattle.lists.specs.Limits.{contribution_floor}
use Rattle.lists.specs.Sums.{plus, keep}
use Rattle.lists.proofs.Sums.{length-plus, get_or-plus, length-keep, get_or-keep}

-- three parts joined
abbrev pub joined_of : List Bool → List ℕ → List ℕ → List ℕ → List ℕ
joined_of present margin stress volume = keep present (map (max contribution_floor) (plus margin (plus stress volume)))

module _ (present : List Bool) (margin stress volume : List ℕ) (n : ℕ)
    (p : length present ≡ n) (m : length margin ≡ n) (s : length stress ≡ n) (v : length volume ≡ n) where
  added_length : length (plus margin (plus stress volume)) ≡ n
  added_length = length-plus margin (plus stress volume) (omega (arith, length-plus stress volume (omega arith))) ∙ m

  pub length-joined : length (joined_of present margin stress volume) ≡ n
  length-joined =
      let l : length (map (max contribution_floor) (plus margin (plus stress volume))) ≡ n = length-map _ _ ∙ added_length in
      length-keep present _ (omega arith) ∙ l

  pub get_or-joined : (k : ℕ) → k < n
      → get_or (joined_of present margin stress volume) k 0 ≡ cond (get_or present k false) (max contribution_floor (get_or margin k 0 + (get_or stress k 0 + get_or volume k 0))) 0
  get_or-joined k h =
      get_or-keep present _ k
      ∙ ap (λ x. cond (get_or present k false) x 0)
      (get_or-map (max contribution_floor) (plus margin (plus stress volume)) k 0 0 (omega (arith, added_length))
      ∙ ap (max contribution_floor) (get_or-plus margin (plus stress volume) k ∙ ap (λ x. get_or margin k 0 + x) (get_or-plus stress volume k)))
