-- What the parts of `ranges` promise each other. No rule of document 01 is here.
use Rattle.std.specs.Prelude.{ℕ, ◌≡◌, List, None}
use Rattle.admission.specs.Admission.{admission}
use Rattle.layers.specs.declared.Placed.{Placed}
use Rattle.waterfall.specs.Register.{Register}
use Rattle.waterfall.specs.Default.{charges, calls, allocation_of}
use Rattle.ranges.specs.Ranges.{half}

-- a default with one pool that 11 to 15 do not refuse, lent a slip of 128 numbers
abbrev pub Placeable : Register → ℕ → ℕ → List ℕ → Type 0
Placeable r member loss ranks = admission r.status member loss ranks half ≡ None

-- it is placed as the rules say
pub record PlacedAt (r : Register) (member loss : ℕ) (ranks : List ℕ) (x : Placed) : Type 0 where
  pub allocation_is : x.allocation ≡ allocation_of r member loss (charges r member loss ranks)
  pub charges_are : x.charges ≡ charges r member loss ranks
  pub calls_are : x.called ≡ calls r member loss (charges r member loss ranks)
