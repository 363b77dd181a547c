-- Laws of the ranks that are read.
use Prim.Native.Nat.{ℕ, zero, suc, ◌+◌, ◌≤◌, ◌<◌, zero-le}
use mathlib.Core.Path.{◌≡◌}
use mathlib.Core.Bool.{Bool, true, false, ◌||◌, ◌&&◌, false≢true}
use mathlib.Core.List.{List, [], ◌∷◌}
use native.Mathlib.Numerals.{add-one}
use native.Mathlib.Omega.{arith}
use borrow.Author.Tests.{ltb-false}
use lib.Dec.{ltb}
use lib.ListN.{length, get_or, drop, drop_of_length-le}
use lib.Seq.{drop-cons}
use Rattle.std.proofs.lemmas.Bool.{or_parts}
use Rattle.lists.specs.Limits.{rank_limit}
use Rattle.lists.specs.Sums.{keep}
use Rattle.lists.proofs.Checks.{and_right}
use Rattle.figures.specs.declared.Status.{Status}
use Rattle.figures.specs.Figures.{is_live, live_in}
use Rattle.figures.proofs.Figures.{live_at, length-live}
use Rattle.admission.specs.Admission.{misranked}

-- where no rank is refused, each rank that is read is 1 to the limit
pub ranks-read : (read : List Bool) (ranks : List ℕ) → misranked read ranks ≡ false → (k : ℕ) → k < length ranks → get_or read k false ≡ true
    → (0 < get_or ranks k 0) × (get_or ranks k 0 ≤ rank_limit)
unfolding misranked
ranks-read [] ranks e k h t = absurd (false≢true t)
ranks-read (b ∷ read) [] e k h t = absurd (omega arith)
ranks-read (b ∷ read) (rank ∷ ranks) e zero h t =
    let o = or_parts _ _ (and_right b _ t (or_parts _ _ e).0) in (ltb-false rank 1 o.0, ltb-false rank_limit rank o.1)
ranks-read (b ∷ read) (rank ∷ ranks) e (suc k) h t = ranks-read read ranks (or_parts (b && (ltb rank 1 || ltb rank_limit rank)) _ e).1 k (omega arith) t

-- and those that are not read count as 0
pub ranks_fit : (read : List Bool) (ranks : List ℕ) → misranked read ranks ≡ false → (k : ℕ) → get_or (keep read ranks) k 0 ≤ rank_limit
unfolding misranked
ranks_fit [] ranks e k = zero-le
ranks_fit (b ∷ read) [] e k = zero-le
ranks_fit (true ∷ read) (rank ∷ ranks) e zero = ltb-false rank_limit rank (or_parts (ltb rank 1) _ (or_parts _ _ e).0).1
ranks_fit (false ∷ read) (rank ∷ ranks) e zero = zero-le
ranks_fit (b ∷ read) (rank ∷ ranks) e (suc k) = ranks_fit read ranks (or_parts (b && (ltb rank 1 || ltb rank_limit rank)) _ e).1 k

-- the ranks that are read, one a turn -----------------------------------------------

module _ (status : List Status) where
  pub misranked_step : (ranks : List ℕ) (i : ℕ) → i < length status → i < length ranks
      → misranked (drop i (live_in status)) (drop i ranks)
      ≡ ((is_live (get_or status i Status.Absent) && (ltb (get_or ranks i 0) 1 || ltb rank_limit (get_or ranks i 0))) || misranked (drop (i + 1) (live_in status)) (drop (i + 1) ranks))
  unfolding misranked
  misranked_step ranks i h k =
      let m : i < length (live_in status) = omega (arith, length-live status) in
      rw (← live_at status i, add-one, drop-cons (live_in status) i false m, drop-cons ranks i 0)

  pub misranked-end : (ranks : List ℕ) (i : ℕ) → length status ≤ i → misranked (drop i (live_in status)) (drop i ranks) ≡ false
  unfolding misranked
  misranked-end ranks i h = rw (drop_of_length-le (live_in status) {i = i} (omega (arith, length-live status)))
