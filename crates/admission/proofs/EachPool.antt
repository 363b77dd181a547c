-- Laws of what is tried on each pool.
use Prim.Native.Nat.{ℕ, zero, suc, ◌+◌, ◌*◌, ◌/◌, ◌≤◌, ◌<◌, zero-le}
use mathlib.Core.Path.{◌≡◌, refl, ap, sym, ◌∙◌}
use mathlib.Core.Bool.{Bool, false, ◌||◌, or_assoc}
use mathlib.Core.List.{List, [], ◌∷◌}
use mathlib.Core.Logic.{⊎_elim}
use native.Mathlib.Nat.{eq-or-lt_of_le}
use native.Mathlib.Omega.{arith}
use borrow.Author.Tests.{ltb-false}
use lib.Dec.{ltb}
use lib.ListN.{length, get_or, take, drop, length-drop}
use lib.Seq.{length-take-le, get_or-take}
use Rattle.std.specs.List.{list_any}
use Rattle.std.specs.Simd.{first_chunks}
use Rattle.std.proofs.lemmas.List.{drop-drop}
use Rattle.std.proofs.lemmas.List.FromFn.{length-map-range_with_len, fill_by_all}
use Rattle.std.proofs.Math.Bool.{or-false}
use Rattle.std.proofs.lemmas.Bool.{or_parts}
use Rattle.lists.specs.Limits.{member_limit, sum_limit}
use Rattle.lists.specs.Sums.{total}
use Rattle.lists.proofs.Tests.{positive-sum}
use Rattle.lists.proofs.Sums.{total_bound}
use Rattle.admission.specs.Admission.{misranked, loss_of, losses_of, pool_ranks, excessive_losses, pools_misranked}
use Rattle.admission.specs.declared.Pools.{Pools}

-- the losses that are counted ----------------------------------------------------------

-- as many losses as pools
pub length-losses : (pools : Pools) → length (losses_of pools) ≡ pools.count
length-losses pools = length-map-range_with_len (loss_of pools) 0 pools.count

-- they are the first of the four
pub first-losses : (pools : Pools) → pools.count ≤ length pools.losses → take pools.count pools.losses ≡ losses_of pools
first-losses pools h =
    fill_by_all (loss_of pools) (take pools.count pools.losses) pools.count 0 (length-take-le pools.count pools.losses h) (λ k l. get_or-take pools.count pools.losses k 0 l)

pub ruleset counted = (first-losses)

-- where no loss is above its limit, each has it, and their sum its own
pub losses_fit : (losses : List ℕ) → excessive_losses losses ≡ false → (k : ℕ) → get_or losses k 0 ≤ sum_limit
losses_fit [] e k = zero-le
losses_fit (loss ∷ losses) e zero = ltb-false sum_limit loss (or_parts (ltb sum_limit loss) _ e).0
losses_fit (loss ∷ losses) e (suc k) = losses_fit losses (or_parts (ltb sum_limit loss) _ e).1 k

pub total_fits : (losses : List ℕ) → excessive_losses losses ≡ false → total losses ≤ sum_limit * length losses
total_fits losses e = total_bound sum_limit losses (losses_fit losses e)

-- outstanding calls --------------------------------------------------------------------

-- one of them is above 0 where their sum is
pub any-owing : (xs : List ℕ) → list_any (ltb 0) xs ≡ ltb 0 (total xs)
any-owing [] = refl
any-owing (x ∷ xs) = ap (λ (b : Bool). ltb 0 x || b) (any-owing xs) ∙ sym (positive-sum x (total xs))

-- the ranks of a pool ------------------------------------------------------------------

pub length_pool-ranks : (ranks : List ℕ) (n : ℕ) → length ranks ≡ member_limit * n → (p : ℕ) → p < n → length (pool_ranks ranks p) ≡ member_limit
length_pool-ranks ranks n e p h = length-take-le member_limit (drop (member_limit * p) ranks) (omega (arith, length-drop (member_limit * p) ranks))

-- no rank that is read of any pool is refused
pub pool_well-ranked : (read : List Bool) (ranks : List ℕ) (n : ℕ) → pools_misranked read ranks n ≡ false → (p : ℕ) → p < n → misranked read (pool_ranks ranks p) ≡ false
unfolding pools_misranked
pool_well-ranked read ranks zero e p h = absurd (omega arith)
pool_well-ranked read ranks (suc n) e p h =
    let o = or_parts (pools_misranked read ranks n) _ e in
    ⊎_elim
    (λ q. ap (λ (m : ℕ). misranked read (pool_ranks ranks m)) q ∙ o.1)
    (λ l. pool_well-ranked read ranks n o.0 p l)
    (eq-or-lt_of_le (omega arith))

-- the pools as arrays of 64 ranks: a test of the first pools, and of one pool more
any_more : (test : List ℕ → Bool) (n : ℕ) (ranks : List ℕ)
    → list_any test (first_chunks member_limit (suc n) ranks) ≡ (list_any test (first_chunks member_limit n ranks) || test (pool_ranks ranks n))
any_more test zero ranks = or-false (test (take member_limit ranks))
any_more test (suc n) ranks =
    let along : member_limit + member_limit * n ≡ member_limit * suc n = omega arith in
    ap (λ (b : Bool). test (take member_limit ranks) || b) (any_more test n (drop member_limit ranks))
    ∙ sym (or_assoc (test (take member_limit ranks)) _ _)
    ∙ ap (λ (xs : List ℕ). (test (take member_limit ranks) || list_any test (first_chunks member_limit n (drop member_limit ranks))) || test (take member_limit xs))
    (drop-drop (member_limit * n) member_limit ranks ∙ ap (λ (k : ℕ). drop k ranks) along)

pub any-pools : (read : List Bool) (ranks : List ℕ) (n : ℕ) → list_any (misranked read) (first_chunks member_limit n ranks) ≡ pools_misranked read ranks n
unfolding pools_misranked
any-pools read ranks zero = refl
any-pools read ranks (suc n) = any_more (misranked read) n ranks ∙ ap (λ (b : Bool). b || misranked read (pool_ranks ranks n)) (any-pools read ranks n)

-- as many as there are ranks for
pub pools_counted : (read : List Bool) (ranks : List ℕ) (n : ℕ) → length ranks ≡ member_limit * n → pools_misranked read ranks (length ranks / member_limit) ≡ pools_misranked read ranks n
pools_counted read ranks n e =
    let m : length ranks / member_limit ≡ n = omega arith in
    ap (pools_misranked read ranks) m
