-- The laws of the sums of the pools.
use Prim.Native.Nat.{ℕ, suc, ◌+◌, ◌-◌, ◌≤◌, ◌<◌, min}
use mathlib.Core.Path.{◌≡◌, refl, ap, sym, ◌∙◌}
use mathlib.Core.Bool.{Bool, true, false, cond}
use mathlib.Core.List.{List, [], ◌∷◌, ◌++◌}
use native.Mathlib.Omega.{arith}
use borrow.Author.Tests.{ltb-true}
use lib.Dec.{ltb}
use lib.ListN.{length, get_or, take, drop, set, length-set, drop_of_length-le}
use lib.Seq.{drop-set-lt, drop-drop, get_or-drop, get_or-set_same}
use Rattle.std.specs.Prelude.{Some, None, unwrap_or}
use Rattle.std.specs.List.{position_or_len}
use Rattle.lists.specs.Sums.{total}
use Rattle.lists.proofs.Fill.{fill_turn, fill_done}
use Rattle.lists.proofs.Sums.{get_or-le-total, total_raised}
use Rattle.admission.specs.Admission.{losses_of}
use Rattle.admission.specs.declared.Pools.{Pools}
use Rattle.admission.proofs.EachPool.{length-losses}
use Rattle.pools.specs.Pools.{losses_after, joined_pool, sums_of}
use Rattle.std.proofs.lemmas.List.{drop_more}

pub length_after : (given : ℕ) (losses : List ℕ) → length (losses_after given losses) ≡ length losses
unfolding losses_after
length_after given [] = refl
length_after given (loss ∷ losses) = ap suc (length_after (given - loss) losses)

-- what is given meets that much of the losses
pub total_after : (given : ℕ) (losses : List ℕ) → total (losses_after given losses) ≡ total losses - given
unfolding losses_after
total_after given [] = omega arith
total_after given (loss ∷ losses) = omega (arith, total_after (given - loss) losses)

-- The losses are met in place, one a turn: what is left of those so far, with what will be left of the others behind it, is the whole result.
pub record Met (given : ℕ) (losses : List ℕ) (rest : ℕ) (out : List ℕ) (k : ℕ) : Type 0 where
  pub as_long : length out ≡ length losses
  pub stands : drop k out ≡ drop k losses
  pub filled : take k out ++ losses_after rest (drop k losses) ≡ losses_after given losses

module _ (given : ℕ) (losses : List ℕ) where
  pub met_next : (rest : ℕ) (out : List ℕ) (k : ℕ) → Met given losses rest out k → get_or out k 0 ≡ get_or losses k 0
  met_next rest out k m =
      let z : k + 0 ≡ k = omega arith in
      let e : get_or out (k + 0) 0 ≡ get_or losses (k + 0) 0 = sym (get_or-drop k out 0 0) ∙ ap (λ (xs : List ℕ). get_or xs 0 0) m.stands
      ∙ get_or-drop k losses 0 0 in
      rw z at e

  pub met_turn : (rest : ℕ) (out : List ℕ) (k met : ℕ) → k < length losses → met ≡ min rest (get_or out k 0) → Met given losses rest out k
      → Met given losses (rest - met) (set out k (get_or out k 0 - met)) (k + 1)
  unfolding losses_after
  met_turn rest out k met h e m =
      let n : get_or out k 0 ≡ get_or losses k 0 = met_next rest out k m in
      let a : get_or out k 0 - met ≡ get_or losses k 0 - rest = omega arith in
      let b : rest - met ≡ rest - get_or losses k 0 = omega arith in
      let step : losses_after rest (drop k losses) ≡ (get_or out k 0 - met) ∷ losses_after (rest - met)
      (drop (k + 1) losses) = rw (a, b, drop_more losses k 0 h) in
      record {
        as_long = length-set out k (get_or out k 0 - met) ∙ m.as_long;
        stands =
            drop-set-lt (k + 1) out k (get_or out k 0 - met) (omega arith) ∙ sym (drop-drop 1 k out) ∙ ap (drop 1) m.stands ∙ drop-drop 1 k losses;
        filled = fill_turn out _ _ _ k _ (omega (arith, m.as_long)) step m.filled;
      }

  pub met_done : (rest : ℕ) (out : List ℕ) (k : ℕ) → length losses ≤ k → Met given losses rest out k → out ≡ losses_after given losses
  unfolding losses_after
  met_done rest out k h m = fill_done out _ _ k (omega (arith, m.as_long)) (ap (losses_after rest) (drop_of_length-le losses h)) m.filled

-- the pool that is joined is one of them
pub joined-within : (lefts : List ℕ) → 0 < length lefts → joined_pool lefts < length lefts
unfolding joined_pool
joined-within lefts h = go (ltb (position_or_len (ltb 0) lefts) (length lefts)) refl
  where
    go : (b : Bool) → ltb (position_or_len (ltb 0) lefts) (length lefts) ≡ b → unwrap_or (cond b (Some (position_or_len (ltb 0) lefts)) None) 0 < length lefts
    go true e = ltb-true _ _ e
    go false e = h

module _ (given fallen : ℕ) (losses : List ℕ) where
  pub length-sums : length (sums_of given fallen losses) ≡ length losses
  unfolding sums_of
  length-sums = simp length-set (length_after (given - fallen) losses)

  -- the sums are what layers 1 to 3 leave
  pub total-sums : 0 < length losses → total (sums_of given fallen losses) ≡ total losses + fallen - given
  unfolding sums_of
  total-sums h =
      let lefts : List ℕ = losses_after (given - fallen) losses in
      omega (
        arith,
        total_raised lefts (joined_pool lefts) (fallen - given) (joined-within lefts (omega (arith, length_after (given - fallen) losses))),
        total_after (given - fallen) losses,
      )

-- as many sums as pools
pub counted-sums : (given fallen : ℕ) (pools : Pools) → length (sums_of given fallen (losses_of pools)) ≡ pools.count
counted-sums given fallen pools = length-sums given fallen (losses_of pools) ∙ length-losses pools

-- The sums are made in place: what is left of the losses, one of which is joined by what is left of the fallen call.
pub record Joining (given fallen met p : ℕ) (losses out : List ℕ) : Type 0 where
  pub some : 0 < length losses
  pub met_is : met ≡ min given fallen
  pub lefts_are : out ≡ losses_after (given - met) losses
  pub pool_is : p ≡ joined_pool out

module _ {given fallen met p : ℕ} {losses out : List ℕ} (j : Joining given fallen met p losses out) where
  pub joining-within : p < length out
  joining-within =
      omega (arith, j.pool_is, joined-within out (omega (arith, ap length j.lefts_are, length_after (given - met) losses, j.some)))

  pub joining-sums : set out p (get_or out p 0 + (fallen - met)) ≡ sums_of given fallen losses
  unfolding sums_of
  joining-sums =
      let x : fallen - met ≡ fallen - given = omega (arith, j.met_is) in
      let y : given - met ≡ given - fallen = omega (arith, j.met_is) in
      rw (x, j.pool_is, j.lefts_are, y)

  -- the sum that is joined is at most all of them
  pub joining_fits : get_or out p 0 + (fallen - met) ≤ total (sums_of given fallen losses)
  joining_fits =
      let s : ℕ = get_or out p 0 + (fallen - met) in
      omega (arith, get_or-le-total (set out p s) p, get_or-set_same out p s 0 joining-within, ap total joining-sums)
