-- The laws of `split_of`: what the callers of `split` know of its shares.
use Prim.Native.Nat.{ℕ, zero, suc, ◌+◌, ◌-◌, ◌*◌, ◌/◌, ◌≤◌, ◌<◌, zero-le}
use mathlib.Core.Path.{◌≡◌, refl, ap, sym, ◌∙◌}
use mathlib.Core.List.{List, [], ◌∷◌, ◌++◌}
use mathlib.Core.Logic.{◌⊎◌, inl, ⊎_elim}
use native.Mathlib.Nat.{mul-add, add-mul, mul_comm, zero-mul, zero-div, div-zero, div-mul-le_self, lt-div-mul-add, mul-le-mul, mul-le-mul_left, mul-le-mul_right, div-le_of_le-mul, div-lt_iff_lt-mul, mul-lt-mul_of_pos_left, mul-div_right, mul-div_left, le-div_iff_mul-le, eq-zero-or-pos, sub-zero}
use native.Mathlib.Numerals.{add-one}
use native.Mathlib.Omega.{arith}
use Rattle.std.proofs.lemmas.List.{at_drop_more, set-get_or, take-append-drop}
use lib.ListN.{length, get_or, take, drop, set, replicate, length-drop}
use lib.Seq.{drop-cons, drop-set-lt}
use Rattle.lists.specs.Limits.{member_limit, amount_limit, allocation_limit}
use Rattle.lists.specs.Sums.{total}
use Rattle.lists.proofs.Fill.{fill_turn}
use Rattle.lists.proofs.Sums.{get_or-le-total, zeros}
use Rattle.split.specs.Split.{share_of, split_of}
use Rattle.split.specs.Parts.{Splits, product_limit}

-- one share ------------------------------------------------------------------

-- a share is at most what is left
pub share-le_left : (l w t : ℕ) → w ≤ t → share_of l w t ≤ l
unfolding share_of
share-le_left l w t h = div-le_of_le-mul t (mul-le-mul_right l h)

-- and less, where there is something and others have a part in it
pub share-lt_left : (l w t : ℕ) → 0 < l → w < t → share_of l w t < l
unfolding share_of
share-lt_left l w t p h = (div-lt_iff_lt-mul (omega arith)).1 (rw (mul_comm w l) (mul-lt-mul_of_pos_left h p))

-- a share is at most its weight, where what is left is at most the weights
share-le_weight : (l w t : ℕ) → l ≤ t → share_of l w t ≤ w
unfolding share_of
share-le_weight l w t h = div-le_of_le-mul t (rw (mul_comm t w) (mul-le-mul_left w h))

-- a weight of 0 takes 0
pub share-none : (l w t : ℕ) → w ≡ 0 → share_of l w t ≡ 0
unfolding share_of
share-none l w t e = rw e (simp (zero-mul, zero-div))

-- the last weight takes what is left
pub share-last : (l w : ℕ) → 0 < w → share_of l w w ≡ l
unfolding share_of
share-last l w h = mul-div_right l h

-- a sum of all the weights gives a weight itself
pub share_whole : (l w : ℕ) → w ≤ l → share_of l w l ≡ w
unfolding share_of
share_whole l w h =
    ⊎_elim
    (λ z. share-none l w l (omega arith) ∙ omega arith)
    (λ p. mul-div_left w p)
    (eq-zero-or-pos l)

cross : (w v m : ℕ) → m ≤ w → m * (w + v) ≤ w * (v + m)
cross w v m h = omega (arith, mul-add m w v, mul-add w v m, mul_comm m w, mul-le-mul_right v h)

at_least : (w v m : ℕ) → m ≤ w → 0 < w + v → m ≤ w * (v + m) / (w + v)
at_least w v m h p = (le-div_iff_mul-le p).1 (cross w v m h)

-- where what is left is at most the weights, it is so of the rest too
share-rest : (w v l : ℕ) → l ≤ w + v → l - share_of l w (w + v) ≤ v
unfolding share_of
share-rest w v l h = ⊎_elim (λ z. omega arith) (λ p. above p) (eq-zero-or-pos (l - v))
  where
    above : 0 < l - v → l - w * l / (w + v) ≤ v
    above p =
        let e : v + (l - v) ≡ l = omega arith in
        let q : l - v ≤ w * (v + (l - v)) / (w + v) = at_least w v (l - v) (omega arith) (omega arith) in
        let r : l - v ≤ w * l / (w + v) = rw e at q in
        omega arith

-- a share of a larger sum is at least as large
share_grows : {l m : ℕ} (w t : ℕ) → l ≤ m → share_of l w t ≤ share_of m w t
unfolding share_of
share_grows {l} {m} w t h =
    ⊎_elim
    (λ z. rw z (omega (arith, div-zero (w * l))))
    (λ p. (le-div_iff_mul-le p).1 (omega (arith, div-mul-le_self (w * l) t, mul-le-mul_left w h)))
    (eq-zero-or-pos t)

-- a share grows by no more than the sum does
share-more : (l d w t : ℕ) → w ≤ t → share_of (l + d) w t ≤ share_of l w t + d
unfolding share_of
share-more l d w t h =
    ⊎_elim
    (λ z. rw z (omega (arith, div-zero (w * (l + d)))))
    (λ p.
    let q : w * (l + d) < (w * l / t + d + 1) * t = omega
    (arith, mul-add w l d, add-mul (w * l / t + d) 1 t, add-mul (w * l / t) d t, mul_comm d t, mul-le-mul_right d h, lt-div-mul-add {a = w * l} p) in
    let s : w * (l + d) / t < w * l / t + d + 1 = (div-lt_iff_lt-mul p).1 q in
    omega arith)
    (eq-zero-or-pos t)

-- so what it leaves of a larger sum is at least as large too
share-leaves : {l m : ℕ} (w t : ℕ) → w ≤ t → l ≤ m → l - share_of l w t ≤ m - share_of m w t
share-leaves {l} {m} w t b h =
    let e : l + (m - l) ≡ m = omega arith in
    omega (arith, rw e at (share-more l (m - l) w t b))

-- the split as a whole --------------------------------------------------------

-- as many shares as weights
pub length-split : (l : ℕ) (ws : List ℕ) → length (split_of l ws) ≡ length ws
unfolding split_of
length-split l [] = refl
length-split l (w ∷ ws) = ap suc (length-split (l - share_of l w (w + total ws)) ws)

-- a weight of 0 takes 0
pub split-none : (l : ℕ) (ws : List ℕ) (k : ℕ) → get_or ws k 0 ≡ 0 → get_or (split_of l ws) k 0 ≡ 0
unfolding split_of
split-none l [] k h = refl
split-none l (w ∷ ws) zero h = share-none l w (w + total ws) h
split-none l (w ∷ ws) (suc k) h = split-none (l - share_of l w (w + total ws)) ws k h

-- with total 0 every share is 0
pub split_all-none : (l : ℕ) (ws : List ℕ) → total ws ≡ 0 → (k : ℕ) → get_or (split_of l ws) k 0 ≡ 0
split_all-none l ws h k = split-none l ws k (omega (arith, get_or-le-total ws k))

pub total-none : (l : ℕ) (ws : List ℕ) → total ws ≡ 0 → total (split_of l ws) ≡ 0
unfolding split_of
total-none l [] h = refl
total-none l (w ∷ ws) h =
    omega (
      arith,
      share-none l w (w + total ws) (omega arith),
      total-none (l - share_of l w (w + total ws)) ws (omega arith),
    )

-- with positive total weight the shares add to the sum
pub total-split : (l : ℕ) (ws : List ℕ) → 0 < total ws → total (split_of l ws) ≡ l
unfolding split_of
total-split l [] h = omega arith
total-split l (w ∷ ws) h =
    ⊎_elim
    (λ z.
    let n : w + total ws ≡ w = omega arith in
    omega (
      arith,
      ap (share_of l w) n,
      share-last l w (omega arith),
      total-none (l - share_of l w (w + total ws)) ws z,
    ))
    (λ p.
    omega (
      arith,
      share-le_left l w (w + total ws) (omega arith),
      total-split (l - share_of l w (w + total ws)) ws p,
    ))
    (eq-zero-or-pos (total ws))

-- a sum that is at most the weights is shared whole
pub total_within : (l : ℕ) (ws : List ℕ) → l ≤ total ws → total (split_of l ws) ≡ l
total_within l ws h =
    ⊎_elim (λ z. omega (arith, total-none l ws z)) (λ p. total-split l ws p) (eq-zero-or-pos (total ws))

-- with the sum at most the total no share passes its weight
pub split-within : (l : ℕ) (ws : List ℕ) → l ≤ total ws → (k : ℕ) → get_or (split_of l ws) k 0 ≤ get_or ws k 0
unfolding split_of
split-within l [] h k = zero-le
split-within l (w ∷ ws) h zero = share-le_weight l w (w + total ws) h
split-within l (w ∷ ws) h (suc k) = split-within (l - share_of l w (w + total ws)) ws (share-rest w (total ws) l h) k

-- no share passes the sum
pub split-le : (l : ℕ) (ws : List ℕ) (k : ℕ) → get_or (split_of l ws) k 0 ≤ l
split-le l ws k =
    ⊎_elim
    (λ z. omega (arith, split_all-none l ws z k))
    (λ p. omega (arith, get_or-le-total (split_of l ws) k, total-split l ws p))
    (eq-zero-or-pos (total ws))

-- a sum of all the weights gives each its whole weight
pub split_whole : (ws : List ℕ) → split_of (total ws) ws ≡ ws
unfolding split_of
split_whole [] = refl
split_whole (w ∷ ws) =
    let e : w + total ws - w ≡ total ws = omega arith in
    rw (share_whole (w + total ws) w (omega arith), e, split_whole ws)

-- a sum of 0 gives everybody 0
pub total_of-none : (ws : List ℕ) → total (split_of 0 ws) ≡ 0
total_of-none ws = total_within 0 ws zero-le

-- where one weight alone is above 0, it takes the sum, and the others have the 0 that they are
pub split_alone : (l : ℕ) (ws : List ℕ) (k : ℕ) → 0 < get_or ws k 0 → total ws ≡ get_or ws k 0 → split_of l ws ≡ set ws k l
unfolding split_of
split_alone l [] k p e = absurd (omega arith)
split_alone l (w ∷ ws) zero p e =
    let n : w + total ws ≡ w = omega arith in
    let z : l - l ≡ total ws = omega arith in
    rw (n, share-last l w p, z, split_whole ws)
split_alone l (w ∷ ws) (suc k) p e =
    let z : w ≡ 0 = omega (arith, get_or-le-total ws k) in
    rw (z, share-none l 0 (0 + total ws) refl, sub-zero, split_alone l ws k p (omega arith))

-- places of weight 0 change nobody else's share: a weight of 0 put in anywhere puts in a share of 0, and the others stand
pub split_skips : (l : ℕ) (xs ys : List ℕ) → split_of l (xs ++ 0 ∷ ys) ≡ take (length xs) (split_of l (xs ++ ys)) ++ 0 ∷ drop (length xs) (split_of l (xs ++ ys))
unfolding split_of
split_skips l [] ys = rw (share-none l 0 (0 + total ys) refl, sub-zero)
split_skips l (x ∷ xs) ys =
    let t : total (xs ++ 0 ∷ ys) ≡ total (xs ++ ys) = total_skips xs ys in
    rw t (ap (λ (zs : List ℕ). share_of l x (x + total (xs ++ ys)) ∷ zs) (split_skips (l - share_of l x (x + total (xs ++ ys))) xs ys))
  where
    total_skips : (xs ys : List ℕ) → total (xs ++ 0 ∷ ys) ≡ total (xs ++ ys)
    total_skips [] ys = omega arith
    total_skips (x ∷ xs) ys = omega (arith, total_skips xs ys)

-- a split grows with its sum, share by share
pub split_grows : (ws : List ℕ) {l m : ℕ} → l ≤ m → (k : ℕ) → get_or (split_of l ws) k 0 ≤ get_or (split_of m ws) k 0
unfolding split_of
split_grows [] h k = zero-le
split_grows (w ∷ ws) h zero = share_grows w (w + total ws) h
split_grows (w ∷ ws) h (suc k) = split_grows ws (share-leaves w (w + total ws) (omega arith) h) k

-- where nothing is divided ------------------------------------------------------------

-- a sum of 0, or weights of 0 alone, give everybody 0
pub nothing_shared : (n l : ℕ) (ws : List ℕ) → length ws ≡ n → (l ≡ 0) ⊎ (total ws ≡ 0) → replicate n 0 ≡ split_of l ws
nothing_shared n l ws h e =
    let z : total (split_of l ws) ≡ 0 = ⊎_elim (λ s. omega (arith, total_within l ws (omega arith))) (λ w. total-none l ws w) e in
    zeros n (split_of l ws) (length-split l ws ∙ h) z

-- a sum of 0 among the members
pub none_shared : (l : ℕ) (ws : List ℕ) → l ≡ 0 → length ws ≡ member_limit → replicate member_limit 0 ≡ split_of l ws
none_shared l ws e h = nothing_shared member_limit l ws h (inl e)

-- the shares one by one -----------------------------------------------------------

split_step : (l : ℕ) (ws : List ℕ) (i s : ℕ) → i < length ws → s ≡ share_of l (get_or ws i 0) (total (drop i ws))
    → split_of l (drop i ws) ≡ s ∷ split_of (l - s) (drop (i + 1) ws)
unfolding split_of
split_step l ws i s h e = rw (e, add-one, drop-cons ws i 0)

-- the list filled up to k, with the split of what is left behind it, is the same after one more turn
pub split_turn : (l : ℕ) (ws out r : List ℕ) (k t s : ℕ) → k < length ws → k < length out → t ≡ total (drop k ws) → s ≡ share_of l (get_or ws k 0) t
    → take k out ++ split_of l (drop k ws) ≡ r
    → take (k + 1) (set out k s) ++ split_of (l - s) (drop (k + 1) ws) ≡ r
split_turn l ws out r k t s hw ho f e h = fill_turn out r _ _ k s ho (split_step l ws k s hw (rw f at e)) h

-- a share at a place fits in what is left
pub share-le_at : (l : ℕ) (ws : List ℕ) (k t : ℕ) → k < length ws → t ≡ total (drop k ws) → share_of l (get_or ws k 0) t ≤ l
share-le_at l ws k t h e = share-le_left l (get_or ws k 0) t (omega (arith, at_drop_more total ws k 0 h))

-- a weight of 0 is passed, where its share is 0 already
pub pass_turn : (l : ℕ) (ws out r : List ℕ) (k t : ℕ) → k < length ws → k < length out → t ≡ total (drop k ws) → get_or ws k 0 ≡ 0 → get_or out k 0 ≡ 0
    → take k out ++ split_of l (drop k ws) ≡ r
    → take (k + 1) out ++ split_of l (drop (k + 1) ws) ≡ r
pass_turn l ws out r k t hw ho f z o h =
    let same : set out k 0 ≡ out = ap (set out k) (sym o) ∙ set-get_or out k 0 in
    rw (same, sub-zero) at (split_turn l ws out r k t 0 hw ho f (sym (share-none l (get_or ws k 0) t z)) h)

-- with one weight alone left above 0, `split_alone` of what is left: it takes that, and those behind it have nothing
split_last : (l : ℕ) (ws : List ℕ) (k n : ℕ) → k < length ws → n ≡ length ws - (k + 1) → 0 < get_or ws k 0 → get_or ws k 0 ≡ total (drop k ws)
    → split_of l (drop k ws) ≡ l ∷ replicate n 0
split_last l ws k n h e p t =
    let d : drop k ws ≡ get_or ws k 0 ∷ drop (k + 1) ws = rw add-one (drop-cons ws k 0 h) in
    let m : length (drop (k + 1) ws) ≡ n = omega (arith, length-drop (k + 1) ws) in
    let z : total (drop (k + 1) ws) ≡ 0 = omega (arith, ap total d) in
    rw (d, split_alone l (get_or ws k 0 ∷ drop (k + 1) ws) 0 p (omega arith), zeros n (drop (k + 1) ws) m z)

-- so the list filled up to it, with what is left put there and shares of 0 behind it, is the split
pub last_turn : (l : ℕ) (ws out r : List ℕ) (k : ℕ) → k < length ws → length out ≡ length ws → 0 < get_or ws k 0 → get_or ws k 0 ≡ total (drop k ws)
    → total (drop (k + 1) out) ≡ 0 → take k out ++ split_of l (drop k ws) ≡ r
    → set out k l ≡ r
last_turn l ws out r k h e p t z f =
    let n : ℕ = length ws - (k + 1) in
    let behind : drop (k + 1) (set out k l) ≡ replicate n 0 = drop-set-lt (k + 1) out k l (omega arith) ∙ sym (zeros n (drop (k + 1) out) (omega (arith, length-drop (k + 1) out)) z) in
    sym (take-append-drop (k + 1) (set out k l)) ∙ ap (λ (xs : List ℕ). take (k + 1) (set out k l) ++ xs) behind
    ∙ fill_turn out r _ _ k l (omega arith) (split_last l ws k n h refl p t) f

-- what a split asks -----------------------------------------------------------

-- a sum over amounts, and an amount over sums: the product is the same
pub products_fit : (a b : ℕ) → a ≤ amount_limit → b ≤ allocation_limit → (a * b ≤ product_limit) × (b * a ≤ product_limit)
products_fit a b p q = let h = mul-le-mul p q in (h, omega (arith, h, mul_comm b a))

-- a split over weights that were copied, where what it asks is known of those themselves
pub splits_as : (sum whole : ℕ) (found weights shares : List ℕ) → found ≡ weights → sum ≤ allocation_limit → whole ≡ total weights → ((k : ℕ) → get_or weights k 0 ≤ amount_limit)
    → length weights ≡ member_limit → length shares ≡ member_limit → Splits sum whole found shares
splits_as sum whole found weights shares e s w f l m =
    rw e record { products_fit = λ k. (products_fit (get_or weights k 0) sum (f k) s).0; whole_is = w; as_many = m ∙ sym l }
