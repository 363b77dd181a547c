-- A loop that fills a list from the front, one `set` a turn: `take k out ++ rest ≡ r` says that what is filled, with what is still to
-- come behind it, is the whole result. A function that goes by cons on the lists it reads is proved with these laws.
use Prim.Native.Nat.{ℕ, ◌+◌, ◌≤◌, ◌<◌}
use mathlib.Core.Path.{◌≡◌, ap}
use mathlib.Core.Bool.{Bool, cond}
use mathlib.Core.List.{List, [], ◌∷◌, ◌++◌, append_assoc, append-nil, map}
use native.Mathlib.Numerals.{add-one}
use native.Mathlib.Omega.{arith}
use lib.ListN.{length, get_or, take, drop, set, drop_of_length-le}
use Rattle.lists.specs.Sums.{plus, keep}
use Rattle.lists.proofs.Sums.{keep-map_step}
use lib.Seq.{take-suc-set, take_all, drop-cons, drop-set-lt}

-- one more turn
pub fill_turn : (out r rest more : List ℕ) (k s : ℕ) → k < length out → rest ≡ s ∷ more → take k out ++ rest ≡ r → take (k + 1) (set out k s) ++ more ≡ r
fill_turn out r rest more k s h e f =
    let g : take k out ++ (s ∷ more) ≡ r = rw e at f in
    rw (ap (λ (n : ℕ). take n (set out k s)) (add-one k), take-suc-set out k s h, append_assoc) g

-- the end
pub fill_done : (out r rest : List ℕ) (k : ℕ) → length out ≤ k → rest ≡ [] → take k out ++ rest ≡ r → out ≡ r
fill_done out r rest k h e f = simp (take_all k out h, e, append-nil) at f

-- the marked numbers added to a list in place ----------------------------------------

-- numbers added to a list in place, one a turn
pub add_turn : (f : ℕ → Bool) (rs ws out r : List ℕ) (i x s : ℕ) → i < length rs → i < length ws → i < length out → x ≡ cond (f (get_or rs i 0)) (get_or ws i 0) 0
    → s ≡ get_or out i 0 + x → take i out ++ plus (keep (map f (drop i rs)) (drop i ws)) (drop i out) ≡ r
    → take (i + 1) (set out i s) ++ plus (keep (map f (drop (i + 1) rs)) (drop (i + 1) ws)) (drop (i + 1) (set out i s)) ≡ r
add_turn f rs ws out r i x s hr hw ho e v h =
    let n : s ≡ x + get_or out i 0 = omega arith in
    rw (drop-set-lt (i + 1) out i s (omega arith))
    (fill_turn out r _ _ i s ho (rw (keep-map_step f rs ws i x hr hw e, n, add-one, drop-cons out i 0)) h)

pub add_done : (f : ℕ → Bool) (rs ws out r : List ℕ) (i : ℕ) → length rs ≤ i → length out ≤ i
    → take i out ++ plus (keep (map f (drop i rs)) (drop i ws)) (drop i out) ≡ r → out ≡ r
add_done f rs ws out r i hr ho h = fill_done out r _ i ho (rw (drop_of_length-le rs hr, drop_of_length-le out ho)) h
