-- Laws of totals, of sums and differences place by place, and of kept places.
use Prim.Native.Nat.{ℕ, zero, suc, ◌+◌, ◌-◌, ◌*◌, ◌≤◌, ◌<◌, zero-le}
use mathlib.Core.Path.{◌≡◌, refl, ap, sym, ◌∙◌}
use mathlib.Core.Bool.{Bool, true, false, cond, false≢true}
use mathlib.Core.List.{List, [], ◌∷◌, map}
use native.Mathlib.Nat.{add_assoc, mul-suc, sub-zero}
use native.Mathlib.Numerals.{add-one}
use native.Mathlib.Omega.{arith}
use lib.ListN.{length, get_or, drop, set, replicate}
use lib.Seq.{drop-cons}
use Rattle.lists.specs.Sums.{total, plus, minus, keep}

-- totals ----------------------------------------------------------------------

-- a number is at most the total
pub get_or-le-total : (xs : List ℕ) (k : ℕ) → get_or xs k 0 ≤ total xs
get_or-le-total [] k = zero-le
get_or-le-total (x ∷ xs) zero = omega arith
get_or-le-total (x ∷ xs) (suc k) = omega (arith, get_or-le-total xs k)

-- so where the total is 0 each number is
pub get_or-none : (xs : List ℕ) → total xs ≡ 0 → (k : ℕ) → get_or xs k 0 ≡ 0
get_or-none xs e k = omega (arith, get_or-le-total xs k)

pub total_zeros : (n : ℕ) → total (replicate n 0) ≡ 0
total_zeros zero = refl
total_zeros (suc n) = omega (arith, total_zeros n)

pub get_or_zeros : (n k : ℕ) → ◌≡◌ {A = ℕ} (get_or (replicate n 0) k 0) 0
get_or_zeros n k = get_or-none (replicate n 0) (total_zeros n) k

pub zeros_within : (b n k : ℕ) → get_or (replicate n 0) k 0 ≤ b
zeros_within b n k = omega (arith, get_or_zeros n k)

-- only zeros add to 0
pub zeros : (n : ℕ) (xs : List ℕ) → length xs ≡ n → total xs ≡ 0 → replicate n 0 ≡ xs
zeros zero [] e h = refl
zeros zero (x ∷ xs) e h = absurd (omega arith)
zeros (suc n) [] e h = absurd (omega arith)
zeros (suc n) (x ∷ xs) e h =
    let z : x ≡ 0 = omega arith in
    rw (z, zeros n xs (omega arith) (omega arith))

-- numbers place by place at most those of another list
pub total-le : (xs ys : List ℕ) → length xs ≤ length ys → ((k : ℕ) → get_or xs k 0 ≤ get_or ys k 0) → total xs ≤ total ys
total-le [] ys h p = zero-le
total-le (x ∷ xs) [] h p = absurd (omega arith)
total-le (x ∷ xs) (y ∷ ys) h p = omega (arith, p 0, total-le xs ys (omega arith) (λ k. p (suc k)))

-- a list of at most n numbers, each at most b
pub total_bound : (b : ℕ) (xs : List ℕ) → ((k : ℕ) → get_or xs k 0 ≤ b) → total xs ≤ b * length xs
total_bound b [] p = zero-le
total_bound b (x ∷ xs) p = omega (arith, p 0, total_bound b xs (λ k. p (suc k)), mul-suc b (length xs))

-- a number raised raises the total
pub total_raised : (xs : List ℕ) (p x : ℕ) → p < length xs → total (set xs p (get_or xs p 0 + x)) ≡ total xs + x
total_raised [] p x h = absurd (omega arith)
total_raised (y ∷ xs) zero x h = omega arith
total_raised (y ∷ xs) (suc p) x h = omega (arith, total_raised xs p x (omega arith))

-- a number by itself is the total
pub single : (xs : List ℕ) → length xs ≡ 1 → xs ≡ total xs ∷ []
single [] e = absurd (omega arith)
single (x ∷ []) e = let z : x + 0 ≡ x = omega arith in rw z
single (x ∷ y ∷ xs) e = absurd (omega arith)

-- sums place by place ------------------------------------------------------------

pub length-plus : (xs ys : List ℕ) → length xs ≡ length ys → length (plus xs ys) ≡ length xs
length-plus [] ys e = sym e
length-plus (x ∷ xs) [] e = refl
length-plus (x ∷ xs) (y ∷ ys) e = ap suc (length-plus xs ys (omega arith))

pub get_or-plus : (xs ys : List ℕ) (k : ℕ) → get_or (plus xs ys) k 0 ≡ get_or xs k 0 + get_or ys k 0
get_or-plus [] ys k = omega arith
get_or-plus (x ∷ xs) [] k = omega arith
get_or-plus (x ∷ xs) (y ∷ ys) zero = refl
get_or-plus (x ∷ xs) (y ∷ ys) (suc k) = get_or-plus xs ys k

pub total-plus : (xs ys : List ℕ) → total (plus xs ys) ≡ total xs + total ys
total-plus [] ys = omega arith
total-plus (x ∷ xs) [] = omega arith
total-plus (x ∷ xs) (y ∷ ys) = omega (arith, total-plus xs ys)

pub plus_assoc : (xs ys zs : List ℕ) → plus (plus xs ys) zs ≡ plus xs (plus ys zs)
plus_assoc [] ys zs = refl
plus_assoc (x ∷ xs) [] zs = refl
plus_assoc (x ∷ xs) (y ∷ ys) [] = refl
plus_assoc (x ∷ xs) (y ∷ ys) (z ∷ zs) = rw (add_assoc x y z, plus_assoc xs ys zs)

-- a list of zeros adds nothing, before or after
pub plus_none : (xs ys : List ℕ) → length xs ≤ length ys → total xs ≡ 0 → plus xs ys ≡ ys
plus_none [] ys h e = refl
plus_none (x ∷ xs) [] h e = absurd (omega arith)
plus_none (x ∷ xs) (y ∷ ys) h e =
    let n : x + y ≡ y = omega arith in
    rw (n, plus_none xs ys (omega arith) (omega arith))

pub none-plus : (xs ys : List ℕ) → length ys ≤ length xs → total ys ≡ 0 → plus xs ys ≡ xs
none-plus [] [] h e = refl
none-plus [] (y ∷ ys) h e = absurd (omega arith)
none-plus (x ∷ xs) [] h e = refl
none-plus (x ∷ xs) (y ∷ ys) h e =
    let n : x + y ≡ x = omega arith in
    rw (n, none-plus xs ys (omega arith) (omega arith))

-- differences place by place -------------------------------------------------------

pub length-minus : (xs ys : List ℕ) → length (minus xs ys) ≡ length xs
length-minus [] ys = refl
length-minus (x ∷ xs) [] = refl
length-minus (x ∷ xs) (y ∷ ys) = ap suc (length-minus xs ys)

pub get_or-minus : (xs ys : List ℕ) (k : ℕ) → get_or (minus xs ys) k 0 ≡ get_or xs k 0 - get_or ys k 0
get_or-minus [] ys k = omega arith
get_or-minus (x ∷ xs) [] k = omega arith
get_or-minus (x ∷ xs) (y ∷ ys) zero = refl
get_or-minus (x ∷ xs) (y ∷ ys) (suc k) = get_or-minus xs ys k

pub total-minus : (xs ys : List ℕ) → length ys ≤ length xs → ((k : ℕ) → get_or ys k 0 ≤ get_or xs k 0) → total (minus xs ys) + total ys ≡ total xs
total-minus [] [] h p = refl
total-minus [] (y ∷ ys) h p = absurd (omega arith)
total-minus (x ∷ xs) [] h p = omega arith
total-minus (x ∷ xs) (y ∷ ys) h p = omega (arith, p 0, total-minus xs ys (omega arith) (λ k. p (suc k)))

-- a list of zeros takes nothing
pub minus-none : (xs ys : List ℕ) → total ys ≡ 0 → minus xs ys ≡ xs
minus-none [] ys z = refl
minus-none (x ∷ xs) [] z = refl
minus-none (x ∷ xs) (y ∷ ys) z =
    let e : y ≡ 0 = omega arith in
    rw (e, sub-zero, minus-none xs ys (omega arith))

-- kept places ----------------------------------------------------------------------

pub length-keep : (bs : List Bool) (xs : List ℕ) → length bs ≡ length xs → length (keep bs xs) ≡ length xs
length-keep [] xs e = e
length-keep (b ∷ bs) [] e = refl
length-keep (b ∷ bs) (x ∷ xs) e = ap suc (length-keep bs xs (omega arith))

pub cond-none : (b : Bool) → ◌≡◌ {A = ℕ} 0 (cond b 0 0)
cond-none true = refl
cond-none false = refl

pub get_or-keep : (bs : List Bool) (xs : List ℕ) (k : ℕ) → get_or (keep bs xs) k 0 ≡ cond (get_or bs k false) (get_or xs k 0) 0
get_or-keep [] xs k = refl
get_or-keep (b ∷ bs) [] zero = cond-none b
get_or-keep (b ∷ bs) [] (suc k) = cond-none (get_or bs k false)
get_or-keep (b ∷ bs) (x ∷ xs) zero = refl
get_or-keep (b ∷ bs) (x ∷ xs) (suc k) = get_or-keep bs xs k

pub cond-le : (b : Bool) (x : ℕ) → cond b x 0 ≤ x
cond-le true x = omega arith
cond-le false x = zero-le

-- a kept number is at most the number
pub keep-le : (bs : List Bool) (xs : List ℕ) (k : ℕ) → get_or (keep bs xs) k 0 ≤ get_or xs k 0
keep-le bs xs k = rw (get_or-keep bs xs k) (cond-le (get_or bs k false) (get_or xs k 0))

pub kept : (bs : List Bool) (xs : List ℕ) (k : ℕ) → get_or bs k false ≡ true → get_or (keep bs xs) k 0 ≡ get_or xs k 0
kept bs xs k e = get_or-keep bs xs k ∙ ap (λ (b : Bool). cond b (get_or xs k 0) 0) e

pub unkept : (bs : List Bool) (xs : List ℕ) (k : ℕ) → get_or bs k false ≡ false → get_or (keep bs xs) k 0 ≡ 0
unkept bs xs k e = get_or-keep bs xs k ∙ ap (λ (b : Bool). cond b (get_or xs k 0) 0) e

-- what is kept twice is kept once
pub keep-keep : (bs : List Bool) (xs : List ℕ) → keep bs (keep bs xs) ≡ keep bs xs
keep-keep [] xs = refl
keep-keep (b ∷ bs) [] = refl
keep-keep (true ∷ bs) (x ∷ xs) = ap (λ (ys : List ℕ). x ∷ ys) (keep-keep bs xs)
keep-keep (false ∷ bs) (x ∷ xs) = ap (λ (ys : List ℕ). 0 ∷ ys) (keep-keep bs xs)

-- what is left of the kept is what is kept of what is left
pub keep-minus : (bs : List Bool) (xs ys : List ℕ) → keep bs (minus xs ys) ≡ minus (keep bs xs) ys
keep-minus [] xs ys = refl
keep-minus (b ∷ bs) [] ys = refl
keep-minus (b ∷ bs) (x ∷ xs) [] = refl
keep-minus (true ∷ bs) (x ∷ xs) (y ∷ ys) = ap (λ (zs : List ℕ). (x - y) ∷ zs) (keep-minus bs xs ys)
keep-minus (false ∷ bs) (x ∷ xs) (y ∷ ys) =
    let z : ◌≡◌ {A = ℕ} 0 (0 - y) = omega arith in
    rw (← z, keep-minus bs xs ys)

-- a number above 0 that was kept stands at a marked place
pub kept_mark : (bs : List Bool) (xs : List ℕ) (k : ℕ) → 0 < get_or (keep bs xs) k 0 → get_or bs k false ≡ true
kept_mark bs xs k h = go (get_or bs k false) refl
  where
    go : (b : Bool) → get_or bs k false ≡ b → get_or bs k false ≡ true
    go true e = e
    go false e = absurd (omega (arith, unkept bs xs k e))

pub mark-within : (bs : List Bool) (k : ℕ) → get_or bs k false ≡ true → k < length bs
mark-within [] k e = absurd (false≢true e)
mark-within (b ∷ bs) zero e = omega arith
mark-within (b ∷ bs) (suc k) e = omega (arith, mark-within bs k e)

-- places that are marked by a test on another list
pub keep-map_step : (f : ℕ → Bool) (rs xs : List ℕ) (i x : ℕ) → i < length rs → i < length xs → x ≡ cond (f (get_or rs i 0)) (get_or xs i 0) 0
    → keep (map f (drop i rs)) (drop i xs) ≡ x ∷ keep (map f (drop (i + 1) rs)) (drop (i + 1) xs)
keep-map_step f rs xs i x h k e = rw (e, add-one, drop-cons rs i 0, drop-cons xs i 0)
