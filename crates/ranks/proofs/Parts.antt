-- The laws of the marginal rank, which the proofs of the parts of `charge_by_rank` cite.
use Prim.Native.Nat.{ℕ, zero, suc, ◌+◌, ◌-◌, ◌*◌, ◌≤◌, ◌<◌, zero-le}
use mathlib.Core.Path.{◌≡◌, refl, ap, sym, ◌∙◌}
use mathlib.Core.Bool.{Bool, cond}
use mathlib.Core.List.{List, [], ◌∷◌, map}
use mathlib.Core.Logic.{⊎_elim}
use native.Mathlib.Nat.{eq-or-lt_of_le, sub-zero}
use native.Mathlib.Numerals.{sub-one}
use native.Mathlib.Omega.{arith}
use lib.Dec.{eqb, ltb}
use lib.ListN.{length, get_or, drop, set, replicate, length-replicate, length-map}
use borrow.Author.Tests.{eq-eqb, ne_eqb, lt-ltb, le-ltb}
use Rattle.lists.specs.Limits.{member_limit, rank_limit, amount_limit}
use Rattle.lists.specs.Sums.{total, plus}
use Rattle.lists.proofs.Places.{by_order, raised}
use Rattle.lists.proofs.Sums.{zeros, total_zeros, get_or_zeros, total-plus, plus_assoc, plus_none, none-plus, length-keep, keep-le, cond-le, keep-map_step}
use Rattle.split.specs.Parts.{Splits}
use Rattle.split.specs.Split.{split_of}
use Rattle.split.proofs.Laws.{total_within, total_of-none, split-le, split_whole, splits_as}
use Rattle.ranks.specs.Ranks.{at_rank, rank_gives, charges_from, charges_of}
use Rattle.ranks.specs.Parts.{Weighed, Totals, Passed, Marginal, Shared, above_rank}
use Rattle.ranks.specs.declared.Margin.{Margin}
use Rattle.ranks.proofs.Laws.{length_at, length-shares, length_from, total_from, length-charges, charges-within}

-- the totals by rank ---------------------------------------------------------------

-- the table so far, and the weights that are left at each rank
abbrev pub Adding : List ℕ → List ℕ → List ℕ → ℕ → Type 0
Adding ts ws rs i =
    ((q : ℕ) → 0 < q → q ≤ rank_limit → get_or ts q 0 + total (at_rank q (drop i ws) (drop i rs)) ≡ total (at_rank q ws rs))
    × ((q : ℕ) → get_or ts q 0 ≤ amount_limit * i)

pub adding_turn : (ts ws rs : List ℕ) (i p : ℕ) → i < length ws → i < length rs → p < length ts → p ≡ get_or rs i 0 → get_or ws i 0 ≤ amount_limit
    → Adding ts ws rs i → Adding (set ts p (get_or ts p 0 + get_or ws i 0)) ws rs (i + 1)
adding_turn ts ws rs i p hw hr ht e b (t, m) = (turn, bound)
  where
    turn : (q : ℕ) → 0 < q → q ≤ rank_limit → get_or (set ts p (get_or ts p 0 + get_or ws i 0)) q 0 + total (at_rank q (drop (i + 1) ws) (drop (i + 1) rs)) ≡ total (at_rank q ws rs)
    turn q a h =
        let same : eqb q (get_or rs i 0) ≡ eqb q p = ap (eqb q) (sym e) in
        omega (
          arith,
          raised ts p (get_or ws i 0) q ht,
          ap (λ (x : Bool). cond x (get_or ws i 0) 0) same,
          ap total (keep-map_step (eqb q) rs ws i (cond (eqb q (get_or rs i 0)) (get_or ws i 0) 0) hr hw refl),
          t q a h,
        )

    bound : (q : ℕ) → get_or (set ts p (get_or ts p 0 + get_or ws i 0)) q 0 ≤ amount_limit * (i + 1)
    bound q = omega (arith, raised ts p (get_or ws i 0) q ht, cond-le (eqb q p) (get_or ws i 0), m q)

pub adding_start : (n : ℕ) (ws rs : List ℕ) → Adding (replicate n 0) ws rs 0
adding_start n ws rs = ((λ q a h. omega (arith, get_or_zeros n q)), (λ q. omega (arith, get_or_zeros n q)))

-- the marginal rank's split ----------------------------------------------------------

pub shares_asked : (margin : Margin) (ws rs tied charges : List ℕ) → Weighed ws rs → Shared margin (at_rank margin.rank ws rs) → 0 < margin.part
    → length ws ≡ member_limit → length rs ≡ member_limit → length charges ≡ member_limit → tied ≡ at_rank margin.rank ws rs
    → Splits margin.part margin.whole tied charges
shares_asked margin ws rs tied charges w s p m n k e =
    splits_as margin.part margin.whole tied (at_rank margin.rank ws rs) charges e s.part_fits (s.whole_is p)
    (λ k. omega (arith, keep-le (map (eqb margin.rank) rs) ws k, w.weights_fit k))
    (length_at margin.rank ws rs (omega arith) ∙ m)
    k

-- what is charged whole ---------------------------------------------------------------

-- the weights above a rank are those above it and those at it, one rank further down
above_place : (q r w : ℕ) → cond (ltb (suc q) r) w 0 + cond (eqb (suc q) r) w 0 ≡ cond (ltb q r) w 0
above_place q r w =
    by_order
    (suc q)
    r
    (λ l. simp (lt-ltb (suc q) r l, ne_eqb (suc q) r (λ e. omega arith), lt-ltb q r (omega arith)) (omega arith))
    (λ e. simp (le-ltb (suc q) r (omega arith), eq-eqb (suc q) r e, lt-ltb q r (omega arith)) (omega arith))
    (λ g. simp (le-ltb (suc q) r (omega arith), ne_eqb (suc q) r (λ e. omega arith), le-ltb q r (omega arith)))

above_down : (q : ℕ) (ws rs : List ℕ) → plus (above_rank (suc q) ws rs) (at_rank (suc q) ws rs) ≡ above_rank q ws rs
above_down q ws [] = refl
above_down q [] (r ∷ rs) = refl
above_down q (w ∷ ws) (r ∷ rs) = rw (above_place q r w, above_down q ws rs)

above-none : (ws rs : List ℕ) → ((k : ℕ) → get_or rs k 0 ≤ rank_limit) → total (above_rank rank_limit ws rs) ≡ 0
above-none ws [] h = refl
above-none [] (r ∷ rs) h = refl
above-none (w ∷ ws) (r ∷ rs) h = rw (le-ltb rank_limit r (h 0)) (omega (arith, above-none ws rs (λ k. h (suc k))))

pub length_above : (q : ℕ) (ws rs : List ℕ) → length rs ≡ length ws → length (above_rank q ws rs) ≡ length ws
length_above q ws rs e = length-keep (map (ltb q) rs) ws (length-map rs (ltb q) ∙ e)

-- from the highest rank down to the marginal one ----------------------------------------

-- The ranks above `rank` are charged whole, and `left` is left for it and those below.
pub record Going (sum : ℕ) (ws rs : List ℕ) (rank left : ℕ) : Type 0 where
  pub charges : plus (above_rank rank ws rs) (charges_from rank left ws rs) ≡ charges_of sum ws rs
  pub given : total (above_rank rank ws rs) + left ≡ sum

module _ (ws rs : List ℕ) where
  -- a rank with enough left for it is charged whole
  from_enough : (q l t : ℕ) → t ≡ total (at_rank (suc q) ws rs) → t ≤ l → charges_from (suc q) l ws rs ≡ plus (at_rank (suc q) ws rs) (charges_from q (l - t) ws rs)
  unfolding charges_from
  from_enough q l t e h =
      let g : rank_gives (suc q) l ws rs ≡ total (at_rank (suc q) ws rs) = omega arith in
      rw (g, split_whole (at_rank (suc q) ws rs), e)

  -- with no more left than a rank has, the rank takes all
  from-part : (q l : ℕ) → length rs ≡ length ws → l ≤ total (at_rank (suc q) ws rs) → charges_from (suc q) l ws rs ≡ split_of l (at_rank (suc q) ws rs)
  unfolding charges_from
  from-part q l e h =
      let g : rank_gives (suc q) l ws rs ≡ l = omega arith in
      let z : l - l ≡ 0 = omega arith in
      rw (g, z)
      (none-plus
      (split_of l (at_rank (suc q) ws rs))
      (charges_from q 0 ws rs)
      (omega (arith, length-shares ws rs (suc q) l e, length_from ws rs q 0 e))
      (omega (arith, total_from ws rs q 0)))

module _ (sum : ℕ) (ws rs : List ℕ) where
  going_down : (q l t : ℕ) → t ≡ total (at_rank (suc q) ws rs) → t ≤ l → Going sum ws rs (suc q) l → Going sum ws rs q (l - t)
  going_down q l t e m g =
      record {
        charges = cc (above_down q ws rs, plus_assoc (above_rank (suc q) ws rs) (at_rank (suc q) ws rs) (charges_from q (l - t) ws rs), from_enough ws rs q l t e m, g.charges);
        given = omega (arith, ap total (above_down q ws rs), total-plus (above_rank (suc q) ws rs) (at_rank (suc q) ws rs), g.given);
      }

  pub going_turn : (q l t : ℕ) → 0 < q → t ≡ total (at_rank q ws rs) → t ≤ l → Going sum ws rs q l → Going sum ws rs (q - 1) (l - t)
  going_turn zero l t p e m g = absurd (omega arith)
  going_turn (suc q) l t p e m g = rw sub-one (going_down q l t e m g)

  -- ranks that have nothing are passed
  going_skip : (q n l : ℕ) → n ≤ q → ((p : ℕ) → n < p → p ≤ q → total (at_rank p ws rs) ≡ 0) → Going sum ws rs q l → Going sum ws rs n l
  going_skip zero n l a z g =
      let e : n ≡ 0 = omega arith in
      rw e g
  going_skip (suc q) n l a z g =
      ⊎_elim
      (λ e. rw e g)
      (λ b. going_skip q n l (omega arith) (λ p x y. z p x (omega arith)) (rw sub-zero at (going_down q l 0 (sym (z (suc q) b (omega arith))) zero-le g)))
      (eq-or-lt_of_le a)

  -- the ranks above the next are passed, and with none next all are
  pub going_next : (ts : List ℕ) (q n l : ℕ) → q ≤ rank_limit → n ≤ q → Totals ts ws rs → Passed ts n q → Going sum ws rs q l → Going sum ws rs n l
  going_next ts q n l h m t x g =
      going_skip q n l m (λ p a b. sym (t.each p (omega arith) (omega arith)) ∙ x p a b) g

  module _ (same : length rs ≡ length ws) where
    pub going_start : ((k : ℕ) → get_or rs k 0 ≤ rank_limit) → Going sum ws rs rank_limit sum
    unfolding charges_of
    going_start h =
        record {
          charges = plus_none (above_rank rank_limit ws rs) (charges_from rank_limit sum ws rs) (omega (arith, length_above rank_limit ws rs same, length_from ws rs rank_limit sum same)) (above-none ws rs h);
          given = omega (arith, above-none ws rs h);
        }

    pub going-part : (q l t : ℕ) → 0 < q → t ≡ total (at_rank q ws rs) → l < t → Going sum ws rs q l → Marginal sum ws rs (record { rank = q; part = l; whole = t; total = sum })
    going-part zero l t p e h g = absurd (omega arith)
    going-part (suc q) l t p e h g =
        let c : plus (above_rank (suc q) ws rs) (split_of l (at_rank (suc q) ws rs)) ≡ charges_of sum ws rs = cc (from-part ws rs q l same (omega arith), g.charges) in
        record {
          charges = c;
          total_is = omega (arith, ap total c, total-plus (above_rank (suc q) ws rs) (split_of l (at_rank (suc q) ws rs)), total_within l (at_rank (suc q) ws rs) (omega arith), g.given);
          whole_is = λ x. e;
          part_fits = omega (arith, g.given);
          part_within = omega arith;
          above_is = omega (arith, g.given);
          total_least = omega (arith, g.given);
        }

    pub going_done : (l : ℕ) → Going sum ws rs 0 l → Marginal sum ws rs (record { rank = 0; part = 0; whole = 0; total = sum - l })
    unfolding charges_from
    going_done l g =
        let a : List ℕ = above_rank 0 ws rs in
        let s : List ℕ = split_of 0 (at_rank 0 ws rs) in
        let n : length a ≡ length ws = length_above 0 ws rs same in
        let p : plus a s ≡ a = none-plus a s (omega (arith, length-shares ws rs 0 0 same)) (total_of-none (at_rank 0 ws rs)) in
        let r : plus a (replicate (length ws) 0) ≡ a = none-plus a (replicate (length ws) 0) (omega (arith, length-replicate {A = ℕ} (length ws) 0)) (total_zeros (length ws)) in
        let c : a ≡ charges_of sum ws rs = sym r ∙ g.charges in
        record {
          charges = p ∙ c;
          total_is = omega (arith, ap total c, g.given);
          whole_is = λ x. omega arith;
          part_fits = zero-le;
          part_within = zero-le;
          above_is = omega (arith, g.given);
          total_least = zero-le;
        }

-- where there is nothing to charge, the charges are all 0
pub uncharged : (sum : ℕ) (ws rs : List ℕ) → sum ≡ 0 → length ws ≡ member_limit → length rs ≡ member_limit → charges_of sum ws rs ≡ replicate member_limit 0
uncharged sum ws rs z n m = sym (zeros member_limit (charges_of sum ws rs) (length-charges sum ws rs (omega arith) ∙ n) (omega (arith, charges-within sum ws rs)))

-- and else they are the marginal rank's shares, with the ranks above charged whole
pub ruleset charging = (uncharged, charges-within, split-le)
