-- The laws of a pool's turn and of the last tie, which the proofs of the parts of `charge_by_pools` cite.
use Prim.Native.Nat.{ℕ, ◌+◌, ◌-◌, ◌*◌, ◌≤◌, ◌<◌}
use mathlib.Core.Path.{◌≡◌, refl, ap, sym, ◌∙◌}
use mathlib.Core.List.{List, [], ◌∷◌}
use native.Mathlib.Omega.{arith}
use lib.ListN.{length, get_or, length-map, get_or-map}
use Rattle.lists.specs.Limits.{member_limit, amount_limit}
use Rattle.lists.specs.Sums.{total, plus, minus, keep}
use Rattle.lists.proofs.Places.{map_same}
use Rattle.lists.proofs.Sums.{total-plus, none-plus, get_or-minus, minus-none, keep-le, length-keep, total_bound}
use Rattle.split.specs.Split.{share_of}
use Rattle.split.proofs.Laws.{share-last, share-le_left, share-none, split-within}
use Rattle.ranks.specs.Ranks.{charges_of}
use Rattle.ranks.proofs.Laws.{length-charges, charge-within, charges-within}
use Rattle.figures.specs.declared.Status.{Status}
use Rattle.figures.specs.Figures.{live_in}
use Rattle.figures.proofs.Figures.{length-live}
use Rattle.rooms.specs.Rooms.{gives, rooms}
use Rattle.rooms.specs.Parts.{Shares}
use Rattle.rooms.proofs.Shares.{whole_shared}
use Rattle.pools.specs.Parts.{Chargeable, Divisible, PoolCharged, Tiable, Tied, shares}
use Rattle.pools.specs.declared.Division.{Division}

-- the shares of a turn -------------------------------------------------------------------

-- a pool's portion of a contribution
pub get_or-shares : (sum rest : ℕ) (left : List ℕ) (k : ℕ) → sum ≤ rest → get_or (shares sum rest left) k 0 ≡ share_of (get_or left k 0) sum rest
get_or-shares sum rest left k h =
    let z : share_of 0 sum rest ≡ 0 = omega (arith, share-le_left 0 sum rest h) in
    rw z at (get_or-map (λ w. share_of w sum rest) left k 0)

-- the last pool with a sum has all that is left
pub shares-last : (sum rest : ℕ) (left : List ℕ) → 0 < sum → sum ≡ rest → left ≡ shares sum rest left
shares-last sum rest left p e =
    sym (map_same (λ w. share_of w sum rest) (λ w. ap (share_of w sum) (sym e) ∙ share-last w sum p) left)

-- each is at most what is left
pub shares-within : (sum rest : ℕ) (left : List ℕ) → sum ≤ rest → (k : ℕ) → get_or (shares sum rest left) k 0 ≤ get_or left k 0
shares-within sum rest left h k =
    omega (arith, get_or-shares sum rest left k h, share-le_left (get_or left k 0) sum rest h)

-- a pool without a sum takes nothing
total_no-shares : (sum rest : ℕ) (left : List ℕ) → sum ≡ 0 → total (shares sum rest left) ≡ 0
total_no-shares sum rest [] z = refl
total_no-shares sum rest (w ∷ left) z = omega (arith, share-none w sum rest z, total_no-shares sum rest left z)

-- the next pool ------------------------------------------------------------------------

module _ (sum : ℕ) (status : List Status) (ranks : List ℕ) (d : Division) (long : length status ≡ member_limit) (p : Divisible sum status ranks d) where
  abbrev portions : List ℕ
  portions = shares sum d.rest d.left

  abbrev charged : List ℕ
  charged = charges_of sum (keep (live_in status) portions) ranks

  length-portions : length portions ≡ member_limit
  length-portions = length-map d.left (λ w. share_of w sum d.rest) ∙ p.left_length

  pub portions-within : (k : ℕ) → get_or portions k 0 ≤ get_or d.left k 0
  portions-within k = shares-within sum d.rest d.left p.sum_fits k

  pub chargeable_so : (found : List ℕ) → found ≡ portions → Chargeable status found ranks
  chargeable_so found e =
      rw e
      record {
        ranks_length = p.chargeable.ranks_length;
        contribution_fits = λ k. omega (arith, portions-within k, p.chargeable.contribution_fits k);
        well_ranked = p.chargeable.well_ranked;
      }

  pub can-take : (wide found : List ℕ) → wide ≡ found → found ≡ portions → (k : ℕ) → get_or wide k 0 ≤ get_or d.left k 0
  can-take wide found a b = rw (a, b) portions-within

  marks-length : length (keep (live_in status) portions) ≡ member_limit
  marks-length =
      length-keep (live_in status) portions (length-live status ∙ long ∙ sym length-portions) ∙ length-portions

  length_charged : length charged ≡ member_limit
  length_charged = length-charges sum (keep (live_in status) portions) ranks (p.chargeable.ranks_length ∙ sym marks-length) ∙ marks-length

  charged-within : (k : ℕ) → get_or charged k 0 ≤ get_or portions k 0
  charged-within k = omega (arith, charge-within sum (keep (live_in status) portions) ranks k, keep-le (live_in status) portions k)

  pub can-add : (found cs : List ℕ) → found ≡ portions → cs ≡ charges_of sum (keep (live_in status) found) ranks → (k : ℕ)
      → get_or d.charges k 0 + get_or cs k 0 ≤ amount_limit
  can-add found cs a b k =
      let e : cs ≡ charged = b ∙ ap (λ (xs : List ℕ). charges_of sum (keep (live_in status) xs) ranks) a in
      omega (arith, ap (λ (xs : List ℕ). get_or xs k 0) e, charged-within k, portions-within k, p.charges_fit k)

  -- what the pools so far charge, and what this one does, have 64 bits together
  pub total_most : d.total ≤ amount_limit * member_limit
  total_most =
      omega (arith, p.total_is, rw p.charges_length at (total_bound amount_limit d.charges (λ k. omega (arith, p.charges_fit k))))

  -- what is charged is at most the sum
  pub charged_most : (found cs : List ℕ) (t : ℕ) → found ≡ portions → cs ≡ charges_of sum (keep (live_in status) found) ranks → t ≡ total cs → t ≤ sum
  charged_most found cs t a b w =
      omega (arith, ap total b, charges-within sum (keep (live_in status) found) ranks)

  -- a pool with a sum
  pub pool_charged : (found wide cs left charges : List ℕ) (t : ℕ) → found ≡ portions → wide ≡ found
      → cs ≡ charges_of sum (keep (live_in status) found) ranks → t ≡ total cs
      → left ≡ minus d.left wide → charges ≡ plus d.charges cs
      → PoolCharged sum (live_in status) ranks d (record { left = left; rest = d.rest - sum; charges = charges; total = d.total + t })
  pool_charged found wide cs left charges t a b c w l g =
      let e : cs ≡ charged = c ∙ ap (λ (xs : List ℕ). charges_of sum (keep (live_in status) xs) ranks) a in
      record {
        left_is = l ∙ ap (minus d.left) (b ∙ a);
        rest_is = refl;
        charges_are = g ∙ ap (plus d.charges) e;
        total_is = omega (arith, ap total g, total-plus d.charges cs, p.total_is);
      }

  -- a pool without one
  pub pool_uncharged : sum ≡ 0 → PoolCharged sum (live_in status) ranks d d
  pool_uncharged z =
      record {
        left_is = sym (minus-none d.left portions (total_no-shares sum d.rest d.left z));
        rest_is = omega arith;
        charges_are =
            sym (none-plus d.charges charged (omega (arith, length_charged, p.charges_length))
            (omega (arith, charges-within sum (keep (live_in status) portions) ranks)));
        total_is = p.total_is;
      }

-- the last tie ----------------------------------------------------------------------------

module _ (whole : ℕ) (status : List Status) (contribution : List ℕ) (d : Division) (p : Tiable whole contribution d) (cs : List ℕ) (t rest : ℕ)
    (s : Shares (rooms (live_in status) contribution d.charges) (whole - d.total) cs t rest) where
  abbrev standing : List ℕ
  standing = rooms (live_in status) contribution d.charges

  abbrev gave : ℕ
  gave = gives (whole - d.total) (total standing)

  tie-within : (k : ℕ) → get_or cs k 0 ≤ get_or standing k 0
  tie-within k = omega (arith, ap (λ (xs : List ℕ). get_or xs k 0) s.shares_are, split-within gave standing (omega arith) k)

  pub tie_adds : (k : ℕ) → get_or d.charges k 0 + get_or cs k 0 ≤ amount_limit
  tie_adds k =
      omega (
        arith,
        tie-within k,
        keep-le (live_in status) (minus contribution d.charges) k,
        get_or-minus contribution d.charges k,
        p.roomy.taken_fits k,
        p.roomy.most_fits k,
      )

  pub tied_so : (charges wide : List ℕ) → charges ≡ plus d.charges cs → wide ≡ charges → Tied standing whole d wide (d.total + t)
  tied_so charges wide a b =
      record {
        charges_are = b ∙ a ∙ ap (plus d.charges) s.shares_are;
        total_is = omega (arith, ap total b, ap total a, total-plus d.charges cs, p.total_is, whole_shared standing (whole - d.total) cs t rest s);
      }
