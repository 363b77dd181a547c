-- The pools charged one after the other, the tie behind them, and one pool alone: what the proofs of `charge_pools` and `charge_by_pools` cite.
use Prim.Native.Nat.{ℕ, zero, suc, ◌+◌, ◌-◌, ◌*◌, ◌≤◌, ◌<◌}
use mathlib.Core.Path.{◌≡◌, refl, ap, sym, ◌∙◌}
use mathlib.Core.Bool.{Bool, true, false, cond}
use mathlib.Core.List.{List, [], ◌∷◌, map}
use native.Mathlib.Numerals.{add-one}
use native.Mathlib.Omega.{arith}
use lib.ListN.{length, get_or, take, drop, replicate, length-map, get_or-map}
use lib.Seq.{take_all, drop-drop}
use Rattle.std.specs.Simd.{first_chunks}
use Rattle.lists.specs.Limits.{member_limit, rank_limit, amount_limit}
use Rattle.lists.specs.Sums.{total, plus, minus, keep}
use Rattle.lists.proofs.Places.{map_same}
use Rattle.lists.proofs.Sums.{total_zeros, single, length-keep, get_or-keep, keep-le, keep-keep, keep-minus, kept_mark, mark-within}
use Rattle.split.specs.Split.{share_of, split_of}
use Rattle.ranks.specs.Ranks.{charges_of}
use Rattle.figures.specs.declared.Status.{Status}
use Rattle.figures.specs.Figures.{live_in}
use Rattle.figures.proofs.Figures.{length-live}
use Rattle.admission.specs.Admission.{misranked, pool_ranks}
use Rattle.admission.proofs.EachPool.{length_pool-ranks, pool_well-ranked}
use Rattle.admission.proofs.Ranked.{ranks-read}
use Rattle.rooms.specs.Rooms.{gives, rooms}
use Rattle.pools.specs.Pools.{portion_of, charges_in, charges_up_to, charges_together, unmet, still_standing, tied, charges_by_pools}
use Rattle.pools.specs.Parts.{Charges, Chargeable, Poolable, Divided, Divisible, PoolCharged, Tiable, Tied, undivided, shares}
use Rattle.pools.specs.declared.Division.{Division}
use Rattle.pools.proofs.Laws.{portion-none, portion_turn, undivided_turn, up_to-within, up_to-placed, length_up_to, pooled-within, pooled-placed}
use Rattle.pools.proofs.Laws.{one_pool_lem}
use Rattle.std.proofs.lemmas.List.{at_drop_more}

-- lists that are taken from one list place by place -------------------------------------

minus-shares : (u h : ℕ → ℕ) (sum rest : ℕ) → ((w : ℕ) → u w - share_of (u w) sum rest ≡ h w) → (xs : List ℕ)
    → minus (map u xs) (shares sum rest (map u xs)) ≡ map h xs
minus-shares u h sum rest e [] = refl
minus-shares u h sum rest e (x ∷ xs) = rw (e x, minus-shares u h sum rest e xs)

-- the portions of the marked members are marked portions
keep-shares : (u f : ℕ → ℕ) (sum rest : ℕ) → ((w : ℕ) → share_of (u w) sum rest ≡ f w) → f 0 ≡ 0 → (bs : List Bool) (xs : List ℕ)
    → keep bs (shares sum rest (map u xs)) ≡ map f (keep bs xs)
keep-shares u f sum rest e z [] xs = refl
keep-shares u f sum rest e z (b ∷ bs) [] = refl
keep-shares u f sum rest e z (true ∷ bs) (x ∷ xs) = rw (e x, keep-shares u f sum rest e z bs xs)
keep-shares u f sum rest e z (false ∷ bs) (x ∷ xs) = rw (z, keep-shares u f sum rest e z bs xs)

undivided-le : (p : ℕ) (sums : List ℕ) (w : ℕ) → undivided p sums w ≤ w
unfolding undivided
undivided-le zero sums w = omega arith
undivided-le (suc p) [] w = omega arith
undivided-le (suc p) (s ∷ sums) w = omega (arith, undivided-le p sums (w - share_of w s (s + total sums)))

-- the ranks of a pool are the 64 of its turn
chunk_at : (n p : ℕ) (ranks : List ℕ) → p < n → get_or (first_chunks member_limit n ranks) p [] ≡ pool_ranks ranks p
chunk_at zero p ranks h = absurd (omega arith)
chunk_at (suc n) zero ranks h = refl
chunk_at (suc n) (suc p) ranks h =
    let along : member_limit + member_limit * p ≡ member_limit * suc p = omega arith in
    chunk_at n p (drop member_limit ranks) (omega arith)
    ∙ ap (take member_limit) (drop-drop (member_limit * p) member_limit ranks ∙ ap (λ (k : ℕ). drop k ranks) along)

pub ranks_of-turn : (n p : ℕ) (ranks own : List ℕ) (chunks : List (List ℕ)) → chunks ≡ first_chunks member_limit n ranks → length chunks ≡ n
    → p < length chunks → own ≡ get_or chunks p [] → own ≡ pool_ranks ranks p
ranks_of-turn n p ranks own chunks a l h e = e ∙ ap (λ (xs : List (List ℕ)). get_or xs p []) a ∙ chunk_at n p ranks (omega arith)

-- pool by pool --------------------------------------------------------------------------

module _ (sums : List ℕ) (status : List Status) (contribution ranks : List ℕ) (ls : length status ≡ member_limit) (lc : length contribution ≡ member_limit)
    (c : Poolable sums status contribution ranks) where
  abbrev marks : List Bool
  marks = live_in status

  abbrev weights : List ℕ
  weights = keep marks contribution

  pub length_weights : length weights ≡ member_limit
  length_weights =
      length-keep marks contribution (length-live status ∙ ls ∙ sym lc) ∙ lc

  get_or-undivided : (p k : ℕ) → get_or (map (undivided p sums) contribution) k 0 ≡ undivided p sums (get_or contribution k 0)
  get_or-undivided p k =
      let z : undivided p sums 0 ≡ 0 = omega (arith, undivided-le p sums 0) in
      rw z at (get_or-map (undivided p sums) contribution k 0)

  -- what the pools so far charge a member, and what is left of its contribution, is no more than that
  charges_fit : (p : ℕ) → p ≤ length sums → (k : ℕ)
      → get_or (charges_up_to sums weights ranks p) k 0 + undivided p sums (get_or contribution k 0) ≤ amount_limit
  charges_fit p h k = by (get_or marks k false) (get_or-keep marks contribution k)
    where
      by : (b : Bool) → get_or weights k 0 ≡ cond b (get_or contribution k 0) 0
          → get_or (charges_up_to sums weights ranks p) k 0 + undivided p sums (get_or contribution k 0) ≤ amount_limit
      by true e =
          omega (arith, up_to-within sums weights ranks p h k, ap (undivided p sums) e, e, c.contribution_fits k)
      by false e =
          omega (arith, up_to-within sums weights ranks p h k, e, undivided-le p sums (get_or contribution k 0), c.contribution_fits k)

  module _ (p : ℕ) (h : p < length sums) (d : Division) (i : Divided p sums status contribution ranks d) where
    pub divisible : Divisible (get_or sums p 0) status (pool_ranks ranks p) d
    divisible =
        record {
          sum_fits = omega (arith, i.rest_is, at_drop_more total sums p 0 h);
          rest_fits = omega (arith, i.rest_is, up_to-placed sums weights ranks p (omega arith), c.sums_fit);
          chargeable =
              record {
                ranks_length = length_pool-ranks ranks (length sums) c.ranks_length p h;
                contribution_fits = λ k.
                    omega (
                      arith,
                      ap (λ (xs : List ℕ). get_or xs k 0) i.left_is,
                      get_or-undivided p k,
                      undivided-le p sums (get_or contribution k 0),
                      c.contribution_fits k,
                    );
                well_ranked = pool_well-ranked marks ranks (length sums) c.well_ranked p h;
              };
          left_length = ap length i.left_is ∙ length-map contribution (undivided p sums) ∙ lc;
          charges_length = ap length i.charges_are ∙ length_up_to sums weights ranks length_weights c.ranks_length p (omega arith);
          charges_fit = λ k.
              omega (
                arith,
                ap (λ (xs : List ℕ). get_or xs k 0) i.charges_are,
                ap (λ (xs : List ℕ). get_or xs k 0) i.left_is,
                get_or-undivided p k,
                charges_fit p (omega arith) k,
              );
          total_is = i.total_is;
        }

    turn_of : (w : ℕ) → share_of (undivided p sums w) (get_or sums p 0) d.rest ≡ portion_of sums p w
    turn_of w = ap (share_of (undivided p sums w) (get_or sums p 0)) i.rest_is ∙ sym (portion_turn p sums w h)

    pub divided_turn : (next : Division) → PoolCharged (get_or sums p 0) marks (pool_ranks ranks p) d next → Divided (p + 1) sums status contribution ranks next
    unfolding charges_up_to charges_in
    divided_turn next n =
        rw (add-one p)
        record {
          left_is =
              n.left_is
              ∙ ap (λ (xs : List ℕ). minus xs (shares (get_or sums p 0) d.rest xs)) i.left_is
              ∙ minus-shares (undivided p sums) (undivided (suc p) sums) (get_or sums p 0) d.rest
              (λ w. ap (λ (x : ℕ). undivided p sums w - x) (turn_of w) ∙ sym (undivided_turn p sums w h)) contribution;
          rest_is = omega (arith, n.rest_is, i.rest_is, rw (add-one p) at (at_drop_more total sums p 0 h));
          charges_are =
              n.charges_are
              ∙ ap (λ (xs : List ℕ). plus xs (charges_of (get_or sums p 0) (keep marks (shares (get_or sums p 0) d.rest d.left))
              (pool_ranks ranks p))) i.charges_are
              ∙ ap (λ (xs : List ℕ). plus (charges_up_to sums weights ranks p)
              (charges_of (get_or sums p 0) (keep marks (shares (get_or sums p 0) d.rest xs)) (pool_ranks ranks p))) i.left_is
              ∙ ap (λ (xs : List ℕ). plus (charges_up_to sums weights ranks p) (charges_of (get_or sums p 0) xs (pool_ranks ranks p)))
              (keep-shares (undivided p sums) (portion_of sums p) (get_or sums p 0) d.rest turn_of (portion-none sums p) marks contribution);
          total_is = n.total_is;
        }

  -- the tie ------------------------------------------------------------------------------

  abbrev charged : List ℕ
  charged = charges_up_to sums weights ranks (length sums)

  module _ (d : Division) (i : Divided (length sums) sums status contribution ranks d) (whole : ℕ) (w : whole ≡ total sums) where
    pub tiable : Tiable whole contribution d
    unfolding charges_together
    tiable =
        record {
          whole_fits = omega (arith, c.sums_fit);
          charges_length = ap length i.charges_are ∙ length_up_to sums weights ranks length_weights c.ranks_length (length sums) (omega arith);
          roomy =
              record {
                most_fits = c.contribution_fits;
                taken_fits = λ k.
                    omega (
                      arith,
                      ap (λ (xs : List ℕ). get_or xs k 0) i.charges_are,
                      pooled-within sums weights ranks k,
                      keep-le marks contribution k,
                    );
              };
          total_is = i.total_is;
          total_within = omega (arith, i.total_is, ap total i.charges_are, pooled-placed sums weights ranks);
        }

    -- with the tie's charges, these are layer 4's
    pub by-pools_so : (charges : List ℕ) (t : ℕ) → Tied (rooms marks contribution d.charges) whole d charges t → Charges (charges_by_pools sums weights ranks) charges t
    unfolding charges_by_pools tied still_standing unmet charges_together
    by-pools_so charges t q =
        let stands : rooms marks contribution d.charges ≡ still_standing sums weights ranks =
        keep-minus marks contribution d.charges ∙ ap (minus weights) i.charges_are in
        let n : d.total ≡ total charged = i.total_is ∙ ap total i.charges_are in
        record {
          charges_are =
              q.charges_are
              ∙ ap (λ (xs : List ℕ). plus d.charges (split_of (gives (whole - d.total) (total xs)) xs)) stands
              ∙ ap (λ (m : ℕ). plus d.charges (split_of (gives (m - d.total) (total (still_standing sums weights ranks))) (still_standing sums weights ranks))) w
              ∙ ap (λ (m : ℕ). plus d.charges (split_of (gives (total sums - m) (total (still_standing sums weights ranks))) (still_standing sums weights ranks))) n
              ∙ ap (λ (xs : List ℕ). plus xs (tied sums weights ranks)) i.charges_are;
          total_is = q.total_is;
        }

-- the live members' contributions alone are divided ---------------------------------------

module _ (sums : List ℕ) (status : List Status) (contribution ranks standing : List ℕ) (c : Poolable sums status contribution ranks)
    (e : standing ≡ keep (live_in status) contribution) where
  pub standing_poolable : Poolable sums status standing ranks
  standing_poolable =
      rw e
      record {
        some = c.some;
        few = c.few;
        sums_fit = c.sums_fit;
        ranks_length = c.ranks_length;
        contribution_fits = λ k. omega (arith, keep-le (live_in status) contribution k, c.contribution_fits k);
        well_ranked = c.well_ranked;
      }

  -- they are the weights
  pub standing-charges : (charges : List ℕ) (t : ℕ) → Charges (charges_by_pools sums (keep (live_in status) standing) ranks) charges t
      → Charges (charges_by_pools sums (keep (live_in status) contribution) ranks) charges t
  standing-charges charges t q =
      let same : keep (live_in status) standing ≡ keep (live_in status) contribution = ap (keep (live_in status)) e ∙ keep-keep (live_in status) contribution in
      rw same at q

-- before the first pool
pub divided_start : (sums : List ℕ) (status : List Status) (contribution ranks : List ℕ) (whole : ℕ) → length contribution ≡ member_limit
    → length status ≡ member_limit → whole ≡ total sums
    → Divided zero sums status contribution ranks (record { left = contribution; rest = whole; charges = replicate member_limit 0; total = 0 })
unfolding charges_up_to undivided
divided_start sums status contribution ranks whole l s w =
    record {
      left_is = sym (map_same (undivided zero sums) (λ w. refl) contribution);
      rest_is = w;
      charges_are = ap (λ (n : ℕ). replicate n 0) (sym (length-keep (live_in status) contribution (length-live status ∙ s ∙ sym l) ∙ l));
      total_is = sym (total_zeros member_limit);
    }

-- one pool alone --------------------------------------------------------------------------

module _ (sums : List ℕ) (status : List Status) (contribution ranks : List ℕ) (ls : length status ≡ member_limit) (lc : length contribution ≡ member_limit)
    (c : Poolable sums status contribution ranks) (one : length sums ≡ 1) where
  ranks_64 : length ranks ≡ member_limit
  ranks_64 = omega (arith, c.ranks_length)

  well : misranked (live_in status) ranks ≡ false
  well =
      let e : pool_ranks ranks 0 ≡ ranks = take_all member_limit ranks (omega (arith, ranks_64)) in
      sym (ap (misranked (live_in status)) e) ∙ pool_well-ranked (live_in status) ranks (length sums) c.well_ranked 0 (omega arith)

  pub alone : Chargeable status contribution ranks
  alone = record { ranks_length = ranks_64; contribution_fits = c.contribution_fits; well_ranked = well }

  pub alone_so : (whole : ℕ) → whole ≡ total sums → charges_of whole (keep (live_in status) contribution) ranks ≡ charges_by_pools sums
      (keep (live_in status) contribution) ranks
  alone_so whole w =
      let ws : List ℕ = keep (live_in status) contribution in
      ap (λ (n : ℕ). charges_of n ws ranks) w
      ∙ sym (one_pool_lem (total sums) ws ranks (length_weights sums status contribution ranks ls lc c) ranks_64 ranked)
      ∙ ap (λ (xs : List ℕ). charges_by_pools xs ws ranks) (sym (single sums one))
    where
      ranked : (k : ℕ) → 0 < get_or (keep (live_in status) contribution) k 0 → (0 < get_or ranks k 0) × (get_or ranks k 0 ≤ rank_limit)
      ranked k h =
          let m = kept_mark (live_in status) contribution k h in
          ranks-read (live_in status) ranks well k
          (omega (arith, mark-within (live_in status) k m, length-live status, ls, ranks_64))
          m
