-- The order of a default: where something goes to a layer, every earlier one is empty in the register given back, and a member is charged only
-- where every more junior one is emptied.
use Prim.Native.Nat.{ℕ, zero, suc, ◌-◌, ◌≤◌, ◌<◌}
use mathlib.Core.Path.{◌≡◌, refl, ap, sym, ◌∙◌}
use mathlib.Core.Bool.{true, false}
use mathlib.Core.List.{List}
use native.Mathlib.Omega.{arith}
use lib.ListN.{length, get_or}
use lib.Seq.{take_all}
use Rattle.lists.specs.Limits.{member_limit, rank_limit}
use Rattle.lists.specs.Sums.{minus, keep}
use Rattle.lists.proofs.Sums.{kept, unkept, mark-within, get_or-minus}
use Rattle.ranks.proofs.Laws.{juniors-first}
use Rattle.pools.proofs.Laws.{in_juniors-first, get_or-portions}
use Rattle.admission.specs.Admission.{loss_of, pool_ranks}
use Rattle.admission.specs.declared.Pools.{Pools}
use Rattle.figures.specs.Figures.{is_live, figure, status_at, replace, others}
use Rattle.figures.specs.declared.Status.{Status}
use Rattle.waterfall.specs.Register.{Register, GivenBack}
use Rattle.waterfall.specs.Default.{standing_of, rooms_of, on_margin, after1, on_contribution, after2, after3, charges, after4, after5, calls, shortfall}
use Rattle.waterfall.specs.Default.{settled_of}
use Rattle.waterfall.specs.Pools.{loss_together, pool_sums, pool_portions, pool_charges, pooled_charges}
use Rattle.admission.proofs.Admitted.{Admitted, PoolsAdmitted, admitted_one}
use Rattle.admission.proofs.EachPool.{length_pool-ranks, pool_well-ranked}
use Rattle.admission.proofs.Ranked.{ranks-read}
use Rattle.waterfall.proofs.Default.{Layer4, unmarked, emptied1, emptied2, emptied3, emptied4, emptied5, emptied6}
use Rattle.waterfall.proofs.Given.{length-others}
use Rattle.waterfall.proofs.OnePool.{same-charges}
use Rattle.waterfall.proofs.Pooled.{pooled_layer4}
use Rattle.figures.proofs.Figures.{place_of, same_member, other_member, live_at, figure-plus, figure-minus}

-- one pool: a charge by rank takes juniors first
juniors_charged : (r : Register) (member loss : ℕ) (ranks : List ℕ) (i j : ℕ) → 0 < get_or (charges r member loss ranks) i 0
    → get_or ranks i 0 < get_or ranks j 0 → get_or ranks j 0 ≤ rank_limit
    → get_or (charges r member loss ranks) j 0 ≡ get_or (standing_of r member) j 0
unfolding charges
juniors_charged r member loss ranks i j = juniors-first (after3 r member loss) (standing_of r member) ranks i j

module _ (r : Register) (g : GivenBack r) (member : ℕ) (pools : Pools) (ranks slip : List ℕ) (a : PoolsAdmitted r.status member pools ranks (length slip)) where
  abbrev loss : ℕ
  loss = loss_together pools

  abbrev charged : List ℕ
  charged = pooled_charges r member pools ranks

  abbrev after : Register
  after = settled_of r member loss charged

  pub layer4 : Layer4 r member loss charged
  layer4 = pooled_layer4 r member pools a.some a.few g ranks a.ranks_length

  -- the defaulter is a member
  pub defaulter_known : (0 < member) × (member ≤ member_limit)
  defaulter_known =
      let f = place_of Status.Absent r.status member a.present in (f.0, omega (arith, g.status_length))

  abbrev Other : ℕ → Type 0
  Other n = (status_at r.status n ≡ Status.Live) × (n ≡ member → ⊥)

  -- the marks of the others
  marked : (n : ℕ) → status_at r.status n ≡ Status.Live → (member ≡ n → ⊥) → (k : ℕ) → n ≡ suc k → get_or (others r.status member) k false ≡ true
  marked n s d k e =
      live_at (replace r.status member Status.InDefault) k
      ∙ ap is_live (sym (ap (status_at (replace r.status member Status.InDefault)) e)
      ∙ other_member Status.Absent r.status member n Status.InDefault defaulter_known.0 d ∙ s)

  -- the figures of the settled register ------------------------------------------

  pub settled-contribution : figure after.contribution member ≡ figure r.contribution member - on_contribution r member loss - figure charged member
  unfolding settled_of
  settled-contribution =
      let own : List ℕ = replace r.contribution member (figure r.contribution member - on_contribution r member loss) in
      omega (
        arith,
        figure-minus own charged member,
        same_member 0 r.contribution member member (figure r.contribution member - on_contribution r member loss) defaulter_known.0
            (omega (arith, defaulter_known, g.contribution_length)) refl,
      )

  pub settled_other : (n : ℕ) → (member ≡ n → ⊥) → figure after.contribution n ≡ figure r.contribution n - figure charged n
  unfolding settled_of
  settled_other n d =
      let own : List ℕ = replace r.contribution member (figure r.contribution member - on_contribution r member loss) in
      omega (
        arith,
        figure-minus own charged n,
        other_member 0 r.contribution member n (figure r.contribution member - on_contribution r member loss) defaulter_known.0 d,
      )

  pub settled-margin : figure after.margin member ≡ figure r.margin member - on_margin r member loss
  unfolding settled_of
  settled-margin = same_member 0 r.margin member member _ defaulter_known.0 (omega (arith, defaulter_known, g.margin_length)) refl

  -- the defaulter is not charged in layer 4
  pub defaulter_uncharged : figure charged member ≡ 0
  defaulter_uncharged = go member defaulter_known.0 refl
    where
      go : (m : ℕ) → 0 < m → m ≡ member → figure charged m ≡ 0
      go zero h e = refl
      go (suc k) h e =
          let s : get_or (replace r.status member Status.InDefault) k Status.Absent ≡ Status.InDefault =
          same_member Status.Absent r.status member (suc k) Status.InDefault defaulter_known.0 (omega (arith, defaulter_known, g.status_length)) (sym e) in
          omega (
            arith,
            layer4.weighed k,
            unkept (others r.status member) r.contribution k (unmarked r member k s),
          )

  -- another live member's weight is its contribution, and its room the rest of its cap
  weight : (n : ℕ) → Other n → figure (keep (others r.status member) r.contribution) n ≡ figure r.contribution n
  weight zero o = refl
  weight (suc k) o = kept (others r.status member) r.contribution k (marked (suc k) o.0 (λ e. o.1 (sym e)) k refl)

  room : (n : ℕ) → Other n → figure (rooms_of r member) n ≡ figure r.cap n - figure r.called n
  unfolding rooms_of
  room zero o = refl
  room (suc k) o =
      kept (others r.status member) (minus r.cap r.called) k (marked (suc k) o.0 (λ e. o.1 (sym e)) k refl) ∙ get_or-minus r.cap r.called k

  -- each rank that is read of a pool is 1 to the limit
  pub ranked_other : (p : ℕ) → p < pools.count → (n : ℕ) → Other n → (0 < figure (pool_ranks ranks p) n) × (figure (pool_ranks ranks p) n ≤ rank_limit)
  ranked_other p h zero o = let e : Status.Absent ≡ Status.Live = o.0 in absurd (cc)
  ranked_other p h (suc k) o =
      let m = marked (suc k) o.0 (λ e. o.1 (sym e)) k refl in
      ranks-read (others r.status member) (pool_ranks ranks p) (pool_well-ranked (others r.status member) ranks pools.count a.well_ranked p h) k
      (omega (arith, mark-within (others r.status member) k m, length-others r g member, length_pool-ranks ranks pools.count a.ranks_length p h))
      m

  -- layers that are empty -----------------------------------------------------------

  pub empty1 : 0 < after1 r member loss → figure after.margin member ≡ 0
  empty1 h = omega (arith, settled-margin, emptied1 r member loss charged h)

  pub empty2 : 0 < after2 r member loss → figure after.contribution member ≡ 0
  empty2 h = omega (arith, settled-contribution, emptied2 r member loss charged h)

  pub empty3 : 0 < after3 r member loss → after.tranche1 ≡ 0
  unfolding settled_of
  empty3 h = omega (arith, emptied3 r member loss charged h)

  pub empty4 : 0 < after4 r member loss charged → (n : ℕ) → Other n → figure after.contribution n ≡ 0
  empty4 h zero o = refl
  empty4 h (suc k) o =
      omega (arith, settled_other (suc k) (λ e. o.1 (sym e)), emptied4 r member loss charged layer4 h k, weight (suc k) o)

  pub empty5 : 0 < after5 r member loss charged → after.tranche2 ≡ 0
  unfolding settled_of
  empty5 h = omega (arith, emptied5 r member loss charged h)

  pub empty6 : 0 < shortfall r member loss charged → (n : ℕ) → Other n → figure after.called n ≡ figure after.cap n
  unfolding settled_of
  empty6 h zero o = refl
  empty6 h (suc k) o =
      omega (
        arith,
        figure-plus r.called (calls r member loss charged) (suc k),
        emptied6 r member loss charged h k,
        room (suc k) o,
        g.called_fits k,
      )

  -- within a pool a member is charged only where every more junior one is charged its whole portion
  pub by_rank_in_pool : (p : ℕ) → p < pools.count → (m n : ℕ) → 0 < figure (pool_charges r member pools ranks p) m → Other n
      → figure (pool_ranks ranks p) m < figure (pool_ranks ranks p) n
      → figure (pool_charges r member pools ranks p) n ≡ figure (pool_portions r member pools p) n
  unfolding pool_charges pool_portions
  by_rank_in_pool p b zero n c o h = absurd (omega arith)
  by_rank_in_pool p b (suc i) zero c o h = refl
  by_rank_in_pool p b (suc i) (suc j) c o h =
      in_juniors-first (pool_sums r member pools) (standing_of r member) ranks p i j c h (ranked_other p b (suc j) o).1
      ∙ sym (get_or-portions (pool_sums r member pools) (standing_of r member) p j)

  -- with one pool, only where every more junior one is emptied
  module _ (one : pools.count ≡ 1) where
    as_before : Admitted r.status member (loss_of pools 0) ranks (length slip)
    as_before = admitted_one r.status member pools ranks (length slip) one a

    by_its-ranks : charged ≡ charges r member (loss_of pools 0) ranks
    by_its-ranks = same-charges r g member pools one ranks (length slip) as_before

    own : (n : ℕ) → figure (pool_ranks ranks 0) n ≡ figure ranks n
    own n = ap (λ (xs : List ℕ). figure xs n) (take_all member_limit ranks (omega (arith, as_before.ranks_length)))

    pub by_rank : (m n : ℕ) → 0 < figure charged m → Other n → figure ranks m < figure ranks n → figure after.contribution n ≡ 0
    by_rank zero n p o h = absurd (omega arith)
    by_rank (suc i) zero p o h = refl
    by_rank (suc i) (suc j) p o h =
        omega (
          arith,
          settled_other (suc j) (λ e. o.1 (sym e)),
          whole i j (omega (arith, ap (λ (xs : List ℕ). get_or xs i 0) by_its-ranks)) h
              (omega (arith, (ranked_other 0 (omega (arith, one)) (suc j) o).1, own (suc j))),
          ap (λ (xs : List ℕ). get_or xs j 0) by_its-ranks,
          weight (suc j) o,
        )
      where
        whole : (i j : ℕ) → 0 < get_or (charges r member (loss_of pools 0) ranks) i 0 → get_or ranks i 0 < get_or ranks j 0
            → get_or ranks j 0 ≤ rank_limit → get_or (charges r member (loss_of pools 0) ranks) j 0 ≡ get_or (standing_of r member) j 0
        whole = juniors_charged r member (loss_of pools 0) ranks
