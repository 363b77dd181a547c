-- The laws of a single step, as one record: the theorem over a list is proved from these alone.
use Prim.Native.Nat.{ℕ, ◌+◌, ◌≤◌, ◌<◌}
use mathlib.Core.Path.{◌≡◌}
use mathlib.Core.Bool.{true, false, cond, ◌&&◌}
use Rattle.lists.specs.Limits.{rank_limit}
use Rattle.figures.specs.Figures.{figure, status_at}
use Rattle.figures.specs.declared.Status.{Status}
use Rattle.admission.specs.Admission.{pool_ranks}
use Rattle.admission.specs.declared.Pools.{Pools}
use Rattle.waterfall.specs.Register.{Register, GivenBack}
use Rattle.waterfall.specs.Reply.{layer1, layer2, layer3, layer5}
use Rattle.drill.specs.Drill.{Event}
use Rattle.drill.specs.Counting.{accepted, defaults, is_close, loss_in, short_in, fallen_in, fallen_by, layer_in, charged_in, layer_by, charge_on, call_on, paid_by}
use Rattle.drill.specs.Counting.{replenished_by}
use Rattle.drill.specs.Statement.{InOrder}
use Rattle.drill.specs.declared.DrillCall.TheVariants.{Default}

-- the order at an accepted default of `member`, by the marks of the register that it was made on and the calls that the one given back counts
module _ (r : Register) (e : Event) (member : ℕ) (pools : Pools) where
  abbrev pub Other : ℕ → Type 0
  Other n = (status_at r.status n ≡ Status.Live) × (n ≡ member → ⊥)

  abbrev pub Ordered : Type 0
  Ordered = InOrder Other (λ n. figure e.register.called n ≡ figure e.register.cap n) r e member pools

-- the order by others that are among those, and are called up where those are
pub in_order : {Other Among CalledUp Full : ℕ → Type 0} (r : Register) (e : Event) (member : ℕ) (pools : Pools) → ((n : ℕ) → Among n → Other n)
    → ((n : ℕ) → CalledUp n → Full n)
    → InOrder Other CalledUp r e member pools → InOrder Among Full r e member pools
in_order r e member pools other full o =
    record {
      layer2_charged = o.layer2_charged;
      layer3_charged = o.layer3_charged;
      layer4_charged = o.layer4_charged;
      layer5_charged = λ h. let s = o.layer5_charged h in (s.0, s.1, s.2, λ n l. s.3 n (other n l));
      layer6_charged = λ h. let s = o.layer6_charged h in (s.0, s.1, s.2, (λ n l. s.3 n (other n l)), s.4);
      short = λ h.
          let s = o.short h in (s.0, s.1, s.2, (λ n l. s.3 n (other n l)), s.4, λ n l. full n (s.5 n (other n l)));
      by_rank_in_pool = λ p b i n c l h. o.by_rank_in_pool p b i n c (other n l) h;
      by_rank = λ one i n p l h. o.by_rank one i n p (other n l) h;
    }

-- what one event does to the register `r` that it was made on
pub record StepLaws (r : Register) (e : Event) : Type 0 where
  pub given : GivenBack e.register
  pub cap_stays : e.register.cap ≡ r.cap
  pub placed : charged_in e + short_in e ≡ loss_in e + fallen_in e
  pub margin : (m : ℕ) → figure r.margin m ≡ figure e.register.margin m + layer_by layer1 m e
  pub contribution : (m : ℕ) → figure r.contribution m + replenished_by m e ≡ figure e.register.contribution m + layer_by layer2 m e + charge_on m e
  pub tranche1 : r.tranche1 ≡ e.register.tranche1 + layer_in layer3 e
  pub tranche2 : r.tranche2 ≡ e.register.tranche2 + layer_in layer5 e
  pub calls : (m : ℕ) → call_on m e + figure r.outstanding m ≡ paid_by m e + figure e.register.outstanding m + fallen_by m e
  pub called : (m : ℕ) → figure e.register.called m ≡ cond (accepted e && is_close e.call) 0 (figure r.called m + call_on m e)
  pub stays-live : (m : ℕ) → status_at r.status m ≡ Status.Live → (accepted e && defaults e.call m) ≡ false → status_at e.register.status m ≡ Status.Live
  pub stays_in-default : (m : ℕ) → status_at r.status m ≡ Status.InDefault → status_at e.register.status m ≡ Status.InDefault
  pub in-default : (m : ℕ) (pools : Pools) → e.call ≡ Default m pools → accepted e ≡ true → status_at e.register.status m ≡ Status.InDefault
  pub ranked : (m : ℕ) (pools : Pools) → e.call ≡ Default m pools → accepted e ≡ true → (p : ℕ) → p < pools.count → (n : ℕ) → Other r e m pools n
      → (0 < figure (pool_ranks e.ranks p) n) × (figure (pool_ranks e.ranks p) n ≤ rank_limit)
  pub ordered : (m : ℕ) (pools : Pools) → e.call ≡ Default m pools → accepted e ≡ true → Ordered r e m pools
