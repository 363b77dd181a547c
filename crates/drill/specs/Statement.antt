-- Statement 3: one claim about any register sheet, any G and any list of drill calls, refused ones among them.
use Rattle.std.specs.Prelude.{ℕ, ◌+◌, ◌≤◌, ◌<◌, ◌≡◌, true, List, [], ◌∷◌, ◌++◌}
use Rattle.waterfall.specs.Opening.{opened_of}
use Rattle.figures.specs.Figures.{figure}
use Rattle.admission.specs.Admission.{pool_ranks}
use Rattle.admission.specs.declared.Pools.{Pools}
use Rattle.waterfall.specs.Pools.{pool_portions, pool_charges}
use Rattle.waterfall.specs.Reply.{Layer, layer1, layer2, layer3, layer4, layer5, layer6}
use Rattle.waterfall.specs.Register.{Register}
use Rattle.drill.specs.Drill.{Step, Event, trace}
use Rattle.drill.specs.Counting.{opening_margin, opening_contribution, opening_tranche1, opening_tranche2, sheet_cap, accepted, loss_in, short_in, fallen_in}
use Rattle.drill.specs.Counting.{fallen_by, layer_in, layer_by, charge_on, call_on, paid_by, replenished_by, sum_over, last_register, live_after, called_since}
use Rattle.drill.specs.declared.DrillCall.TheVariants.{Default}

-- the order of layers and ranks, at an accepted default `e` of `member` ---------------------------------------------------------------------

-- `Other` are the other live members, `CalledUp` those that are called up to their cap; `r` is the register that the default was made on
module _ (Other CalledUp : ℕ → Type 0) (r : Register) (e : Event) (member : ℕ) (pools : Pools) where
  -- whether a layer is empty "in the register which that default gave back"; "Layer 4 is empty when every other live member's contribution is
  -- 0, layer 6 when the calls made on each since the last accepted close (or opening), this default's included, equal its cap."
  abbrev pub Empty : Layer → Type 0
  Empty layer1 = figure e.register.margin member ≡ 0
  Empty layer2 = figure e.register.contribution member ≡ 0
  Empty layer3 = e.register.tranche1 ≡ 0
  Empty layer4 = (n : ℕ) → Other n → figure e.register.contribution n ≡ 0
  Empty layer5 = e.register.tranche2 ≡ 0
  Empty layer6 = (n : ℕ) → Other n → CalledUp n

  -- "If a layer's total is above zero, every earlier layer is empty (..); if the shortfall is, all six are."
  -- Within a pool, "if a member's charge in that pool is above zero, every other live member with a greater rank in that pool is charged its whole portion
  -- there", by the pool charges and portions that the rules give (document 02, request 3). And with one pool: "If a member's layer 4 charge is above zero,
  -- every other live member with a greater rank has contribution 0 in that register."
  pub record InOrder : Type 0 where
    pub layer2_charged : 0 < layer_in layer2 e → Empty layer1
    pub layer3_charged : 0 < layer_in layer3 e → Empty layer1 × Empty layer2
    pub layer4_charged : 0 < layer_in layer4 e → Empty layer1 × Empty layer2 × Empty layer3
    pub layer5_charged : 0 < layer_in layer5 e → Empty layer1 × Empty layer2 × Empty layer3 × Empty layer4
    pub layer6_charged : 0 < layer_in layer6 e → Empty layer1 × Empty layer2 × Empty layer3 × Empty layer4 × Empty layer5
    pub short : 0 < short_in e → Empty layer1 × Empty layer2 × Empty layer3 × Empty layer4 × Empty layer5 × Empty layer6
    pub by_rank_in_pool : (p : ℕ) → p < pools.count → (m n : ℕ) → 0 < figure (pool_charges r member pools e.ranks p) m → Other n
        → figure (pool_ranks e.ranks p) m < figure (pool_ranks e.ranks p) n
        → figure (pool_charges r member pools e.ranks p) n ≡ figure (pool_portions r member pools p) n
    pub by_rank : pools.count ≡ 1 → (m n : ℕ) → 0 < charge_on m e → Other n → figure e.ranks m < figure e.ranks n → figure e.register.contribution n ≡ 0

-- by what is counted of the sheet, G, the events `before` and the default `e` itself
module _ (sheet : List ℕ) (g : ℕ) (before : List Event) where
  -- "other live members"
  abbrev pub OtherLive : ℕ → ℕ → Type 0
  OtherLive member n = (live_after sheet g before n ≡ true) × (n ≡ member → ⊥)

  -- "the calls made on each since the last accepted close (or opening), this default's included, equal its cap"
  abbrev pub CalledToCap : Event → ℕ → Type 0
  CalledToCap e n = called_since n 0 (before ++ (e ∷ [])) ≡ sheet_cap sheet g n

-- the statement ------------------------------------------------------------------------------------------------------------------------

module _ (sheet : List ℕ) (g : ℕ) (steps : List Step) where
  abbrev pub opened : Register
  opened = (opened_of sheet g).register

  abbrev pub events : List Event
  events = trace opened steps

  abbrev pub last : Register
  last = last_register opened events

  pub record Statement3 : Type 0 where
    -- money is conserved: all charges and shortfalls are the losses and the fallen calls
    pub placed : sum_over (layer_in layer1) events + sum_over (layer_in layer2) events + sum_over (layer_in layer3) events
        + sum_over (layer_in layer4) events + sum_over (layer_in layer5) events + sum_over (layer_in layer6) events + sum_over short_in events
        ≡ sum_over loss_in events + sum_over fallen_in events
    -- and each pocket's opening sum with its replenishments is what is held and what was charged
    pub margins : (m : ℕ) → opening_margin sheet g m ≡ figure last.margin m + sum_over (layer_by layer1 m) events
    pub contributions : (m : ℕ) → opening_contribution sheet g m + sum_over (replenished_by m) events
        ≡ figure last.contribution m + sum_over (layer_by layer2 m) events + sum_over (charge_on m) events
    pub tranche1 : opening_tranche1 sheet g ≡ last.tranche1 + sum_over (layer_in layer3) events
    pub tranche2 : opening_tranche2 sheet g ≡ last.tranche2 + sum_over (layer_in layer5) events
    -- calls are accounted for: those made are paid, outstanding or fallen
    pub calls : (m : ℕ) → sum_over (call_on m) events ≡ sum_over (paid_by m) events + figure last.outstanding m + sum_over (fallen_by m) events
    -- layers and ranks are charged in order, at every accepted default of the list
    pub order : (before : List Event) (e : Event) (after : List Event) → events ≡ before ++ e ∷ after
        → (m : ℕ) (pools : Pools) → e.call ≡ Default m pools → accepted e ≡ true
        → InOrder (OtherLive sheet g before m) (CalledToCap sheet g before e) (last_register opened before) e m pools
    -- no member is called past its cap between closes: claimed of every beginning of the list, since between closes the sum only grows
    pub caps : (before after : List Event) → events ≡ before ++ after → (m : ℕ) → called_since m 0 before ≤ sheet_cap sheet g m
