-- The laws of a single step, for a default on a register that was given back.
use Prim.Native.Nat.{ℕ, ◌+◌, ◌<◌}
use mathlib.Core.Path.{◌≡◌, refl, ap, sym, ◌∙◌}
use mathlib.Core.Bool.{cond}
use mathlib.Core.List.{List, ◌++◌}
use native.Mathlib.Omega.{arith}
use borrow.Author.Tests.{eqb-false}
use lib.ListN.{length, take, drop}
use Rattle.std.specs.Prelude.{Option, Some, None, Ok, is_some}
use Rattle.lists.specs.Checks.{check}
use Rattle.lists.specs.Limits.{member_limit}
use Rattle.refusal.specs.declared.Refusal.{Refusal}
use Rattle.admission.specs.declared.Pools.{Pools}
use Rattle.figures.specs.Figures.{figure, replace}
use Rattle.figures.specs.declared.Status.{Status}
use Rattle.waterfall.specs.Register.{Register, GivenBack}
use Rattle.waterfall.specs.Reply.{judged}
use Rattle.waterfall.specs.Default.{fallen_call, on_margin, on_contribution, calls, after1, after2, after3, after4, after5, allocation_of, settled_of, slip_of}
use Rattle.waterfall.specs.Pools.{loss_together, pooled_charges, pooled_allocation, pooled_refusal, pooled_of, pooled_slip}
use Rattle.admission.proofs.Admitted.{PoolsAdmitted}
use Rattle.waterfall.proofs.Default.{Layer4, placed, margin-gives, contribution-gives, tranche1-gives, tranche2-gives, charges-within, left2, left3, left4}
use Rattle.waterfall.proofs.Default.{left5, left6, charges_read, calls_read}
use Rattle.figures.proofs.Figures.{same_member, other_member, replaced_at, figure-plus, figure-le, by-member}
use Rattle.waterfall.proofs.Given.{given-settled, length-calls}
use Rattle.waterfall.proofs.Placing.{admitted}
use Rattle.drill.proofs.Order.{layer4, defaulter_known, settled-contribution, settled_other, defaulter_uncharged, empty1, empty2, empty3, empty4, empty5}
use Rattle.drill.proofs.Order.{empty6, ranked_other, by_rank_in_pool, by_rank}
use Rattle.drill.specs.Drill.{Event}
use Rattle.drill.specs.declared.DrillCall.TheVariants.{Default}
use Rattle.drill.proofs.Laws.{StepLaws, Ordered}
use Rattle.drill.proofs.Calls.{seen, refused_laws}

-- an accepted default
module _ (r : Register) (g : GivenBack r) (member : ℕ) (pools : Pools) (ranks slip : List ℕ) (a : PoolsAdmitted r.status member pools ranks (length slip)) where
  abbrev loss : ℕ
  loss = loss_together pools

  charged : List ℕ
  charged = pooled_charges r member pools ranks

  calling : List ℕ
  calling = calls r member loss (pooled_charges r member pools ranks)

  known4 : Layer4 r member loss (pooled_charges r member pools ranks)
  known4 = layer4 r g member pools ranks slip a

  left : List ℕ
  left = charged ++ calling ++ drop (member_limit + member_limit) slip

  -- the slip's numbers are the charges and the calls
  charges_on : take member_limit left ≡ charged
  unfolding left charged calling
  charges_on = charges_read r member loss (pooled_charges r member pools ranks) slip known4.long

  calls_on : take member_limit (drop member_limit left) ≡ calling
  unfolding left charged calling
  calls_on =
      calls_read r member loss (pooled_charges r member pools ranks) slip known4.long
      (length-calls r g member loss (pooled_charges r member pools ranks))

  event : Event
  event = seen (Default member pools) ranks (record
      { reply = Ok (Some (pooled_allocation r member pools ranks)); register = settled_of r member loss (pooled_charges r member pools ranks) }) left

  -- where something is left after a layer, something was left before it, and the layer is empty
  up2 : 0 < after2 r member loss → 0 < after1 r member loss
  up2 h = omega (arith, left2 r member loss (pooled_charges r member pools ranks))

  up3 : 0 < after3 r member loss → 0 < after2 r member loss
  up3 h = omega (arith, left3 r member loss (pooled_charges r member pools ranks))

  up4 : 0 < after4 r member loss (pooled_charges r member pools ranks) → 0 < after3 r member loss
  up4 h = omega (arith, left4 r member loss (pooled_charges r member pools ranks) known4)

  up5 : 0 < after5 r member loss (pooled_charges r member pools ranks) → 0 < after4 r member loss (pooled_charges r member pools ranks)
  up5 h = omega (arith, left5 r member loss (pooled_charges r member pools ranks))

  abbrev e1 : 0 < after1 r member loss → figure (settled_of r member loss (pooled_charges r member pools ranks)).margin member ≡ 0
  e1 = empty1 r g member pools ranks slip a

  abbrev e2 : 0 < after2 r member loss → figure (settled_of r member loss (pooled_charges r member pools ranks)).contribution member ≡ 0
  e2 = empty2 r g member pools ranks slip a

  abbrev e3 : 0 < after3 r member loss → (settled_of r member loss (pooled_charges r member pools ranks)).tranche1 ≡ 0
  e3 = empty3 r g member pools ranks slip a

  abbrev e5 : 0 < after5 r member loss (pooled_charges r member pools ranks) → (settled_of r member loss (pooled_charges r member pools ranks)).tranche2 ≡ 0
  e5 = empty5 r g member pools ranks slip a

  allocated_ordered : Ordered r event member pools
  unfolding event pooled_allocation allocation_of charged
  allocated_ordered =
      let e4 = empty4 r g member pools ranks slip a in
      let e6 = empty6 r g member pools ranks slip a in
      record {
        layer2_charged = λ h. e1 (omega (arith, left2 r member loss (pooled_charges r member pools ranks)));
        layer3_charged = λ h.
            let h2 : 0 < after2 r member loss = omega (arith, left3 r member loss (pooled_charges r member pools ranks)) in (e1 (up2 h2), e2 h2);
        layer4_charged = λ h.
            let h3 : 0 < after3 r member loss = omega (arith, left4 r member loss (pooled_charges r member pools ranks) known4) in
            (e1 (up2 (up3 h3)), e2 (up3 h3), e3 h3);
        layer5_charged = λ h.
            let h4 : 0 < after4 r member loss (pooled_charges r member pools ranks) = omega
            (arith, left5 r member loss (pooled_charges r member pools ranks)) in
            (e1 (up2 (up3 (up4 h4))), e2 (up3 (up4 h4)), e3 (up4 h4), e4 h4);
        layer6_charged = λ h.
            let h5 : 0 < after5 r member loss (pooled_charges r member pools ranks) = omega
            (arith, left6 r member loss (pooled_charges r member pools ranks)) in
            (e1 (up2 (up3 (up4 (up5 h5)))), e2 (up3 (up4 (up5 h5))), e3 (up4 (up5 h5)), e4 (up5 h5), e5 h5);
        short = λ h.
            let h5 : 0 < after5 r member loss (pooled_charges r member pools ranks) = omega
            (arith, left6 r member loss (pooled_charges r member pools ranks)) in
            (e1 (up2 (up3 (up4 (up5 h5)))), e2 (up3 (up4 (up5 h5))), e3 (up4 (up5 h5)), e4 (up5 h5), e5 h5, e6 h);
        by_rank_in_pool = by_rank_in_pool r g member pools ranks slip a;
        by_rank = λ one m n p. by_rank r g member pools ranks slip a one m n (rw charges_on at p);
      }

  allocated_laws : StepLaws r event
  unfolding event pooled_allocation allocation_of settled_of charged calling fallen_call
  allocated_laws =
      let k = defaulter_known r g member pools ranks slip a in
      let charge : (m : ℕ) → figure (take member_limit left) m ≡ figure charged m = λ m. ap (λ (xs : List ℕ). figure xs m) charges_on in
      let call : (m : ℕ) → figure (take member_limit (drop member_limit left)) m ≡ figure calling m = λ m. ap (λ (xs : List ℕ). figure xs m) calls_on in
      record {
        given = given-settled r g member loss (pooled_charges r member pools ranks);
        cap_stays = refl;
        placed = placed r member loss (pooled_charges r member pools ranks) known4;
        margin = λ m.
            replaced_at 0 (λ b old new. old ≡ new + cond b (on_margin r member loss) 0) r.margin member m _ k.0 (omega (arith, k, g.margin_length))
            (omega (arith, margin-gives r member loss (pooled_charges r member pools ranks))) (λ y. omega arith);
        contribution = λ m.
            by-member (λ b. figure r.contribution m + 0 ≡ figure
            (settled_of r member loss (pooled_charges r member pools ranks)).contribution m + cond b (on_contribution r member loss) 0 + figure
            (take member_limit left) m) member m
            (λ e.
            omega (
              arith,
              charge m,
              contribution-gives r member loss (pooled_charges r member pools ranks),
              settled-contribution r g member pools ranks slip a,
              defaulter_uncharged r g member pools ranks slip a,
              ap (figure r.contribution) e,
              ap (figure (settled_of r member loss (pooled_charges r member pools ranks)).contribution) e,
              ap (figure (pooled_charges r member pools ranks)) e,
            ))
            (λ d.
            omega (
              arith,
              charge m,
              settled_other r g member pools ranks slip a m d,
              figure-le (pooled_charges r member pools ranks) r.contribution (charges-within r member loss (pooled_charges r member pools ranks) known4) m,
            ));
        tranche1 = omega (arith, tranche1-gives r member loss (pooled_charges r member pools ranks));
        tranche2 = omega (arith, tranche2-gives r member loss (pooled_charges r member pools ranks));
        calls = λ m.
            by-member (λ b. figure (take member_limit (drop member_limit left)) m + figure r.outstanding m ≡ 0 + figure
            (settled_of r member loss (pooled_charges r member pools ranks)).outstanding m + cond b (fallen_call r member) 0) member m
            (λ e.
            omega (
              arith,
              call m,
              figure-plus (replace r.outstanding member 0) (calls r member loss (pooled_charges r member pools ranks)) m,
              same_member 0 r.outstanding member m 0 k.0 (omega (arith, k, g.outstanding_length)) e,
              ap (figure r.outstanding) e,
            ))
            (λ d.
            omega (
              arith,
              call m,
              figure-plus (replace r.outstanding member 0) (calls r member loss (pooled_charges r member pools ranks)) m,
              other_member 0 r.outstanding member m 0 k.0 d,
            ));
        called = λ m. omega (arith, call m, figure-plus r.called (calls r member loss (pooled_charges r member pools ranks)) m);
        stays-live = λ m s q. other_member Status.Absent r.status member m Status.InDefault k.0 (eqb-false member m q) ∙ s;
        stays_in-default = λ m s. replaced_at Status.Absent
            (λ b old new. old ≡ Status.InDefault → new ≡ Status.InDefault) r.status member m Status.InDefault k.0 (omega (arith, k, g.status_length))
            (λ _. refl) (λ y e. e) s;
        in-default = λ m l q t. same_member Status.Absent r.status member m Status.InDefault k.0 (omega (arith, k, g.status_length)) (sym (named q).0);
        ranked = λ m l q t. rw ((named q).0, (named q).1) (ranked_other r g member pools ranks slip a);
        ordered = λ m l q t. rw ((named q).0, (named q).1) allocated_ordered;
      }
    where
      named : {m : ℕ} {l : Pools} → Default member pools ≡ Default m l → (m ≡ member) × (l ≡ pools)
      named q = (cc, cc)

pub default_laws : (r : Register) → GivenBack r → (member : ℕ) (pools : Pools) (ranks slip : List ℕ)
    → StepLaws r (seen (Default member pools) ranks (pooled_of r member pools ranks slip) (pooled_slip r member pools ranks slip))
unfolding pooled_of pooled_slip judged check event left charged calling
default_laws r g member pools ranks slip = go (pooled_refusal r member pools ranks slip) refl
  where
    go : (o : Option Refusal) → pooled_refusal r member pools ranks slip ≡ o
        → StepLaws r (seen (Default member pools) ranks
        (judged o r (Some (pooled_allocation r member pools ranks)) (settled_of r member (loss_together pools) (pooled_charges r member pools ranks)))
        (check (is_some o) slip (slip_of r member (loss_together pools) (pooled_charges r member pools ranks) slip)))
    go (Some refusal) e = refused_laws r g (Default member pools) ranks slip refusal
    go None e = allocated_laws r g member pools ranks slip (admitted r member pools ranks slip e)
