-- A list of events, each of which keeps the laws of a step: its sums, and what is known after any beginning of it.
use Prim.Native.Nat.{ℕ, ◌+◌}
use mathlib.Core.Path.{◌≡◌, refl, ap, ◌∙◌}
use mathlib.Core.Bool.{false, cond, ◌&&◌}
use mathlib.Core.List.{List, [], ◌∷◌, ◌++◌}
use native.Mathlib.Omega.{arith}
use Rattle.figures.specs.Figures.{figure, status_at}
use Rattle.figures.specs.declared.Status.{Status}
use Rattle.waterfall.specs.Register.{Register, GivenBack}
use Rattle.waterfall.specs.Reply.{layer1, layer2, layer3, layer4, layer5, layer6}
use Rattle.drill.specs.Drill.{Step, Event, event_of, trace}
use Rattle.drill.specs.Counting.{accepted, defaults, is_close, loss_in, short_in, fallen_in, fallen_by, layer_in, layer_by, charge_on, call_on, paid_by}
use Rattle.drill.specs.Counting.{replenished_by, sum_over, last_register, defaulted, called_since}
use Rattle.drill.specs.declared.DrillCall.{DrillCall}
use Rattle.drill.specs.declared.DrillCall.TheVariants.{Default, Payment, Replenishment, Close}
use Rattle.drill.proofs.Laws.{StepLaws}
use Rattle.drill.proofs.Calls.{payment_laws, replenishment_laws, close_laws}
use Rattle.drill.proofs.Defaults.{default_laws}
use Rattle.std.proofs.lemmas.Bool.{or_parts}

-- each event keeps the laws on the register that the one before gave back
abbrev pub Run : Register → List Event → Type 0
Run r [] = Unit {0}
Run r (e ∷ events) = StepLaws r e × Run e.register events

-- so does the trace of any list of steps
step_laws : (r : Register) → GivenBack r → (call : DrillCall) (ranks slip : List ℕ)
    → StepLaws r (event_of r (record { call = call; ranks = ranks; slip = slip }))
step_laws r g (Default member pools) ranks slip = default_laws r g member pools ranks slip
step_laws r g (Payment member amount) ranks slip = payment_laws r g member amount ranks slip
step_laws r g (Replenishment member amount) ranks slip = replenishment_laws r g member amount ranks slip
step_laws r g Close ranks slip = close_laws r g ranks slip

pub trace_runs : (r : Register) → GivenBack r → (steps : List Step) → Run r (trace r steps)
unfolding trace
trace_runs r g [] = tt
trace_runs r g (s ∷ steps) =
    let l = step_laws r g s.call s.ranks s.slip in (l, trace_runs (event_of r s).register l.given steps)

-- sums ----------------------------------------------------------------------------

pub record Totals (r : Register) (events : List Event) : Type 0 where
  pub placed : sum_over (layer_in layer1) events + sum_over (layer_in layer2) events + sum_over (layer_in layer3) events
      + sum_over (layer_in layer4) events + sum_over (layer_in layer5) events + sum_over (layer_in layer6) events + sum_over short_in events
      ≡ sum_over loss_in events + sum_over fallen_in events
  pub margins : (m : ℕ) → figure r.margin m ≡ figure (last_register r events).margin m + sum_over (layer_by layer1 m) events
  pub contributions : (m : ℕ) → figure r.contribution m + sum_over (replenished_by m) events
      ≡ figure (last_register r events).contribution m + sum_over (layer_by layer2 m) events + sum_over (charge_on m) events
  pub tranche1 : r.tranche1 ≡ (last_register r events).tranche1 + sum_over (layer_in layer3) events
  pub tranche2 : r.tranche2 ≡ (last_register r events).tranche2 + sum_over (layer_in layer5) events
  pub calls : (m : ℕ) → sum_over (call_on m) events + figure r.outstanding m
      ≡ sum_over (paid_by m) events + figure (last_register r events).outstanding m + sum_over (fallen_by m) events

pub totals : (r : Register) (events : List Event) → Run r events → Totals r events
unfolding sum_over last_register
totals r [] run =
    record {
      placed = refl;
      margins = λ m. omega arith;
      contributions = λ m. omega arith;
      tranche1 = omega arith;
      tranche2 = omega arith;
      calls = λ m. omega arith;
    }
totals r (e ∷ events) run =
    let l = run.0 in
    let t = totals e.register events run.1 in
    record {
      placed = omega (arith, l.placed, t.placed);
      margins = λ m. omega (arith, l.margin m, t.margins m);
      contributions = λ m. omega (arith, l.contribution m, t.contributions m);
      tranche1 = omega (arith, l.tranche1, t.tranche1);
      tranche2 = omega (arith, l.tranche2, t.tranche2);
      calls = λ m. omega (arith, l.calls m, t.calls m);
    }

-- after any beginning of the list ------------------------------------------------------

-- the next event keeps the laws on the register last given back
pub next_laws : (before : List Event) (r : Register) (e : Event) (after : List Event) → Run r (before ++ e ∷ after) → StepLaws (last_register r before) e
unfolding last_register
next_laws [] r e after run = run.0
next_laws (b ∷ before) r e after run = next_laws before b.register e after run.1

module _ (after : List Event) where
  pub last-given : (before : List Event) (r : Register) → GivenBack r → Run r (before ++ after) → GivenBack (last_register r before)
  unfolding last_register
  last-given [] r g run = g
  last-given (b ∷ before) r g run = last-given before b.register run.0.given run.1

  -- caps stay
  pub last_cap : (before : List Event) (r : Register) → Run r (before ++ after) → (last_register r before).cap ≡ r.cap
  unfolding last_register
  last_cap [] r run = refl
  last_cap (b ∷ before) r run = last_cap before b.register run.1 ∙ run.0.cap_stays

  -- what the register counts as called is what is counted
  pub last-called : (m : ℕ) (before : List Event) (r : Register) (n : ℕ) → figure r.called m ≡ n → Run r (before ++ after)
      → figure (last_register r before).called m ≡ called_since m n before
  unfolding last_register called_since
  last-called m [] r n e run = e
  last-called m (b ∷ before) r n e run =
      last-called m before b.register (cond (accepted b && is_close b.call) 0 (n + call_on m b))
      (run.0.called m ∙ ap (λ (k : ℕ). cond (accepted b && is_close b.call) 0 (k + call_on m b)) e)
      run.1

  -- who is live stays so until an accepted default names it
  pub last-live : (m : ℕ) (before : List Event) (r : Register) → status_at r.status m ≡ Status.Live → defaulted m before ≡ false → Run r (before ++ after)
      → status_at (last_register r before).status m ≡ Status.Live
  unfolding last_register defaulted
  last-live m [] r s d run = s
  last-live m (b ∷ before) r s d run =
      let n = or_parts (accepted b && defaults b.call m) (defaulted m before) d in
      last-live m before b.register (run.0.stays-live m s n.0) n.1 run.1

-- who is in default stays so
last_in-default : (m : ℕ) (events : List Event) (r : Register) → status_at r.status m ≡ Status.InDefault → Run r events
    → status_at (last_register r events).status m ≡ Status.InDefault
unfolding last_register
last_in-default m [] r s run = s
last_in-default m (e ∷ events) r s run = last_in-default m events e.register (run.0.stays_in-default m s) run.1

pub ever_after : (m : ℕ) (before : List Event) (r : Register) (e : Event) (after : List Event) → Run r (before ++ e ∷ after)
    → status_at e.register.status m ≡ Status.InDefault
    → status_at (last_register r (before ++ e ∷ after)).status m ≡ Status.InDefault
unfolding last_register
ever_after m [] r e after run s = last_in-default m after e.register s run.1
ever_after m (b ∷ before) r e after run s = ever_after m before b.register e after run.1 s

-- the register after one more event
pub last_of : (before : List Event) (r : Register) (e : Event) → last_register r (before ++ e ∷ []) ≡ e.register
unfolding last_register
last_of [] r e = refl
last_of (b ∷ before) r e = last_of before b.register e
