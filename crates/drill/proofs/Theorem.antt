-- Statement 3, proved: for any register sheet, any G and any list of drill calls. Last, that an accepted default reads no larger rank than the limit, that no
-- share of a default passes what it is drawn from, and that a defaulter is so for good.
use Prim.Native.Nat.{ℕ, ◌≤◌, ◌<◌}
use mathlib.Core.Path.{◌≡◌, ap, sym, subst, ◌∙◌}
use mathlib.Core.Bool.{true, not, ◌&&◌}
use mathlib.Core.List.{List, [], ◌∷◌, ◌++◌, append_assoc}
use native.Mathlib.Omega.{arith}
use borrow.Author.Tests.{not-true}
use Rattle.std.proofs.Common.{append-nil}
use Rattle.lists.specs.Limits.{rank_limit}
use Rattle.waterfall.specs.Opening.{opened_of}
use Rattle.figures.specs.Figures.{figure, status_at}
use Rattle.figures.specs.declared.Status.{Status}
use Rattle.admission.specs.Admission.{pool_ranks}
use Rattle.admission.specs.declared.Pools.{Pools}
use Rattle.waterfall.specs.Pockets.{WithinPockets}
use Rattle.waterfall.specs.Register.{Register}
use Rattle.figures.proofs.Figures.{figure-le}
use Rattle.waterfall.proofs.Entered.{given-opened}
use Rattle.waterfall.proofs.Pockets.{no_share_above}
use Rattle.drill.specs.Drill.{Step, Event, trace}
use Rattle.drill.specs.Counting.{opening_accepted, named, defaulted, sheet_cap, accepted, last_register, live_after, called_since}
use Rattle.drill.specs.Statement.{OtherLive, CalledToCap, InOrder, Statement3}
use Rattle.drill.specs.declared.DrillCall.TheVariants.{Default}
use Rattle.drill.proofs.Laws.{in_order}
use Rattle.drill.proofs.Runs.{Run, trace_runs, totals, next_laws, last-given, last_cap, last-called, last-live, last_of, ever_after}
use Rattle.drill.proofs.Opening.{opens}
use Rattle.std.proofs.lemmas.Bool.{and_parts}

module _ (sheet : List ℕ) (g : ℕ) (steps : List Step) where
  abbrev opened : Register
  opened = (opened_of sheet g).register

  abbrev events : List Event
  events = trace opened steps

  run : Run opened events
  run = trace_runs opened (given-opened sheet g) steps

  run_of : (es : List Event) → events ≡ es → Run opened es
  run_of es q = subst (λ (xs : List Event). Run opened xs) q run

  -- who is counted as live is so in the register
  counted-live : (before after : List Event) → Run opened (before ++ after) → (m : ℕ) → live_after sheet g before m ≡ true
      → status_at (last_register opened before).status m ≡ Status.Live
  counted-live before after r m l =
      let a = and_parts (opening_accepted sheet g && named sheet m) (not (defaulted m before)) l in
      let b = and_parts (opening_accepted sheet g) (named sheet m) a.0 in
      last-live after m before opened ((opens sheet g).status m b.0 b.1) (not-true (defaulted m before) a.1) r

  counted-called : (before after : List Event) → Run opened (before ++ after) → (m : ℕ)
      → figure (last_register opened before).called m ≡ called_since m 0 before
  counted-called before after r m = last-called after m before opened 0 ((opens sheet g).called m) r

  counted_cap : (before after : List Event) → Run opened (before ++ after) → (m : ℕ) → figure (last_register opened before).cap m ≡ sheet_cap sheet g m
  counted_cap before after r m = ap (λ (xs : List ℕ). figure xs m) (last_cap after before opened r) ∙ (opens sheet g).cap m

  ordered : (before : List Event) (e : Event) (after : List Event) → events ≡ before ++ e ∷ after
      → (m : ℕ) (pools : Pools) → e.call ≡ Default m pools → accepted e ≡ true
      → InOrder (OtherLive sheet g before m) (CalledToCap sheet g before e) (last_register opened before) e m pools
  ordered before e after q m pools c t =
      let r : Run opened (before ++ e ∷ after) = run_of _ q in
      let r1 : Run opened ((before ++ e ∷ []) ++ after) = subst (Run opened) (sym (append_assoc before (e ∷ []) after)) r in
      in_order (last_register opened before) e m pools
      (λ n l. (counted-live before (e ∷ after) r n l.0, l.1))
      (λ n f.
      sym (counted-called (before ++ e ∷ []) after r1 n)
      ∙ ap (λ (x : Register). figure x.called n) (last_of before opened e)
      ∙ f
      ∙ sym (ap (λ (x : Register). figure x.cap n) (last_of before opened e))
      ∙ counted_cap (before ++ e ∷ []) after r1 n)
      ((next_laws before opened e after r).ordered m pools c t)

  within-caps : (before after : List Event) → events ≡ before ++ after → (m : ℕ) → called_since m 0 before ≤ sheet_cap sheet g m
  within-caps before after q m =
      let r : Run opened (before ++ after) = run_of _ q in
      let l = last-given after before opened (given-opened sheet g) r in
      omega (
        arith,
        counted-called before after r m,
        counted_cap before after r m,
        figure-le (last_register opened before).called (last_register opened before).cap l.called_fits m,
      )

  pub statement3 : Statement3 sheet g steps
  statement3 =
      let t = totals opened events run in
      let o = opens sheet g in
      record {
        placed = t.placed;
        margins = λ m. sym (o.margin m) ∙ t.margins m;
        contributions = λ m. omega (arith, o.contribution m, t.contributions m);
        tranche1 = sym o.tranche1 ∙ t.tranche1;
        tranche2 = sym o.tranche2 ∙ t.tranche2;
        calls = λ m. omega (arith, o.outstanding m, t.calls m);
        order = ordered;
        caps = within-caps;
      }

  -- "A default that reads a larger rank is now a refused call in every statement." (document 02, request 2): each rank that an accepted default
  -- reads, those of the other live members as they are counted, is 1 to the limit, in each pool
  pub ranks-within : (before : List Event) (e : Event) (after : List Event) → events ≡ before ++ e ∷ after
      → (m : ℕ) (pools : Pools) → e.call ≡ Default m pools → accepted e ≡ true
      → (p : ℕ) → p < pools.count → (n : ℕ) → OtherLive sheet g before m n
      → (0 < figure (pool_ranks e.ranks p) n) × (figure (pool_ranks e.ranks p) n ≤ rank_limit)
  ranks-within before e after q m pools c t p h n o =
      let r : Run opened (before ++ e ∷ after) = run_of _ q in
      (next_laws before opened e after r).ranked m pools c t p h n (counted-live before (e ∷ after) r n o.0, o.1)

  -- "no sheet and no call can bring it" (document 02, request 8): whatever sheet, G and calls came before, no share of a default passes what it is drawn from
  pub never_above : (member : ℕ) (pools : Pools) (ranks : List ℕ) → WithinPockets (last_register opened events) member pools ranks
  never_above =
      no_share_above (last_register opened events) (last-given [] events opened (given-opened sheet g) (run_of (events ++ []) (sym (append-nil events))))

  -- "The defaulter is then in default for good.": whom an accepted default names is in default in the register last given back
  pub in-default_for_good : (before : List Event) (e : Event) (after : List Event) → events ≡ before ++ e ∷ after
      → (m : ℕ) (pools : Pools) → e.call ≡ Default m pools → accepted e ≡ true → status_at (last_register opened events).status m ≡ Status.InDefault
  in-default_for_good before e after q m pools c t =
      let r : Run opened (before ++ e ∷ after) = run_of _ q in
      ap (λ (es : List Event). status_at (last_register opened es).status m) q
      ∙ ever_after m before opened e after r ((next_laws before opened e after r).in-default m pools c t)
