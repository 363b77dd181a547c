-- An accepted opening: the figures of the register are those of the sheet.
use Prim.Native.Nat.{ℕ, zero, suc, ◌+◌, ◌-◌, ◌<◌}
use mathlib.Core.Path.{◌≡◌, refl, ap, sym, ◌∙◌}
use mathlib.Core.Bool.{Bool, true, false, cond, true≢false}
use mathlib.Core.List.{List, [], ◌∷◌, map}
use native.Mathlib.Omega.{arith}
use borrow.Author.Tests.{ltb-true}
use lib.Dec.{eqb}
use lib.ListN.{length, length-set}
use Rattle.std.specs.Prelude.{Option, Some, None, is_none}
use Rattle.lists.specs.Checks.{check}
use Rattle.lists.specs.Limits.{member_limit, contribution_floor}
use Rattle.refusal.specs.declared.Refusal.{Refusal}
use Rattle.sheets.specs.Bytes.{record_at}
use Rattle.sheets.specs.Columns.{no_columns, entered, columns_from, columns_of}
use Rattle.sheets.specs.Members.{member_at, first_at, second_at, third_at, record_of}
use Rattle.sheets.specs.Sheet.{record_count, member_refusal_from, member_refusal}
use Rattle.sheets.specs.declared.columns.Columns.{Columns}
use Rattle.sheets.proofs.Laws.{record_in-order, rest-accepted}
use Rattle.figures.specs.Figures.{figure, status_at, replace, none, status_of}
use Rattle.figures.specs.declared.Status.{Status}
use Rattle.waterfall.specs.Register.{Register, empty_register}
use Rattle.waterfall.specs.Opening.{tranche1_of, tranche2_of, opening_register, opening_refusal, opened_of}
use Rattle.figures.proofs.Figures.{other_member, replaced_at, figure-none}
use Rattle.waterfall.proofs.Entered.{accepts}
use Rattle.drill.specs.Counting.{opening_accepted, figures_from, in_sheet, named, opening_sum, opening_margin, opening_contribution, sheet_cap}
use Rattle.drill.specs.Counting.{opening_tranche1, opening_tranche2}
use Rattle.std.proofs.lemmas.List.{map-set}

-- a list of figures with those of n records put in, from record i on
put : (List ℕ → ℕ) → ℕ → List ℕ → ℕ → List ℕ → List ℕ
put f zero sheet i xs = xs
put f (suc n) sheet i xs = put f n sheet (i + 1) (replace xs (member_at (record_at sheet i)) (f (record_at sheet i)))

-- a list of the columns in which each record puts its figure is such
entered_list : (list : Columns → List ℕ) (f : List ℕ → ℕ) → ((c : Columns) (s : List ℕ) → list (entered c (record_of s)) ≡ replace (list c) (member_at s) (f s))
    → (n : ℕ) (sheet : List ℕ) (i : ℕ) (c : Columns) → list (columns_from n sheet i c) ≡ put f n sheet i (list c)
unfolding columns_from put
entered_list list f h zero sheet i c = refl
entered_list list f h (suc n) sheet i c =
    let s : List ℕ = record_at sheet i in
    entered_list list f h n sheet (i + 1) (entered c (record_of s)) ∙ ap (put f n sheet (i + 1)) (h c s)

-- each figure that is put in is that of the records that name the member: members rise, so above `last` there is none yet
put-figure : (f : List ℕ → ℕ) (m n : ℕ) (sheet : List ℕ) (i last : ℕ) (xs : List ℕ) → length xs ≡ member_limit
    → ((k : ℕ) → last < k → figure xs k ≡ 0) → member_refusal_from contribution_floor n sheet i last ≡ None
    → figure (put f n sheet i xs) m ≡ figure xs m + figures_from f m n sheet i
unfolding put figures_from
put-figure f m zero sheet i last xs l z q = omega arith
put-figure f m (suc n) sheet i last xs l z q =
    let s : List ℕ = record_at sheet i in
    let w : ℕ = member_at s in
    let o = record_in-order contribution_floor n sheet i last q in
    let next : (k : ℕ) → w < k → figure (replace xs w (f s)) k ≡ 0 =
    λ k h. other_member 0 xs w k (f s) o.within.member_least (λ e. omega arith) ∙ z k (omega (arith, o.rises)) in
    let entered : figure (replace xs w (f s)) m ≡ figure xs m + cond (eqb w m) (f s) 0 =
    replaced_at 0 (λ b old new. new ≡ old + cond b (f s) 0) xs w m (f s) o.within.member_least (omega (arith, o.within.member_most))
    (omega (arith, z w o.rises)) (λ y. omega arith) in
    omega (
      arith,
      entered,
      put-figure f m n sheet (i + 1) w (replace xs w (f s)) (length-set xs (w - 1) (f s) ∙ l) next (rest-accepted contribution_floor n sheet i last q),
    )

-- who is present counts 1, and is live
abbrev one_of : Bool → ℕ
one_of present = cond present 1 0

present_live : (present : List Bool) (m : ℕ) → 0 < figure (map one_of present) m → status_at (map status_of present) m ≡ Status.Live
present_live present zero h = absurd (omega arith)
present_live [] (suc k) h = absurd (omega arith)
present_live (true ∷ present) (suc zero) h = refl
present_live (false ∷ present) (suc zero) h = absurd (omega arith)
present_live (b ∷ present) (suc (suc k)) h = present_live present (suc k) h

-- an opening that is accepted --------------------------------------------------------------

module _ (sheet : List ℕ) (g : ℕ) (ok : opening_refusal sheet g ≡ None) where
  abbrev opened : Register
  opened = (opened_of sheet g).register

  is_opening : opened ≡ opening_register sheet g
  unfolding check
  is_opening = rw ok

  all-accepted : member_refusal_from contribution_floor (record_count sheet) sheet 0 0 ≡ None
  unfolding member_refusal
  all-accepted = (accepts sheet g ok).records-accepted

  sheet-figure : (f : List ℕ → ℕ) (m : ℕ) → figure (put f (record_count sheet) sheet 0 none) m ≡ in_sheet f sheet m
  sheet-figure f m =
      omega (
        arith,
        figure-none m,
        put-figure f m (record_count sheet) sheet 0 0 none refl (λ k h. figure-none k) all-accepted,
      )

  list-opened : (list : Columns → List ℕ) (f : List ℕ → ℕ)
      → ((c : Columns) (s : List ℕ) → list (entered c (record_of s)) ≡ replace (list c) (member_at s) (f s)) → list no_columns ≡ none
      → (m : ℕ) → figure (list (columns_of sheet)) m ≡ in_sheet f sheet m
  unfolding columns_of
  list-opened list f h e m =
      ap (λ (xs : List ℕ). figure xs m) (entered_list list f h (record_count sheet) sheet 0 no_columns ∙ ap (put f (record_count sheet) sheet 0) e)
      ∙ sheet-figure f m

  -- a figure of the register that is a figure of the sheet
  of-sheet : (list : Register → List ℕ) (m x : ℕ) → figure (list (opening_register sheet g)) m ≡ x → figure (list opened) m ≡ x
  of-sheet list m x q = ap (λ (r : Register). figure (list r) m) is_opening ∙ q

  pub margin-opened : (m : ℕ) → figure opened.margin m ≡ in_sheet first_at sheet m
  unfolding opening_register
  margin-opened m = of-sheet (λ r. r.margin) m _ (list-opened (λ c. c.first) first_at (λ c s. refl) refl m)

  pub contribution-opened : (m : ℕ) → figure opened.contribution m ≡ in_sheet second_at sheet m
  unfolding opening_register
  contribution-opened m = of-sheet (λ r. r.contribution) m _ (list-opened (λ c. c.second) second_at (λ c s. refl) refl m)

  pub cap-opened : (m : ℕ) → figure opened.cap m ≡ in_sheet third_at sheet m
  unfolding opening_register
  cap-opened m = of-sheet (λ r. r.cap) m _ (list-opened (λ c. c.third) third_at (λ c s. refl) refl m)

  -- who is named is live
  pub live-opened : (m : ℕ) → named sheet m ≡ true → status_at opened.status m ≡ Status.Live
  unfolding opening_register
  live-opened m n =
      let stands : figure (map one_of (columns_of sheet).present) m ≡ in_sheet (λ s. 1) sheet m =
      list-opened (λ c. map one_of c.present) (λ s. 1) (λ c s. map-set one_of c.present (member_at s - 1) true) refl m in
      ap (λ (r : Register). status_at r.status m) is_opening
      ∙ present_live (columns_of sheet).present m (omega (arith, stands, ltb-true 0 (in_sheet (λ s. 1) sheet m) n))

  pub rest-opened : (opened.outstanding ≡ none) × (opened.called ≡ none) × (opened.tranche1 ≡ tranche1_of g) × (opened.tranche2 ≡ tranche2_of g)
  unfolding opening_register
  rest-opened = (
    ap (λ (r : Register). r.outstanding) is_opening,
    ap (λ (r : Register). r.called) is_opening,
    ap (λ (r : Register). r.tranche1) is_opening,
    ap (λ (r : Register). r.tranche2) is_opening,
  )

-- any opening ------------------------------------------------------------------------------

-- the register that an opening gives back, as statement 3 counts the opening
pub record Opens (sheet : List ℕ) (g : ℕ) : Type 0 where
  pub margin : (m : ℕ) → figure (opened_of sheet g).register.margin m ≡ opening_margin sheet g m
  pub contribution : (m : ℕ) → figure (opened_of sheet g).register.contribution m ≡ opening_contribution sheet g m
  pub cap : (m : ℕ) → figure (opened_of sheet g).register.cap m ≡ sheet_cap sheet g m
  pub tranche1 : (opened_of sheet g).register.tranche1 ≡ opening_tranche1 sheet g
  pub tranche2 : (opened_of sheet g).register.tranche2 ≡ opening_tranche2 sheet g
  pub outstanding : (m : ℕ) → figure (opened_of sheet g).register.outstanding m ≡ 0
  pub called : (m : ℕ) → figure (opened_of sheet g).register.called m ≡ 0
  pub status : (m : ℕ) → opening_accepted sheet g ≡ true → named sheet m ≡ true → status_at (opened_of sheet g).register.status m ≡ Status.Live

pub opens : (sheet : List ℕ) (g : ℕ) → Opens sheet g
unfolding check
opens sheet g = go (opening_refusal sheet g) refl
  where
    sum : (x y : ℕ) (o : Option Refusal) → opening_refusal sheet g ≡ o → x ≡ cond (is_none o) y 0 → x ≡ opening_sum sheet g y
    sum x y o e q = q ∙ sym (ap (λ (a : Option Refusal). cond (is_none a) y 0) e)

    go : (o : Option Refusal) → opening_refusal sheet g ≡ o → Opens sheet g
    go None e =
        let rest = rest-opened sheet g e in
        record {
          margin = λ m. sum _ _ None e (margin-opened sheet g e m);
          contribution = λ m. sum _ _ None e (contribution-opened sheet g e m);
          cap = λ m. sum _ _ None e (cap-opened sheet g e m);
          tranche1 = sum _ _ None e rest.2;
          tranche2 = sum _ _ None e rest.3;
          outstanding = λ m. ap (λ (xs : List ℕ). figure xs m) rest.0 ∙ figure-none m;
          called = λ m. ap (λ (xs : List ℕ). figure xs m) rest.1 ∙ figure-none m;
          status = λ m a n. live-opened sheet g e m n;
        }
    go (Some refusal) e =
        let empty : (opened_of sheet g).register ≡ empty_register = rw e in
        record {
          margin = λ m. sum _ (in_sheet first_at sheet m) (Some refusal) e (ap (λ (r : Register). figure r.margin m) empty ∙ figure-none m);
          contribution = λ m. sum _ (in_sheet second_at sheet m) (Some refusal) e (ap (λ (r : Register). figure r.contribution m) empty ∙ figure-none m);
          cap = λ m. sum _ (in_sheet third_at sheet m) (Some refusal) e (ap (λ (r : Register). figure r.cap m) empty ∙ figure-none m);
          tranche1 = sum _ (tranche1_of g) (Some refusal) e (ap (λ (r : Register). r.tranche1) empty);
          tranche2 = sum _ (tranche2_of g) (Some refusal) e (ap (λ (r : Register). r.tranche2) empty);
          outstanding = λ m. ap (λ (r : Register). figure r.outstanding m) empty ∙ figure-none m;
          called = λ m. ap (λ (r : Register). figure r.called m) empty ∙ figure-none m;
          status = λ m a n. absurd (true≢false (sym a ∙ ap is_none e));
        }
