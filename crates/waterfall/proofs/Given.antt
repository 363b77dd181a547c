-- Each call gives back a register that satisfies `GivenBack`, of one that does.
use Prim.Native.Nat.{ℕ, zero, suc, ◌+◌, ◌-◌, ◌≤◌, zero-le}
use mathlib.Core.Path.{◌≡◌, refl, sym, ◌∙◌}
use mathlib.Core.List.{List, [], ◌∷◌}
use native.Mathlib.Omega.{arith}
use lib.ListN.{length, get_or, set, length-set}
use Rattle.lists.specs.Limits.{member_limit, amount_limit}
use Rattle.lists.specs.Sums.{total, minus}
use Rattle.lists.proofs.Places.{set_all}
use Rattle.lists.proofs.Sums.{get_or_zeros, get_or-plus, get_or-minus, length-plus, length-minus, length-keep, unkept, get_or-le-total}
use Rattle.split.proofs.Laws.{length-split}
use Rattle.figures.specs.Figures.{figure, replace, none, others}
use Rattle.figures.specs.declared.Status.{Status}
use Rattle.waterfall.specs.Register.{empty_register, GivenBack}
use Rattle.waterfall.specs.Calls.{paid_of, replenished_of, closed_of}
use Rattle.waterfall.specs.Default.{standing_of, rooms_of, on_margin, on_contribution, on_calls, calls, settled_of}
use Rattle.waterfall.specs.Register.{Register}
use Rattle.figures.proofs.Figures.{figure-le_at, length-live}
use Rattle.waterfall.proofs.Default.{unmarked, rooms-within, calls-within}

-- what holds of two lists at each place holds once the same place of both is replaced
set_pair : {A B : Type 0} (none-a : A) (none-b : B) (P : A → B → Type 0) (xs : List A) (ys : List B) (i : ℕ) (v : A) (w : B) → length xs ≡ length ys
    → ((k : ℕ) → P (get_or xs k none-a) (get_or ys k none-b)) → P v w → (k : ℕ) → P (get_or (set xs i v) k none-a) (get_or (set ys i w) k none-b)
set_pair none-a none-b P [] [] i v w e h p k = h k
set_pair none-a none-b P [] (y ∷ ys) i v w e h p k = absurd (omega arith)
set_pair none-a none-b P (x ∷ xs) [] i v w e h p k = absurd (omega arith)
set_pair none-a none-b P (x ∷ xs) (y ∷ ys) zero v w e h p zero = p
set_pair none-a none-b P (x ∷ xs) (y ∷ ys) zero v w e h p (suc k) = h (suc k)
set_pair none-a none-b P (x ∷ xs) (y ∷ ys) (suc i) v w e h p zero = h zero
set_pair none-a none-b P (x ∷ xs) (y ∷ ys) (suc i) v w e h p (suc k) = set_pair none-a none-b P xs ys i v w (omega arith) (λ n. h (suc n)) p k

pub given_empty : GivenBack empty_register
given_empty =
    let zeros : (k : ℕ) → ◌≡◌ {A = ℕ} (get_or none k 0) 0 = get_or_zeros member_limit in
    record {
      status_length = refl;
      margin_length = refl;
      contribution_length = refl;
      requirement_length = refl;
      cap_length = refl;
      outstanding_length = refl;
      called_length = refl;
      margin_fits = λ k. omega (arith, zeros k);
      contribution_fits = λ k. omega arith;
      requirement_fits = λ k. omega (arith, zeros k);
      cap_fits = λ k. omega (arith, zeros k);
      called_fits = λ k. omega arith;
      outstanding_fits = λ k. omega arith;
      defaulter_owes_none = λ k e. zeros k;
      tranches_fit = omega arith;
    }

module _ (r : Register) (g : GivenBack r) where
  -- a figure that falls stays within what bounds it
  fallen-figure : (bound : ℕ → ℕ) (xs : List ℕ) (member less : ℕ) → ((k : ℕ) → get_or xs k 0 ≤ bound k) → (k : ℕ)
      → get_or (replace xs member (figure xs member - less)) k 0 ≤ bound k
  fallen-figure bound xs member less h =
      set_all (λ k x. x ≤ bound k) xs (member - 1) (figure xs member - less) h (omega (arith, figure-le_at xs member, h (member - 1)))

  pub given-paid : (member amount : ℕ) → GivenBack (paid_of r member amount)
  unfolding paid_of
  given-paid member amount =
      record {
        status_length = g.status_length;
        margin_length = g.margin_length;
        contribution_length = g.contribution_length;
        requirement_length = g.requirement_length;
        cap_length = g.cap_length;
        outstanding_length = simp length-set g.outstanding_length;
        called_length = g.called_length;
        margin_fits = g.margin_fits;
        contribution_fits = g.contribution_fits;
        requirement_fits = g.requirement_fits;
        cap_fits = g.cap_fits;
        called_fits = g.called_fits;
        outstanding_fits = fallen-figure (get_d' r.called) r.outstanding member amount g.outstanding_fits;
        defaulter_owes_none =
            set_all (λ k x. get_or r.status k Status.Absent ≡ Status.InDefault → x ≡ 0) r.outstanding (member - 1) _ g.defaulter_owes_none
            (λ e. omega (arith, figure-le_at r.outstanding member, g.defaulter_owes_none (member - 1) e));
        tranches_fit = g.tranches_fit;
      }
    where
      get_d' : List ℕ → ℕ → ℕ
      get_d' xs k = get_or xs k 0

  pub given-replenished : (member amount : ℕ) → figure r.contribution member + amount ≤ figure r.requirement member → GivenBack (replenished_of r member amount)
  unfolding replenished_of
  given-replenished member amount h =
      record {
        status_length = g.status_length;
        margin_length = g.margin_length;
        contribution_length = simp length-set g.contribution_length;
        requirement_length = g.requirement_length;
        cap_length = g.cap_length;
        outstanding_length = g.outstanding_length;
        called_length = g.called_length;
        margin_fits = g.margin_fits;
        contribution_fits =
            set_all (λ k x. x ≤ get_or r.requirement k 0) r.contribution (member - 1) _ g.contribution_fits
            (omega (arith, figure-le_at r.requirement member));
        requirement_fits = g.requirement_fits;
        cap_fits = g.cap_fits;
        called_fits = g.called_fits;
        outstanding_fits = g.outstanding_fits;
        defaulter_owes_none = g.defaulter_owes_none;
        tranches_fit = g.tranches_fit;
      }

  -- with nothing outstanding, nothing need have been called
  pub given-closed : total r.outstanding ≤ 0 → GivenBack (closed_of r)
  unfolding closed_of
  given-closed h =
      let zeros : (k : ℕ) → ◌≡◌ {A = ℕ} (get_or none k 0) 0 = get_or_zeros member_limit in
      record {
        status_length = g.status_length;
        margin_length = g.margin_length;
        contribution_length = g.contribution_length;
        requirement_length = g.requirement_length;
        cap_length = g.cap_length;
        outstanding_length = g.outstanding_length;
        called_length = refl;
        margin_fits = g.margin_fits;
        contribution_fits = g.contribution_fits;
        requirement_fits = g.requirement_fits;
        cap_fits = g.cap_fits;
        called_fits = λ k. omega (arith, zeros k);
        outstanding_fits = λ k. omega (arith, get_or-le-total r.outstanding k);
        defaulter_owes_none = g.defaulter_owes_none;
        tranches_fit = g.tranches_fit;
      }

  -- the length of the kept lists of a default
  pub length-others : (member : ℕ) → length (others r.status member) ≡ member_limit
  length-others member = length-live (replace r.status member Status.InDefault) ∙ length-set r.status (member - 1) Status.InDefault ∙ g.status_length

  length-rooms : (member : ℕ) → length (rooms_of r member) ≡ member_limit
  unfolding rooms_of
  length-rooms member =
      let m : length (minus r.cap r.called) ≡ member_limit = length-minus r.cap r.called ∙ g.cap_length in
      length-keep (others r.status member) (minus r.cap r.called) (length-others member ∙ sym m) ∙ m

  pub length-calls : (member loss : ℕ) (charged : List ℕ) → length (calls r member loss charged) ≡ member_limit
  unfolding calls
  length-calls member loss charged = length-split (on_calls r member loss charged) (rooms_of r member) ∙ length-rooms member

  pub length-standing : (member : ℕ) → length (standing_of r member) ≡ member_limit
  length-standing member = length-keep (others r.status member) r.contribution (length-others member ∙ sym g.contribution_length) ∙ g.contribution_length

  -- a member that is in default, the defaulter too, is not called
  pub uncalled : (member loss : ℕ) (charged : List ℕ) (k : ℕ) → get_or (replace r.status member Status.InDefault) k Status.Absent ≡ Status.InDefault
      → get_or (calls r member loss charged) k 0 ≡ 0
  unfolding rooms_of
  uncalled member loss charged k e =
      omega (
        arith,
        calls-within r member loss charged k,
        unkept (others r.status member) (minus r.cap r.called) k (unmarked r member k e),
      )

  pub given-settled : (member loss : ℕ) (charged : List ℕ) → GivenBack (settled_of r member loss charged)
  unfolding settled_of
  given-settled member loss charged =
      let called : List ℕ = r.called in
      let calling : List ℕ = calls r member loss charged in
      let room : (k : ℕ) → get_or calling k 0 ≤ get_or r.cap k 0 - get_or called k 0 =
      λ k. omega (arith, calls-within r member loss charged k, rooms-within r member k) in
      let lc : length calling ≡ member_limit = length-calls member loss charged in
      let lo : length (replace r.outstanding member 0) ≡ member_limit = length-set r.outstanding (member - 1) 0 ∙ g.outstanding_length in
      let own : List ℕ = replace r.contribution member (figure r.contribution member - on_contribution r member loss) in
      record {
        status_length = simp length-set g.status_length;
        margin_length = simp length-set g.margin_length;
        contribution_length = length-minus own charged ∙ length-set r.contribution (member - 1) _ ∙ g.contribution_length;
        requirement_length = g.requirement_length;
        cap_length = g.cap_length;
        outstanding_length = length-plus (replace r.outstanding member 0) calling (lo ∙ sym lc) ∙ lo;
        called_length = length-plus called calling (g.called_length ∙ sym lc) ∙ g.called_length;
        margin_fits = fallen-figure (λ k. amount_limit) r.margin member (on_margin r member loss) g.margin_fits;
        contribution_fits = λ k.
            omega (
              arith,
              get_or-minus own charged k,
              fallen-figure (λ n. get_or r.requirement n 0) r.contribution member
                  (on_contribution r member loss) g.contribution_fits k,
            );
        requirement_fits = g.requirement_fits;
        cap_fits = g.cap_fits;
        called_fits = λ k. omega (arith, get_or-plus called calling k, room k, g.called_fits k);
        outstanding_fits = λ k.
            omega (
              arith,
              get_or-plus called calling k,
              get_or-plus (replace r.outstanding member 0) calling k,
              set_all (λ n x. x ≤ get_or called n 0) r.outstanding (member - 1) 0 g.outstanding_fits zero-le k,
            );
        defaulter_owes_none = λ k s.
            omega (
              arith,
              get_or-plus (replace r.outstanding member 0) calling k,
              uncalled member loss charged k s,
              set_pair Status.Absent 0 (λ a b. a ≡ Status.InDefault → b ≡ 0) r.status r.outstanding (member - 1) Status.InDefault 0
                  (g.status_length ∙ sym g.outstanding_length) g.defaulter_owes_none (λ _. refl) k s,
            );
        tranches_fit = omega (arith, g.tranches_fit);
      }
