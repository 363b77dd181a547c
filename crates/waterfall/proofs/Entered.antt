-- An opening gives back a register that satisfies `GivenBack`, for every sheet and every G.
use Prim.Native.Nat.{ℕ, zero, suc, ◌+◌, ◌-◌, ◌≤◌}
use mathlib.Core.Path.{◌≡◌, refl, ◌∙◌}
use mathlib.Core.Bool.{false}
use mathlib.Core.List.{List}
use native.Mathlib.Omega.{arith}
use borrow.Author.Tests.{ltb-false}
use lib.Dec.{ltb}
use lib.ListN.{length, get_or, length-set, length-map}
use Rattle.std.specs.Prelude.{None}
use Rattle.lists.specs.Limits.{member_limit, amount_limit, sum_limit, contribution_floor}
use Rattle.lists.proofs.Checks.{check_by, check_past}
use Rattle.lists.proofs.Places.{set_all}
use Rattle.lists.proofs.Sums.{get_or_zeros}
use Rattle.sheets.specs.Bytes.{record_at}
use Rattle.sheets.specs.Columns.{no_columns, entered, columns_from, columns_of}
use Rattle.sheets.specs.Members.{member_at, record_of}
use Rattle.sheets.specs.Parts.{AmountsFit}
use Rattle.sheets.specs.Sheet.{missized, record_count, member_refusal_from, member_refusal}
use Rattle.sheets.specs.declared.columns.Columns.{Columns}
use Rattle.sheets.proofs.Laws.{amounts_none, record_in-order, rest-accepted}
use Rattle.figures.specs.Figures.{none, status_of}
use Rattle.waterfall.specs.Register.{GivenBack}
use Rattle.waterfall.specs.Opening.{entered_of, opening_register, opening_refusal, opened_of}
use Rattle.waterfall.proofs.Answer.{is_none}
use Rattle.waterfall.proofs.Given.{given_empty}

-- columns as an accepted sheet has them ------------------------------------------------------

pub record Fits (columns : Columns) : Type 0 where
  pub present-length : length columns.present ≡ member_limit
  pub first-length : length columns.first ≡ member_limit
  pub second-length : length columns.second ≡ member_limit
  pub third-length : length columns.third ≡ member_limit
  pub amounts : AmountsFit columns.first columns.second columns.third

fits-none : Fits no_columns
fits-none = record { present-length = refl; first-length = refl; second-length = refl; third-length = refl; amounts = amounts_none }

fits_from : (n : ℕ) (sheet : List ℕ) (i last : ℕ) (columns : Columns) → Fits columns → member_refusal_from contribution_floor n sheet i last ≡ None
    → Fits (columns_from n sheet i columns)
unfolding columns_from
fits_from zero sheet i last columns f q = f
fits_from (suc n) sheet i last columns f q =
    let s : List ℕ = record_at sheet i in
    let w = (record_in-order contribution_floor n sheet i last q).within in
    fits_from n sheet (i + 1) (member_at s) (entered columns (record_of s))
    (record {
      present-length = simp length-set f.present-length;
      first-length = simp length-set f.first-length;
      second-length = simp length-set f.second-length;
      third-length = simp length-set f.third-length;
      amounts = record {
        first_fits = set_all (λ k x. x ≤ amount_limit) columns.first (member_at s - 1) _ f.amounts.first_fits w.first_most;
        second_fits = set_all (λ k x. x ≤ amount_limit) columns.second (member_at s - 1) _ f.amounts.second_fits w.second_most;
        third_fits = set_all (λ k x. x ≤ amount_limit) columns.third (member_at s - 1) _ f.amounts.third_fits w.third_most;
      };
    })
    (rest-accepted contribution_floor n sheet i last q)

pub given-entered : (columns : Columns) (g : ℕ) → Fits columns → g ≤ sum_limit → GivenBack (entered_of columns g)
given-entered columns g f h =
    let zeros : (k : ℕ) → ◌≡◌ {A = ℕ} (get_or none k 0) 0 = get_or_zeros member_limit in
    record {
      status_length = length-map columns.present status_of ∙ f.present-length;
      margin_length = f.first-length;
      contribution_length = f.second-length;
      requirement_length = f.second-length;
      cap_length = f.third-length;
      outstanding_length = refl;
      called_length = refl;
      margin_fits = f.amounts.first_fits;
      contribution_fits = λ k. omega arith;
      requirement_fits = f.amounts.second_fits;
      cap_fits = f.amounts.third_fits;
      called_fits = λ k. omega (arith, zeros k);
      outstanding_fits = λ k. omega arith;
      defaulter_owes_none = λ k e. zeros k;
      tranches_fit = omega arith;
    }

-- what is known of an opening that is not refused ---------------------------------------------

pub record Accepts (sheet : List ℕ) (g : ℕ) : Type 0 where
  pub well-sized : missized member_limit sheet ≡ false
  pub own_fits : g ≤ sum_limit
  pub records-accepted : member_refusal contribution_floor sheet ≡ None

pub accepts : (sheet : List ℕ) (g : ℕ) → opening_refusal sheet g ≡ None → Accepts sheet g
unfolding opening_refusal
accepts sheet g e =
    let a = check_past (missized member_limit sheet) _ _ (λ q. cc) e in
    let b = check_past (ltb sum_limit g) _ _ (λ q. cc) a.1 in
    record { well-sized = a.0; own_fits = ltb-false _ _ b.0; records-accepted = b.1 }

pub given-opened : (sheet : List ℕ) (g : ℕ) → GivenBack (opened_of sheet g).register
unfolding opening_register columns_of member_refusal
given-opened sheet g =
    check_by GivenBack _ _ _ (λ _. given_empty)
    (λ e.
    let a = accepts sheet g (is_none _ e) in
    given-entered (columns_of sheet) g (fits_from (record_count sheet) sheet 0 0 no_columns fits-none a.records-accepted) a.own_fits)
