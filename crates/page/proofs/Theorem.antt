-- "No two default answers with different layers or shortfalls may print alike." And every answer can be printed.
use Prim.Native.Nat.{ℕ, zero, suc, ◌-◌, ◌≤◌}
use mathlib.Core.Path.{◌≡◌, refl, sym, ap, ◌∙◌}
use mathlib.Core.List.{List, [], ◌∷◌, ◌++◌}
use native.Mathlib.Omega.{arith}
use lib.ListN.{length, take, drop}
use lib.Seq.{take_at}
use Rattle.std.proofs.Common.{Option, Some, None}
use Rattle.lists.specs.Limits.{amount_limit, printed_limit}
use Rattle.lists.specs.Checks.{check}
use Rattle.lists.specs.Texts.{ascii}
use Rattle.lists.proofs.Cases.{append_apart}
use Rattle.numbers.specs.Numbers.{read_of}
use Rattle.indian_digits.specs.IndianDigits.{indian_of}
use Rattle.indian_digits.proofs.Theorems.{digits_in, amount_back, amount_fits}
use Rattle.figures.proofs.Figures.{figure_bound}
use Rattle.waterfall.specs.Register.{Register, GivenBack}
use Rattle.waterfall.specs.Default.{fallen_call, allocation_of}
use Rattle.waterfall.specs.Pools.{loss_together, pooled_charges, pooled_allocation, pooled_refusal}
use Rattle.admission.specs.declared.Pools.{Pools}
use Rattle.waterfall.proofs.Default.{placed}
use Rattle.waterfall.proofs.Placing.{admitted}
use Rattle.waterfall.proofs.Pooled.{pooled_layer4}
use Rattle.layers.specs.declared.Allocation.{Allocation}
use Rattle.page.specs.Parts.{Within}
use Rattle.page.specs.Page.{spaces, left_aligned, right_aligned, row_of, heading, line, page_of, page_length, amounts_of, page_refusal, page_left, PrintAlike}
use Rattle.page.proofs.Rows.{right-length, row-line-length, page-length, within, printable}

-- The law: a printed amount gives the number back -----------------------------------

no-spaces : (k : ℕ) (s : List ℕ) → digits_in (spaces k ++ s) ≡ digits_in s
unfolding digits_in check
no-spaces zero s = refl
no-spaces (suc k) s = no-spaces k s

pub printed_back : (n : ℕ) → n ≤ printed_limit → read_of (digits_in (right_aligned (indian_of n))) ≡ Some n
printed_back n h = rw (no-spaces (20 - length (indian_of n)) (indian_of n)) (amount_back n (omega arith))

abbrev value : Option ℕ → ℕ
value (Some n) = n
value None = 0

amounts_apart : (m n : ℕ) → m ≤ printed_limit → n ≤ printed_limit → right_aligned (indian_of m) ≡ right_aligned (indian_of n) → m ≡ n
amounts_apart m n h k e =
    ap value (sym (printed_back m h) ∙ ap (λ (s : List ℕ). read_of (digits_in s)) e ∙ printed_back n k)

-- the last row of two pages
last_row : (above over name : List ℕ) (m n : ℕ) → length name ≤ 20 → m ≤ printed_limit → n ≤ printed_limit
    → above ++ line (row_of name m) ≡ over ++ line (row_of name n) → (above ≡ over) × (m ≡ n)
unfolding line row_of
last_row above over name m n s h k e =
    let rows = append_apart above _ over _ (row-line-length name m s h ∙ sym (row-line-length name n s k)) e in
    let row = (append_apart _ (10 ∷ []) _ (10 ∷ []) refl rows.1).0 in
    let amounts = (append_apart (left_aligned name) _ (left_aligned name) _ (right-length (indian_of m) (amount_fits m h) ∙ sym (right-length (indian_of n) (amount_fits n k))) row).1 in
    (rows.0, amounts_apart m n h k amounts)

pages_apart : (a b : Allocation) → Within a → Within b → page_of a ≡ page_of b → amounts_of a ≡ amounts_of b
unfolding page_of
pages_apart a b v w e =
    let r7 = last_row _ _ (ascii "SHORT") a.short b.short (omega arith) v.short w.short e in
    let r6 = last_row _ _ (ascii "CALLS") a.calls b.calls (omega arith) v.calls w.calls r7.0 in
    let r5 = last_row _ _ (ascii "TRANCHE 2") a.tranche2 b.tranche2 (omega arith) v.tranche2 w.tranche2 r6.0 in
    let r4 = last_row _ _ (ascii "MEMBERS") a.members b.members (omega arith) v.members w.members r5.0 in
    let r3 = last_row _ _ (ascii "TRANCHE 1") a.tranche1 b.tranche1 (omega arith) v.tranche1 w.tranche1 r4.0 in
    let r2 = last_row _ _ (ascii "OWN FUND") a.contribution b.contribution (omega arith) v.contribution w.contribution r3.0 in
    let r1 = last_row (line heading) (line heading) (ascii "MARGIN") a.margin b.margin (omega arith) v.margin w.margin r2.0 in
    rw (r1.1, r2.1, r3.1, r4.1, r5.1, r6.1, r7.1)

-- what an accepted page has in front
left-page : (a : Allocation) (page : List ℕ) → page_refusal a (length page) ≡ None → take page_length (page_left a page) ≡ page_of a
unfolding page_left check
left-page a page e = rw e (take_at (page_of a) (drop page_length page) page_length (page-length a (within a (length page) e).1))

-- The theorem -----------------------------------------------------------------------

pub no_two_alike : (a b : Allocation) (page other : List ℕ) → PrintAlike a page b other → amounts_of a ≡ amounts_of b
no_two_alike a b page other e =
    let p : page_refusal a (length page) ≡ None = e.0 in
    let q : page_refusal b (length other) ≡ None = e.1 in
    pages_apart a b (within a (length page) p).1 (within b (length other) q).1 (sym (left-page a page p) ∙ e.2 ∙ left-page b other q)

-- Every default's answer can be printed ---------------------------------------------

pub answers-within : (r : Register) (member : ℕ) (pools : Pools) (ranks slip : List ℕ) → GivenBack r → pooled_refusal r member pools ranks slip ≡ None → Within (pooled_allocation r member pools ranks)
unfolding pooled_allocation allocation_of fallen_call
answers-within r member pools ranks slip g e =
    let a = admitted r member pools ranks slip e in
    let fits = a.losses_fit in
    let fallen = figure_bound r.outstanding amount_limit (λ k. omega (arith, g.outstanding_fits k, g.called_fits k, g.cap_fits k)) member in
    let sum = placed r member (loss_together pools) (pooled_charges r member pools ranks) (pooled_layer4 r member pools a.some a.few g ranks a.ranks_length) in
    record {
      margin = omega (arith, fits, fallen, sum);
      contribution = omega (arith, fits, fallen, sum);
      tranche1 = omega (arith, fits, fallen, sum);
      members = omega (arith, fits, fallen, sum);
      tranche2 = omega (arith, fits, fallen, sum);
      calls = omega (arith, fits, fallen, sum);
      short = omega (arith, fits, fallen, sum);
    }

pub answers_print : (r : Register) (member : ℕ) (pools : Pools) (ranks slip : List ℕ) (size : ℕ) → GivenBack r → pooled_refusal r member pools ranks slip ≡ None
    → page_length ≤ size → page_refusal (pooled_allocation r member pools ranks) size ≡ None
answers_print r member pools ranks slip size g e h =
    printable (pooled_allocation r member pools ranks) size (answers-within r member pools ranks slip g e) h
