-- Laws of a page: its rows, how long they are and how they are put; the amounts that it prints; what is refused, and what is left.
use Prim.Native.Nat.{ℕ, ◌+◌, ◌-◌, ◌≤◌}
use mathlib.Core.Path.{◌≡◌, refl, sym, ◌∙◌}
use mathlib.Core.Bool.{true, false}
use mathlib.Core.List.{List, [], ◌∷◌, ◌++◌, append_assoc}
use native.Mathlib.Omega.{arith}
use borrow.Author.Tests.{ltb-false, le-ltb}
use lib.Dec.{ltb}
use lib.ListN.{length, drop, set, length-append}
use Rattle.lists.specs.Limits.{printed_limit}
use Rattle.lists.specs.Checks.{check}
use Rattle.lists.specs.Texts.{ascii}
use Rattle.lists.proofs.Checks.{check_past}
use Rattle.layers.specs.declared.Allocation.{Allocation}
use Rattle.std.proofs.Math.ListN.{drop_of_length-le}
use Rattle.std.proofs.Common.{append-nil, take, ap, take_at, drop_at}
use Rattle.std.proofs.lemmas.List.{set_at, replicate_more, length-replicate, drop-replicate, replicate-append-replicate}
use Rattle.indian_digits.specs.IndianDigits.{indian_of}
use Rattle.indian_digits.proofs.Theorems.{amount_fits}
use Rattle.std.proofs.Common.{Option, Some, None, is_some, Result, Ok, Err}
use Rattle.refusal.specs.Refusal.{answered}
use Rattle.refusal.specs.declared.Refusal.{Refusal}
use Rattle.page.specs.Parts.{Within}
use Rattle.page.specs.Page.{spaces, left_aligned, right_aligned, row_of, heading, line, page_of, page_length, amounts_of, any_above, page_refusal, page_left}
use Rattle.std.proofs.lemmas.Bool.{or_parts}

pub line-length : (row : List ℕ) → length (line row) ≡ length row + 1
unfolding line
line-length row = length-append row (10 ∷ [])

pub right-length : (text : List ℕ) → length text ≤ 20 → length (right_aligned text) ≡ 20
right-length text h =
    omega (arith, length-append (spaces (20 - length text)) text, length-replicate {A = ℕ} (20 - length text) 32)

pub left-length : (text : List ℕ) → length text ≤ 20 → length (left_aligned text) ≡ 20
left-length text h =
    omega (arith, length-append text (spaces (20 - length text)), length-replicate {A = ℕ} (20 - length text) 32)

pub row-length : (name : List ℕ) (n : ℕ) → length name ≤ 20 → n ≤ printed_limit → length (row_of name n) ≡ 40
unfolding row_of
row-length name n h k =
    omega (arith, length-append (left_aligned name) (right_aligned (indian_of n)), left-length name h, right-length (indian_of n) (amount_fits n k))

-- "Eight lines of 40 bytes, each followed by byte 10."
pub row-line-length : (name : List ℕ) (n : ℕ) → length name ≤ 20 → n ≤ printed_limit → length (line (row_of name n)) ≡ 41
row-line-length name n h k = omega (arith, line-length (row_of name n), row-length name n h k)

-- the amounts of an answer that is not refused
one-within : (n : ℕ) (others : List ℕ) → any_above printed_limit (n ∷ others) ≡ false → (n ≤ printed_limit) × (any_above printed_limit others ≡ false)
one-within n others e =
    let f = or_parts (ltb printed_limit n) (any_above printed_limit others) e in
    (ltb-false printed_limit n f.0, f.1)

pub amounts-within : (a : Allocation) → any_above printed_limit (amounts_of a) ≡ false → Within a
amounts-within a e =
    let r1 = one-within a.margin (a.contribution ∷ a.tranche1 ∷ a.members ∷ a.tranche2 ∷ a.calls ∷ a.short ∷ []) e in
    let r2 = one-within a.contribution (a.tranche1 ∷ a.members ∷ a.tranche2 ∷ a.calls ∷ a.short ∷ []) r1.1 in
    let r3 = one-within a.tranche1 (a.members ∷ a.tranche2 ∷ a.calls ∷ a.short ∷ []) r2.1 in
    let r4 = one-within a.members (a.tranche2 ∷ a.calls ∷ a.short ∷ []) r3.1 in
    let r5 = one-within a.tranche2 (a.calls ∷ a.short ∷ []) r4.1 in
    let r6 = one-within a.calls (a.short ∷ []) r5.1 in
    let r7 = one-within a.short [] r6.1 in
    record {
      margin = r1.0;
      contribution = r2.0;
      tranche1 = r3.0;
      members = r4.0;
      tranche2 = r5.0;
      calls = r6.0;
      short = r7.0;
    }

pub within : (a : Allocation) (size : ℕ) → page_refusal a size ≡ None → (page_length ≤ size) × Within a
unfolding page_refusal
within a size e =
    let f = or_parts (ltb size page_length) _ (check_past _ (Some Refusal.Unprintable) None (λ q. cc) e).0 in
    (ltb-false size page_length f.0, amounts-within a f.1)

pub none_above : (a : Allocation) → Within a → any_above printed_limit (amounts_of a) ≡ false
none_above a w =
    rw (le-ltb printed_limit a.margin w.margin, le-ltb printed_limit a.contribution w.contribution, le-ltb printed_limit a.tranche1 w.tranche1, le-ltb printed_limit a.members w.members, le-ltb printed_limit a.tranche2 w.tranche2, le-ltb printed_limit a.calls w.calls, le-ltb printed_limit a.short w.short)

pub printable : (a : Allocation) (size : ℕ) → Within a → page_length ≤ size → page_refusal a size ≡ None
unfolding page_refusal check
printable a size w h = rw (le-ltb size page_length h, none_above a w)

-- a page has 328 bytes
pub page-length : (a : Allocation) → Within a → length (page_of a) ≡ page_length
unfolding page_of heading line
page-length a w =
    simp length-append
    (omega (arith, row-length (ascii "MARGIN") a.margin (omega arith) w.margin, row-length (ascii "OWN FUND") a.contribution (omega arith) w.contribution, row-length (ascii "TRANCHE 1") a.tranche1 (omega arith) w.tranche1, row-length (ascii "MEMBERS") a.members (omega arith) w.members, row-length (ascii "TRANCHE 2") a.tranche2 (omega arith) w.tranche2, row-length (ascii "CALLS") a.calls (omega arith) w.calls, row-length (ascii "SHORT") a.short (omega arith) w.short))

-- a page that is printed
pub left_printed : (a : Allocation) (page : List ℕ) → page_refusal a (length page) ≡ None → page_left a page ≡ page_of a ++ drop page_length page
unfolding page_left check
left_printed a page e = rw e refl

-- and one that is lent no byte more
pub left_whole : (a : Allocation) (page : List ℕ) → Within a → length page ≡ page_length → page_left a page ≡ page_of a
left_whole a page w e =
    let behind : drop page_length page ≡ [] = drop_of_length-le page {i = page_length} (omega arith) in
    left_printed a page (printable a (length page) w (omega arith)) ∙ rw behind (append-nil (page_of a))

-- a row as it is put: the name in front of spaces, the amount over the last of them, and then the newline
module _ (name amount : List ℕ) (h : length name ≤ 20) (k : length amount ≤ 20) where
  gap : ℕ
  gap = (20 - length name) + (20 - length amount)

  front : List ℕ
  front = name ++ spaces gap

  blank : name ++ drop (length name) (spaces 41) ≡ front ++ spaces (length amount + 1)
  unfolding front gap
  blank =
      let e : 41 - length name ≡ (20 - length name) + (20 - length amount) + (length amount + 1) = omega arith in
      rw (drop-replicate {X = ℕ} (length name) 41 32, e, ← replicate-append-replicate {A = ℕ} gap (length amount + 1) 32) (sym (append_assoc name (spaces gap) _))

  front-length : length front ≡ 40 - length amount
  unfolding front gap
  front-length = omega (arith, length-append name (spaces gap), length-replicate {A = ℕ} gap 32)

  -- the row before the amount is put, and the column in which it goes
  abbrev named : List ℕ
  named = name ++ drop (length name) (spaces 41)

  abbrev column : List ℕ
  column = take 40 named

  parts : named ≡ (front ++ spaces (length amount)) ++ 32 ∷ []
  parts =
      blank
      ∙ ap (λ (s : List ℕ). front ++ s) (sym (replicate_more {X = ℕ} (length amount) 32))
      ∙ sym (append_assoc front (spaces (length amount)) (32 ∷ []))

  parts-length : length (front ++ spaces (length amount)) ≡ 40
  parts-length = omega (arith, length-append front (spaces (length amount)), front-length, length-replicate {A = ℕ} (length amount) 32)

  column_is : column ≡ front ++ spaces (length amount)
  column_is = ap (take 40) parts ∙ take_at (front ++ spaces (length amount)) (32 ∷ []) 40 parts-length

  pub column-length : 40 ≡ length column
  column-length = sym (ap length column_is ∙ parts-length)

  aligned : front ++ amount ≡ left_aligned name ++ right_aligned amount
  unfolding front gap
  aligned =
      rw (← replicate-append-replicate {A = ℕ} (20 - length name) (20 - length amount) 32) (simp append_assoc)

  pub row_put : (out : List ℕ) → out ≡ take (length column - length amount) column ++ amount → set (out ++ drop 40 named) 40 10 ≡ line (left_aligned name ++ right_aligned amount)
  unfolding line
  row_put out e =
      let behind : drop 40 named ≡ 32 ∷ [] = ap (drop 40) parts ∙ drop_at (front ++ spaces (length amount)) (32 ∷ []) 40 parts-length in
      let f : length column - length amount ≡ 40 - length amount = omega (arith, column-length) in
      let before : take (length column - length amount) column ≡ front =
      rw (f, column_is) (take_at front (spaces (length amount)) (40 - length amount) front-length) in
      rw (e, behind, before, ← aligned) (set_at (front ++ amount) 32 [] 10 40 (omega (arith, length-append front amount, front-length)))

-- what the test of a page answered
accepted : {A : Type 0} {b : A} {o : Result A Refusal} (r : Option Refusal) (a : A) → o ≡ answered r a → o ≡ Ok b → r ≡ None
accepted (Some x) a e f = cc
accepted None a e f = refl

refused : {A : Type 0} {o : Result A Refusal} {x : Refusal} (r : Option Refusal) (a : A) → o ≡ answered r a → o ≡ Err x → is_some r ≡ true
refused (Some x) a e f = refl
refused None a e f = cc

module _ (a : Allocation) (page : List ℕ) {o : Result (Unit {0}) Refusal} (e : o ≡ answered (page_refusal a (length page)) tt) where
  pub page_asks : {u : Unit {0}} → o ≡ Ok u → (page_length ≤ length page) × Within a
  page_asks f = within a (length page) (accepted _ _ e f)

  pub page_printed : {left : List ℕ} {u : Unit {0}} → o ≡ Ok u → left ≡ page_of a ++ drop page_length page → left ≡ page_left a page
  page_printed f g = g ∙ sym (left_printed a page (accepted _ _ e f))

  pub page_refused : {r : Refusal} → o ≡ Err r → page ≡ page_left a page
  unfolding page_left check
  page_refused f = rw (refused _ _ e f) refl
