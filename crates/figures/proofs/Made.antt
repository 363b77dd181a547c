-- An array that a closure makes or maps, where the closure changes nothing that it captures: it is the list whose elements the closure gives.
use Prim.Native.Nat.{ℕ, zero, suc, ◌+◌, ◌≤◌, ◌<◌}
use mathlib.Core.Path.{◌≡◌, sym, ◌∙◌, subst}
use mathlib.Core.List.{List}
use mathlib.Core.Logic.{⊎_elim}
use native.Mathlib.Nat.{eq-or-lt_of_le}
use native.Mathlib.Omega.{arith}
use lib.ListN.{length, get_or}
use denote.Param.Members.{Mut, Called}
use Rattle.std.specs.Array.{IsFromFnResultFrom, IsFromFnResult, IsMapOf}
use Rattle.std.proofs.lemmas.List.{ext_get_or}
use Rattle.lists.specs.Limits.{member_limit}

-- by `from_fn`: each call gives the element at its index, and leaves the closure as it was
module _ {F B : Type 0} (g : Mut F (ℕ × Unit {0}) B) (f : F) (d : B) (ys zs : List B)
    (gives : (i : ℕ) (y : B) (q : F) → i < member_limit → Called g f (i, tt) y q → (y ≡ get_or zs i d) × (q ≡ f)) where
  made_from : (i n : ℕ) → i + n ≤ member_limit → IsFromFnResultFrom g f ys i n → (k : ℕ) → i ≤ k → k < i + n → get_or ys k d ≡ get_or zs k d
  made_from i zero l e k a b = absurd (omega arith)
  made_from i (suc n) l (q, y, at, called, rest) k a b =
      let p = gives i y q (omega arith) called in
      ⊎_elim
      (λ (same : i ≡ k). subst (λ (j : ℕ). get_or ys j d ≡ get_or zs j d) same (at.1 d ∙ p.0))
      (λ (past : i < k).
      let again : IsFromFnResultFrom g f ys (i + 1) n = subst (λ (h : F). IsFromFnResultFrom g h ys (i + 1) n) p.1 rest in
      made_from (i + 1) n (omega arith) again k (omega arith) (omega arith))
      (eq-or-lt_of_le a)

  pub made_as : length zs ≡ member_limit → IsFromFnResult g f ys member_limit → ys ≡ zs
  made_as l e = ext_get_or d ys zs (e.long ∙ sym l) (λ k h. made_from 0 member_limit (omega arith) e.each k (omega arith) (omega (arith, e.long)))

-- by `map`
module _ {F A B : Type 0} (g : Mut F (A × Unit {0}) B) (f : F) (a : A) (d : B) (xs : List A) (ys zs : List B)
    (gives : (i : ℕ) (y : B) (p q : F) → i < member_limit → Called g p (get_or xs i a, tt) y q → y ≡ get_or zs i d) where
  pub mapped_as : length zs ≡ member_limit → IsMapOf g f xs ys member_limit → ys ≡ zs
  mapped_as l e =
      ext_get_or d ys zs (e.long ∙ sym l)
      (λ k h. let within : k < member_limit = omega (arith, e.long) in let call = e.at k a d within in gives k (get_or ys k d) call.0 call.1 within call.2)
