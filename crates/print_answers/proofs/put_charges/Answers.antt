use Rattle.std.proofs.Common.{◌≡◌, ◌⊎◌, inl, inr, ℕ, List, ◌∷◌, ◌+◌, ◌++◌, ◌<◌, ◌≤◌, length, take, drop}
use Rattle.std.proofs.Common.{arith, ap, ◌∙◌, add-one, sym, refl, length-take, length-drop}
use Rattle.std.proofs.lemmas.List.{drop_more, get_or-take, get_or-drop}
use Rattle.std.specs.Prelude.{get_or}
use Rattle.text.proofs.Putting.{put_more}
use Rattle.print_answers.specs.Texts.{charges_text, charge_text}
use Rattle.print_answers.proofs.put_charges.Goals as goal

-- what is left of a list from a place on, taken apart
taken : (s : List ℕ) (k x : ℕ) (rest : List ℕ) → x ∷ rest ≡ drop k s → (k < length s) × (x ≡ get_or s k 0) × (rest ≡ drop (k + 1) s)
taken s k x rest e =
    let inside : k < length s = omega (arith, ap length e, length-drop k s) in
    let both : x ∷ rest ≡ get_or s k 0 ∷ drop (k + 1) s = e ∙ drop_more s k 0 inside in
    (inside, grind arith, grind arith)

-- nothing is left of it
ended : (s : List ℕ) (k : ℕ) {rest : List ℕ} → rest ≡ drop k s → length rest ≡ 0 → length s ≤ k
ended s k e n = omega (arith, n, ap length e, length-drop k s)

either : {X : Type 0} {a b : X} {P Q R : Type 0} → (P → R) → (Q → R) → ((x : X) × (P × (x ≡ a))) ⊎ ((x : X) × (Q × (x ≡ b))) → R
either f g (inl (x, (p, q))) = f p
either f g (inr (x, (p, q))) = g p

same_row : (k p a b x y : ℕ) → p ≡ k → a ≡ x → b ≡ y → charge_text (p + 1) a b ≡ charge_text (k + 1) x y
same_row k p a b x y e f g = rw (e, f, g) refl

pub loop-place-preserved : goal.loop-place-preserved
unfolding charges_text
loop-place-preserved g c =
    let s = c.args.slip.now in
    let k = c.loop-place.place-iterator.count in
    let i = c.loop-place.invariant in
    let e = c.in-Some.ensures.steps in
    let charge = taken (take 64 s) k _ _ (sym e.0.0 ∙ i.charges) in
    let call = taken (drop 64 s) k _ _ (sym e.0.1 ∙ i.calls) in
    let inside : k < 64 = omega (arith, charge.0, length-take 64 s) in
    let back : 64 + k ≡ k + 64 = omega arith in
    let charged = charge.1 ∙ get_or-take 64 s k 0 inside in
    let called = call.1 ∙ get_or-drop 64 s k 0 ∙ ap (λ (n : ℕ). get_or s n 0) back in
    let row = same_row k _ _ _ _ _ e.1 charged called in
    record {
      rows = rw (e.2, add-one) (put_more _ _ _ i.rows (c.put_charge.ensures.bytes ∙ ap (λ (t : List ℕ). c.loop-place.out ++ t) row));
      len = omega (arith, e.2, i.len, c.put_charge.ensures.len);
      charges = rw e.2 charge.2;
      calls = rw e.2 call.2;
      within = omega (arith, e.2, inside);
    }

pub returns-clause-bytes : goal.returns-clause-bytes
returns-clause-bytes g c =
    let s = c.args.slip.now in
    let i = c.loop-place.invariant in
    let k = c.loop-place.place-iterator.count in
    let whole : k ≡ 64 = either
    (λ n. omega (arith, ended (take 64 s) k i.charges n, i.within, c.requires.1, length-take 64 s))
    (λ n. omega (arith, ended (drop 64 s) k i.calls n, i.within, c.requires.1, length-drop 64 s))
    c.in-None.ensures.steps.0 in
    i.rows ∙ ap (λ (k : ℕ). c.args.out.now ++ charges_text s k) whole
