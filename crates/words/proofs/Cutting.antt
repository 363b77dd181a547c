-- Laws of the words of a line: its first word, and those behind it.
use Rattle.std.proofs.Common.{ℕ, suc, ◌+◌, ◌≤◌, ◌<◌, ◌≡◌, ◌≢◌, refl, sym, ap, ◌∙◌, arith}
use Rattle.std.proofs.Common.{Bool, true, false, cond, List, [], ◌∷◌, length, take, drop, ◌==◌}
use Rattle.std.specs.List.{prefix_len, onto_first}
use Rattle.std.proofs.lemmas.List.Folds.{length-prefix_len}
use Rattle.std.proofs.lemmas.List.Sums.{prefix_len-le-length}
use borrow.Author.Tests.{eqb-true}
use Rattle.lists.specs.Checks.{check}
use Rattle.lists.proofs.Cases.{never}
use Rattle.lists.proofs.Checks.{check_by}
use Rattle.words.specs.Words.{is_space, in_word, goes_on, words_of}

-- an attribute cannot name it by itself, for its dashes
pub ruleset prefix_within = (prefix_len-le-length)

drop_one : {X : Type 0} (n : ℕ) (x : X) (s : List X) → drop (1 + n) (x ∷ s) ≡ drop n s
drop_one n x s = let e : 1 + n ≡ suc n = omega arith in rw e refl

take_one : {X : Type 0} (n : ℕ) (x : X) (s : List X) → take (1 + n) (x ∷ s) ≡ x ∷ take n s
take_one n x s = let e : 1 + n ≡ suc n = omega arith in rw e refl

-- spaces in front part nothing
words_behind : (s : List ℕ) → words_of s ≡ words_of (drop (prefix_len is_space s) s)
unfolding words_of check
words_behind [] = refl
words_behind (b ∷ s) = go (b == 32) refl (words_behind s)
  where
    go : (x : Bool) → (b == 32) ≡ x → words_of s ≡ words_of (drop (prefix_len is_space s) s)
        → words_of (b ∷ s) ≡ words_of (drop (cond x (1 + prefix_len is_space s) 0) (b ∷ s))
    go true e ih = rw (eqb-true b 32 e, drop_one) ih
    go false e ih = refl

abbrev in_front : List ℕ → Bool
in_front [] = false
in_front (b ∷ s) = b == 32

none_in_front : (s : List ℕ) → in_front (drop (prefix_len is_space s) s) ≡ false
none_in_front [] = refl
none_in_front (b ∷ s) = go (b == 32) refl (none_in_front s)
  where
    go : (x : Bool) → (b == 32) ≡ x → in_front (drop (prefix_len is_space s) s) ≡ false
        → in_front (drop (cond x (1 + prefix_len is_space s) 0) (b ∷ s)) ≡ false
    go true e ih = rw drop_one ih
    go false e ih = e

goes : (s : List ℕ) → goes_on s ≡ true → in_front s ≡ false
goes [] h = refl
goes (b ∷ s) h = grind arith

starts : (s : List ℕ) → goes_on s ≡ true → 0 < prefix_len in_word s
starts [] h = never h
starts (b ∷ s) h = rw h (omega arith)

stops : (s : List ℕ) → goes_on s ≡ false → prefix_len in_word s ≡ 0
stops [] h = refl
stops (b ∷ s) h = rw h refl

-- the first word and those behind it, of what does not begin with a space
abbrev Found : List ℕ → ℕ → Type 0
Found s n = (n ≡ 0 → words_of s ≡ []) × (0 < n → words_of s ≡ take n s ∷ words_of (drop n s))

found : (s : List ℕ) → in_front s ≡ false → Found s (prefix_len in_word s)
unfolding words_of check
found [] h = (λ _. refl, λ l. absurd (omega arith))
found (b ∷ s) h = go (b == 35) refl (goes_on s) refl (found s)
  where
    go : (x : Bool) → (b == 35) ≡ x → (z : Bool) → goes_on s ≡ z → (in_front s ≡ false → Found s (prefix_len in_word s))
        → Found (b ∷ s) (prefix_len in_word (b ∷ s))
    go true e z g f = rw (e, h) (λ _. refl, λ l. absurd (omega arith))
    go false e true g f = rw (e, h, g, take_one, drop_one) (λ l. absurd (omega arith), λ _. ap (onto_first b) ((f (goes s g)).1 (starts s g)))
    go false e false g f = rw (e, h, g, stops s g) (λ l. absurd (omega arith), λ _. refl)

-- the words of a line, by what stands behind the spaces in front of it
module _ (line s word rest : List ℕ) (e : s ≡ drop (prefix_len is_space line) line)
    (f : word ≡ take (prefix_len in_word s) s) (g : rest ≡ drop (prefix_len in_word s) s) where
  here : Found s (prefix_len in_word s)
  here = found s (ap in_front e ∙ none_in_front line)

  same : words_of line ≡ words_of s
  same = words_behind line ∙ sym (ap words_of e)

  long : length word ≡ prefix_len in_word s
  long = ap length f ∙ length-prefix_len in_word s

  pub no_word : length word ≡ 0 → (words_of line ≡ []) × (words_of rest ≡ [])
  no_word h =
      let z : prefix_len in_word s ≡ 0 = omega (arith, long) in
      let n : words_of line ≡ [] = same ∙ here.0 z in
      (n, ap words_of (g ∙ ap (λ k. drop k s) z) ∙ here.0 z)

  pub next_word : length word ≢ 0 → words_of line ≡ word ∷ words_of rest
  next_word h = rw (f, g) (same ∙ here.1 (omega (arith, long)))

-- each word has a byte
onto_length : (b : ℕ) (ws : List (List ℕ)) → length (onto_first b ws) ≤ length ws + 1
onto_length b [] = omega arith
onto_length b (w ∷ ws) = omega arith

pub words_within : (s : List ℕ) → length (words_of s) ≤ length s
unfolding words_of check
words_within [] = omega arith
words_within (b ∷ s) =
    let P : List (List ℕ) → Type 0 = λ ws. length ws ≤ suc (length s) in
    let ih = words_within s in
    check_by P (b == 35) _ _ (λ _. omega arith)
    (λ _. check_by P (b == 32) _ _ (λ _. omega (arith, ih))
    (λ _. check_by P (goes_on s) _ _ (λ _. omega (arith, ih, onto_length b (words_of s)))
    (λ _. omega (arith, ih))))
