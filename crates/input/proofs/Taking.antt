-- Laws of what is left, of what is kept, and of what is searched for a newline.
use Rattle.std.proofs.Common.{ℕ, ◌+◌, ◌-◌, ◌≤◌, ◌<◌, ◌≡◌, ◌∙◌, refl, Bool, true, false, cond, not, List, ◌++◌, Some, None, ◌==◌, nat_lt, min, length}
use Rattle.std.proofs.Common.{take, drop, sym, ap, arith, length-take, length-drop, length-append}
use Rattle.std.specs.Io.{StartsWith}
use Rattle.std.specs.List.{position, position_or_len}
use Rattle.std.specs.Option.{option_map}
use Rattle.std.proofs.lemmas.Bool.Decides.{nat_tests}
use Rattle.std.proofs.lemmas.List.{take_min, drop-take, drop-drop, drop_min, take-append-drop}
use Rattle.std.proofs.lemmas.List.Folds.{prefix_len-append}
use Rattle.std.proofs.lemmas.List.Sums.{prefix_len-le-length}
use lib.Seq.{take-take, take-length}
use Rattle.words.proofs.Theorems.{runs_out}
use Rattle.words.specs.Bytes.{part}
use Rattle.input.specs.Lines.{Searched}

-- what stands behind a line and its newline, where the last line may have none
pub behind : (bytes : List ℕ) (from have n : ℕ) → have ≤ length bytes → from + n ≤ have
    → part bytes (min have (from + n + 1)) have ≡ drop (n + 1) (part bytes from have)
behind bytes from have n fits within =
    let rest = part bytes from have in
    let gone = min (n + 1) (have - from) in
    let left = have - min have (from + n + 1) in
    let start : min have (from + n + 1) ≡ from + gone = omega arith in
    let all : gone + left ≡ have - from = omega arith in
    let long : gone ≡ min (n + 1) (length rest) = omega (arith, length-take (have - from) (drop from bytes), length-drop from bytes) in
    ap (λ i. take left (drop i bytes)) start ∙ ap (take left) (sym (drop-drop gone from bytes)) ∙ sym (drop-take gone left (drop from bytes))
    ∙ ap (λ i. drop gone (take i (drop from bytes))) all ∙ ap (λ i. drop i rest) long ∙ drop_min (n + 1) rest

-- the line itself
pub line : (bytes : List ℕ) (from have n : ℕ) → from + n ≤ have → take n (drop from bytes) ≡ take n (part bytes from have)
line bytes from have n within = sym (take-take n (have - from) (drop from bytes) (omega arith))

-- what is kept is moved to the front: the line, or as much of it as may be kept
pub kept_front : (old front : List ℕ) (from have kept : ℕ) → have ≤ length old → kept ≡ min (have - from) 4097
    → take kept front ≡ take kept (drop from old) → take kept front ≡ take 4097 (part old from have)
kept_front old front from have kept within e moved =
    let rest = part old from have in
    let here : min 4097 (length rest) ≡ kept = omega (arith, length-take (have - from) (drop from old), length-drop from old) in
    moved ∙ sym (sym (take_min 4097 rest) ∙ ap (λ n. take n rest) here ∙ take-take kept (have - from) (drop from old) (omega arith))

-- and stays there, however much is read behind it
pub stays : (front new kept_bytes : List ℕ) (kept end : ℕ) → kept ≤ length front → kept ≤ end → take kept front ≡ kept_bytes → take kept new ≡ take kept front
    → StartsWith (part new 0 end) kept_bytes
stays front new kept_bytes kept end within e there same =
    let long : length (take kept front) ≡ kept = omega (arith, length-take kept front) in
    rw (← there) (ap (λ n. take n (part new 0 end)) long ∙ take-take kept (end - 0) new (omega arith) ∙ same)

-- where no place is found, the search runs to the end
ends : (p : ℕ → Bool) (s : List ℕ) → position p s ≡ None → position_or_len p s ≡ length s
ends p s e = omega (arith, runs_out p s e, prefix_len-le-length (λ x. not (p x)) s)

place_behind : (n place end : ℕ)
    → cond (nat_lt (n + place) (n + end)) (Some (n + place)) None ≡ option_map (λ k. n + k) (cond (nat_lt place end) (Some place) None)
place_behind n place end = grind (arith, nat_tests)

runs_on : (n m place : ℕ) → n ≡ m → cond (n == m) (m + place) n ≡ m + place
runs_on n m place e = grind (arith, nat_tests)

stops : (n m place : ℕ) → n < m → cond (n == m) (m + place) n ≡ n
stops n m place l = grind (arith, nat_tests)

-- the first place of a list of which the front has none: the front's length and the place in the rest
pub behind_front : (p : ℕ → Bool) (front rest : List ℕ) → position p front ≡ None
    → position p (front ++ rest) ≡ option_map (λ k. length front + k) (position p rest)
behind_front p front rest e =
    let first : position_or_len p (front ++ rest) ≡ length front + position_or_len p rest =
    prefix_len-append (λ x. not (p x)) front rest ∙ runs_on _ _ (position_or_len p rest) (ends p front e) in
    rw (first, length-append) (place_behind (length front) (position_or_len p rest) (length rest))

-- where a list has none, its front has none
front_too : (p : ℕ → Bool) (front rest : List ℕ) → position p (front ++ rest) ≡ None → position p front ≡ None
front_too p front rest e = go (nat_lt (position_or_len p front) (length front)) refl
  where
    all : position_or_len p (front ++ rest) ≡ length front + length rest
    all = ends p (front ++ rest) e ∙ length-append front rest

    go : (c : Bool) → nat_lt (position_or_len p front) (length front) ≡ c → cond c (Some (position_or_len p front)) None ≡ None
    go true l = let less : position_or_len p front < length front = grind (arith, nat_tests) in
        let here : position_or_len p (front ++ rest) ≡ position_or_len p front =
        prefix_len-append (λ x. not (p x)) front rest ∙ stops _ _ (position_or_len p rest) less in
        absurd (omega (arith, all, here, less))
    go false l = refl

taken_too : (p : ℕ → Bool) (n : ℕ) (s : List ℕ) → position p s ≡ None → position p (take n s) ≡ None
taken_too p n s e = front_too p (take n s) (drop n s) (rw take-append-drop e)

-- the first newline of bytes of which the first n are searched
module _ (n : ℕ) (s : List ℕ) (h : Searched n s) where
  searched_behind : position (λ b. b == 10) s ≡ option_map (λ k. n + k) (position (λ b. b == 10) (drop n s))
  searched_behind =
      let p : ℕ → Bool = λ b. b == 10 in
      let long : length (take n s) ≡ n = omega (arith, h.0, length-take n s) in
      let whole : position p s ≡ option_map (λ k. length (take n s) + k) (position p (drop n s)) =
      ap (position p) (sym (take-append-drop n s)) ∙ behind_front p (take n s) (drop n s) h.1 in
      whole ∙ ap (λ m. option_map (λ k. m + k) (position p (drop n s))) long

  same_rest : part s n (length s) ≡ drop n s
  same_rest = ap (λ k. take k (drop n s)) (sym (length-drop n s)) ∙ take-length (drop n s)

  pub newline_nowhere : position (λ b. b == 10) (part s n (length s)) ≡ None → position (λ b. b == 10) s ≡ None
  newline_nowhere e = searched_behind ∙ ap (option_map (λ k. n + k)) (ap (position (λ b. b == 10)) (sym same_rest) ∙ e)

  pub newline_behind : (place : ℕ) → position (λ b. b == 10) (part s n (length s)) ≡ Some place → position (λ b. b == 10) s ≡ Some (n + place)
  newline_behind place e = searched_behind ∙ ap (option_map (λ k. n + k)) (ap (position (λ b. b == 10)) (sym same_rest) ∙ e)

-- where none is found, all are searched
pub all_searched : (n : ℕ) (s : List ℕ) → n ≡ length s → position (λ b. b == 10) s ≡ None → Searched n s
all_searched n s e none = (omega arith, taken_too (λ b. b == 10) n s none)

-- what is kept of a line is searched as far as it was
pub stays_searched : (old front new : List ℕ) (from have kept end n m : ℕ) → have ≤ length old → kept ≡ min (have - from) 4097
    → take kept front ≡ take 4097 (part old from have) → take kept new ≡ take kept front → kept ≤ end
    → Searched n (part old from have) → m ≡ min n kept → Searched m (part new 0 end)
stays_searched old front new from have kept end n m within e there same more h f =
    let rest = part old from have in
    let p : ℕ → Bool = λ b. b == 10 in
    let long : length rest ≡ have - from = omega (arith, length-take (have - from) (drop from old), length-drop from old) in
    let all : length (take kept new) ≡ kept = ap length (same ∙ there) ∙ omega (arith, length-take 4097 rest) in
    let reach : m ≤ length (part new 0 end) = omega (arith, length-take (end - 0) new, length-take kept new) in
    let part_of : take m (part new 0 end) ≡ take m (take n rest) =
    take-take m (end - 0) new (omega arith) ∙ sym (take-take m kept new (omega arith)) ∙ ap (take m) (same ∙ there)
    ∙ take-take m 4097 rest (omega arith) ∙ sym (take-take m n rest (omega arith)) in
    (reach, rw part_of (taken_too p m (take n rest) h.1))

-- what `next` cites
pub ruleset taking = (behind, line)
