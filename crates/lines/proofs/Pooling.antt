-- Laws of a default's pools, read one behind the other.
use Rattle.std.proofs.Common.{ℕ, ◌+◌, ◌≤◌, ◌<◌, ◌≡◌, refl, sym, ap, ◌∙◌, Bool, true, false, ◌&&◌, List, [], ◌∷◌, length, set, map, Some, None, arith}
use Rattle.std.proofs.lemmas.Slice.Eq.{bytes_eq-Decides}
use Rattle.std.proofs.lemmas.List.{set_past}
use Rattle.std.proofs.lemmas.Option.{none-some}
use Rattle.lists.specs.Checks.{check}
use Rattle.numbers.specs.Numbers.{read_of}
use Rattle.typed_ranks.specs.TypedRanks.{missing_ranks, unnamed, all_good, ranks_in}
use Rattle.typed_ranks.specs.Pools.{is_slash, to_slash, further_pools, pools_from, pools_of}
use Rattle.lines.specs.Defaults.{number_in, behind, is_readable, all_readable, loss_typed, ranks_of_pool, first_four, no_ranks}
use Rattle.lines.specs.Parts.{PoolRead, added, typed_in}
use Rattle.lines.specs.declared.Typed.{Typed}
use Rattle.lines.specs.declared.Pool.{Pool}

-- a pool's words: a `/` is no number
slash_none : (w : List ℕ) → is_slash w ≡ true → read_of w ≡ None
unfolding read_of check
slash_none w h = rw ((bytes_eq-Decides w _).0 h) refl

pub number_none : (ws : List (List ℕ)) → number_in ws ≡ None → is_readable (to_slash ws) ≡ false
unfolding check
number_none [] e = refl
number_none (w ∷ ws) e = go (is_slash w)
  where
    go : (t : Bool) → is_readable (check t [] (w ∷ to_slash ws)) ≡ false
    go true = refl
    go false = rw e refl

-- a number is the first word of its pool
pub record Begins (ws : List (List ℕ)) (n : ℕ) : Type 0 where
  pub readable : is_readable (to_slash ws) ≡ all_good unnamed (to_slash (behind ws))
  pub loss : n ≡ loss_typed (to_slash ws)
  pub ranks : ranks_of_pool (to_slash ws) ≡ ranks_in missing_ranks (to_slash (behind ws))
  pub further : further_pools ws ≡ further_pools (behind ws)
  pub fewer : length (behind ws) < length ws

pub number_some : (ws : List (List ℕ)) (n : ℕ) → number_in ws ≡ Some n → Begins ws n
unfolding check
number_some [] n e = absurd (none-some n e)
number_some (w ∷ ws) n e =
    let g : is_slash w ≡ false = go (is_slash w) refl in
    record { readable = rw (g, e) refl; loss = rw (g, e) refl; ranks = rw g refl; further = rw g refl; fewer = omega arith }
  where
    go : (t : Bool) → is_slash w ≡ t → t ≡ false
    go true h = absurd (none-some n (sym (slash_none w h) ∙ e))
    go false h = refl

-- values put behind those that are there, while they have places
abbrev put_all : {X : Type 0} → ℕ → List X → List X → List X
put_all k xs [] = xs
put_all k xs (v ∷ vs) = put_all (k + 1) (set xs k v) vs

put_beyond : {X : Type 0} (vs xs : List X) (k : ℕ) → length xs ≤ k → put_all k xs vs ≡ xs
put_beyond [] xs k h = refl
put_beyond (v ∷ vs) xs k h =
    ap (λ ys. put_all (k + 1) ys vs) (set_past xs k v h) ∙ put_beyond vs xs (k + 1) (omega arith)

put_four : {X : Type 0} (d : X) (vs : List X) → put_all 0 (d ∷ d ∷ d ∷ d ∷ []) vs ≡ first_four d vs
put_four d [] = refl
put_four d (a ∷ []) = refl
put_four d (a ∷ b ∷ []) = refl
put_four d (a ∷ b ∷ c ∷ []) = refl
put_four d (a ∷ b ∷ c ∷ e ∷ vs) = put_beyond vs (a ∷ b ∷ c ∷ e ∷ []) 4 (omega arith)

-- What is read of all the pools, where some are left: those can be used where all can, and put behind those that are there they make the whole.
pub record Reading (all left : List (List (List ℕ))) (typed : Typed) : Type 0 where
  pub readable : all_readable left ≡ all_readable all
  pub counted : typed.pools.count + length left ≡ length all
  pub losses : put_all typed.pools.count typed.pools.losses (map loss_typed left) ≡ first_four 0 (map loss_typed all)
  pub ranks : put_all typed.pools.count typed.ranks (map ranks_of_pool left) ≡ first_four missing_ranks (map ranks_of_pool all)

pub reading_starts : (all : List (List (List ℕ)))
    → Reading all all (record { pools = record { count = 0; losses = 0 ∷ 0 ∷ 0 ∷ 0 ∷ [] }; ranks = no_ranks })
reading_starts all =
    record { readable = refl; counted = omega arith; losses = put_four 0 (map loss_typed all); ranks = put_four missing_ranks (map ranks_of_pool all) }

module _ (all : List (List (List ℕ))) (typed : Typed) where
  pub reading_bad : (p : List (List ℕ)) (ps : List (List (List ℕ)))
      → Reading all (p ∷ ps) typed → false ≡ is_readable p → false ≡ all_readable all
  reading_bad p ps i h = ap (λ b. b && all_readable ps) h ∙ i.readable

  pub reading_on : (p : List (List ℕ)) (ps : List (List (List ℕ))) → Reading all (p ∷ ps) typed → true ≡ is_readable p
      → (loss : ℕ) → loss ≡ loss_typed p → (ranks : List ℕ) → ranks ≡ ranks_of_pool p
      → (next : Typed) → next ≡ added typed loss ranks → Reading all ps next
  reading_on p ps i h loss e ranks f next g =
      rw (g, e, f) (record {
        readable = ap (λ b. b && all_readable ps) h ∙ i.readable;
        counted = omega (arith, i.counted);
        losses = i.losses;
        ranks = i.ranks;
      })

  pub reading_done : Reading all [] typed → (true ≡ all_readable all) × (typed ≡ typed_in all)
  reading_done i =
      let count : typed.pools.count ≡ length all = omega (arith, i.counted) in
      let counted : ℕ → Typed = λ n. record { pools = record { count = n; losses = typed.pools.losses }; ranks = typed.ranks } in
      (i.readable, ap counted count ∙ rw (i.losses, i.ranks) refl)

-- a pool more is read, and those behind it are left
pub reading_turn : (all : List (List (List ℕ))) (typed next : Typed) (ws left : List (List ℕ)) (pool : Pool)
    → Reading all (pools_of ws) typed → true ≡ is_readable (to_slash ws) → PoolRead ws pool left → next ≡ added typed pool.loss pool.ranks
    → (more : Bool) → pool.more ≡ more → Reading all (pools_from more left) next
unfolding pools_of
reading_turn all typed next ws left pool i h known g more e =
    let further : further_pools ws ≡ pools_from more left = known.further ∙ ap (λ m. pools_from m left) e in
    reading_on all typed (to_slash ws) (pools_from more left) (rw (← further) i) h _ known.loss _ known.ranks next g

-- what `read_pools` cites where a pool cannot be used, where a further one follows, and where none does
pub ruleset reading = (reading_bad, reading_turn, reading_done)
