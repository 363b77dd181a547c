-- Record i of a sheet, as a loop finds it that reads record by record.
use Rattle.std.proofs.Common.{◌≡◌, ℕ, zero, suc, ◌+◌, ◌-◌, ◌*◌, ◌<◌, take, drop, List, [], Result, Option, None, Ok, Err, refl, ap, sym, ◌∙◌, arith, get_or}
use Rattle.std.specs.Simd.{first_chunks}
use Rattle.std.proofs.Math.Seq.{drop-drop}
use Rattle.std.proofs.Math.Nat.{suc-mul, zero-mul}
use Rattle.refusal.specs.Refusal.{answered, at_record, located}
use Rattle.refusal.specs.declared.Fault.{Fault}
use Rattle.refusal.specs.declared.Refusal.{Refusal}
use Rattle.refusal.proofs.Laws.{located_err, located_ok}
use Rattle.sheets.specs.Bytes.{record_at}
use Rattle.sheets.specs.Sheet.{record_count}

-- of n records those from i on are record i, and those after it
pub next_left : {A : Type 0} (f : ℕ → A) (n i : ℕ) → i < n → f (suc (n - (i + 1))) ≡ f (n - i)
next_left f n i h = let left : suc (n - (i + 1)) ≡ n - i = omega arith in ap f left

-- the record that the code reads
chunk_at : (w n i : ℕ) (xs d : List ℕ) → i < n → get_or (first_chunks w n xs) i d ≡ take w (drop (i * w) xs)
chunk_at w zero i xs d h = absurd (omega arith)
chunk_at w (suc n) zero xs d h = rw zero-mul refl
chunk_at w (suc n) (suc i) xs d h =
    let along : w + i * w ≡ suc i * w = simp suc-mul (omega arith) in
    chunk_at w n i (drop w xs) d (omega arith) ∙ ap (take w) (drop-drop (i * w) w xs ∙ ap (λ (k : ℕ). drop k xs) along)

module _ (sheet : List ℕ) (i : ℕ) (more : i < record_count sheet) (records : List (List ℕ)) (are : records ≡ first_chunks 16 (record_count sheet) sheet) where
  abbrev here : List ℕ
  here = record_at sheet i

  pub record_is : get_or records i [] ≡ here
  record_is = ap (λ (xs : List (List ℕ)). get_or xs i []) are ∙ chunk_at 16 (record_count sheet) i sheet [] more

  -- what is wrong with a record is `fault`, and what is read of it `given`
  module _ {A : Type 0} (fault : List ℕ → Option Fault) (given : List ℕ → A) (read : Result A Fault) (found : Result A Refusal)
      (read_is : read ≡ answered (fault (get_or records i [])) (given (get_or records i []))) (found_is : found ≡ located (i + 1) read) where
    as_found : found ≡ located (i + 1) (answered (fault here) (given here))
    as_found = found_is ∙ ap (located (i + 1)) (read_is ∙ ap (λ (s : List ℕ). answered (fault s) (given s)) record_is)

    -- where it is refused, so is the sheet
    pub record_refused : {B : Type 0} {whole : Option Refusal} (rest : Option Refusal) (answer : B) (refusal : Refusal)
        → at_record (i + 1) (fault here) rest ≡ whole → found ≡ Err refusal → Err refusal ≡ answered whole answer
    record_refused rest answer refusal w e = rw (← w, located_err (i + 1) (fault here) (given here) rest (sym as_found ∙ e)) refl

    pub record_accepted : (a : A) → found ≡ Ok a → (fault here ≡ None) × (given here ≡ a)
    record_accepted a e = located_ok (i + 1) (fault here) (given here) (sym as_found ∙ e)
