-- The one pass over a stress sheet: what holds before each record, from the first to past the last.
use Rattle.std.proofs.Common.{◌≡◌, ℕ, zero, suc, ◌+◌, ◌-◌, ◌*◌, ◌≤◌, ◌<◌, List, [], ◌∷◌, Bool, true, false, cond, get_or, Option, Some, None, Result, Ok, Err, refl, ap, sym, ◌∙◌, arith}
use Prim.Native.Nat.{zero-le}
use Rattle.std.specs.Simd.{first_chunks}
use Rattle.std.proofs.lemmas.Bool.Decides.{nat_tests}
use Rattle.lists.specs.Checks.{check}
use Rattle.lists.specs.Highest.{highest, without, second}
use Rattle.lists.specs.Limits.{member_limit, amount_limit, weak_limit, group_limit}
use Rattle.lists.specs.Sums.{AtMost}
use Rattle.lists.proofs.Sums.{cond-le}
use Rattle.lists.proofs.Checks.{check_nlt}
use Rattle.refusal.specs.Refusal.{answered, located, at_record}
use Rattle.refusal.proofs.Laws.{none_at-record}
use Rattle.refusal.specs.declared.Fault.{Fault}
use Rattle.refusal.specs.declared.Refusal.{Refusal}
use Rattle.sheets.specs.Bytes.{record_at, nonzero}
use Rattle.sheets.specs.Sheet.{record_count}
use Rattle.sheets.proofs.Records.{next_left, record_is, record_refused, record_accepted}
use Rattle.stress.specs.Stress.{same_block, flags_before, passed, loss_of, stress_fault, stress_refusal_from, stress_refusal}
use Rattle.stress.specs.declared.Before.{Before}
use Rattle.stress.specs.declared.Loss.{Loss}
use Rattle.stress.proofs.Laws.{member_before, LossInOrder, loss_in-order}
use Rattle.cover.specs.Cover.{StressLoss, loss_record, records_from, records_of, losses_of, groups, block_sums, cover_sum, blocks_from, blocks_of, flagged_sum, cover_of, weak_of, covered_of}
use Rattle.cover.specs.Parts.{Kept, opened, cover_in, worse_of}
use Rattle.cover.specs.declared.Block.{Block}
use Rattle.cover.specs.declared.Covered.{Covered}
use Rattle.cover.proofs.Sums.{grows}
use Rattle.cover.proofs.Blocks.{kept_none, sums_within, worse_is, Grouped, worst_of, nothing, worst_of_all}

-- the record before is the latest of the open block
abbrev Follows : List StressLoss → Option Before → Type 0
Follows [] before = Unit {0}
Follows (latest ∷ earlier) None = ⊥
Follows (latest ∷ earlier) (Some before) = (before.day ≡ latest.day) × (before.scenario ≡ latest.scenario)

-- the latest member of the open block, and its weak flags
abbrev member_of : Option Before → ℕ
member_of None = 0
member_of (Some before) = before.member

abbrev flags_of : Option Before → ℕ
flags_of None = 0
flags_of (Some before) = before.flags

-- what the records of a block come to, whose losses are in order, and which has no more members than the latest one's number, and so many flags
pub record Within (member flags : ℕ) (records : List StressLoss) : Type 0 where
  pub cover_most : highest (block_sums records) + second (block_sums records) ≤ amount_limit * member
  pub flagged_most : flagged_sum records ≤ amount_limit * flags

-- before record i: what is left to refuse is the whole sheet's; the open block's records and what is kept of them; and that from here on the
-- worst block of the sheet is still found
pub record Pass (sheet : List ℕ) (i : ℕ) (before : Option Before) (sums : List ℕ) (block : Block) (worst : Covered) : Type 0 where
  pub left_to_refuse : stress_refusal_from (record_count sheet - i) sheet i before ≡ stress_refusal sheet
  pub records : List StressLoss
  pub kept : Kept records sums block
  pub follows : Follows records before
  pub whole : worst_of worst (blocks_from records (records_from (record_count sheet - i) sheet i)) ≡ worst_of nothing (blocks_of (records_of sheet))
  pub member_most : member_of before ≤ member_limit
  pub flags_most : flags_of before ≤ weak_limit
  pub within : Within (member_of before) (flags_of before) records
  pub top_most : block.top ≤ amount_limit * i

-- no group's sum is more than the highest
pub sums_fit : {sheet : List ℕ} {i : ℕ} {before : Option Before} {sums : List ℕ} {block : Block} {worst : Covered} → Pass sheet i before sums block worst
    → AtMost sums block.top
sums_fit p = sums_within _ _ _ p.kept

-- a block of no records
within_none : Within 0 0 []
unfolding block_sums losses_of groups highest without flagged_sum
within_none = record { cover_most = omega arith; flagged_most = omega arith }

-- the first record
pub pass_begins : (sheet sums : List ℕ) → Kept [] sums (opened 0) → Pass sheet 0 None sums (opened 0) nothing
unfolding stress_refusal
pass_begins sheet sums kept =
    let all : record_count sheet - 0 ≡ record_count sheet = omega arith in
    record {
      left_to_refuse = rw all refl;
      records = [];
      kept = kept;
      follows = tt;
      whole = rw all refl;
      member_most = zero-le;
      flags_most = zero-le;
      within = within_none;
      top_most = omega arith;
    }

-- a loss that a record flags
flagged_within : (w l : ℕ) → l ≤ amount_limit → cond (nonzero w) l 0 ≤ amount_limit * w
flagged_within zero l h = zero-le
flagged_within (suc w) l h = omega (arith, cond-le (nonzero (suc w)) l)

-- a further record of a block
joined_within : (member flags : ℕ) (xs : List StressLoss) (x : StressLoss) → Within member flags xs → x.loss ≤ amount_limit → x.group ≤ group_limit → member < x.member
    → Within x.member (flags + x.weak) (x ∷ xs)
unfolding flagged_sum
joined_within member flags xs x w h g m =
    record {
      cover_most = omega (arith, w.cover_most, (grows xs x g).cover_most);
      flagged_most = omega (arith, w.flagged_most, flagged_within x.weak x.loss h);
    }

-- an open block that has no record yet is worse than none
worse_than_empty : (worst : Covered) → worse_of worst (cover_sum []) (flagged_sum []) ≡ worst
unfolding cover_sum block_sums losses_of groups highest without
worse_than_empty worst = sym (check_nlt _ _ worst.cover 0 zero-le refl)

-- a record of the open block, and one that is not of it: the blocks from here on
module _ (s : List ℕ) (worst : Covered) (rest : List StressLoss) where
  on_same : (xs : List StressLoss) (before : Option Before) → Follows xs before → same_block before s ≡ true
      → blocks_from xs (loss_record s ∷ rest) ≡ blocks_from (loss_record s ∷ xs) rest
  unfolding check blocks_from
  on_same [] before f e = refl
  on_same (latest ∷ earlier) None f e = absurd f
  on_same (latest ∷ earlier) (Some b) f e = grind (arith, nat_tests)

  on_other : (xs : List StressLoss) (before : Option Before) → Follows xs before → same_block before s ≡ false
      → worst_of worst (blocks_from xs (loss_record s ∷ rest)) ≡ worst_of (worse_of worst (cover_sum xs) (flagged_sum xs)) (blocks_from (loss_record s ∷ []) rest)
  unfolding check blocks_from worst_of
  on_other [] before f e = rw worse_than_empty refl
  on_other (latest ∷ earlier) None f e = absurd f
  on_other (latest ∷ earlier) (Some b) f e = grind (arith, nat_tests)

-- the groups of a sheet in order
grouped_from : (n : ℕ) (sheet : List ℕ) (i : ℕ) (before : Option Before) → stress_refusal_from n sheet i before ≡ None → Grouped (records_from n sheet i)
unfolding stress_refusal_from records_from
grouped_from zero sheet i before e = tt
grouped_from (suc n) sheet i before e =
    let none = none_at-record (i + 1) (stress_fault before (record_at sheet i)) _ e in
    ((loss_in-order before (record_at sheet i) none.0).group_most, grouped_from n sheet (i + 1) (Some (passed before (record_at sheet i))) none.1)

grouped_of : (sheet : List ℕ) → stress_refusal sheet ≡ None → Grouped (records_of sheet)
unfolding stress_refusal
grouped_of sheet e = grouped_from (record_count sheet) sheet 0 None e

-- the next record
module _ (sheet : List ℕ) (i : ℕ) (before : Option Before) (sums : List ℕ) (block : Block) (worst : Covered) (pass : Pass sheet i before sums block worst) where
  module _ (more : i < record_count sheet) where
    abbrev here : List ℕ
    here = record_at sheet i

    abbrev rest_refusal : Option Refusal
    rest_refusal = stress_refusal_from (record_count sheet - (i + 1)) sheet (i + 1) (Some (passed before here))

    abbrev rest : List StressLoss
    rest = records_from (record_count sheet - (i + 1)) sheet (i + 1)

    rest_is : loss_record here ∷ rest ≡ records_from (record_count sheet - i) sheet i
    unfolding records_from
    rest_is = next_left (λ n. records_from n sheet i) (record_count sheet) i more

    refusal_is : at_record (i + 1) (stress_fault before here) rest_refusal ≡ stress_refusal sheet
    unfolding stress_refusal_from
    refusal_is = next_left (λ n. stress_refusal_from n sheet i before) (record_count sheet) i more ∙ pass.left_to_refuse

    module _ (records : List (List ℕ)) (read : Result Loss Fault) (found : Result Loss Refusal) (are : records ≡ first_chunks 16 (record_count sheet) sheet)
        (read_is : read ≡ answered (stress_fault before (get_or records i [])) (loss_of before (get_or records i []))) (found_is : found ≡ located (i + 1) read) where
      pub refused : (refusal : Refusal) → found ≡ Err refusal → Err refusal ≡ answered (stress_refusal sheet) (covered_of sheet)
      refused refusal e =
          record_refused sheet i more records are (stress_fault before) (loss_of before) read found read_is found_is rest_refusal (covered_of sheet) refusal refusal_is e

      module _ (loss : Loss) (e : found ≡ Ok loss) where
        accepted : (stress_fault before here ≡ None) × (loss_of before here ≡ loss)
        accepted = record_accepted sheet i more records are (stress_fault before) (loss_of before) read found read_is found_is loss e

        in_order : LossInOrder before here
        in_order = loss_in-order before here accepted.0

        pub amount_most : loss.amount ≤ amount_limit
        amount_most = omega (arith, in_order.loss_most, ap (λ (l : Loss). l.amount) accepted.1)

        pub group_most : loss.group ≤ group_limit
        group_most = omega (arith, in_order.group_most, ap (λ (l : Loss). l.group) accepted.1)

        -- what `joined` promises of this record
        abbrev Joins : List ℕ → Block → List ℕ → Block → Type 0
        Joins before_sums block raised joined =
            (xs : List StressLoss) (x : StressLoss) → Kept xs before_sums block → x.loss ≡ loss.amount → x.group ≡ loss.group → nonzero x.weak ≡ loss.weak → Kept (x ∷ xs) raised joined

        -- the record joins the block of the records xs, which has this member and so many flags before it
        passes : (xs : List StressLoss) (member flags : ℕ) {before_sums raised : List ℕ} {block joined : Block} {ended : Covered} → Kept xs before_sums block → block.top ≤ amount_limit * i
            → Within member flags xs → Joins before_sums block raised joined → joined.floor ≡ block.floor
            → member_before before here ≡ member → flags_before before here ≡ flags
            → worst_of ended (blocks_from (loss_record here ∷ xs) rest) ≡ worst_of nothing (blocks_of (records_of sheet))
            → Pass sheet (i + 1) (Some loss.next) raised joined ended
        passes xs member flags k t w j f m n e =
            let now = j xs (loss_record here) k (ap (λ (l : Loss). l.amount) accepted.1) (ap (λ (l : Loss). l.group) accepted.1) (ap (λ (l : Loss). l.weak) accepted.1) in
            rw (← ap (λ (l : Loss). l.next) accepted.1)
            (record {
              left_to_refuse = ap (λ (x : Option Fault). at_record (i + 1) x rest_refusal) (sym accepted.0) ∙ refusal_is;
              records = loss_record here ∷ xs;
              kept = now;
              follows = (refl, refl);
              whole = e;
              member_most = in_order.member_most;
              flags_most = in_order.flags_most;
              within = rw n (joined_within member flags xs (loss_record here) w in_order.loss_most in_order.group_most (omega (arith, in_order.member_rises)));
              top_most = omega (arith, t, k.top_is, now.top_is, f, (grows xs (loss_record here) in_order.group_most).highest_most, in_order.loss_most);
            })

        same_here : {same b : Bool} → same ≡ same_block before (get_or records i []) → same ≡ b → same_block before here ≡ b
        same_here q s = sym (q ∙ ap (same_block before) (record_is sheet i more records are)) ∙ s

        pub goes_on_same : {raised : List ℕ} {joined : Block} {same : Bool} → same ≡ same_block before (get_or records i []) → same ≡ true → Joins sums block raised joined → joined.floor ≡ block.floor
            → Pass sheet (i + 1) (Some loss.next) raised joined worst
        goes_on_same q t j f =
            passes pass.records (member_of before) (flags_of before) pass.kept pass.top_most pass.within j f (before_same before s).0 (before_same before s).1
            (sym (ap (worst_of worst) (on_same here worst rest pass.records before pass.follows s))
            ∙ ap (λ (rs : List StressLoss). worst_of worst (blocks_from pass.records rs)) rest_is
            ∙ pass.whole)
          where
            s : same_block before here ≡ true
            s = same_here q t

            before_same : (b : Option Before) → same_block b here ≡ true → (member_before b here ≡ member_of b) × (flags_before b here ≡ flags_of b)
            before_same None s = (refl, refl)
            before_same (Some b) s = (rw s refl, rw s refl)

        pub goes_on_other : {raised : List ℕ} {joined : Block} {ended : Covered} {same : Bool} → same ≡ same_block before (get_or records i []) → same ≡ false
            → ended ≡ worse_of worst (cover_in block) block.flagged → Joins sums (opened block.top) raised joined → joined.floor ≡ block.top
            → Pass sheet (i + 1) (Some loss.next) raised joined ended
        goes_on_other q t w j f =
            passes [] 0 0 (kept_none sums block.top pass.kept.long (sums_fit pass)) pass.top_most within_none j f (before_other before s).0 (before_other before s).1
            (rw (w, worse_is worst block pass.records sums pass.kept)
            (sym (on_other here worst rest pass.records before pass.follows s)
            ∙ ap (λ (rs : List StressLoss). worst_of worst (blocks_from pass.records rs)) rest_is
            ∙ pass.whole))
          where
            s : same_block before here ≡ false
            s = same_here q t

            before_other : (b : Option Before) → same_block b here ≡ false → (member_before b here ≡ 0) × (flags_before b here ≡ 0)
            before_other None s = (refl, refl)
            before_other (Some b) s = (rw s refl, rw s refl)

  -- past the last record, the open block is the last
  pub ends : {last : Covered} → record_count sheet ≤ i → last ≡ worse_of worst (cover_in block) block.flagged → Ok last ≡ answered (stress_refusal sheet) (covered_of sheet)
  unfolding cover_of weak_of records_from blocks_from worst_of stress_refusal_from
  ends {last} h e =
      let none : record_count sheet - i ≡ 0 = omega arith in
      let w = e
      ∙ worse_is worst block pass.records sums pass.kept
      ∙ sym (ap (λ (n : ℕ). worst_of worst (blocks_from pass.records (records_from n sheet i))) none)
      ∙ pass.whole
      ∙ worst_of_all (records_of sheet) (grouped_of sheet (sym pass.left_to_refuse ∙ ap (λ (n : ℕ). stress_refusal_from n sheet i before) none)) in
      rw (← pass.left_to_refuse, none) (ap (λ (c : Covered). Ok c) w)
