-- What the callers know of a record that is in order, of a sheet of the right size, and of a sheet that is read record by record.
use Rattle.std.proofs.Common.{◌≡◌, ℕ, suc, ◌+◌, ◌*◌, ◌<◌, ◌≤◌, false, List, length, replicate, None, arith}
use Rattle.lists.specs.Limits.{member_limit, amount_limit}
use Rattle.lists.specs.Checks.{check}
use Rattle.std.proofs.lemmas.Bool.Decides.{nat_tests}
use Rattle.lists.proofs.Sums.{zeros_within}
use Rattle.refusal.proofs.Laws.{none_at-record}
use Rattle.sheets.specs.Bytes.{record_at}
use Rattle.sheets.specs.Members.{member_at, second_at, record_of, outside, missing, excessive, member_fault}
use Rattle.sheets.specs.Parts.{WithinLimits, AmountsFit}
use Rattle.sheets.specs.Sheet.{missized, record_count, member_refusal_from}

-- a record of a register or a shares sheet -------------------------------------

-- within which limits a record in order is
pub record InOrder (floor last : ℕ) (s : List ℕ) : Type 0 where
  pub within : WithinLimits (record_of s)
  pub second_least : floor ≤ second_at s
  pub rises : last < member_at s

pub in_order : (floor last : ℕ) (s : List ℕ) → member_fault floor last s ≡ None → InOrder floor last s
unfolding check outside missing excessive member_fault
in_order floor last s e =
    record {
      within =
          record {
            member_least = grind (arith, nat_tests);
            member_most = grind (arith, nat_tests);
            first_most = grind (arith, nat_tests);
            second_most = grind (arith, nat_tests);
            third_most = grind (arith, nat_tests);
          };
      second_least = grind (arith, nat_tests);
      rises = grind (arith, nat_tests);
    }

-- columns of no records
pub amounts_none : AmountsFit (replicate member_limit 0) (replicate member_limit 0) (replicate member_limit 0)
amounts_none =
    let zeros = zeros_within amount_limit member_limit in
    record { first_fits = zeros; second_fits = zeros; third_fits = zeros }

-- the size of a sheet -----------------------------------------------------------

pub record Sized (most : ℕ) (sheet : List ℕ) : Type 0 where
  pub not_empty : 0 < length sheet
  pub not_overlong : length sheet ≤ most * 16
  pub whole : record_count sheet * 16 ≡ length sheet
  pub some : 0 < record_count sheet
  pub few : record_count sheet ≤ most

pub sized : (most : ℕ) (sheet : List ℕ) → missized most sheet ≡ false → Sized most sheet
unfolding missized
sized most sheet e =
    record {
      not_empty = grind (arith, nat_tests);
      not_overlong = grind (arith, nat_tests);
      whole = grind (arith, nat_tests);
      some = grind (arith, nat_tests);
      few = grind (arith, nat_tests);
    }

-- a sheet read record by record --------------------------------------------------

-- where none of n records from record i on is refused, record i is in order, and none of those after it is refused
module _ (floor n : ℕ) (sheet : List ℕ) (i last : ℕ) (q : member_refusal_from floor (suc n) sheet i last ≡ None) where
  both : (member_fault floor last (record_at sheet i) ≡ None) × (member_refusal_from floor n sheet (i + 1) (member_at (record_at sheet i)) ≡ None)
  unfolding member_refusal_from
  both = none_at-record (i + 1) _ _ q

  pub record_in-order : InOrder floor last (record_at sheet i)
  record_in-order = in_order floor last (record_at sheet i) both.0

  pub rest-accepted : member_refusal_from floor n sheet (i + 1) (member_at (record_at sheet i)) ≡ None
  rest-accepted = both.1
