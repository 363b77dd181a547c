-- A register or a shares sheet read record by record into columns: the loop's beginning, one turn of it and its end.
use Rattle.std.proofs.Common.{◌≡◌, ℕ, ◌+◌, ◌-◌, ◌≤◌, ◌<◌, List, [], Result, Option, None, Ok, Err, refl, ap, sym, ◌∙◌, arith, get_or}
use Rattle.std.specs.Simd.{first_chunks}
use Rattle.refusal.specs.Refusal.{answered, at_record, located}
use Rattle.refusal.specs.declared.Fault.{Fault}
use Rattle.refusal.specs.declared.Refusal.{Refusal}
use Rattle.sheets.specs.Bytes.{record_at}
use Rattle.sheets.specs.Members.{member_at, record_of, member_fault}
use Rattle.sheets.specs.Parts.{WithinLimits}
use Rattle.sheets.specs.Sheet.{record_count, member_refusal_from, member_refusal}
use Rattle.sheets.specs.Columns.{no_columns, entered, columns_from, columns_of}
use Rattle.sheets.specs.declared.Record.{Record}
use Rattle.sheets.specs.declared.columns.Columns.{Columns}
use Rattle.sheets.proofs.Laws.{in_order}
use Rattle.sheets.proofs.Records.{next_left, record_refused, record_accepted}

-- before record i, what is left to refuse and to enter is the whole sheet's
pub record Reading (floor : ℕ) (sheet : List ℕ) (i last : ℕ) (columns : Columns) : Type 0 where
  pub left_to_refuse : member_refusal_from floor (record_count sheet - i) sheet i last ≡ member_refusal floor sheet
  pub left_to_enter : columns_from (record_count sheet - i) sheet i columns ≡ columns_of sheet

pub begins : (floor : ℕ) (sheet : List ℕ) → Reading floor sheet 0 0 no_columns
unfolding member_refusal columns_of
begins floor sheet =
    let whole : record_count sheet - 0 ≡ record_count sheet = omega arith in
    record { left_to_refuse = rw whole refl; left_to_enter = rw whole refl }

module _ (floor : ℕ) (sheet : List ℕ) (i last : ℕ) (columns : Columns) (reading : Reading floor sheet i last columns) where
  module _ (more : i < record_count sheet) where
    -- record i as the code finds it
    abbrev here : List ℕ
    here = record_at sheet i

    abbrev rest : Option Refusal
    rest = member_refusal_from floor (record_count sheet - (i + 1)) sheet (i + 1) (member_at here)

    refusal_is : at_record (i + 1) (member_fault floor last here) rest ≡ member_refusal floor sheet
    unfolding member_refusal_from
    refusal_is = next_left (λ n. member_refusal_from floor n sheet i last) (record_count sheet) i more ∙ reading.left_to_refuse

    columns_are : columns_from (record_count sheet - (i + 1)) sheet (i + 1) (entered columns (record_of here)) ≡ columns_of sheet
    unfolding columns_from
    columns_are = next_left (λ n. columns_from n sheet i columns) (record_count sheet) i more ∙ reading.left_to_enter

    module _ (records : List (List ℕ)) (read : Result Record Fault) (found : Result Record Refusal) (are : records ≡ first_chunks 16 (record_count sheet) sheet)
        (read_is : read ≡ answered (member_fault floor last (get_or records i [])) (record_of (get_or records i []))) (found_is : found ≡ located (i + 1) read) where
      pub refused : (refusal : Refusal) → found ≡ Err refusal → Err refusal ≡ answered (member_refusal floor sheet) (columns_of sheet)
      refused refusal e =
          record_refused sheet i more records are (member_fault floor last) record_of read found read_is found_is rest (columns_of sheet) refusal refusal_is e

      module _ (r : Record) (e : found ≡ Ok r) where
        accepted : (member_fault floor last here ≡ None) × (record_of here ≡ r)
        accepted = record_accepted sheet i more records are (member_fault floor last) record_of read found read_is found_is r e

        pub within : WithinLimits r
        within = rw accepted.1 at ((in_order floor last here accepted.0).within)

        pub goes_on : Reading floor sheet (i + 1) r.member (entered columns r)
        goes_on =
            record {
              left_to_refuse =
                  ap (λ (x : Record). member_refusal_from floor (record_count sheet - (i + 1)) sheet (i + 1) x.member) (sym accepted.1)
                  ∙ ap (λ (o : Option Fault). at_record (i + 1) o rest) (sym accepted.0)
                  ∙ refusal_is;
              left_to_enter =
                  ap (λ (x : Record). columns_from (record_count sheet - (i + 1)) sheet (i + 1) (entered columns x)) (sym accepted.1) ∙ columns_are;
            }

  pub ends : record_count sheet ≤ i → Ok columns ≡ answered (member_refusal floor sheet) (columns_of sheet)
  unfolding member_refusal_from columns_from
  ends h =
      let none : record_count sheet - i ≡ 0 = omega arith in
      rw (← reading.left_to_refuse, ← reading.left_to_enter, none) refl
