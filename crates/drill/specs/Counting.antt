-- Document 01, "What statement 3 counts": counted from the sheet, G, the calls, their answers and slips. Of a register, only what it holds and
-- what is outstanding is read.
use Rattle.std.specs.Prelude.{ℕ, zero, suc, ◌+◌, Bool, true, false, cond, not, ◌&&◌, ◌||◌, List, [], ◌∷◌, eqb, ltb, take, drop, is_none, is_ok}
use Rattle.lists.specs.Limits.{member_limit}
use Rattle.sheets.specs.Bytes.{record_at}
use Rattle.sheets.specs.Members.{member_at, first_at, second_at, third_at}
use Rattle.sheets.specs.Sheet.{record_count}
use Rattle.waterfall.specs.Opening.{tranche1_of, tranche2_of, opened_of}
use Rattle.figures.specs.Figures.{figure}
use Rattle.waterfall.specs.Pools.{loss_together}
use Rattle.waterfall.specs.Reply.{Layer, layer1, layer2, layer3, layer4, layer5, layer6, fallen_of, layer_of, short_of}
use Rattle.waterfall.specs.Register.{Register}
use Rattle.drill.specs.Drill.{Event}
use Rattle.drill.specs.declared.DrillCall.{DrillCall}
use Rattle.drill.specs.declared.DrillCall.TheVariants.{Default, Payment, Replenishment, Close}

-- the opening ----------------------------------------------------------------

-- "After a refused opening nobody is live and every opening sum is 0."
abbrev pub opening_accepted : List ℕ → ℕ → Bool
opening_accepted sheet g = is_none (opened_of sheet g).refusal

-- of n records from record i on, the figures of those that name the member, added (members rise, so there is one at most)
unfoldable pub figures_from : (List ℕ → ℕ) → ℕ → ℕ → List ℕ → ℕ → ℕ
figures_from f member zero sheet i = 0
figures_from f member (suc n) sheet i =
    cond (eqb (member_at (record_at sheet i)) member) (f (record_at sheet i)) 0 + figures_from f member n sheet (i + 1)

abbrev pub in_sheet : (List ℕ → ℕ) → List ℕ → ℕ → ℕ
in_sheet f sheet member = figures_from f member (record_count sheet) sheet 0

-- whether a record names the member
abbrev pub named : List ℕ → ℕ → Bool
named sheet member = ltb 0 (in_sheet (λ s. 1) sheet member)

-- "Opening sums are the sheet's margins and contributions, and G's tranches."
module _ (sheet : List ℕ) (g : ℕ) where
  abbrev pub opening_sum : ℕ → ℕ
  opening_sum sum = cond (opening_accepted sheet g) sum 0

  abbrev pub opening_margin : ℕ → ℕ
  opening_margin member = opening_sum (in_sheet first_at sheet member)

  abbrev pub opening_contribution : ℕ → ℕ
  opening_contribution member = opening_sum (in_sheet second_at sheet member)

  -- "its cap in the sheet"
  abbrev pub sheet_cap : ℕ → ℕ
  sheet_cap member = opening_sum (in_sheet third_at sheet member)

  abbrev pub opening_tranche1 : ℕ
  opening_tranche1 = opening_sum (tranche1_of g)

  abbrev pub opening_tranche2 : ℕ
  opening_tranche2 = opening_sum (tranche2_of g)

-- one event --------------------------------------------------------------------

-- "A refused drill call counts for nothing."
abbrev pub accepted : Event → Bool
accepted e = is_ok e.reply

abbrev pub if_accepted : Event → ℕ → ℕ
if_accepted e n = cond (accepted e) n 0

-- the figures of a call: what it hands over to whom
abbrev pub loss_handed : DrillCall → ℕ
loss_handed (Default member pools) = loss_together pools
loss_handed (Payment member amount) = 0
loss_handed (Replenishment member amount) = 0
loss_handed Close = 0

abbrev pub defaults : DrillCall → ℕ → Bool
defaults (Default who pools) member = eqb who member
defaults (Payment who amount) member = false
defaults (Replenishment who amount) member = false
defaults Close member = false

abbrev pub is_default : DrillCall → Bool
is_default (Default who pools) = true
is_default (Payment who amount) = false
is_default (Replenishment who amount) = false
is_default Close = false

abbrev pub is_close : DrillCall → Bool
is_close (Default who pools) = false
is_close (Payment who amount) = false
is_close (Replenishment who amount) = false
is_close Close = true

abbrev pub paid_in : DrillCall → ℕ → ℕ
paid_in (Default who pools) member = 0
paid_in (Payment who amount) member = cond (eqb who member) amount 0
paid_in (Replenishment who amount) member = 0
paid_in Close member = 0

abbrev pub replenished_in : DrillCall → ℕ → ℕ
replenished_in (Default who pools) member = 0
replenished_in (Payment who amount) member = 0
replenished_in (Replenishment who amount) member = cond (eqb who member) amount 0
replenished_in Close member = 0

-- "Losses are those handed to accepted defaults; shortfalls and fallen calls are those in their answers."
abbrev pub loss_in : Event → ℕ
loss_in e = if_accepted e (loss_handed e.call)

abbrev pub short_in : Event → ℕ
short_in e = short_of e.reply

abbrev pub fallen_in : Event → ℕ
fallen_in e = fallen_of e.reply

-- "A fallen call is its defaulter's."
abbrev pub fallen_by : ℕ → Event → ℕ
fallen_by member e = cond (defaults e.call member) (fallen_of e.reply) 0

-- "Charges are the six layer totals of accepted defaults."
abbrev pub layer_in : Layer → Event → ℕ
layer_in l e = layer_of l e.reply

-- the six together
abbrev pub charged_in : Event → ℕ
charged_in e =
    layer_in layer1 e + layer_in layer2 e + layer_in layer3 e + layer_in layer4 e + layer_in layer5 e + layer_in layer6 e

-- a layer of the member's own default
abbrev pub layer_by : Layer → ℕ → Event → ℕ
layer_by l member e = cond (defaults e.call member) (layer_of l e.reply) 0

-- the slip of an accepted default: "first 64 numbers receive each member's layer 4 charge, the next 64 its call"
abbrev pub charge_on : ℕ → Event → ℕ
charge_on member e = cond (accepted e && is_default e.call) (figure (take member_limit e.slip) member) 0

abbrev pub call_on : ℕ → Event → ℕ
call_on member e = cond (accepted e && is_default e.call) (figure (take member_limit (drop member_limit e.slip)) member) 0

-- "Paid is what its accepted payments add to."; "Replenishments are the accepted amounts"
abbrev pub paid_by : ℕ → Event → ℕ
paid_by member e = if_accepted e (paid_in e.call member)

abbrev pub replenished_by : ℕ → Event → ℕ
replenished_by member e = if_accepted e (replenished_in e.call member)

-- a list of events ----------------------------------------------------------------

-- a figure of each event, added
unfoldable pub sum_over : (Event → ℕ) → List Event → ℕ
sum_over f [] = 0
sum_over f (e ∷ events) = f e + sum_over f events

-- "The list may be empty; the register last given back is then the opening's."
unfoldable pub last_register : Register → List Event → Register
last_register r [] = r
last_register r (e ∷ events) = last_register e.register events

-- whether an accepted default names the member
unfoldable pub defaulted : ℕ → List Event → Bool
defaulted member [] = false
defaulted member (e ∷ events) = (accepted e && defaults e.call member) || defaulted member events

-- "A member is live until an accepted default names it."
abbrev pub live_after : List ℕ → ℕ → List Event → ℕ → Bool
live_after sheet g events member = opening_accepted sheet g && named sheet member && not (defaulted member events)

-- "the calls made on each since the last accepted close (or opening)", n being those made before the events
unfoldable pub called_since : ℕ → ℕ → List Event → ℕ
called_since member n [] = n
called_since member n (e ∷ events) = called_since member (cond (accepted e && is_close e.call) 0 (n + call_on member e)) events
