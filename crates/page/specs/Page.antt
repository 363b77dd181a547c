-- Document 02, request 1: "A printed waterfall for the wall. Schools pin up each default as a page."
use Rattle.std.specs.Prelude.{ℕ, ◌-◌, ◌≡◌, refl, Bool, ◌||◌, List, [], ◌∷◌, ◌++◌, Option, Some, None, is_some, ltb, length, take, drop, replicate}
use Rattle.std.specs.List.{list_any}
use Rattle.lists.specs.Limits.{printed_limit}
use Rattle.lists.specs.Checks.{check}
use Rattle.lists.specs.Texts.{ascii}
use Rattle.indian_digits.specs.IndianDigits.{indian_of}
use Rattle.refusal.specs.declared.Refusal.{Refusal}
use Rattle.waterfall.specs.declared.Allocation.{Allocation}

-- n spaces
abbrev pub spaces : ℕ → List ℕ
spaces n = replicate n 32

-- "left-aligned in 20 columns"
abbrev pub left_aligned : List ℕ → List ℕ
left_aligned text = text ++ spaces (20 - length text)

-- "right-aligned in 20"
abbrev pub right_aligned : List ℕ → List ℕ
right_aligned text = spaces (20 - length text) ++ text

-- a row: a name, and "the amount right-aligned in 20 with Indian commas"
unfoldable pub row_of : List ℕ → ℕ → List ℕ
row_of name amount = left_aligned name ++ right_aligned (indian_of amount)

-- "The heading row is the word LAYER, 24 spaces and Rs THOUSAND."
unfoldable pub heading : List ℕ
heading = ascii "LAYER                        Rs THOUSAND"

pub heading_reads : (heading ≡ ascii "LAYER" ++ spaces 24 ++ ascii "Rs THOUSAND") × (length heading ≡ 40)
unfolding heading
heading_reads = (refl, refl)

-- "Eight lines of 40 bytes, each followed by byte 10."
unfoldable pub line : List ℕ → List ℕ
line row = row ++ 10 ∷ []

-- "Then come MARGIN, OWN FUND, TRANCHE 1, MEMBERS, TRANCHE 2, CALLS and SHORT": the six layers of a default's answer, and its shortfall
unfoldable pub page_of : Allocation → List ℕ
page_of a =
    line heading
    ++ line (row_of (ascii "MARGIN") a.margin)
    ++ line (row_of (ascii "OWN FUND") a.contribution)
    ++ line (row_of (ascii "TRANCHE 1") a.tranche1)
    ++ line (row_of (ascii "MEMBERS") a.members)
    ++ line (row_of (ascii "TRANCHE 2") a.tranche2)
    ++ line (row_of (ascii "CALLS") a.calls)
    ++ line (row_of (ascii "SHORT") a.short)

-- eight times 41
abbrev pub page_length : ℕ
page_length = 328

-- the seven amounts
abbrev pub amounts_of : Allocation → List ℕ
amounts_of a =
    a.margin ∷ a.contribution ∷ a.tranche1 ∷ a.members ∷ a.tranche2 ∷ a.calls ∷ a.short ∷ []

abbrev pub any_above : ℕ → List ℕ → Bool
any_above limit amounts = list_any (ltb limit) amounts

-- 20. "page buffer below 328 bytes or an amount above 26,000,000,000". `size` is how many bytes are lent.
unfoldable pub page_refusal : Allocation → ℕ → Option Refusal
page_refusal a size =
    check (ltb size page_length || any_above printed_limit (amounts_of a)) (Some Refusal.Unprintable)
    None

-- the lent page as it is left: "before anything is written", and "Bytes after the page stay."
unfoldable pub page_left : Allocation → List ℕ → List ℕ
page_left a page = check (is_some (page_refusal a (length page))) page (page_of a ++ drop page_length page)

-- Two answers are printed, each on a page of its own, and the pages are the same. "No two default answers with different layers or shortfalls
-- may print alike": theorem `no_two_alike` in proofs/Theorem.antt.
abbrev pub PrintAlike : Allocation → List ℕ → Allocation → List ℕ → Type 0
PrintAlike a page b other =
    (page_refusal a (length page) ≡ None)
    × (page_refusal b (length other) ≡ None)
    × (take page_length (page_left a page) ≡ take page_length (page_left b other))
