-- A row of checks: the first that holds gives the answer. (std's `cond` by the name that the papers' rows are read with.)
--
--     check (first test) answer
--     (check (second test) another
--     otherwise)
use Rattle.std.specs.Prelude.{Bool, true, false}

unfoldable pub check : {A : Type 0} → Bool → A → A → A
check true a b = a
check false a b = b
