use Rattle.std.proofs.Common.{◌≡◌, ◌-◌, arith, length, take, length-take}
use Rattle.std.proofs.lemmas.List.{take-take}
use Rattle.indian_digits.specs.IndianDigits.{indian_of}
use Rattle.page.proofs.put_in_line.Goals as goal

pub returns : goal.returns
returns c =
    let n : length (take 40 c.args.blank.now) ≡ 40 = omega (arith, length-take 40 c.args.blank.now) in
    rw (c.put_amount.ensures.put, n, take-take (40 - length (indian_of c.args.amount)) 40 c.args.blank.now (omega arith))
