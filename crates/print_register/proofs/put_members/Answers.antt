use Rattle.std.proofs.Common.{◌≡◌, ℕ, suc, ◌+◌, ◌-◌, ◌++◌, arith, ap, ◌∙◌}
use Rattle.text.proofs.Putting.{put_more}
use Rattle.print_register.specs.Texts.{members_text}
use Rattle.print_register.proofs.put_members.Goals as goal

pub loop-number-preserved : goal.loop-number-preserved
unfolding members_text
loop-number-preserved g c =
    let n = c.loop-number.number in
    let next : n + 1 - 1 ≡ suc (n - 1) = omega (arith, c.loop-number.invariant.least) in
    let back : n - 1 + 1 ≡ n = omega (arith, c.loop-number.invariant.least) in
    record {
      least = omega arith;
      rows = rw (next, back) (put_more _ _ _ c.loop-number.invariant.rows (rw c.member.ensures at c.put_row.ensures.bytes));
      len = omega arith;
    }

pub returns-clause-bytes : goal.returns-clause-bytes
returns-clause-bytes g c =
    let whole : c.loop-number.number - 1 ≡ 64 = omega arith in
    c.loop-number.invariant.rows ∙ ap (λ (k : ℕ). c.args.out.now ++ members_text c.args.register.now k) whole
