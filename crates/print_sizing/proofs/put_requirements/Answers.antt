use Rattle.std.proofs.Common.{◌≡◌, ℕ, ◌++◌, rules, arith, ap, ◌∙◌, add-one, length-take}
use Rattle.std.proofs.lemmas.List.{get_or-take}
use Rattle.text.proofs.Putting.{put_more}
use Rattle.print_sizing.specs.Texts.{requirements_text}
use Rattle.print_sizing.proofs.put_requirements.Goals as goal

pub put_requirement-requires : goal.put_requirement-requires
put_requirement-requires g c = (search rules, omega (arith, length-take 64 c.args.slip.now))

pub loop-place-preserved : goal.loop-place-preserved
unfolding requirements_text
loop-place-preserved g c =
    let s = c.args.slip.now in
    let p = c.loop-place.place in
    record {
      rows = rw (add-one, ← get_or-take 64 s p 0 (omega (arith, length-take 64 s))) (put_more _ _ _ c.loop-place.invariant.rows c.put_requirement.ensures.bytes);
      len = omega arith;
    }

pub returns : goal.returns
returns g c =
    let s = c.args.slip.now in
    let whole : c.loop-place.place ≡ 64 = omega (arith, length-take 64 s) in
    record {
      bytes = c.loop-place.invariant.rows ∙ ap (λ (k : ℕ). c.args.out.now ++ requirements_text s k) whole;
      len = omega arith;
    }
