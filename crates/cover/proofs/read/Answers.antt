use Rattle.std.proofs.Common.{arith, ◌∙◌, refl, ap}
use Rattle.std.proofs.lemmas.Result.{err_from_is_err_and}
use Rattle.lists.proofs.Sums.{zeros_within}
use Rattle.cover.proofs.Blocks.{kept_none}
use Rattle.cover.proofs.Pass.{sums_fit, pass_begins, refused, amount_most, group_most, goes_on_same, goes_on_other, ends}
use Rattle.cover.specs.declared.Block.{Block}
use Rattle.cover.proofs.read.Goals.{then-not-same_block, else-not-same_block}
use Rattle.cover.proofs.read.Goals as goal

pub loop-i-init : goal.loop-i-init
loop-i-init c = rw c.opened-block.ensures (pass_begins _ _ (kept_none _ 0 refl (zeros_within 0 64)))

pub returns-in_err-loss : goal.returns-in_err-loss
returns-in_err-loss c =
    let p = err_from_is_err_and c.from_residual.result c.from_residual.ensures.1 in
    rw (p.1, p.2) (refused _ _ _ _ _ _ c.loop-i.invariant (omega (arith, c.as_chunks.ensures.front_len)) _ _ _ c.as_chunks.ensures.front c.read_loss.ensures c.located.ensures _ c.in_err-loss.was)

pub joined-block-requires-clause-moderate : goal.joined-block-requires-clause-moderate
joined-block-requires-clause-moderate c = (
  elim c.if-not-same_block.branch [
    | then-not-same_block w ↦ rw (w.block-is, w.opened-block-then-not-same_block.ensures) (λ k. omega (arith, sums_fit c.loop-i.invariant k))
    | else-not-same_block w ↦ rw w.block-is (sums_fit c.loop-i.invariant)
  ],
  group_most _ _ _ _ _ _ c.loop-i.invariant (omega (arith, c.as_chunks.ensures.front_len)) _ _ _ c.as_chunks.ensures.front c.read_loss.ensures c.located.ensures _ c.in_ok-loss.was,
  amount_most _ _ _ _ _ _ c.loop-i.invariant (omega (arith, c.as_chunks.ensures.front_len)) _ _ _ c.as_chunks.ensures.front c.read_loss.ensures c.located.ensures _ c.in_ok-loss.was,
)

pub loop-i-preserved : goal.loop-i-preserved
loop-i-preserved c =
    elim c.if-not-same_block.branch [
      | then-not-same_block w ↦
          let opened = w.block-is ∙ w.opened-block-then-not-same_block.ensures in
          rw w.worst-is
          (goes_on_other _ _ _ _ _ _ c.loop-i.invariant (omega (arith, c.as_chunks.ensures.front_len)) _ _ _ c.as_chunks.ensures.front c.read_loss.ensures c.located.ensures _ c.in_ok-loss.was
          c.same_block.ensures.same w.if-not-same_block.true w.worse-worst.ensures (rw opened at c.joined-block.ensures.joined)
          (c.joined-block.ensures.floor ∙ ap (λ (b : Block). b.floor) opened))
      | else-not-same_block w ↦
          rw w.worst-is
          (goes_on_same _ _ _ _ _ _ c.loop-i.invariant (omega (arith, c.as_chunks.ensures.front_len)) _ _ _ c.as_chunks.ensures.front c.read_loss.ensures c.located.ensures _ c.in_ok-loss.was
          c.same_block.ensures.same w.if-not-same_block.false (rw w.block-is at c.joined-block.ensures.joined)
          (c.joined-block.ensures.floor ∙ ap (λ (b : Block). b.floor) w.block-is))
    ]

pub returns : goal.returns
returns c = ends _ _ _ _ _ _ c.loop-i.invariant (omega (arith, c.as_chunks.ensures.front_len)) c.worse.ensures
