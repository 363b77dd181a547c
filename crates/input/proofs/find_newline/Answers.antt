-- `find_newline` meets its contract.
use Rattle.std.proofs.Common.{◌≡◌, ◌==◌, ◌∙◌, sym, ap, None, rules}
use Rattle.std.specs.List.{position}
use Rattle.input.proofs.Taking.{newline_nowhere, newline_behind}
use Rattle.input.proofs.find_newline.Goals as goal

pub returns-in_err-place-clause-value : goal.returns-in_err-place-clause-value
returns-in_err-place-clause-value c =
    let found : c.find.result ≡ position (λ b. b == 10) c.part-rest.result.now = search rules in
    let e : position (λ b. b == 10) c.args.bytes.now ≡ None =
    newline_nowhere c.args.searched c.args.bytes.now c.requires
    (ap (position (λ b. b == 10)) (sym c.part-rest.ensures) ∙ sym found ∙ c.in_err-place.was) in
    cc

pub returns-clause-value : goal.returns-clause-value
returns-clause-value c =
    let found : c.find.result ≡ position (λ b. b == 10) c.part-rest.result.now = search rules in
    sym (newline_behind c.args.searched c.args.bytes.now c.requires c.in_ok-place.place
    (ap (position (λ b. b == 10)) (sym c.part-rest.ensures) ∙ sym found ∙ c.in_ok-place.was))
