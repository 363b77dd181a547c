use Rattle.std.proofs.Common.{◌++◌}
use Rattle.lists.specs.Texts.{ascii}
use Rattle.text.proofs.Putting.{put_more}
use Rattle.print_answers.specs.Texts.{layers_text}
use Rattle.print_ranges.specs.Texts.{ends_text}
use Rattle.print_ranges.proofs.put_ends.Goals as goal

pub returns-clause-bytes : goal.returns-clause-bytes
unfolding ends_text
returns-clause-bytes g c =
    let out = c.args.out.now in
    let head = ascii "accepted low" in
    let low = layers_text c.args.ranges.low in
    let high = layers_text c.args.ranges.high in
    put_more out (head ++ low ++ ascii " high" ++ high) (ascii "\n")
    (put_more out (head ++ low ++ ascii " high") high
    (put_more out (head ++ low) (ascii " high") (put_more out head low c.put.ensures.bytes c.put_layers.ensures.bytes) c.put-2.ensures.bytes)
    c.put_layers-2.ensures.bytes)
    c.put-3.ensures.bytes
