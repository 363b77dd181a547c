-- `read_ranks` meets its contract. The invariant: the words that are left say what all of them do.
use Rattle.std.proofs.Common.{◌≡◌, ◌≤◌, length}
use Rattle.typed_ranks.specs.TypedRanks.{all_good, ranks_in}
use Rattle.typed_ranks.specs.Pools.{to_slash, further_pools}
use Rattle.typed_ranks.proofs.read_ranks.Given as goal

abbrev pub invariant-loop-word : goal.invariant-loop-word
invariant-loop-word l =
    record {
      fewer : length l.words ≤ length l.initial.words;
      as_good : all_good l.named (to_slash l.words) ≡ all_good l.initial.named (to_slash l.initial.words);
      same_ranks : ranks_in l.ranks (to_slash l.words) ≡ ranks_in l.initial.ranks (to_slash l.initial.words);
      same_pools : further_pools l.words ≡ further_pools l.initial.words;
    }

abbrev pub decreases-loop-word : goal.decreases-loop-word
decreases-loop-word l = length l.words
