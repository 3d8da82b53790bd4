use Rattle.std.proofs.Common.{◌≡◌, ◌≤◌, ◌+◌, ◌-◌, ◌*◌, ◌++◌, length}
use Rattle.qual_types.specs.Rows.{params_from}
use Rattle.sig_writer.specs.Signatures.{more_text}
use Rattle.sig_writer.specs.Typing.{words_by}
use Rattle.sig_writer.proofs.types.+behind.Given as goal

-- parts have higher numbers
abbrev pub decreases-put_behind : goal.decreases-put_behind
decreases-put_behind l = 4 * (length l.typed.now.vars.now - l.at)

abbrev pub decreases-put_params : goal.decreases-put_params
decreases-put_params l = 4 * (length l.typed.now.vars.now - l.first) + 3

abbrev pub decreases-put_more : goal.decreases-put_more
decreases-put_more l = 4 * (length l.typed.now.vars.now - l.first) + 2

abbrev pub decreases-put_round_nothing : goal.decreases-put_round_nothing
decreases-put_round_nothing l = 4 * (length l.typed.now.vars.now - l.at) + 1

-- what is written, with what is left, is the text
abbrev pub invariant-put_more-loop-next : goal.invariant-put_more-loop-next
invariant-put_more-loop-next l =
    (l.fn.first ≤ l.at)
    × (l.out.items ++ more_text (words_by l.typed) (params_from l.typed.vars.now l.at) l.ellipsis
    ≡ l.fn.out.items ++ more_text (words_by l.typed) (params_from l.typed.vars.now l.fn.first) l.ellipsis)

abbrev pub decreases-put_more-loop-next : goal.decreases-put_more-loop-next
decreases-put_more-loop-next l = length l.typed.vars.now - l.at
