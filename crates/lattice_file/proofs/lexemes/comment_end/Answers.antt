use Rattle.std.proofs.Common.{◌≡◌, ◌<◌, ◌+◌, length, get_or, arith, rules}
use Rattle.std.proofs.lemmas.Grind.{common_steps}
use Rattle.lattice_file.proofs.GapLemmas.{ok_comment, err_comment, line_comment, slash_fails, none_first, not_first}
use Rattle.lattice_file.proofs.lexemes.comment_end.Goals as goal

pub returns-then-at-bytes-clause-fails : goal.returns-then-at-bytes-clause-fails
returns-then-at-bytes-clause-fails c =
    slash_fails c.args.bytes.now c.args.at c.requires.within c.requires.slash
    (none_first c.args.bytes.now (c.args.at + 1) 42 (omega (arith, c.if-at-bytes.true)))
    (none_first c.args.bytes.now (c.args.at + 1) 47 (omega (arith, c.if-at-bytes.true)))

pub returns-in-42-clause-gap : goal.returns-in-42-clause-gap
returns-in-42-clause-gap c =
    ok_comment c.args.bytes.now c.args.at c.block_comment_end.result c.requires.slash c.in-42.is
    c.block_comment_end.ensures.later c.block_comment_end.ensures.within c.block_comment_end.ensures.comment

pub returns-in-42-clause-fails : goal.returns-in-42-clause-fails
returns-in-42-clause-fails c =
    err_comment c.args.bytes.now c.args.at c.block_comment_end.result
    (omega (arith, c.requires.within, c.if-at-bytes.false)) c.requires.slash c.in-42.is c.block_comment_end.ensures.over
    c.block_comment_end.ensures.open_to_the_end

pub returns-in-47-clause-gap : goal.returns-in-47-clause-gap
returns-in-47-clause-gap c =
    line_comment c.args.bytes.now c.args.at c.line_end.result c.line_end.ensures.later c.line_end.ensures.within
    c.requires.slash c.in-47.is c.line_end.ensures.line

-- a slash with neither a star nor a slash behind it fails as a comment
pub returns-in_default-clause-fails : goal.returns-in_default-clause-fails
returns-in_default-clause-fails c =
    let inside : c.args.at + 1 < length c.args.bytes.now = omega (arith, c.requires.within, c.if-at-bytes.false) in
    let star : get_or c.args.bytes.now (c.args.at + 1) 0 ≡ 42 → ⊥ =
    first_of (search rules, grind (arith, common_steps)) in
    let slash : get_or c.args.bytes.now (c.args.at + 1) 0 ≡ 47 → ⊥ =
    first_of (search rules, grind (arith, common_steps)) in
    slash_fails c.args.bytes.now c.args.at c.requires.within c.requires.slash
    (not_first c.args.bytes.now (c.args.at + 1) 42 inside star)
    (not_first c.args.bytes.now (c.args.at + 1) 47 inside slash)
