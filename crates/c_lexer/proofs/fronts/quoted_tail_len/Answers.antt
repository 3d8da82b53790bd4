use Rattle.std.proofs.Common.{get_or, sym, ◌∙◌, false, arith}
use Rattle.c_lexer.proofs.WalkLemmas.{quoted_from, follows-more, follows-none, follows-close, none-more, quoted-newline, quoted-last, quoted-past, quoted-more, quoted-nil}
use Rattle.c_lexer.proofs.fronts.quoted_tail_len.Goals as goal

-- a line feed before the closing quote leaves no quoted tail
pub returns-then-byte-eq10-clause-longest : goal.returns-then-byte-eq10-clause-longest
returns-then-byte-eq10-clause-longest c =
    let q = c.args.quote in
    follows-none (quoted_from q) false c.loop-at.escaped c.args.bytes.now c.loop-at.at c.loop-at.invariant.follows
    c.loop-at.invariant.none
    (λ r _. quoted-newline q c.requires.plain c.requires.inline c.loop-at.escaped _ c.if-byte-eq10.true r)

pub returns-then-closes_quote-clause-only : goal.returns-then-closes_quote-clause-only
returns-then-closes_quote-clause-only c = λ m lt. c.loop-at.invariant.none m (omega arith) (omega arith)

-- a closing quote that no backslash takes ends the longest quoted tail
pub returns-then-closes_quote-clause-longest : goal.returns-then-closes_quote-clause-longest
returns-then-closes_quote-clause-longest c =
    let q = c.args.quote in
    let closes = sym c.closes_quote.ensures ∙ c.if-closes_quote.true in
    follows-close (quoted_from q) false c.loop-at.escaped c.args.bytes.now c.loop-at.at
    (omega arith) c.loop-at.invariant.follows
    (quoted-last q c.requires.plain c.requires.inline c.loop-at.escaped _ closes)
    (quoted-past q c.requires.plain c.requires.inline c.loop-at.escaped _ closes)

-- a byte that does not close the quote leaves no quoted tail up to it
pub loop-at-preserved : goal.loop-at-preserved
loop-at-preserved c =
    let q = c.args.quote in
    let before = c.loop-at.invariant in
    let bytes = c.args.bytes.now in
    let at = c.loop-at.at in
    let goes =
    follows-more (quoted_from q) false c.loop-at.escaped c.opens_escape-escaped.result bytes at before.follows
    (λ r. rw c.opens_escape-escaped.ensures (quoted-more q c.requires.plain c.requires.inline c.loop-at.escaped
    (get_or bytes at 0) c.if-byte-eq10.false (sym c.closes_quote.ensures ∙ c.if-closes_quote.false) r)) in
    record {
      follows = goes;
      none = none-more (quoted_from q) false c.opens_escape-escaped.result bytes at goes before.none
          (quoted-nil q c.opens_escape-escaped.result);
    }
