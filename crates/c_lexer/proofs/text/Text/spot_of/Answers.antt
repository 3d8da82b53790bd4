use Rattle.std.proofs.Common.{◌+◌, ◌==◌, List, ℕ, ap, arith, refl}
use Rattle.c_lexer.proofs.FeedLemmas.{count-cut}
use Rattle.c_lexer.proofs.PlaceLemmas.{spot_is}
use Rattle.c_lexer.proofs.text.Text.spot_of.Goals as goal

-- the spot has the unit, the mark's name, the line by the mark, and the column in its line
named : goal.returns-clause-names
named c =
    let cut =
    count-cut (λ b. b == 10) c.args.self.now.1 c.mark_at-mark.result.from c.args.at c.mark_at-mark.ensures.before in
    record {
      mark = c.mark_at-mark.result;
      governs = c.mark_at-mark.ensures.governs;
      line_from = c.line_start.result;
      line_of = c.line_start.ensures;
      unit_is = ap (λ (v : ℕ × List ℕ). v.0) c.self.view_is;
      name_from = refl;
      name_to = refl;
      line = omega (arith, cut, c.feeds_before.ensures, c.feeds_before-2.ensures, c.from.ensures);
      column = ap (λ n. n + 1) c.from-2.ensures;
    }

-- no more line feeds stand before a mark than before a place behind it
pub overflow_sub-feeds : goal.overflow_sub-feeds
overflow_sub-feeds c =
    let cut =
    count-cut (λ b. b == 10) c.args.self.now.1 c.mark_at-mark.result.from c.args.at c.mark_at-mark.ensures.before in
    omega (arith, cut, c.feeds_before.ensures, c.feeds_before-2.ensures)

pub returns-clause-names : goal.returns-clause-names
returns-clause-names c = named c

pub returns-clause-spot : goal.returns-clause-spot
returns-clause-spot c =
    spot_is c.args.self.now.0 c.args.self.now.1 c.args.marks.now c.args.at _ c.requires.inside (named c)
