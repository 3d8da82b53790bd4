use Rattle.std.proofs.Common.{rules, ◌≡◌, ◌+◌, length}
use Rattle.c_types.proofs.SourceSpelling.Keys.{unit_more}
use Rattle.c_types.proofs.source_spelling.earlier.EarlierNames.push.Goals as goal

-- the names of earlier units become those of one unit more, whose tokens are put behind them
pub returns : goal.returns
returns c =
    let old = c.args.self.now in
    let new = c.add_tokens.new.self in
    let count : c.in-Some.count ≡ old.count + length c.args.tokens.now.tokens = search rules in
    λ units are.
    unit_more units old (record { alloc = new.alloc; keys = new.keys; count = c.in-Some.count }) c.args.tokens.now are
    c.in_ok-add_tokens.ensures.keys count
