use Rattle.std.proofs.Common.{◌≡◌, ◌<◌, ◌++◌, length, All}
use Rattle.memchr.specs.Find.{places, is_byte}
use Rattle.c_lexer.proofs.text.line_feeds.Given as goal

abbrev pub invariant-search : goal.invariant-search
invariant-search l = record {
  inside : All (λ k. k < length l.bytes) l.found;
  whole : l.feeds.items ++ l.found ≡ places (is_byte 10) l.bytes;
}

abbrev pub decreases-search : goal.decreases-search
decreases-search l = length l.found
