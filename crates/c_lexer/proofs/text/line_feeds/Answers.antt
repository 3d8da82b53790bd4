use Rattle.std.proofs.Common.{◌++◌, List, ℕ, length, ◌∙◌, ap}
use Rattle.memchr.proofs.lemmas.CallerLemmas.{All-places}
use Rattle.memchr.specs.Find.{is_byte}
use Rattle.c_lexer.proofs.FeedLemmas.{left-inside, left-whole}
use Rattle.c_lexer.proofs.text.line_feeds.Goals as goal

-- at first no line feed is taken, and all that are found are within the bytes
pub search-init : goal.search-init
search-init c = record {
  inside = rw c.memchr_iter-found.ensures.value (λ k d lt. (All-places (is_byte 10) c.args.bytes.now k d lt).0);
  whole = ap (λ (l : List ℕ). l ++ c.memchr_iter-found.result) c.new-feeds.ensures.items
      ∙ c.memchr_iter-found.ensures.value;
}

-- one more line feed goes from those that are left into the table
pub search-preserved : goal.search-preserved
search-preserved c = record {
  inside = left-inside c.search.found c.next.new.self c.in-Some.at
      (length c.args.bytes.now) c.in-Some.ensures.steps c.search.invariant.inside;
  whole = left-whole c.search.feeds.items c.search.found c.next.new.self c.push.new.self.items _ c.in-Some.at
      c.in-Some.ensures.steps c.in_ok-push.ensures.items c.search.invariant.whole;
}
