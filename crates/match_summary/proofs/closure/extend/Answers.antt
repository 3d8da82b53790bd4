use Rattle.std.proofs.Common.{refl}
use Rattle.std.proofs.lemmas.Bool.{false≢true}
use Rattle.std.proofs.lemmas.List.Elements.{Contains-push}
use Rattle.match_summary.specs.declared.reason.Summary.{Summary}
use Rattle.match_summary.proofs.Growth.{good_push}
use Rattle.match_summary.proofs.closure.extend.Goals as goal

-- a new pair that begins at a marked variable and rests on the list keeps it good and chained
pub returns-clause-kept : goal.returns-clause-kept
returns-clause-kept c =
    let row : Summary = record { from = c.args.from; to = c.args.to; why = c.args.why.now } in
    record {
      good = rw c.in_ok-push.ensures.known (good_push c.args.given.now.graph.now c.args.given.now.lattice
          c.args.given.now.marks.now c.args.found.now.known row c.requires.kept.good
          (record { part = c.requires.part; front = c.requires.front; inside = c.if-not-are_of_one.ensures.0 refl })
          (λ pair. false≢true (c.if-holds.ensures.1 pair)) c.requires.begins);
      chained = c.in_ok-push.ensures.chained;
    }

pub returns-clause-done : goal.returns-clause-done
returns-clause-done c = λ one.
    rw c.in_ok-push.ensures.known (
      c.args.why.now,
      Contains-push c.args.found.now.known (record { from = c.args.from; to = c.args.to; why = c.args.why.now }),
    )
