use Rattle.std.proofs.Common.{arith, ◌+◌, ◌<◌, ◌≤◌, ◌++◌, ◌∷◌, [], List, length, drop, sym, ◌∙◌, ap, append-nil}
use Rattle.std.proofs.lemmas.Bool.{ne_eqb}
use Rattle.std.proofs.lemmas.List.{drop_all}
use Rattle.unit_types.specs.declared.program.UnitTape.{UnitTape}
use Rattle.unit_types.specs.Resolved.{tapes_of}
use Rattle.c_types.specs.declared.source.Source.{Source}
use Rattle.c_types.proofs.Sources.{tapes_from, tapes_on}
use Rattle.c_types.proofs.tapes.unit_tapes.Goals as goal

-- at first there are no units before, and the tapes still to be made are all
pub loop-number-init : goal.loop-number-init
loop-number-init c =
    record {
      before = [];
      names = λ lt. c.new-earlier.ensures;
      rest = ap (λ (us : List UnitTape). tapes_of us ++ tapes_from [] c.args.sources.now) c.new-units.ensures.items;
    }

-- one source more: its tape joins those made, and its names the earlier ones, unless it is the last
pub loop-number-preserved : goal.loop-number-preserved
loop-number-preserved c =
    let sources = c.args.sources.now in
    let i = c.loop-number.number in
    let it = c.index-sources-number.result in
    let was = c.loop-number.invariant in
    let test = c.loop-number-test.true in
    let within : i < length sources = omega arith in
    record {
      before = was.before ++ it.tokens ∷ [];
      names = λ lt.
          let not_last = ne_eqb (i + 1) (length sources) (λ is. omega arith) in
          c.in_ok-go_on.ensures not_last was.before (was.names within);
      rest =
          ap (λ (us : List UnitTape). tapes_of us ++ tapes_from (was.before ++ it.tokens ∷ []) (drop (i + 1) sources))
          c.in_ok-push.ensures.items ∙ tapes_on sources i it was.before c.loop-number.units.items c.in_ok-unit.unit
          c.index-sources-number.is within (c.in_ok-unit.ensures was.before (was.names within)) ∙ was.rest;
    }

-- once no source is left, the tapes made are those of all sources
pub returns : goal.returns
returns c =
    let sources = c.args.sources.now in
    let was = c.loop-number.invariant in
    let test = c.loop-number-test.false in
    let behind : length sources ≤ c.loop-number.number = omega arith in
    sym (append-nil (tapes_of c.loop-number.units.items))
    ∙ ap (λ (rest : List Source). tapes_of c.loop-number.units.items ++ tapes_from was.before rest)
    (sym (drop_all c.loop-number.number sources behind))
    ∙ was.rest
