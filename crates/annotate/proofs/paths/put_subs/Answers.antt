use Rattle.std.proofs.Common.{get_or, refl, take, arith}
use Rattle.std.proofs.lemmas.Option.{slice_get-get_or}
use Rattle.flow_graph.specs.PathProofs.{steps_of}
use Rattle.annotate.specs.Texts.{subs_text}
use Rattle.annotate.proofs.Writing.{nothing, same_text}
use Rattle.annotate.proofs.SubsLemmas.{next_sub, all_subs}
use Rattle.annotate.proofs.paths.put_subs.Goals as goal

pub loop-n-init : goal.loop-n-init
loop-n-init c =
    nothing c.args.scene.now c.args.out.now.items
    (λ s. subs_text s c.args.graph.now 1 (steps_of (take 0 c.args.subs.now))) (λ s shows. refl)

-- the heading and the steps of one sub-path more come behind those so far
pub loop-n-preserved : goal.loop-n-preserved
loop-n-preserved c =
    record {
      is = λ s shows.
          next_sub s c.args.graph.now c.args.subs.now c.loop-n.n
          (get_or c.args.subs.now c.loop-n.n c.index-subs-n.result)
          (slice_get-get_or c.args.subs.now c.loop-n.n c.index-subs-n.result c.loop-n-test.true) c.args.out.now.items
          c.loop-n.out.items c.put_heading.new.out.items c.put_steps.new.out.items _ _ refl c.deref.ensures.value
          (c.loop-n.invariant.is s shows) c.in_ok-put_heading.ensures (c.in_ok-put_steps.ensures.is s shows);
    }

-- behind the last sub-path the lines are those of all, counted from 1
pub returns : goal.returns
returns c =
    same_text (λ s. subs_text s c.args.graph.now 1 (steps_of c.args.subs.now)) c.loop-n.invariant
    (λ s shows. all_subs s c.args.graph.now c.args.subs.now c.loop-n.n (omega arith))
