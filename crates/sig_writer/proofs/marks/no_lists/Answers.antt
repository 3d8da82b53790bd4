use Rattle.std.proofs.Common.{[], ◌∷◌, List, Vec, ℕ, length, length-append, ap, ◌∙◌, arith}
use Rattle.std.specs.Global.{Global}
use Rattle.sig_writer.specs.Marking.{items_at}
use Rattle.sig_writer.proofs.Numbering.{items_push}
use Rattle.sig_writer.proofs.marks.no_lists.Goals as goal

-- at first there is no list
pub loop-init : goal.loop-init
loop-init c = record {
  size = ap length c.new-lists.ensures.items;
  empty = λ j. ap (λ (xs : List (Vec ℕ Global)). items_at xs j) c.new-lists.ensures.items;
}

-- one empty list more keeps all lists empty
pub loop-preserved : goal.loop-preserved
loop-preserved c =
    let so_far = c.loop.invariant in
    let pushed = c.in_ok-push.ensures.items in
    record {
      size =
          let long = length-append c.loop.lists.items (c.new.result ∷ []) in
          let size = so_far.size in
          ap length pushed ∙ omega (arith, long, size);
      empty = λ j. ap (λ (xs : List (Vec ℕ Global)). items_at xs j) pushed
          ∙ items_push c.loop.lists.items c.new.result j c.new.ensures.items (so_far.empty j);
    }

pub returns-clause-size : goal.returns-clause-size
returns-clause-size c = let size = c.loop.invariant.size in omega (arith, size)

pub returns-clause-empty : goal.returns-clause-empty
returns-clause-empty c = c.loop.invariant.empty
