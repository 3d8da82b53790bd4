use Rattle.std.proofs.Common.{◌≡◌, ℕ, ◌+◌, List, [], ◌∷◌, length, true, sym, ◌∙◌, ap, subst, arith}
use Rattle.std.proofs.lemmas.List.{length-append}
use Rattle.flow_graph.specs.declared.phase.Phase.{Phase}
use Rattle.error_path.specs.Marks.{PhaseMarks, mark_of}
use Rattle.flow_graph.specs.System.{AllBelow}
use Rattle.error_path.specs.declared.search.Reached.{Reached}
use Rattle.error_path.specs.Reaching.{AreSound, ComesBy, IsGood, IsListed}
use Rattle.error_path.proofs.Searching.{sound_push, listed_push, mark_cases, mark_kept}
use Rattle.error_path.proofs.search.Search.note.Goals as goal

-- a search whose mark was already set is good as before
pub returns-then-not-mark-clause-good : goal.returns-then-not-mark-clause-good
returns-then-not-mark-clause-good c = λ sys lattice origin rows comes good.
    let Of : PhaseMarks → Type 0 =
    λ m. IsGood sys lattice origin rows (record { queue = c.args.self.now.queue; marks = m }) in
    subst Of (sym c.if-not-mark.ensures.marking.same) good

-- a variable is marked in its settled phase where the mark was already set
pub returns-then-not-mark-clause-there : goal.returns-then-not-mark-clause-there
returns-then-not-mark-clause-there c =
    let Of : Phase → Type 0 = λ p. mark_of c.mark.new.self p c.args.at ≡ true in
    subst Of c.settled-phase.ensures c.mark.ensures.here

-- a search stays good with one more item whose cause is right and whose mark is new
pub returns-in-Ok-clause-good : goal.returns-in-Ok-clause-good
returns-in-Ok-clause-good c = λ sys lattice origin rows comes good.
    let r : Reached = record { at = c.args.at; phase = c.settled-phase.result; cause = c.args.cause } in
    let queue = c.args.self.now.queue.items in
    let By : Phase → Type 0 = λ p. ComesBy sys lattice origin rows queue (length queue) p c.args.at c.args.cause in
    let Sound : List Reached → Type 0 = λ xs. AreSound sys lattice origin rows xs in
    let Listed : List Reached → Type 0 = λ xs. (p : Phase) (v : ℕ) → mark_of c.mark.new.self p v ≡ true
    → IsListed xs p v in
    let Below : ℕ → Type 0 = λ k. AllBelow sys k in
    record {
      sound = subst Sound (sym c.in-Ok.ensures.items)
          (sound_push sys lattice origin rows queue r good.sound (subst By (sym c.settled-phase.ensures) comes));
      listed = subst Listed (sym c.in-Ok.ensures.items) (listed_push c.args.self.now.marks c.mark.new.self queue r
          (mark_cases c.args.self.now.marks c.mark.new.self c.settled-phase.result c.args.at
          c.mark.ensures.others) good.listed);
      below = subst Below (sym c.mark.ensures.marking.size) good.below;
    }

-- a search grows by one item where it sets a mark that was not set
pub returns-in-Ok-clause-grows : goal.returns-in-Ok-clause-grows
returns-in-Ok-clause-grows c =
    let r : Reached = record { at = c.args.at; phase = c.settled-phase.result; cause = c.args.cause } in
    let longer : length c.push.new.self.items ≡ length c.args.self.now.queue.items + 1 =
    ap length c.in-Ok.ensures.items ∙ length-append c.args.self.now.queue.items (r ∷ []) in
    let less = c.if-not-mark.ensures.marking.less in
    record {
      more = r ∷ [];
      is = c.in-Ok.ensures.items;
      kept = mark_kept c.args.self.now.marks c.mark.new.self c.settled-phase.result c.args.at c.mark.ensures.here
          c.mark.ensures.others;
      size = c.mark.ensures.marking.size;
      free = omega (arith, longer, less);
    }

-- a variable that was just put in the queue is marked in its settled phase
pub returns-in-Ok-clause-there : goal.returns-in-Ok-clause-there
returns-in-Ok-clause-there c =
    let Of : Phase → Type 0 = λ p. mark_of c.mark.new.self p c.args.at ≡ true in
    subst Of c.settled-phase.ensures c.mark.ensures.here
